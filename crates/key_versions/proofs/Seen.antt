-- What a process saw last, with more that it sees, and the keys of what a transaction meets.
use Rattle.std.proofs.Common.{◌≡◌, ◌<◌, ℕ, zero, suc, List, [], ◌∷◌, ◌++◌, length, get_or, flat_map, fold, Bool, true, false, cond, Option, Some, None, refl, sym, ◌∙◌, ap, arith}
use Rattle.std.specs.Prelude.{not, ◌&&◌, ◌||◌, ◌==◌}
use Rattle.std.specs.Option.{option_or, unwrap_or}
use Rattle.std.proofs.lemmas.Bool.{eqb-true, eq-eqb, or_parts}
use Rattle.std.proofs.lemmas.Grind.{flat_map-append}
use Rattle.std.proofs.lemmas.List.{append-nil}
use Rattle.std.proofs.lemmas.List.Folds.{list_any-append}
use Rattle.key_versions.specs.declared.pending.Access.{Access}
use Rattle.key_versions.specs.Rows.{is_of_key, has_nil, lasts, with_access, with_read}
use Rattle.key_versions.specs.Steps.{last_number, seen_after, seen_so_far, with_first, firsts, step_from, steps_to, AreOfSameKeys}

pub or_none : (b : Bool) → (b || false) ≡ b
or_none true = refl
or_none false = refl

pub or_true : (b : Bool) → (b || true) ≡ true
or_true true = refl
or_true false = refl

or_nothing : {A : Type 0} (o : Option A) → option_or o None ≡ o
or_nothing None = refl
or_nothing (Some x) = refl

or_assoc : {A : Type 0} (a b c : Option A) → option_or (option_or a b) c ≡ option_or a (option_or b c)
or_assoc None b c = refl
or_assoc (Some x) b c = refl

pub last_number-append : (nil : ℕ) (accs bs : List Access) → last_number nil (accs ++ bs) ≡ option_or (last_number nil bs) (last_number nil accs)
last_number-append nil [] bs = sym (or_nothing (last_number nil bs))
last_number-append nil (a ∷ accs) bs =
    ap (λ (o : Option ℕ). option_or o (cond (a.nil == nil) (Some a.version) None)) (last_number-append nil accs bs)
    ∙ or_assoc (last_number nil bs) (last_number nil accs) (cond (a.nil == nil) (Some a.version) None)

-- a key that was seen has a last version
last_some : (nil : ℕ) (accs : List Access) → has_nil nil accs ≡ true → (n : ℕ) × (last_number nil accs ≡ Some n)
last_some nil [] has = absurd (cc)
last_some nil (a ∷ accs) has = by (a.nil == nil) (last_number nil accs) has (last_some nil accs)
  where
    by :
        (b : Bool) (o : Option ℕ) → (b || has_nil nil accs) ≡ true → (has_nil nil accs ≡ true → (n : ℕ) × (o ≡ Some n))
        → (n : ℕ) × (option_or o (cond b (Some a.version) None) ≡ Some n)
    by b (Some n) has rest = (n, refl)
    by true None has rest = (a.version, refl)
    by false None has rest = rest has

last_none : (nil : ℕ) (accs : List Access) → has_nil nil accs ≡ false → last_number nil accs ≡ None
last_none nil [] none = refl
last_none nil (a ∷ accs) none =
    let parts = or_parts (a.nil == nil) (has_nil nil accs) none in
    ap (λ (o : Option ℕ). option_or o (cond (a.nil == nil) (Some a.version) None)) (last_none nil accs parts.1)
    ∙ ap (λ b. option_or None (cond b (Some a.version) None)) parts.0

pub last_more : (nil : ℕ) (accs : List Access) (a : Access) → last_number nil (accs ++ a ∷ []) ≡ cond (a.nil == nil) (Some a.version) (last_number nil accs)
last_more nil accs a = last_number-append nil accs (a ∷ []) ∙ by (a.nil == nil)
  where
    by : (b : Bool) → option_or (option_or None (cond b (Some a.version) None)) (last_number nil accs) ≡ cond b (Some a.version) (last_number nil accs)
    by true = refl
    by false = refl

-- ---- what a process saw last, once it went on to some of the versions that it meets

-- the version that it comes from
pub seen_before :
    (process : ℕ) (met seen : List Access) (nil : ℕ) (before : Option ℕ) → has_nil nil met ≡ false → seen_so_far process met seen process nil before ≡ before
seen_before process met seen nil before none =
    ap (λ b. cond ((process == process) && b) (last_number nil seen) before) none ∙ by (process == process)
  where
    by : (b : Bool) → cond (b && false) (last_number nil seen) before ≡ before
    by true = refl
    by false = refl

pub seen_next :
    (process : ℕ) (met seen : List Access) (to : Access) (last one nil : ℕ) (before : Option ℕ) → last_number to.nil seen ≡ Some last
    → cond ((process == one) && (to.nil == nil)) (Some last) (seen_so_far process met seen one nil before) ≡ seen_so_far process (met ++ to ∷ []) seen one nil before
seen_next process met seen to last one nil before is =
    by (process == one) (to.nil == nil) refl
    ∙ ap (λ b. cond ((process == one) && b) (last_number nil seen) before) (sym (list_any-append (is_of_key nil) met (to ∷ [])))
  where
    by :
        (b b' : Bool) → (to.nil == nil) ≡ b'
        → cond (b && b') (Some last) (cond (b && has_nil nil met) (last_number nil seen) before) ≡ cond (b && (has_nil nil met || (b' || false))) (last_number nil seen) before
    by false b' e = refl
    by true true e =
        sym is ∙ ap (λ n. last_number n seen) (eqb-true to.nil nil e) ∙ ap (λ b. cond b (last_number nil seen) before) (sym (or_true (has_nil nil met)))
    by true false e = ap (λ b. cond b (last_number nil seen) before) (sym (or_none (has_nil nil met)))

-- the last version of a key that it meets
pub last_met : (seen : List Access) (nil n : ℕ) → has_nil nil seen ≡ true → last_number nil seen ≡ Some (unwrap_or (last_number nil seen) n)
last_met seen nil n has =
    let (m, some) = last_some nil seen has in
    some ∙ ap Some (sym (ap (λ (o : Option ℕ). unwrap_or o n) some))

pub seen_all :
    (process : ℕ) (met seen : List Access) (one nil : ℕ) (before : Option ℕ) → AreOfSameKeys seen met
    → seen_so_far process met seen one nil before ≡ seen_after process seen one nil before
seen_all process met seen one nil before same = by (process == one) (has_nil nil met) (same nil)
  where
    by :
        (b b' : Bool) → has_nil nil seen ≡ b'
        → cond (b && b') (last_number nil seen) before ≡ cond b (option_or (last_number nil seen) before) before
    by false b' e = refl
    by true true e = let (n, is) = last_some nil seen e in is ∙ sym (ap (λ (o : Option ℕ). option_or o before) is)
    by true false e = sym (ap (λ (o : Option ℕ). option_or o before) (last_none nil seen e))

pub steps-push : (seen : ℕ → Option ℕ) (met : List Access) (to : Access) → steps_to seen (met ++ to ∷ []) ≡ steps_to seen met ++ step_from (seen to.nil) to
steps-push seen met to =
    let step = λ (a : Access). step_from (seen a.nil) a in
    flat_map-append step met (to ∷ []) ∙ ap (λ (xs : List (ℕ × ℕ)). flat_map step met ++ xs) (append-nil (step to))

-- ---- keys

pub has_met : (met : List Access) (i : ℕ) (d : Access) → i < length met → has_nil (get_or met i d).nil met ≡ true
has_met [] i d within = absurd (omega arith)
has_met (a ∷ met) zero d within = ap (λ b. b || has_nil a.nil met) (eq-eqb a.nil a.nil refl)
has_met (a ∷ met) (suc i) d within =
    ap (λ b. (a.nil == (get_or met i d).nil) || b) (has_met met i d (omega arith)) ∙ or_true (a.nil == (get_or met i d).nil)

pub first_keys : (nil : ℕ) (met : List Access) (a : Access) → has_nil nil (with_first met a) ≡ (has_nil nil met || (a.nil == nil))
first_keys nil met a = by (has_nil a.nil met) refl
  where
    there : (b : Bool) → (a.nil == nil) ≡ b → has_nil a.nil met ≡ true → has_nil nil met ≡ (has_nil nil met || b)
    there true is has = ap (λ n. has_nil n met) (sym (eqb-true a.nil nil is)) ∙ has ∙ sym (or_true (has_nil nil met))
    there false differ has = sym (or_none (has_nil nil met))

    by : (b : Bool) → has_nil a.nil met ≡ b → has_nil nil (cond b met (met ++ a ∷ [])) ≡ (has_nil nil met || (a.nil == nil))
    by true has = there (a.nil == nil) refl has
    by false none = list_any-append (is_of_key nil) met (a ∷ []) ∙ ap (λ b. has_nil nil met || b) (or_none (a.nil == nil))

or_assoc-bool : (a b c : Bool) → ((a || b) || c) ≡ (a || (b || c))
or_assoc-bool true b c = refl
or_assoc-bool false b c = refl

pub folded_keys : (nil : ℕ) (met accs : List Access) → has_nil nil (fold with_first met accs) ≡ (has_nil nil met || has_nil nil accs)
folded_keys nil met [] = sym (or_none (has_nil nil met))
folded_keys nil met (a ∷ accs) =
    folded_keys nil (with_first met a) accs ∙ ap (λ b. b || has_nil nil accs) (first_keys nil met a) ∙ or_assoc-bool (has_nil nil met) (a.nil == nil) (has_nil nil accs)

lasts_keys : (nil : ℕ) (ws : List Access) → has_nil nil (lasts ws) ≡ has_nil nil ws
lasts_keys nil [] = refl
lasts_keys nil (w ∷ ws) = by (has_nil w.nil ws) (w.nil == nil) refl refl (lasts_keys nil ws)
  where
    by :
        (b b' : Bool) → has_nil w.nil ws ≡ b → (w.nil == nil) ≡ b' → has_nil nil (lasts ws) ≡ has_nil nil ws
        → has_nil nil (cond b (lasts ws) (w ∷ lasts ws)) ≡ (b' || has_nil nil ws)
    by true true has is rest = rest ∙ ap (λ n. has_nil n ws) (sym (eqb-true w.nil nil is)) ∙ has
    by true false has differ rest = rest
    by false b' none is rest = ap (λ b. b || has_nil nil (lasts ws)) is ∙ ap (λ b. b' || b) rest

pub firsts_keys : (reads writes : List Access) (nil : ℕ) → has_nil nil (reads ++ writes) ≡ has_nil nil (firsts reads writes)
firsts_keys reads writes nil =
    list_any-append (is_of_key nil) reads writes
    ∙ sym (folded_keys nil (fold with_first [] reads) (lasts writes) ∙ ap (λ b. b || has_nil nil (lasts writes)) (folded_keys nil [] reads) ∙ ap (λ b. has_nil nil reads || b) (lasts_keys nil writes))

-- what a micro-operation adds
pub keys_added :
    (b : Bool) (a : Access) (seen reads writes : List Access) → AreOfSameKeys seen (reads ++ writes)
    → AreOfSameKeys (seen ++ a ∷ []) (with_read b a writes reads ++ with_access b a writes)
keys_added b a seen reads writes same nil =
    list_any-append (is_of_key nil) seen (a ∷ [])
    ∙ ap (λ t. t || ((a.nil == nil) || false)) (same nil ∙ list_any-append (is_of_key nil) reads writes)
    ∙ ap (λ t. (has_nil nil reads || has_nil nil writes) || t) (or_none (a.nil == nil))
    ∙ by b (has_nil a.nil writes) refl
    ∙ sym (list_any-append (is_of_key nil) (with_read b a writes reads) (with_access b a writes))
  where
    pushed : (accs : List Access) → has_nil nil (accs ++ a ∷ []) ≡ (has_nil nil accs || (a.nil == nil))
    pushed accs = list_any-append (is_of_key nil) accs (a ∷ []) ∙ ap (λ t. has_nil nil accs || t) (or_none (a.nil == nil))

    moved : (x y z : Bool) → ((x || y) || z) ≡ ((x || z) || y)
    moved true y z = refl
    moved false true true = refl
    moved false true false = refl
    moved false false true = refl
    moved false false false = refl

    there : (x y : Bool) (b' : Bool) → (a.nil == nil) ≡ b' → has_nil a.nil writes ≡ true → y ≡ has_nil nil writes → ((x || y) || b') ≡ (x || y)
    there x y true is has same =
        or_true (x || y) ∙ sym (ap (λ t. x || t) (same ∙ ap (λ n. has_nil n writes) (sym (eqb-true a.nil nil is)) ∙ has) ∙ or_true x)
    there x y false differ has same = or_none (x || y)

    by :
        (b t : Bool) → has_nil a.nil writes ≡ t
        → ((has_nil nil reads || has_nil nil writes) || (a.nil == nil))
        ≡ (has_nil nil (cond (not b && not t) (reads ++ a ∷ []) reads) || has_nil nil (cond b (writes ++ a ∷ []) writes))
    by true t e =
        or_assoc-bool (has_nil nil reads) (has_nil nil writes) (a.nil == nil) ∙ ap (λ t. has_nil nil reads || t) (sym (pushed writes))
    by false true e = there (has_nil nil reads) (has_nil nil writes) (a.nil == nil) refl e refl
    by false false e =
        moved (has_nil nil reads) (has_nil nil writes) (a.nil == nil) ∙ ap (λ t. t || has_nil nil writes) (sym (pushed reads))
