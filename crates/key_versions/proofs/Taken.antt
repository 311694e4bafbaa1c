-- The steps of a process to what its transaction reads first of each key, and then to what it
-- installs of the others.
use Rattle.std.proofs.Common.{◌≡◌, ℕ, List, [], ◌∷◌, ◌++◌, fold, Bool, true, false, cond, Option, Some, refl, sym, ◌∙◌, ap, subst}
use Rattle.std.specs.Prelude.{◌&&◌, ◌||◌, ◌==◌}
use Rattle.std.specs.Option.{unwrap_or}
use Rattle.std.proofs.lemmas.Bool.{eqb-true, eq-eqb}
use Rattle.std.proofs.lemmas.List.{append_assoc, append-nil}
use Rattle.std.proofs.lemmas.List.Folds.{list_any-append}
use Rattle.std.proofs.lemmas.List.Sums.{fold-append}
use Rattle.key_versions.specs.LastSeen.{seen_with}
use Rattle.key_versions.specs.declared.pending.Access.{Access}
use Rattle.key_versions.specs.Rows.{is_of_key, has_nil, lasts}
use Rattle.key_versions.specs.Steps.{last_number, with_first, firsts, step_from, steps_to, AreOfKeys, AreOfSameKeys, AreTaken}
use Rattle.key_versions.proofs.Seen.{last_met, seen_before, seen_next, steps-push, folded_keys, or_none, or_true}

pub taken_nothing :
    (process : ℕ) (seen : List Access) (before : List (ℕ × ℕ)) (last : ℕ → ℕ → Option ℕ) → AreTaken process [] seen before last before last
taken_nothing process seen before last = record {
  steps = sym (append-nil before);
  versions = λ one nil. by (process == one) (last_number nil seen) (last one nil);
}
  where
    by : (b : Bool) (o p : Option ℕ) → p ≡ cond (b && false) o p
    by true o p = refl
    by false o p = refl

-- one version more
taken_more :
    (process : ℕ) (met seen : List Access) (before taken now : List (ℕ × ℕ)) (last seen_last last_now : ℕ → ℕ → Option ℕ) (to : Access)
    → AreTaken process met seen before last taken seen_last → has_nil to.nil met ≡ false → has_nil to.nil seen ≡ true
    → now ≡ taken ++ step_from (seen_last process to.nil) to
    → ((one nil : ℕ) → last_now one nil ≡ seen_with process to.nil (unwrap_or (last_number to.nil seen) to.version) one nil (seen_last one nil))
    → AreTaken process (met ++ to ∷ []) seen before last now last_now
taken_more process met seen before taken now last seen_last last_now to are new has steps versions =
    let from : seen_last process to.nil ≡ last process to.nil = are.versions process to.nil ∙ seen_before process met seen to.nil (last process to.nil) new in
    let v = unwrap_or (last_number to.nil seen) to.version in
    record {
      steps =
          steps
          ∙ ap (λ (o : Option ℕ). taken ++ step_from o to) from
          ∙ ap (λ (xs : List (ℕ × ℕ)). xs ++ step_from (last process to.nil) to) are.steps
          ∙ append_assoc before (steps_to (last process) met) (step_from (last process to.nil) to)
          ∙ ap (λ (xs : List (ℕ × ℕ)). before ++ xs) (sym (steps-push (last process) met to));
      versions = λ one nil.
          versions one nil
          ∙ ap (λ (o : Option ℕ). cond ((process == one) && (to.nil == nil)) (Some v) o) (are.versions one nil)
          ∙ seen_next process met seen to v one nil (last one nil) (last_met seen to.nil to.version has);
    }

-- ---- reads

first_more :
    (accs : List Access) (a : Access)
    → fold with_first [] (accs ++ a ∷ []) ≡ cond (has_nil a.nil accs) (fold with_first [] accs) (fold with_first [] accs ++ a ∷ [])
first_more accs a =
    let met = fold with_first [] accs in
    fold-append with_first [] accs (a ∷ []) ∙ ap (λ b. cond b met (met ++ a ∷ [])) (folded_keys a.nil [] accs)

pub first_known : (accs : List Access) (a : Access) → has_nil a.nil accs ≡ true → fold with_first [] (accs ++ a ∷ []) ≡ fold with_first [] accs
first_known accs a known = first_more accs a ∙ ap (λ b. cond b (fold with_first [] accs) (fold with_first [] accs ++ a ∷ [])) known

pub taken_first :
    (process : ℕ) (accs seen : List Access) (before taken now : List (ℕ × ℕ)) (last seen_last last_now : ℕ → ℕ → Option ℕ) (to : Access)
    → AreTaken process (fold with_first [] accs) seen before last taken seen_last → has_nil to.nil accs ≡ false → has_nil to.nil seen ≡ true
    → now ≡ taken ++ step_from (seen_last process to.nil) to
    → ((one nil : ℕ) → last_now one nil ≡ seen_with process to.nil (unwrap_or (last_number to.nil seen) to.version) one nil (seen_last one nil))
    → AreTaken process (fold with_first [] (accs ++ to ∷ [])) seen before last now last_now
taken_first process accs seen before taken now last seen_last last_now to are new has steps versions =
    let met = fold with_first [] accs in
    subst (λ (xs : List Access). AreTaken process xs seen before last now last_now)
    (sym (first_more accs to ∙ ap (λ b. cond b met (met ++ to ∷ [])) new))
    (taken_more process met seen before taken now last seen_last last_now to are (folded_keys to.nil [] accs ∙ new) has steps versions)

-- ---- installs

-- the steps to these were taken, those to the last of the rest are left, and whose keys are read is known
pub record AreLeft (process : ℕ) (reads writes seen rest met : List Access) (before : List (ℕ × ℕ)) (last : ℕ → ℕ → Option ℕ)
    (taken : List (ℕ × ℕ)) (seen_last : ℕ → ℕ → Option ℕ) : Type 0 where
  pub taken_so_far : AreTaken process met seen before last taken seen_last
  pub left : fold with_first met (lasts rest) ≡ firsts reads writes
  pub keys : (nil : ℕ) → has_nil nil rest ≡ true → has_nil nil met ≡ has_nil nil reads

pub all_left :
    (process : ℕ) (reads writes seen : List Access) (before taken : List (ℕ × ℕ)) (last seen_last : ℕ → ℕ → Option ℕ)
    → AreTaken process (fold with_first [] reads) seen before last taken seen_last
    → AreLeft process reads writes seen writes (fold with_first [] reads) before last taken seen_last
all_left process reads writes seen before taken last seen_last are = record {
  taken_so_far = are;
  left = refl;
  keys = λ nil h. folded_keys nil [] reads;
}

pub none_left :
    (process : ℕ) (reads writes seen met : List Access) (before taken : List (ℕ × ℕ)) (last seen_last : ℕ → ℕ → Option ℕ)
    → AreLeft process reads writes seen [] met before last taken seen_last → AreTaken process (firsts reads writes) seen before last taken seen_last
none_left process reads writes seen met before taken last seen_last are =
    subst (λ (xs : List Access). AreTaken process xs seen before last taken seen_last) are.left are.taken_so_far

module _ (process : ℕ) (reads writes seen more met : List Access) (w : Access) (before taken : List (ℕ × ℕ)) (last seen_last : ℕ → ℕ → Option ℕ)
    (are : AreLeft process reads writes seen (w ∷ more) met before last taken seen_last) where
  later : (nil : ℕ) → has_nil nil more ≡ true → has_nil nil (w ∷ more) ≡ true
  later nil has = ap (λ b. (w.nil == nil) || b) has ∙ or_true (w.nil == nil)

  own : has_nil w.nil met ≡ has_nil w.nil reads
  own = are.keys w.nil (ap (λ b. b || has_nil w.nil more) (eq-eqb w.nil w.nil refl))

  pub left_again : has_nil w.nil more ≡ true → AreLeft process reads writes seen more met before last taken seen_last
  left_again again = record {
    taken_so_far = are.taken_so_far;
    left = sym (ap (λ b. fold with_first met (cond b (lasts more) (w ∷ lasts more))) again) ∙ are.left;
    keys = λ nil has. are.keys nil (later nil has);
  }

  pub left_read : has_nil w.nil more ≡ false → has_nil w.nil reads ≡ true → AreLeft process reads writes seen more met before last taken seen_last
  left_read once read = record {
    taken_so_far = are.taken_so_far;
    left =
        sym (ap (λ b. fold with_first met (cond b (lasts more) (w ∷ lasts more))) once
        ∙ ap (λ b. fold with_first (cond b met (met ++ w ∷ [])) (lasts more)) (own ∙ read)) ∙ are.left;
    keys = λ nil has. are.keys nil (later nil has);
  }

  pub left_stepped :
      (now : List (ℕ × ℕ)) (last_now : ℕ → ℕ → Option ℕ) → has_nil w.nil more ≡ false → has_nil w.nil reads ≡ false → has_nil w.nil seen ≡ true
      → now ≡ taken ++ step_from (seen_last process w.nil) w
      → ((one nil : ℕ) → last_now one nil ≡ seen_with process w.nil (unwrap_or (last_number w.nil seen) w.version) one nil (seen_last one nil))
      → AreLeft process reads writes seen more (met ++ w ∷ []) before last now last_now
  left_stepped now last_now once unread has steps versions = record {
    taken_so_far = taken_more process met seen before taken now last seen_last last_now w are.taken_so_far (own ∙ unread) has steps versions;
    left =
        sym (ap (λ b. fold with_first met (cond b (lasts more) (w ∷ lasts more))) once
        ∙ ap (λ b. fold with_first (cond b met (met ++ w ∷ [])) (lasts more)) (own ∙ unread)) ∙ are.left;
    keys = λ nil has.
        list_any-append (is_of_key nil) met (w ∷ []) ∙ by nil (w.nil == nil) refl has ∙ are.keys nil (later nil has);
  }
    where
      by : (nil : ℕ) (b : Bool) → (w.nil == nil) ≡ b → has_nil nil more ≡ true → (has_nil nil met || ((w.nil == nil) || false)) ≡ has_nil nil met
      by nil true e has =
          let again : has_nil w.nil more ≡ true = subst (λ n. has_nil n more ≡ true) (sym (eqb-true w.nil nil e)) has in
          absurd (cc)
      by nil false e has = ap (λ b. has_nil nil met || (b || false)) e ∙ or_none (has_nil nil met)

-- ---- keys

pub of_reads : (reads writes seen : List Access) → AreOfSameKeys seen (reads ++ writes) → AreOfKeys reads seen
of_reads reads writes seen same nil has =
    same nil ∙ list_any-append (is_of_key nil) reads writes ∙ ap (λ b. b || has_nil nil writes) has

pub of_writes : (reads writes seen : List Access) → AreOfSameKeys seen (reads ++ writes) → AreOfKeys writes seen
of_writes reads writes seen same nil has =
    same nil ∙ list_any-append (is_of_key nil) reads writes ∙ ap (λ b. has_nil nil reads || b) has ∙ or_true (has_nil nil reads)
