-- The steps of a history with one transaction more, by the numbers of versions.
use Rattle.std.proofs.Common.{◌≡◌, ℕ, List, [], ◌∷◌, ◌++◌, map, flat_map, fold, Bool, true, false, cond, Option, Some, None, is_some, refl, sym, ◌∙◌, ap, subst}
use Rattle.std.specs.Prelude.{⊤, slice_get, not, ◌&&◌, ◌==◌}
use Rattle.std.specs.List.{list_any}
use Rattle.std.specs.Option.{option_or}
use Rattle.std.proofs.lemmas.Grind.{flat_map-append}
use Rattle.std.proofs.lemmas.List.{append_assoc, append-nil, map-append}
use Rattle.std.proofs.lemmas.List.Sums.{fold-append}
use Rattle.hist_types.specs.Atoms.{Value, atom_eq, value_eq}
use Rattle.hist_types.specs.Journal.{writes_of}
use Rattle.hist_types.specs.Transactions.{Transaction, Version, version_eq, version_of, is_ok, external_reads, installed_by}
use Rattle.hist_types.specs.Versions.{VersionPair, pair, nil_of, version_in, seen_by, last_of, firsts_after, met_by, is_step, step_between, step_to, steps_of, steps_after}
use Rattle.hist_types.proofs.Equality.{atom_eq-itself}
use Rattle.history_laws.proofs.ProcessPairs.{last_of-key}
use Rattle.atom_index.specs.Numbers.{AreNumbered}
use Rattle.key_versions.specs.declared.pending.Access.{Access}
use Rattle.key_versions.specs.Numbering.{IsAccess, AreAccesses}
use Rattle.key_versions.specs.Rows.{has_nil, lasts}
use Rattle.key_versions.specs.Steps.{last_number, seen_after, with_first, firsts, step_from, steps_to}
use Rattle.key_versions.specs.Stepped.{step_at, as_step, HasLastSeen, AreStepsAs}
use Rattle.key_versions.proofs.Accessing.{accesses_stay, same_nil, has_nil_key}
use Rattle.key_versions.proofs.Joined.{same_version, lasts_are}
use Rattle.key_versions.proofs.Seen.{last_number-append}

-- ---- what a transaction meets

abbrev add_first : List Version → Version → List Version
add_first before v = cond (list_any (λ (w : Version). atom_eq v.key w.key) before) before (before ++ v ∷ [])

folded : (before vs : List Version) → fold add_first before vs ≡ before ++ firsts_after before vs
folded before [] = sym (append-nil before)
folded before (v ∷ vs) = by (list_any (λ (w : Version). atom_eq v.key w.key) before) (folded before vs) (folded (before ++ v ∷ []) vs)
  where
    by :
        (b : Bool) → fold add_first before vs ≡ before ++ firsts_after before vs
        → fold add_first (before ++ v ∷ []) vs ≡ (before ++ v ∷ []) ++ firsts_after (before ++ v ∷ []) vs
        → fold add_first (cond b before (before ++ v ∷ [])) vs ≡ before ++ cond b (firsts_after before vs) (v ∷ firsts_after (before ++ v ∷ []) vs)
    by true skipped kept = skipped
    by false skipped kept = kept ∙ append_assoc before (v ∷ []) (firsts_after (before ++ v ∷ []) vs)

pub accesses_append :
    (vs us : List Version) (accs : List Access) (ws : List Version) (bs : List Access) → AreAccesses vs us accs → AreAccesses vs ws bs → AreAccesses vs (us ++ ws) (accs ++ bs)
accesses_append vs [] [] ws bs are more = more
accesses_append vs (u ∷ us) (a ∷ accs) ws bs are more = (are.0, accesses_append vs us accs ws bs are.1 more)
accesses_append vs [] (a ∷ accs) ws bs are more = absurd are
accesses_append vs (u ∷ us) [] ws bs are more = absurd are

accesses_more :
    (vs us : List Version) (accs : List Access) (v : Version) (a : Access) → AreAccesses vs us accs → IsAccess vs v a → AreAccesses vs (us ++ v ∷ []) (accs ++ a ∷ [])
accesses_more vs us accs v a are is = accesses_append vs us accs (v ∷ []) (a ∷ []) are (is, tt)

module _ (vs : List Version) (numbered : AreNumbered version_eq vs) where
  add_first_is :
      (us : List Version) (accs : List Access) (v : Version) (a : Access) → AreAccesses vs us accs → IsAccess vs v a
      → AreAccesses vs (add_first us v) (with_first accs a)
  add_first_is us accs v a are is =
      by (has_nil a.nil accs) (list_any (λ (w : Version). atom_eq v.key w.key) us) (has_nil_key vs numbered v a is us accs are)
    where
      by : (b b' : Bool) → b ≡ b' → AreAccesses vs (cond b' us (us ++ v ∷ [])) (cond b accs (accs ++ a ∷ []))
      by true true e = are
      by false false e = accesses_more vs us accs v a are is
      by true false e = absurd (cc)
      by false true e = absurd (cc)

  firsts_are :
      (us ws : List Version) (accs bs : List Access) → AreAccesses vs us accs → AreAccesses vs ws bs → AreAccesses vs (fold add_first us ws) (fold with_first accs bs)
  firsts_are us [] accs [] are more = are
  firsts_are us (w ∷ ws) accs (b ∷ bs) are more = firsts_are (add_first us w) ws (with_first accs b) bs (add_first_is us accs w b are more.0) more.1
  firsts_are us [] accs (b ∷ bs) are more = absurd more
  firsts_are us (w ∷ ws) accs [] are more = absurd more

  pub met_are :
      (t : Transaction) (rs ws : List Access) → AreAccesses vs (external_reads t) rs → AreAccesses vs (installed_by t) (lasts ws)
      → AreAccesses vs (met_by t) (firsts rs ws)
  met_are t rs ws read installed =
      subst (λ (us : List Version). AreAccesses vs us (firsts rs ws))
      (sym (fold-append add_first [] (external_reads t) (installed_by t)) ∙ folded [] (external_reads t ++ installed_by t))
      (firsts_are (fold add_first [] (external_reads t)) (installed_by t) (fold with_first [] rs) (lasts ws) (firsts_are [] (external_reads t) [] rs tt read) installed)

  -- ---- what a process saw last

  abbrev SameLast : Option ℕ → Option Version → Type 0
  SameLast None None = ⊤
  SameLast (Some n) (Some v) = slice_get vs n ≡ Some v
  SameLast o p = ⊥

  or_same : (o o' : Option ℕ) (p p' : Option Version) → SameLast o p → SameLast o' p' → SameLast (option_or o o') (option_or p p')
  or_same None o' None p' same same' = same'
  or_same (Some n) o' (Some v) p' same same' = same
  or_same None o' (Some v) p' same same' = absurd same
  or_same (Some n) o' None p' same same' = absurd same

  if_same : (b b' : Bool) (n : ℕ) (v : Version) → b ≡ b' → slice_get vs n ≡ Some v → SameLast (cond b (Some n) None) (cond b' (Some v) None)
  if_same true true n v e at = at
  if_same false false n v e at = tt
  if_same true false n v e at = absurd (cc)
  if_same false true n v e at = absurd (cc)

  last_is :
      (us : List Version) (accs : List Access) (v : Version) (a : Access) → AreAccesses vs us accs → IsAccess vs v a
      → SameLast (last_number a.nil accs) (last_of v.key us)
  last_is [] [] v a are is = tt
  last_is (u ∷ us) (b ∷ accs) v a are is =
      or_same (last_number a.nil accs) (cond (b.nil == a.nil) (Some b.version) None) (last_of v.key us) (cond (atom_eq v.key u.key) (Some u) None)
      (last_is us accs v a are.1 is)
      (if_same (b.nil == a.nil) (atom_eq v.key u.key) b.version u (same_nil vs numbered v u a.nil b.nil is.0 are.0.0) are.0.1)
  last_is [] (b ∷ accs) v a are is = absurd are
  last_is (u ∷ us) [] v a are is = absurd are

  -- ---- one step

  not_some : (value : Value) → not (value_eq None value) ≡ is_some value
  not_some None = refl
  not_some (Some x) = refl

  is_step_number :
      (u v : Version) (e : ℕ) (a : Access) → slice_get vs e ≡ Some u → v.key ≡ u.key → IsAccess vs v a
      → (not (a.version == e) && not (a.version == a.nil)) ≡ is_step (pair u v)
  is_step_number u v e a at key is =
      let same : atom_eq u.key v.key ≡ true = ap (atom_eq u.key) key ∙ atom_eq-itself u.key in
      ap (λ b. not b && not (a.version == a.nil)) (same_version vs numbered u v e a.version at is.1)
      ∙ ap (λ b. not (b && value_eq u.value v.value) && not (a.version == a.nil)) same
      ∙ ap (λ b. not (value_eq u.value v.value) && not b) (same_version vs numbered (nil_of v.key) v a.nil a.version is.0 is.1)
      ∙ ap (λ b. not (value_eq u.value v.value) && not (b && value_eq None v.value)) (atom_eq-itself v.key)
      ∙ ap (λ b. not (value_eq u.value v.value) && b) (not_some v.value)
      ∙ sym (ap (λ b. (b && not (value_eq u.value v.value)) && is_some v.value) same)

  made :
      (b : Bool) (u v : Version) (e n : ℕ) → slice_get vs e ≡ Some u → slice_get vs n ≡ Some v
      → map (step_at vs) (cond b ((n, e) ∷ []) []) ≡ map as_step (cond b (pair u v ∷ []) [])
  made true u v e n at at' =
      ap (λ (o : Option Version). (o, slice_get vs e) ∷ []) at' ∙ ap (λ (o : Option Version). (Some v, o) ∷ []) at
  made false u v e n at at' = refl

  step_is :
      (o : Option ℕ) (p : Option Version) (v : Version) (a : Access) → SameLast o p → ((u : Version) → p ≡ Some u → v.key ≡ u.key) → IsAccess vs v a
      → map (step_at vs) (step_from o a) ≡ map as_step (step_between p v)
  step_is None None v a same key is = refl
  step_is (Some e) (Some u) v a same key is =
      ap (λ b. map (step_at vs) (cond b ((a.version, e) ∷ []) [])) (is_step_number u v e a same (key u refl) is)
      ∙ made (is_step (pair u v)) u v e a.version same is.1
  step_is None (Some u) v a same key is = absurd same
  step_is (Some e) None v a same key is = absurd same

  pub steps_are :
      (last : ℕ → Option ℕ) (seen us : List Version) (accs : List Access) → HasLastSeen vs seen last → AreAccesses vs us accs
      → map (step_at vs) (steps_to last accs) ≡ map as_step (flat_map (step_to seen) us)
  steps_are last seen [] [] has are = refl
  steps_are last seen (u ∷ us) (a ∷ accs) has are =
      let here : map (step_at vs) (step_from (last a.nil) a) ≡ map as_step (step_to seen u) =
      ap (λ (o : Option ℕ). map (step_at vs) (step_from o a)) (has.2 a.nil)
      ∙ step_is (last_number a.nil has.0) (last_of u.key seen) u a (last_is seen has.0 u a has.1 are.0) (λ w e. last_of-key u.key seen w e) are.0 in
      map-append (step_at vs) (step_from (last a.nil) a) (steps_to last accs)
      ∙ ap (λ (xs : List (Option Version × Option Version)). xs ++ map (step_at vs) (steps_to last accs)) here
      ∙ ap (λ (xs : List (Option Version × Option Version)). map as_step (step_to seen u) ++ xs) (steps_are last seen us accs has are.1)
      ∙ sym (map-append as_step (step_to seen u) (flat_map (step_to seen) us))
  steps_are last seen [] (a ∷ accs) has are = absurd are
  steps_are last seen (u ∷ us) [] has are = absurd are

-- ---- one transaction more

abbrev pub own_of : ℕ → Transaction → List Version
own_of process t = cond (is_ok t && (t.process == process)) (map version_in t.mops) []

pub seen-push : (process : ℕ) (ts : List Transaction) (t : Transaction) → seen_by process (ts ++ t ∷ []) ≡ seen_by process ts ++ own_of process t
seen-push process ts t =
    flat_map-append (own_of process) ts (t ∷ []) ∙ ap (λ (vs : List Version). seen_by process ts ++ vs) (append-nil (own_of process t))

pub steps-push :
    (before ts : List Transaction) (t : Transaction) → steps_after before (ts ++ t ∷ []) ≡ steps_after before ts ++ steps_of (before ++ ts) t
steps-push before [] t = append-nil (steps_of before t) ∙ ap (λ (us : List Transaction). steps_of us t) (sym (append-nil before))
steps-push before (u ∷ ts) t =
    ap (λ (ps : List VersionPair). steps_of before u ++ ps)
    (steps-push (before ++ u ∷ []) ts t ∙ ap (λ (us : List Transaction). steps_after (before ++ u ∷ []) ts ++ steps_of us t) (append_assoc before (u ∷ []) ts))
    ∙ sym (append_assoc (steps_of before u) (steps_after (before ++ u ∷ []) ts) (steps_of (before ++ u ∷ ts) t))

-- ---- numbers among more versions

module _ (vs us : List Version) (stay : (n : ℕ) (v : Version) → slice_get vs n ≡ Some v → slice_get us n ≡ Some v) where
  pub last_stays : (seen : List Version) (last : ℕ → Option ℕ) → HasLastSeen vs seen last → HasLastSeen us seen last
  last_stays seen last has = (has.0, accesses_stay vs us stay seen has.0 has.1, has.2)

-- ---- more that is seen and more steps

pub sees_more :
    (vs seen own : List Version) (last last' : ℕ → Option ℕ) (accs : List Access) → HasLastSeen vs seen last → AreAccesses vs own accs
    → ((nil : ℕ) → last' nil ≡ option_or (last_number nil accs) (last nil)) → HasLastSeen vs (seen ++ own) last'
sees_more vs seen own last last' accs has are now = (
  has.0 ++ accs,
  accesses_append vs seen has.0 own accs has.1 are,
  λ nil. now nil ∙ ap (option_or (last_number nil accs)) (has.2 nil) ∙ sym (last_number-append nil has.0 accs),
)

pub steps_more :
    (vs : List Version) (ps qs : List VersionPair) (taken more : List (ℕ × ℕ)) → AreStepsAs vs ps taken → AreStepsAs vs qs more
    → AreStepsAs vs (ps ++ qs) (taken ++ more)
steps_more vs ps qs taken more are others =
    map-append (step_at vs) taken more
    ∙ ap (λ (xs : List (Option Version × Option Version)). xs ++ map (step_at vs) more) are
    ∙ ap (λ (xs : List (Option Version × Option Version)). map as_step ps ++ xs) others
    ∙ sym (map-append as_step ps qs)

-- ---- what an ok transaction adds

pub seen_step :
    (b : Bool) (vs seen own : List Version) (last last' : ℕ → Option ℕ) (accs : List Access) → HasLastSeen vs seen last → AreAccesses vs own accs
    → ((nil : ℕ) → last' nil ≡ cond b (option_or (last_number nil accs) (last nil)) (last nil)) → HasLastSeen vs (seen ++ cond b own []) last'
seen_step true vs seen own last last' accs has are now = sees_more vs seen own last last' accs has are now
seen_step false vs seen own last last' accs has are now =
    subst (λ (us : List Version). HasLastSeen vs us last') (sym (append-nil seen)) (has.0, has.1, λ nil. now nil ∙ has.2 nil)

pub stepped_ok :
    (ts : List Transaction) (t : Transaction) (vs : List Version) (numbered : AreNumbered version_eq vs) (rs ws ss : List Access)
    (last last' : ℕ → ℕ → Option ℕ) (taken taken' : List (ℕ × ℕ)) → is_ok t ≡ true
    → AreAccesses vs (external_reads t) rs → AreAccesses vs (map version_of (writes_of t.mops)) ws → AreAccesses vs (map version_in t.mops) ss
    → ((process : ℕ) → HasLastSeen vs (seen_by process ts) (last process)) → AreStepsAs vs (steps_after [] ts) taken
    → ((one nil : ℕ) → last' one nil ≡ seen_after t.process ss one nil (last one nil))
    → taken' ≡ taken ++ steps_to (last t.process) (firsts rs ws)
    → ((process : ℕ) → HasLastSeen vs (seen_by process (ts ++ t ∷ [])) (last' process)) × AreStepsAs vs (steps_after [] (ts ++ t ∷ [])) taken'
stepped_ok ts t vs numbered rs ws ss last last' taken taken' ok read wrote seen sees took now_last now_taken = (
  λ process.
      let own : own_of process t ≡ cond (t.process == process) (map version_in t.mops) [] = ap (λ b. cond (b && (t.process == process)) (map version_in t.mops) []) ok in
      subst (λ (us : List Version). HasLastSeen vs us (last' process)) (sym (seen-push process ts t ∙ ap (λ (us : List Version). seen_by process ts ++ us) own))
      (seen_step (t.process == process) vs (seen_by process ts) (map version_in t.mops) (last process) (last' process) ss (sees process) seen (now_last process)),
  (
      let met : AreAccesses vs (met_by t) (firsts rs ws) = met_are vs numbered t rs ws read (lasts_are vs numbered (writes_of t.mops) ws wrote) in
      let added : steps_of ts t ≡ flat_map (step_to (seen_by t.process ts)) (met_by t) = ap (λ b. cond b (flat_map (step_to (seen_by t.process ts)) (met_by t)) []) ok in
      subst (λ (ps : List VersionPair). AreStepsAs vs ps taken') (sym (steps-push [] ts t ∙ ap (λ (ps : List VersionPair). steps_after [] ts ++ ps) added))
      (subst (AreStepsAs vs (steps_after [] ts ++ flat_map (step_to (seen_by t.process ts)) (met_by t))) (sym now_taken)
      (steps_more vs (steps_after [] ts) (flat_map (step_to (seen_by t.process ts)) (met_by t)) taken (steps_to (last t.process) (firsts rs ws)) took
      (steps_are vs numbered (last t.process) (seen_by t.process ts) (met_by t) (firsts rs ws) (sees t.process) met)))),
)

-- ---- one that isn't ok adds nothing

pub stepped_not :
    (ts : List Transaction) (t : Transaction) (vs : List Version) (last : ℕ → ℕ → Option ℕ) (taken : List (ℕ × ℕ)) → is_ok t ≡ false
    → ((process : ℕ) → HasLastSeen vs (seen_by process ts) (last process)) → AreStepsAs vs (steps_after [] ts) taken
    → ((process : ℕ) → HasLastSeen vs (seen_by process (ts ++ t ∷ [])) (last process)) × AreStepsAs vs (steps_after [] (ts ++ t ∷ [])) taken
stepped_not ts t vs last taken not_ok sees took = (
  λ process.
      let own : own_of process t ≡ [] = ap (λ b. cond (b && (t.process == process)) (map version_in t.mops) []) not_ok in
      subst (λ (us : List Version). HasLastSeen vs us (last process))
      (sym (seen-push process ts t ∙ ap (λ (us : List Version). seen_by process ts ++ us) own ∙ append-nil (seen_by process ts))) (sees process),
  (
      let added : steps_of ts t ≡ [] = ap (λ b. cond b (flat_map (step_to (seen_by t.process ts)) (met_by t)) []) not_ok in
      subst (λ (ps : List VersionPair). AreStepsAs vs ps taken)
      (sym (steps-push [] ts t ∙ ap (λ (ps : List VersionPair). steps_after [] ts ++ ps) added ∙ append-nil (steps_after [] ts))) took),
)
