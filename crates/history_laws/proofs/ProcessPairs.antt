-- The pairs of versions that a process orders, by its transactions.
use Rattle.std.proofs.Common.{◌≡◌, ◌↔◌, ◌⊎◌, inl, inr, ℕ, List, [], ◌∷◌, ◌++◌, Bool, true, false, ◌&&◌, ◌==◌, if◌then◌else◌, Option, Some, None, is_some, map, flat_map, Contains, IsTrue, append-nil, append_assoc, refl, sym, ◌∙◌, ap, subst}
use Rattle.std.specs.List.{AllByRecursion, list_any}
use Rattle.std.specs.Option.{option_or}
use Rattle.std.proofs.lemmas.Bool.{and_parts, and_from, eqb-true, eq-eqb}
use Rattle.std.proofs.lemmas.List.Elements.{All-from_recursion, recursion_from_All}
use Rattle.std.proofs.lemmas.Option.{none-some, cond_some}
use Rattle.hist_types.specs.Atoms.{Atom, atom_eq}
use Rattle.hist_types.specs.Transactions.{Transaction, Version, is_ok, external_reads, installed_by}
use Rattle.hist_types.specs.Versions.{VersionPair, pair, version_in, seen_by, last_of, firsts_after, met_by, is_change, is_step, step_between, step_to, steps_of, steps_after, process_pairs}
use Rattle.hist_types.specs.declared.types.KeyOrder.{KeyOrder}
use Rattle.hist_types.specs.declared.types.KeyOrder.TheVariants.{Basic, Sequential}
use Rattle.hist_types.proofs.Equality.{atom_eq-same}
use Rattle.hist_types.proofs.Members.{In, in_from_Contains, Contains_from_in, in_front, in_back, in_append, in_each, in_some, in_if, in_filter, in_filtered, passes_filter}
use Rattle.history_laws.specs.ProcessPairs.{IsProcessStep, EndsWith, LeavesAlone, SeesNothing, IsStepBetweenTwo}

-- ---- one or the other

pub or_some : {X : Type 0} (a b : Option X) (x : X) → option_or a b ≡ Some x → (a ≡ Some x) ⊎ ((a ≡ None) × (b ≡ Some x))
or_some None b x e = inr (refl, e)
or_some (Some y) b x e = inl e

pub or_none : {X : Type 0} (a b : Option X) → option_or a b ≡ None → (a ≡ None) × (b ≡ None)
or_none None b e = (refl, e)
or_none (Some x) b e = elim (none-some x (sym e)) [ ]

pub or_nothing : {X : Type 0} (a : Option X) → option_or a None ≡ a
or_nothing None = refl
or_nothing (Some x) = refl

pub or_assoc : {X : Type 0} (a b c : Option X) → option_or (option_or a b) c ≡ option_or a (option_or b c)
or_assoc None b c = refl
or_assoc (Some x) b c = refl

-- ---- the last version of a key

abbrev pub here : Atom → Version → Option Version
here key v = if atom_eq key v.key then Some v else None

pub last_of-append : (key : Atom) (vs ws : List Version) → last_of key (vs ++ ws) ≡ option_or (last_of key ws) (last_of key vs)
last_of-append key [] ws = sym (or_nothing (last_of key ws))
last_of-append key (v ∷ vs) ws =
    ap (λ o. option_or o (here key v)) (last_of-append key vs ws)
    ∙ or_assoc (last_of key ws) (last_of key vs) (here key v)

pub last_of-key : (key : Atom) (vs : List Version) (v : Version) → last_of key vs ≡ Some v → key ≡ v.key
last_of-key key [] v e = elim (none-some v e) [ ]
last_of-key key (w ∷ vs) v e = elim (or_some (last_of key vs) (here key w) v e) [
  | inl further ↦ last_of-key key vs v further
  | inr own ↦ (
      let (same, is) = cond_some (atom_eq key w.key) w v own.1 in
      atom_eq-same key w.key same ∙ ap (λ (x : Version). x.key) is)
]

-- ---- what a transaction meets

first_or_further :
    (passed : Bool) (v w : Version) (skipped rest vs : List Version)
    → In v (if passed then skipped else w ∷ rest)
    → (In v skipped → In v vs)
    → (In v rest → In v vs)
    → In v (w ∷ vs)
first_or_further true v w skipped rest vs i from_skipped from_rest = inr (from_skipped i)
first_or_further false v w skipped rest vs (inl e) from_skipped from_rest = inl e
first_or_further false v w skipped rest vs (inr i) from_skipped from_rest = inr (from_rest i)

firsts_among : (before vs : List Version) (v : Version) → In v (firsts_after before vs) → In v vs
firsts_among before [] v i = elim i [ ]
firsts_among before (w ∷ vs) v i =
    first_or_further (list_any (λ (x : Version). atom_eq w.key x.key) before) v w (firsts_after before vs) (firsts_after (before ++ w ∷ []) vs) vs i
    (firsts_among before vs v) (firsts_among (before ++ w ∷ []) vs v)

pub met_by-read_or_installed : (u : Transaction) (v : Version) → Contains (met_by u) v → In v (external_reads u) ⊎ In v (installed_by u)
met_by-read_or_installed u v c =
    in_append v (external_reads u) (installed_by u)
    (firsts_among [] (external_reads u ++ installed_by u) v (in_from_Contains v (met_by u) c))

-- ---- one step

step_from :
    (seen : Option Version) (later : Version) (p : VersionPair)
    → In p (step_between seen later)
    → (later ≡ p.later) × (seen ≡ Some p.earlier) × (is_step p ≡ true)
step_from None later p i = elim i [ ]
step_from (Some earlier) later p i =
    let is : pair earlier later ≡ p = elim (in_filter is_step p (pair earlier later ∷ []) i) [ inl e ↦ e | inr none ↦ elim none [ ] ] in
    (ap (λ (q : VersionPair). q.later) is, ap (λ (q : VersionPair). Some q.earlier) is, passes_filter is_step p (pair earlier later ∷ []) i)

step_in : (seen : Option Version) (p : VersionPair) → seen ≡ Some p.earlier → is_step p ≡ true → In p (step_between seen p.later)
step_in seen p e step =
    subst (λ o. In p (step_between o p.later)) (sym e) (in_filtered is_step p (pair p.earlier p.later ∷ []) (inl refl) step)

abbrev IsStepAfter : List Transaction → Transaction → VersionPair → Type 0
IsStepAfter earlier u p =
    IsTrue (is_ok u)
    × Contains (met_by u) p.later
    × (last_of p.later.key (seen_by u.process earlier) ≡ Some p.earlier)
    × IsTrue (is_step p)

steps_from : (earlier : List Transaction) (u : Transaction) (p : VersionPair) → In p (steps_of earlier u) → IsStepAfter earlier u p
steps_from earlier u p i =
    let seen : List Version = seen_by u.process earlier in
    let (ok, j) = in_if p (is_ok u) (flat_map (step_to seen) (met_by u)) i in
    let (v, met, k) = in_some (step_to seen) p (met_by u) j in
    let (later, last, step) = step_from (last_of v.key seen) v p k in (
      ok,
      Contains_from_in p.later (met_by u) (subst (λ w. In w (met_by u)) later met),
      subst (λ (w : Version). last_of w.key seen ≡ Some p.earlier) later last,
      step,
    )

steps_to : (earlier : List Transaction) (u : Transaction) (p : VersionPair) → IsStepAfter earlier u p → In p (steps_of earlier u)
steps_to earlier u p (ok, met, last, step) =
    let seen : List Version = seen_by u.process earlier in
    subst (λ b. In p (if b then flat_map (step_to seen) (met_by u) else [])) (sym ok)
    (in_each (step_to seen) p p.later (met_by u) (in_from_Contains p.later (met_by u) met) (step_in (last_of p.later.key seen) p last step))

-- ---- all steps

abbrev IsStepIn : (before ts : List Transaction) → VersionPair → Type 0
IsStepIn before ts p =
    (earlier : List Transaction)
    × (u : Transaction)
    × (rest : List Transaction)
    × (ts ≡ earlier ++ u ∷ rest)
    × In p (steps_of (before ++ earlier) u)

after_from : (before ts : List Transaction) (p : VersionPair) → In p (steps_after before ts) → IsStepIn before ts p
after_from before [] p i = elim i [ ]
after_from before (t ∷ ts) p i = elim (in_append p (steps_of before t) (steps_after (before ++ t ∷ []) ts) i) [
  | inl j ↦ ([], t, ts, refl, subst (λ xs. In p (steps_of xs t)) (sym (append-nil before)) j)
  | inr j ↦ (
      let (earlier, u, rest, is, k) = after_from (before ++ t ∷ []) ts p j in
      (t ∷ earlier, u, rest, ap (λ xs. t ∷ xs) is, subst (λ xs. In p (steps_of xs u)) (append_assoc before (t ∷ []) earlier) k))
]

after_to :
    (before earlier : List Transaction) (u : Transaction) (rest : List Transaction) (p : VersionPair)
    → In p (steps_of (before ++ earlier) u)
    → In p (steps_after before (earlier ++ u ∷ rest))
after_to before [] u rest p i =
    in_front p (steps_of before u) (steps_after (before ++ u ∷ []) rest) (subst (λ xs. In p (steps_of xs u)) (append-nil before) i)
after_to before (t ∷ earlier) u rest p i =
    in_back p (steps_of before t) (steps_after (before ++ t ∷ []) (earlier ++ u ∷ rest))
    (after_to (before ++ t ∷ []) earlier u rest p (subst (λ xs. In p (steps_of xs u)) (sym (append_assoc before (t ∷ []) earlier)) i))

process_step : (ts : List Transaction) (p : VersionPair) → In p (steps_after [] ts) → IsProcessStep ts p
process_step ts p i =
    let (earlier, u, rest, is, j) = after_from [] ts p i in
    let (ok, met, last, step) = steps_from earlier u p j in
    (earlier, u, rest, is, ok, met, last, step)

step_of_process : (ts : List Transaction) (p : VersionPair) → IsProcessStep ts p → In p (steps_after [] ts)
step_of_process ts p (earlier, u, rest, is, ok, met, last, step) =
    subst (λ xs. In p (steps_after [] xs)) (sym is) (after_to [] earlier u rest p (steps_to earlier u p (ok, met, last, step)))

pub process_pairs-steps : (ts : List Transaction) (p : VersionPair) → Contains (process_pairs Sequential ts) p ↔ IsProcessStep ts p
process_pairs-steps ts p = (
  λ c. process_step ts p (in_from_Contains p (process_pairs Sequential ts) c),
  λ step. Contains_from_in p (process_pairs Sequential ts) (step_of_process ts p step),
)

-- a pair of a process is of two different versions of one key, the later one not nil
pub is_step_of : (keys : KeyOrder) (ts : List Transaction) (p : VersionPair) → Contains (process_pairs keys ts) p → IsTrue (is_step p)
is_step_of Basic ts p c = elim (in_from_Contains p (process_pairs Basic ts) c) [ ]
is_step_of Sequential ts p c =
    let (earlier, u, rest, is, ok, met, last, step) = (process_pairs-steps ts p).0 c in
    step

pub of_one_key : (p : VersionPair) → IsTrue (is_step p) → IsTrue (atom_eq p.earlier.key p.later.key)
of_one_key p step =
    (and_parts (atom_eq p.earlier.key p.later.key) _ (and_parts (is_change p) (is_some p.later.value) step).0).0

-- ---- who saw the version last

abbrev own_of : ℕ → Transaction → List Version
own_of process t = if is_ok t && t.process == process then map version_in t.mops else []

abbrev MissesIt : ℕ → Atom → Transaction → Type 0
MissesIt process key t = IsTrue (is_ok t) → t.process ≡ process → LeavesAlone key t

own_some :
    (test : Bool) (key : Atom) (vs : List Version) (v : Version)
    → last_of key (if test then vs else []) ≡ Some v
    → (test ≡ true) × (last_of key vs ≡ Some v)
own_some true key vs v e = (refl, e)
own_some false key vs v e = elim (none-some v e) [ ]

own_none : (test : Bool) (key : Atom) (vs : List Version) → last_of key (if test then vs else []) ≡ None → test ≡ true → last_of key vs ≡ None
own_none test key vs e is = subst (λ b. last_of key (if b then vs else []) ≡ None) is e

none_own : (test : Bool) (key : Atom) (vs : List Version) → (test ≡ true → last_of key vs ≡ None) → last_of key (if test then vs else []) ≡ None
none_own true key vs none = none refl
none_own false key vs none = refl

is_own : (process : ℕ) (t : Transaction) → IsTrue (is_ok t) → t.process ≡ process → (is_ok t && t.process == process) ≡ true
is_own process t ok own = and_from (is_ok t) (t.process == process) ok (eq-eqb t.process process own)

own_is : (process : ℕ) (t : Transaction) → (is_ok t && t.process == process) ≡ true → IsTrue (is_ok t) × (t.process ≡ process)
own_is process t e =
    let both = and_parts (is_ok t) (t.process == process) e in
    (both.0, eqb-true t.process process both.1)

sees_nothing : (process : ℕ) (key : Atom) (ts : List Transaction) → last_of key (seen_by process ts) ≡ None → AllByRecursion (MissesIt process key) ts
sees_nothing process key [] e = tt
sees_nothing process key (t ∷ ts) e =
    let (further, first) = or_none (last_of key (seen_by process ts)) (last_of key (own_of process t)) (sym (last_of-append key (own_of process t) (seen_by process ts)) ∙ e) in (
      λ ok own. own_none (is_ok t && t.process == process) key (map version_in t.mops) first (is_own process t ok own),
      sees_nothing process key ts further,
    )

nothing_seen : (process : ℕ) (key : Atom) (ts : List Transaction) → AllByRecursion (MissesIt process key) ts → last_of key (seen_by process ts) ≡ None
nothing_seen process key [] all = refl
nothing_seen process key (t ∷ ts) all =
    let first : last_of key (own_of process t) ≡ None =
    none_own (is_ok t && t.process == process) key (map version_in t.mops) (λ e. let both = own_is process t e in all.0 both.0 both.1) in
    last_of-append key (own_of process t) (seen_by process ts)
    ∙ (ap (λ o. option_or o (last_of key (own_of process t))) (nothing_seen process key ts all.1) ∙ first)

abbrev IsSeenLast : ℕ → Atom → List Transaction → Version → Type 0
IsSeenLast process key ts v =
    (before : List Transaction)
    × (t : Transaction)
    × (between : List Transaction)
    × (ts ≡ before ++ t ∷ between)
    × IsTrue (is_ok t)
    × (t.process ≡ process)
    × EndsWith key t v
    × SeesNothing process key between

seen_last : (process : ℕ) (key : Atom) (ts : List Transaction) (v : Version) → last_of key (seen_by process ts) ≡ Some v → IsSeenLast process key ts v
seen_last process key [] v e = elim (none-some v e) [ ]
seen_last process key (t ∷ ts) v e =
    elim (or_some (last_of key (seen_by process ts)) (last_of key (own_of process t)) v (sym (last_of-append key (own_of process t) (seen_by process ts)) ∙ e)) [
      | inl further ↦ (
          let (before, s, between, is, ok, own, ends, nothing) = seen_last process key ts v further in
          (t ∷ before, s, between, ap (λ xs. t ∷ xs) is, ok, own, ends, nothing))
      | inr parts ↦ (
          let (own, ends) = own_some (is_ok t && t.process == process) key (map version_in t.mops) v parts.1 in
          let both = own_is process t own in
          ([], t, ts, refl, both.0, both.1, ends, All-from_recursion (MissesIt process key) ts (sees_nothing process key ts parts.0)))
    ]

last_seen :
    (process : ℕ) (key : Atom) (before : List Transaction) (t : Transaction) (between : List Transaction) (v : Version)
    → IsTrue (is_ok t)
    → t.process ≡ process
    → EndsWith key t v
    → SeesNothing process key between
    → last_of key (seen_by process (before ++ t ∷ between)) ≡ Some v
last_seen process key [] t between v ok own ends nothing =
    let none : last_of key (seen_by process between) ≡ None = nothing_seen process key between (recursion_from_All (MissesIt process key) between nothing) in
    let first : last_of key (own_of process t) ≡ Some v =
    subst (λ b. last_of key (if b then map version_in t.mops else []) ≡ Some v) (sym (is_own process t ok own)) ends in
    last_of-append key (own_of process t) (seen_by process between)
    ∙ (ap (λ o. option_or o (last_of key (own_of process t))) none ∙ first)
last_seen process key (s ∷ before) t between v ok own ends nothing =
    last_of-append key (own_of process s) (seen_by process (before ++ t ∷ between))
    ∙ ap (λ o. option_or o (last_of key (own_of process s))) (last_seen process key before t between v ok own ends nothing)

-- ---- between two transactions

between_two : (ts : List Transaction) (p : VersionPair) → IsProcessStep ts p → IsStepBetweenTwo ts p
between_two ts p (earlier, u, rest, is, ok, met, last, step) =
    let (before, t, between, split, first, own, ends, nothing) = seen_last u.process p.later.key earlier p.earlier last in
    (before, t, between, u, rest, is ∙ ap (λ xs. xs ++ u ∷ rest) split, first, ok, own, ends, nothing, met, step)

from_two : (ts : List Transaction) (p : VersionPair) → IsStepBetweenTwo ts p → IsProcessStep ts p
from_two ts p (before, t, between, u, rest, is, first, ok, own, ends, nothing, met, step) =
    (before ++ t ∷ between, u, rest, is, ok, met, last_seen u.process p.later.key before t between p.earlier first own ends nothing, step)

pub process_pairs-between : (ts : List Transaction) (p : VersionPair) → Contains (process_pairs Sequential ts) p ↔ IsStepBetweenTwo ts p
process_pairs-between ts p =
    let steps = process_pairs-steps ts p in
    (λ c. between_two ts p (steps.0 c), λ two. steps.1 (from_two ts p two))

-- ---- basic keys

pub no_process_pairs : (ts : List Transaction) → process_pairs Basic ts ≡ []
no_process_pairs ts = refl
