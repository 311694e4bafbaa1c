-- The table of a history whose keys are sequential, from the one where they are basic and the steps of its processes.
use Rattle.std.proofs.Common.{◌≡◌, inl, inr, ◌<◌, ◌≤◌, ◌+◌, ℕ, zero, suc, List, [], ◌∷◌, ◌++◌, length, map, get_or, Bool, true, false, cond, All, Option, Some, is_some, refl, sym, ◌∙◌, ap, subst, arith}
use Rattle.std.specs.Prelude.{⊤, slice_get, filter, not, ◌&&◌, ◌||◌, ◌==◌}
use Rattle.std.specs.List.{list_any}
use Rattle.std.specs.Option.{is_none}
use Rattle.std.proofs.Math.Bool.{and_comm}
use Rattle.std.proofs.lemmas.Bool.{cases_Bool, and_parts, or_parts, true≢false, false≢true, false_from_ne_true, eqb-true, eq-eqb}
use Rattle.std.proofs.lemmas.List.{map-append, length-map}
use Rattle.std.proofs.lemmas.Option.{slice_get_within, get_or_from_slice_get}
use Rattle.flat_groups.specs.Groups.{group, groups_from, IsNumbered}
use Rattle.hist_types.specs.Atoms.{Atom, atom_eq, value_eq}
use Rattle.hist_types.specs.Journal.{Write, writes_of}
use Rattle.hist_types.specs.Transactions.{Transaction, Version, version_eq, version_of, installed_by, is_known_to_read, has_key, last_writes}
use Rattle.hist_types.specs.Versions.{VersionPair, pair, is_change, process_pairs}
use Rattle.hist_types.specs.declared.types.KeyOrder.TheVariants.{Basic, Sequential}
use Rattle.hist_types.proofs.Equality.{atom_eq-same}
use Rattle.hist_types.proofs.Members.{In, Contains_from_in, in_map, in_mapped}
use Rattle.history_laws.proofs.ProcessPairs.{is_step_of}
use Rattle.atom_index.specs.Numbers.{AreNumbered}
use Rattle.key_versions.specs.declared.types.Writer.{Writer}
use Rattle.key_versions.specs.declared.types.Follower.{Follower}
use Rattle.key_versions.specs.Histories.{same_pair, has_pair, installs_behind, from_place, followers_of}
use Rattle.key_versions.specs.Rows.{Known, Accessed}
use Rattle.key_versions.specs.Steps.{is_step, or_one, followed_at, followers_by, stepped_rows, FollowersAreUpTo, InstallsAreBelow, AreBelow}
use Rattle.key_versions.specs.Stepped.{step_at, as_step, AreStepsAs}
use Rattle.key_versions.specs.Given.{IsTableBeside}
use Rattle.key_versions.specs.Tables.{IsTableOf, versions_at, followers_at}
use Rattle.key_versions.specs.Views.{table_by}
use Rattle.key_versions.proofs.ByPlace.{from_some_place, part_at}
use Rattle.key_versions.proofs.Followed.{install_at, none_pass, same_filter}
use Rattle.key_versions.proofs.Interleaved.{all_in, group_at}
use Rattle.key_versions.proofs.Joined.{same_version}
use Rattle.key_versions.proofs.Pairs.{pair_in}

-- ---- numbers and versions

eq_swap : (i j : ℕ) → (i == j) ≡ (j == i)
eq_swap i j = elim (cases_Bool (i == j)) [
  | inl is ↦ is ∙ sym (eq-eqb j i (sym (eqb-true i j is)))
  | inr differ ↦ differ ∙ sym (false_from_ne_true (j == i) (λ is. true≢false (sym (eq-eqb i j (sym (eqb-true j i is))) ∙ differ)))
]

abbrev same_numbers : ℕ × ℕ → ℕ × ℕ → Bool
same_numbers p q = (p.0 == q.0) && (p.1 == q.1)

-- whether an earlier version comes before a later one
any_group : (later n : ℕ) (steps : List (ℕ × ℕ)) → list_any (λ (e : ℕ). e == n) (group later steps) ≡ list_any (same_numbers (later, n)) steps
any_group later n [] = refl
any_group later n (s ∷ steps) =
    by (s.0 == later) (any_group later n steps)
    ∙ ap (λ b. (b && (s.1 == n)) || list_any (same_numbers (later, n)) steps) (eq_swap s.0 later)
    ∙ ap (λ b. ((later == s.0) && b) || list_any (same_numbers (later, n)) steps) (eq_swap s.1 n)
  where
    by :
        (b : Bool) → list_any (λ (e : ℕ). e == n) (group later steps) ≡ list_any (same_numbers (later, n)) steps
        → list_any (λ (e : ℕ). e == n) (cond b (s.1 ∷ group later steps) (group later steps)) ≡ ((b && (s.1 == n)) || list_any (same_numbers (later, n)) steps)
    by true rest = ap (λ b. (s.1 == n) || b) rest
    by false rest = rest

-- ---- in one place

or_true : (b : Bool) → (b || true) ≡ true
or_true true = refl
or_true false = refl

less_filtered : {A : Type 0} (p q : A → Bool) → ((x : A) → q x ≡ true → p x ≡ true) → (xs : List A) → filter p xs ≡ [] → filter q xs ≡ []
less_filtered p q less [] none = refl
less_filtered {A} p q less (x ∷ xs) none = by (p x) (q x) refl refl none (less_filtered p q less xs)
  where
    by : (b b' : Bool) → p x ≡ b → q x ≡ b' → cond b (x ∷ filter p xs) (filter p xs) ≡ [] → (filter p xs ≡ [] → filter q xs ≡ []) → cond b' (x ∷ filter q xs) (filter q xs) ≡ []
    by true b' e e' h rest = absurd (cc)
    by false true e e' h rest = absurd (false≢true (sym e ∙ less x e'))
    by false false e e' h rest = rest h

nothing_found : (place : ℕ) (us : List Version) → [] ≡ map (install_at place) us → us ≡ []
nothing_found place [] h = refl
nothing_found place (u ∷ us) h = absurd (cc)

some_stay : (steps : List (List ℕ)) (n place : ℕ) (f : Follower) (fs : List Follower) (installs : List ℕ) → followed_at steps n place (f ∷ fs) installs ≡ f ∷ fs
some_stay steps n place f fs [] = refl
some_stay steps n place f fs (v ∷ installs) = by (is_step steps n v) (some_stay steps n place f fs installs)
  where
    by :
        (b : Bool) → followed_at steps n place (f ∷ fs) installs ≡ f ∷ fs
        → followed_at steps n place (cond b (or_one (f ∷ fs) (record { txn = place; version = v })) (f ∷ fs)) installs ≡ f ∷ fs
    by true rest = rest
    by false rest = rest

abbrev as_found : ℕ × Version → ℕ × Option Version
as_found p = (p.0, Some p.1)

abbrev with_place : ℕ → Version → ℕ × Version
with_place place w = (place, w)

map_twice : (place : ℕ) (us : List Version) → map as_found (map (with_place place) us) ≡ map (install_at place) us
map_twice place [] = refl
map_twice place (u ∷ us) = ap (λ (ps : List (ℕ × Option Version)). install_at place u ∷ ps) (map_twice place us)

module _ (vs : List Version) where
  abbrev found : Follower → ℕ × Option Version
  found f = (f.txn, slice_get vs f.version)

  filter_found : (place : ℕ) (fs : List Follower) → followers_at vs (filter (λ (f : Follower). f.txn == place) fs) ≡ filter (λ (q : ℕ × Option Version). q.0 == place) (followers_at vs fs)
  filter_found place [] = refl
  filter_found place (f ∷ fs) = by (f.txn == place) (filter_found place fs)
    where
      by :
          (b : Bool) → followers_at vs (filter (λ (f : Follower). f.txn == place) fs) ≡ filter (λ (q : ℕ × Option Version). q.0 == place) (followers_at vs fs)
          → followers_at vs (cond b (f ∷ filter (λ (f : Follower). f.txn == place) fs) (filter (λ (f : Follower). f.txn == place) fs))
          ≡ cond b ((f.txn, slice_get vs f.version) ∷ filter (λ (q : ℕ × Option Version). q.0 == place) (followers_at vs fs)) (filter (λ (q : ℕ × Option Version). q.0 == place) (followers_at vs fs))
      by true rest = ap (λ (qs : List (ℕ × Option Version)). (f.txn, slice_get vs f.version) ∷ qs) rest
      by false rest = rest

filter_as_found :
    (place : ℕ) (ps : List (ℕ × Version))
    → filter (λ (q : ℕ × Option Version). q.0 == place) (map as_found ps) ≡ map as_found (filter (λ (q : ℕ × Version). q.0 == place) ps)
filter_as_found place [] = refl
filter_as_found place (p ∷ ps) = by (p.0 == place) (filter_as_found place ps)
  where
    by :
        (b : Bool) → filter (λ (q : ℕ × Option Version). q.0 == place) (map as_found ps) ≡ map as_found (filter (λ (q : ℕ × Version). q.0 == place) ps)
        → cond b (as_found p ∷ filter (λ (q : ℕ × Option Version). q.0 == place) (map as_found ps)) (filter (λ (q : ℕ × Option Version). q.0 == place) (map as_found ps))
        ≡ map as_found (cond b (p ∷ filter (λ (q : ℕ × Version). q.0 == place) ps) (filter (λ (q : ℕ × Version). q.0 == place) ps))
    by true rest = ap (λ (qs : List (ℕ × Option Version)). as_found p ∷ qs) rest
    by false rest = rest

-- ---- a transaction installs one version of a key

-- where one passes, none of those after it does
abbrev IsOneAtMost : (Version → Bool) → List Version → Type 0
IsOneAtMost p [] = ⊤
IsOneAtMost p (v ∷ vs) = (p v ≡ true → filter p vs ≡ []) × IsOneAtMost p vs

module _ (key : Atom) (p : Version → Bool) (of_key : (v : Version) → p v ≡ true → atom_eq key v.key ≡ true) where
  none_installed : (ws : List Write) → has_key key ws ≡ false → filter p (map version_of (last_writes ws)) ≡ []
  none_installed [] none = refl
  none_installed (w ∷ ws) none =
      let parts = or_parts (atom_eq key w.key) (has_key key ws) none in
      let fails : p (version_of w) ≡ false = false_from_ne_true (p (version_of w)) (λ is. true≢false (sym (of_key (version_of w) is) ∙ parts.0)) in
      by (has_key w.key ws) fails (none_installed ws parts.1)
    where
      by :
          (b : Bool) → p (version_of w) ≡ false → filter p (map version_of (last_writes ws)) ≡ []
          → filter p (map version_of (cond b (last_writes ws) (w ∷ last_writes ws))) ≡ []
      by true fails rest = rest
      by false fails rest = ap (λ b. cond b (version_of w ∷ filter p (map version_of (last_writes ws))) (filter p (map version_of (last_writes ws)))) fails ∙ rest

  one_installed : (ws : List Write) → IsOneAtMost p (map version_of (last_writes ws))
  one_installed [] = tt
  one_installed (w ∷ ws) = by (has_key w.key ws) refl (one_installed ws)
    where
      by : (b : Bool) → has_key w.key ws ≡ b → IsOneAtMost p (map version_of (last_writes ws)) → IsOneAtMost p (map version_of (cond b (last_writes ws) (w ∷ last_writes ws)))
      by true again rest = rest
      by false last rest = (λ is. none_installed ws (ap (λ k. has_key k ws) (atom_eq-same key w.key (of_key (version_of w) is)) ∙ last), rest)

module _ (ts : List Transaction) (vs : List Version) (numbered : AreNumbered version_eq vs) (steps : List (ℕ × ℕ))
    (are : AreStepsAs vs (process_pairs Sequential ts) steps) where
  number_test : (i j : ℕ) (v u : Version) → slice_get vs i ≡ Some v → slice_get vs j ≡ Some u → (i == j) ≡ version_eq v u
  number_test i j v u at at' = eq_swap i j ∙ same_version vs numbered v u i j at at'

  any_pair :
      (n m : ℕ) (v w : Version) → slice_get vs n ≡ Some v → slice_get vs m ≡ Some w → (all : List (ℕ × ℕ)) (ps : List VersionPair) → map (step_at vs) all ≡ map as_step ps
      → list_any (same_numbers (m, n)) all ≡ has_pair ps (pair v w)
  any_pair n m v w at at' [] [] h = refl
  any_pair n m v w at at' [] (p ∷ ps) h = absurd (cc)
  any_pair n m v w at at' (s ∷ all) [] h = absurd (cc)
  any_pair n m v w at at' (s ∷ all) (p ∷ ps) h =
      let both : step_at vs s ≡ as_step p = cc in
      let rest : map (step_at vs) all ≡ map as_step ps = cc in
      let later : slice_get vs s.0 ≡ Some p.later = ap (λ (q : Option Version × Option Version). q.0) both in
      let earlier : slice_get vs s.1 ≡ Some p.earlier = ap (λ (q : Option Version × Option Version). q.1) both in
      ap (λ b. (b && (n == s.1)) || list_any (same_numbers (m, n)) all) (number_test m s.0 w p.later at' later)
      ∙ ap (λ b. (version_eq w p.later && b) || list_any (same_numbers (m, n)) all) (number_test n s.1 v p.earlier at earlier)
      ∙ ap (λ b. b || list_any (same_numbers (m, n)) all) (and_comm (version_eq w p.later) (version_eq v p.earlier))
      ∙ ap (λ b. same_pair (pair v w) p || b) (any_pair n m v w at at' all ps rest)

  abbrev ps : List VersionPair
  ps = process_pairs Sequential ts

  abbrev earlier : List (List ℕ)
  earlier = groups_from 0 (length vs) steps

  earlier_of : (m : ℕ) → m < length vs → get_or earlier m [] ≡ group m steps
  earlier_of m below =
      let zero_first : 0 + m ≡ m = omega arith in
      get_or_from_slice_get earlier m (group m steps) [] (group_at 0 (length vs) m steps below ∙ ap (λ k. Some (group k steps)) zero_first)

  step_is : (n m : ℕ) (v w : Version) → slice_get vs n ≡ Some v → slice_get vs m ≡ Some w → is_step earlier n m ≡ has_pair ps (pair v w)
  step_is n m v w at at' =
      ap (list_any (λ (e : ℕ). e == n)) (earlier_of m (slice_get_within vs m w at')) ∙ any_group m n steps ∙ any_pair n m v w at at' steps ps are

  by_steps :
      (n place : ℕ) (v : Version) → slice_get vs n ≡ Some v → (ns : List ℕ) (us : List Version) → versions_at vs ns ≡ map Some us
      → IsOneAtMost (λ (w : Version). has_pair ps (pair v w)) us
      → followers_at vs (followed_at earlier n place [] ns) ≡ map (install_at place) (filter (λ (w : Version). has_pair ps (pair v w)) us)
  by_steps n place v at [] [] h one = refl
  by_steps n place v at [] (u ∷ us) h one = absurd (cc)
  by_steps n place v at (m ∷ ns) [] h one = absurd (cc)
  by_steps n place v at (m ∷ ns) (u ∷ us) h one =
      let here : slice_get vs m ≡ Some u = cc in
      let rest : versions_at vs ns ≡ map Some us = cc in
      let f : Follower = record { txn = place; version = m } in
      ap (λ b. followers_at vs (followed_at earlier n place (cond b (f ∷ []) []) ns)) (step_is n m v u at here)
      ∙ by (has_pair ps (pair v u)) refl here (by_steps n place v at ns us rest one.1)
    where
      kept : List Version
      kept = filter (λ (w : Version). has_pair ps (pair v w)) us

      by :
          (b : Bool) → has_pair ps (pair v u) ≡ b → slice_get vs m ≡ Some u
          → followers_at vs (followed_at earlier n place [] ns) ≡ map (install_at place) kept
          → followers_at vs (followed_at earlier n place (cond b (record { txn = place; version = m } ∷ []) []) ns) ≡ map (install_at place) (cond b (u ∷ kept) kept)
      by true is here rest =
          ap (followers_at vs) (some_stay earlier n place (record { txn = place; version = m }) [] ns)
          ∙ ap (λ (o : Option Version). (place, o) ∷ []) here
          ∙ sym (ap (λ (us : List Version). map (install_at place) (u ∷ us)) (one.0 is))
      by false not_one here rest = rest

  changes : (v w : Version) → has_pair ps (pair v w) ≡ true → is_change (pair v w) ≡ true
  changes v w step =
      (and_parts (is_change (pair v w)) (is_some w.value) (is_step_of Sequential ts (pair v w) (Contains_from_in (pair v w) ps (pair_in ps (pair v w) step)))).0

  -- the followers in one place
  part_is :
      (n place : ℕ) (v : Version) → slice_get vs n ≡ Some v → (t : Transaction) (installs : List ℕ) (known : List Follower)
      → followers_at vs known ≡ map (install_at place) (installs_behind [] t v) → versions_at vs installs ≡ map Some (installed_by t)
      → followers_at vs (followed_at earlier n place known installs) ≡ map (install_at place) (installs_behind ps t v)
  part_is n place v at t installs known old installed = by (is_none v.value || is_known_to_read t v) known old
    where
      us : List Version
      us = installed_by t

      change : Version → Bool
      change w = is_change (pair v w)

      step : Version → Bool
      step w = has_pair ps (pair v w)

      one : IsOneAtMost step us
      one = one_installed v.key step (λ w is. (and_parts (atom_eq v.key w.key) (not (value_eq v.value w.value)) (changes v w is)).0) (writes_of t.mops)

      only_step : (w : Version) → step w ≡ ((step w || false) && change w)
      only_step w = elim (cases_Bool (has_pair ps (pair v w))) [
        | inl is ↦ is ∙ sym (ap (λ b. (b || false) && is_change (pair v w)) is ∙ changes v w is)
        | inr none ↦ none ∙ sym (ap (λ b. (b || false) && is_change (pair v w)) none)
      ]

      by :
          (b : Bool) (known : List Follower) → followers_at vs known ≡ map (install_at place) (filter (λ (w : Version). b && is_change (pair v w)) (installed_by t))
          → followers_at vs (followed_at earlier n place known installs)
          ≡ map (install_at place) (filter (λ (w : Version). (has_pair ps (pair v w) || b) && is_change (pair v w)) (installed_by t))
      by true [] h =
          let none : filter change us ≡ [] = nothing_found place (filter change us) h in
          by_steps n place v at installs us installed one
          ∙ ap (map (install_at place)) (less_filtered change step (λ w. changes v w) us none)
          ∙ sym (ap (map (install_at place)) (same_filter (λ (w : Version). (step w || true) && change w) change (λ w. ap (λ b. b && change w) (or_true (step w))) us ∙ none))
      by true (f ∷ fs) h =
          ap (followers_at vs) (some_stay earlier n place f fs installs) ∙ h
          ∙ sym (ap (map (install_at place)) (same_filter (λ (w : Version). (step w || true) && change w) change (λ w. ap (λ b. b && change w) (or_true (step w))) us))
      by false [] h =
          by_steps n place v at installs us installed one
          ∙ ap (map (install_at place)) (same_filter step (λ (w : Version). (step w || false) && change w) only_step us)
      by false (f ∷ fs) h =
          let none : map (install_at place) (filter (λ (w : Version). false) us) ≡ [] = ap (map (install_at place)) (none_pass us) in
          absurd (cc)

  module _ (n : ℕ) (v : Version) (at : slice_get vs n ≡ Some v) (fs : List Follower) (old : followers_at vs fs ≡ map as_found (followers_of Basic ts v)) where
    known_part :
        (place : ℕ) (t : Transaction) → slice_get ts place ≡ Some t
        → followers_at vs (filter (λ (f : Follower). f.txn == place) fs) ≡ map (install_at place) (installs_behind [] t v)
    known_part place t there =
        let zero_first : 0 + place ≡ place = omega arith in
        let behind : Transaction → List Version = λ u. installs_behind [] u v in
        filter_found vs place fs
        ∙ ap (filter (λ (q : ℕ × Option Version). q.0 == place)) old
        ∙ filter_as_found place (followers_of Basic ts v)
        ∙ ap (map as_found) (subst (λ m. filter (λ (q : ℕ × Version). q.0 == m) (followers_of Basic ts v) ≡ map (with_place m) (behind t)) zero_first (part_at behind 0 place ts t there))
        ∙ map_twice place (behind t)

    all_parts :
        (place : ℕ) (us : List Transaction) (accesses : List Accessed) → ((i : ℕ) (t : Transaction) → slice_get us i ≡ Some t → slice_get ts (place + i) ≡ Some t)
        → map (versions_at vs) (map (λ (a : Accessed). a.installs) accesses) ≡ map (λ t. map Some (installed_by t)) us
        → followers_at vs (followers_by earlier n fs place accesses) ≡ map as_found (from_place (λ place t. map (λ w. (place, w)) (installs_behind ps t v)) place us)
    all_parts place [] [] there h = refl
    all_parts place [] (a ∷ accesses) there h = absurd (cc)
    all_parts place (t ∷ us) [] there h = absurd (cc)
    all_parts place (t ∷ us) (a ∷ accesses) there h =
        let here : versions_at vs a.installs ≡ map Some (installed_by t) = cc in
        let rest : map (versions_at vs) (map (λ (a : Accessed). a.installs) accesses) ≡ map (λ t. map Some (installed_by t)) us = cc in
        let same : place + 0 ≡ place = omega arith in
        let now : slice_get ts place ≡ Some t = ap (slice_get ts) (sym same) ∙ there 0 t refl in
        let known = filter (λ (f : Follower). f.txn == place) fs in
        let own = followed_at earlier n place known a.installs in
        let later = followers_by earlier n fs (place + 1) accesses in
        let new = map (with_place place) (installs_behind ps t v) in
        let others = from_place (λ place t. map (λ w. (place, w)) (installs_behind ps t v)) (place + 1) us in
        map-append (found vs) own later
        ∙ ap (λ (qs : List (ℕ × Option Version)). qs ++ followers_at vs later) (part_is n place v at t a.installs known (known_part place t now) here ∙ sym (map_twice place (installs_behind ps t v)))
        ∙ ap (λ (qs : List (ℕ × Option Version)). map as_found new ++ qs)
        (all_parts (place + 1) us accesses
        (λ i u e. let next : place + suc i ≡ place + 1 + i = omega arith in ap (slice_get ts) (sym next) ∙ there (suc i) u e)
        rest)
        ∙ sym (map-append as_found new others)

  module _ (accesses : List Accessed) (installed : map (versions_at vs) (map (λ (a : Accessed). a.installs) accesses) ≡ map (λ t. map Some (installed_by t)) ts) where
    abbrev followers_in : List Known → List (List Follower)
    followers_in rows = map (λ (r : Known). r.followers) rows

    each_row :
        (n : ℕ) (rows : List Known) (us : List Version) → ((i : ℕ) (v : Version) → slice_get us i ≡ Some v → slice_get vs (n + i) ≡ Some v)
        → map (followers_at vs) (followers_in rows) ≡ map (λ v. map as_found (followers_of Basic ts v)) us
        → map (followers_at vs) (followers_in (stepped_rows earlier accesses n rows)) ≡ map (λ v. map as_found (followers_of Sequential ts v)) us
    each_row n [] [] there h = refl
    each_row n [] (v ∷ us) there h = absurd (cc)
    each_row n (r ∷ rows) [] there h = absurd (cc)
    each_row n (r ∷ rows) (v ∷ us) there h =
        let here : followers_at vs r.followers ≡ map as_found (followers_of Basic ts v) = cc in
        let rest : map (followers_at vs) (followers_in rows) ≡ map (λ v. map as_found (followers_of Basic ts v)) us = cc in
        let same : n + 0 ≡ n = omega arith in
        let at : slice_get vs n ≡ Some v = ap (slice_get vs) (sym same) ∙ there 0 v refl in
        let first : followers_at vs (followers_by earlier n r.followers 0 accesses) ≡ map as_found (followers_of Sequential ts v) =
        all_parts n v at r.followers here 0 ts accesses (λ i t e. let first : i ≡ 0 + i = omega arith in ap (slice_get ts) (sym first) ∙ e) installed in
        ap (λ (qs : List (ℕ × Option Version)). qs ∷ map (followers_at vs) (followers_in (stepped_rows earlier accesses (n + 1) rows))) first
        ∙ ap (λ (qss : List (List (ℕ × Option Version))). map as_found (followers_of Sequential ts v) ∷ qss)
        (each_row (n + 1) rows us (λ i u e. let next : n + suc i ≡ n + 1 + i = omega arith in ap (slice_get vs) (sym next) ∙ there (suc i) u e) rest)

-- ---- steps are of versions that have a number

module _ (vs : List Version) (steps : List (ℕ × ℕ)) (ps : List VersionPair) (are : AreStepsAs vs ps steps) where
  step_in_range : (s : ℕ × ℕ) → In s steps → (s.0 < length vs) × (s.1 < length vs)
  step_in_range s i = each steps ps are i
    where
      each : (all : List (ℕ × ℕ)) (ps : List VersionPair) → map (step_at vs) all ≡ map as_step ps → In s all → (s.0 < length vs) × (s.1 < length vs)
      each [] ps h i = elim i [ ]
      each (r ∷ all) [] h i = absurd (cc)
      each (r ∷ all) (p ∷ ps) h (inl e) =
          let both : step_at vs r ≡ as_step p = cc in
          subst (λ (q : ℕ × ℕ). (q.0 < length vs) × (q.1 < length vs)) e (
            slice_get_within vs r.0 p.later (ap (λ (q : Option Version × Option Version). q.0) both),
            slice_get_within vs r.1 p.earlier (ap (λ (q : Option Version × Option Version). q.1) both),
          )
      each (r ∷ all) (p ∷ ps) h (inr i) =
          let rest : map (step_at vs) all ≡ map as_step ps = cc in
          each all ps rest i

  pub steps_numbered : All (IsNumbered (length vs)) steps
  steps_numbered = all_in (IsNumbered (length vs)) steps (λ s i. (step_in_range s i).0)

  in_a_group : (k : ℕ) (x : ℕ) (all : List (ℕ × ℕ)) → In x (group k all) → (s : ℕ × ℕ) × In s all × (s.1 ≡ x)
  in_a_group k x [] i = elim i [ ]
  in_a_group k x (s ∷ all) i = by (s.0 == k) (in_a_group k x all) i
    where
      by : (b : Bool) → (In x (group k all) → (s : ℕ × ℕ) × In s all × (s.1 ≡ x)) → In x (cond b (s.1 ∷ group k all) (group k all)) → (r : ℕ × ℕ) × In r (s ∷ all) × (r.1 ≡ x)
      by true rest (inl e) = (s, inl refl, e)
      by true rest (inr j) = let (r, there, is) = rest j in (r, inr there, is)
      by false rest j = let (r, there, is) = rest j in (r, inr there, is)

  pub groups_below : (first many : ℕ) → All (AreBelow (length vs)) (groups_from first many steps)
  groups_below first many = all_in (AreBelow (length vs)) (groups_from first many steps) (each first many)
    where
      each : (first many : ℕ) (es : List ℕ) → In es (groups_from first many steps) → AreBelow (length vs) es
      each first zero es i = elim i [ ]
      each first (suc many) es (inl is) =
          subst (AreBelow (length vs)) is
          (all_in (λ (e : ℕ). e < length vs) (group first steps) (λ e i.
          let (s, there, same) = in_a_group first e steps i in
          subst (λ m. m < length vs) same (step_in_range s there).1))
      each first (suc many) es (inr i) = each (first + 1) many es i

-- ---- the table

writers-stepped : (earlier : List (List ℕ)) (accesses : List Accessed) (n : ℕ) (rows : List Known) → map (λ (r : Known). r.writer) (stepped_rows earlier accesses n rows) ≡ map (λ (r : Known). r.writer) rows
writers-stepped earlier accesses n [] = refl
writers-stepped earlier accesses n (r ∷ rows) = ap (λ (ws : List (Option Writer)). r.writer ∷ ws) (writers-stepped earlier accesses (n + 1) rows)

readers-stepped : (earlier : List (List ℕ)) (accesses : List Accessed) (n : ℕ) (rows : List Known) → map (λ (r : Known). r.readers) (stepped_rows earlier accesses n rows) ≡ map (λ (r : Known). r.readers) rows
readers-stepped earlier accesses n [] = refl
readers-stepped earlier accesses n (r ∷ rows) = ap (λ (ws : List (List ℕ)). r.readers ∷ ws) (readers-stepped earlier accesses (n + 1) rows)

pub sequenced :
    (ts : List Transaction) (vs : List Version) (rows : List Known) (accesses : List Accessed) (steps : List (ℕ × ℕ))
    → IsTableOf Basic ts (table_by vs rows accesses) → AreStepsAs vs (process_pairs Sequential ts) steps
    → IsTableOf Sequential ts (table_by vs (stepped_rows (groups_from 0 (length vs) steps) accesses 0 rows) accesses)
sequenced ts vs rows accesses steps is are =
    let earlier = groups_from 0 (length vs) steps in
    record {
      distinct = is.distinct;
      named = is.named;
      writers = writers-stepped earlier accesses 0 rows ∙ is.writers;
      readers = readers-stepped earlier accesses 0 rows ∙ is.readers;
      followers =
          each_row ts vs is.distinct steps are accesses is.installs 0 rows vs (λ i v e. let first : i ≡ 0 + i = omega arith in ap (slice_get vs) (sym first) ∙ e) is.followers;
      reads = is.reads;
      installs = is.installs;
    }

-- ---- what is in range of the table

module _ (given : List Version) (ts : List Transaction) (vs : List Version) (rows : List Known) (accesses : List Accessed) (is : IsTableBeside given ts (table_by vs rows accesses)) where
  count : length accesses ≡ length ts
  count =
      sym (length-map accesses (λ (a : Accessed). a.installs)) ∙ sym (length-map (map (λ (a : Accessed). a.installs) accesses) (versions_at vs)) ∙ ap length is.installs
      ∙ length-map ts (λ t. map Some (installed_by t))

  up_to_in : (v : Version) (fs : List Follower) → followers_at vs fs ≡ map as_found (followers_of Basic ts v) → All (λ (f : Follower). f.txn ≤ length accesses) fs
  up_to_in v fs told =
      all_in (λ (f : Follower). f.txn ≤ length accesses) fs (λ f i.
      let there : In (f.txn, slice_get vs f.version) (map as_found (followers_of Basic ts v)) = subst (In (f.txn, slice_get vs f.version)) told (in_mapped (found vs) f fs i) in
      let (q, among, same) = in_map as_found (f.txn, slice_get vs f.version) (followers_of Basic ts v) there in
      let (j, t, at, own) = from_some_place (λ place t. map (λ w. (place, w)) (installs_behind [] t v)) 0 ts q among in
      let (w, behind, own_is) = in_map (λ (w : Version). (0 + j, w)) q (installs_behind [] t v) own in
      let below : j < length ts = slice_get_within ts j t at in
      let first : 0 + j ≡ q.0 = ap (λ (p : ℕ × Version). p.0) own_is in
      let second : q.0 ≡ f.txn = ap (λ (p : ℕ × Option Version). p.0) same in
      let many = count in
      omega (arith, below, first, second, many))

  pub rows_up_to : All (FollowersAreUpTo (length accesses)) rows
  rows_up_to = all_in (FollowersAreUpTo (length accesses)) rows (λ row i. each rows vs is.followers row i)
    where
      each :
          (rows : List Known) (us : List Version) → map (followers_at vs) (map (λ (r : Known). r.followers) rows) ≡ map (λ v. map as_found (followers_of Basic ts v)) us
          → (row : Known) → In row rows → FollowersAreUpTo (length accesses) row
      each [] us h row i = elim i [ ]
      each (r ∷ rows) [] h row i = absurd (cc)
      each (r ∷ rows) (v ∷ us) h row (inl e) =
          let here : followers_at vs r.followers ≡ map as_found (followers_of Basic ts v) = cc in
          subst (FollowersAreUpTo (length accesses)) e (up_to_in v r.followers here)
      each (r ∷ rows) (v ∷ us) h row (inr i) =
          let rest : map (followers_at vs) (map (λ (r : Known). r.followers) rows) ≡ map (λ v. map as_found (followers_of Basic ts v)) us = cc in
          each rows us rest row i

  numbers_below : (ns : List ℕ) (us : List Version) → versions_at vs ns ≡ map Some us → AreBelow (length vs) ns
  numbers_below ns us h = all_in (λ (n : ℕ). n < length vs) ns (each ns us h)
    where
      each : (ns : List ℕ) (us : List Version) → versions_at vs ns ≡ map Some us → (n : ℕ) → In n ns → n < length vs
      each [] us h n i = elim i [ ]
      each (m ∷ ns) [] h n i = absurd (cc)
      each (m ∷ ns) (u ∷ us) h n (inl e) =
          let here : slice_get vs m ≡ Some u = cc in
          subst (λ k. k < length vs) e (slice_get_within vs m u here)
      each (m ∷ ns) (u ∷ us) h n (inr i) =
          let rest : versions_at vs ns ≡ map Some us = cc in
          each ns us rest n i

  pub installs_below : All (InstallsAreBelow (length vs)) accesses
  installs_below = all_in (InstallsAreBelow (length vs)) accesses (each accesses ts is.installs)
    where
      each :
          (accesses : List Accessed) (us : List Transaction) → map (versions_at vs) (map (λ (a : Accessed). a.installs) accesses) ≡ map (λ t. map Some (installed_by t)) us
          → (a : Accessed) → In a accesses → InstallsAreBelow (length vs) a
      each [] us h a i = elim i [ ]
      each (b ∷ accesses) [] h a i = absurd (cc)
      each (b ∷ accesses) (u ∷ us) h a (inl e) =
          let here : versions_at vs b.installs ≡ map Some (installed_by u) = cc in
          subst (InstallsAreBelow (length vs)) e (numbers_below b.installs (installed_by u) here)
      each (b ∷ accesses) (u ∷ us) h a (inr i) =
          let rest : map (versions_at vs) (map (λ (a : Accessed). a.installs) accesses) ≡ map (λ t. map Some (installed_by t)) us = cc in
          each accesses us rest a i
