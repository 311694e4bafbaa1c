-- The places of a path's transactions, as it goes back and on.
use Rattle.std.proofs.Common.{◌≡◌, inl, inr, ℕ, zero, suc, ◌+◌, ◌-◌, ◌<◌, ◌≤◌, List, [], ◌∷◌, ◌++◌, length, get_or, slice_index, take, true, ◌==◌, if◌then◌else◌, Option, Some, None, refl, sym, ◌∙◌, ap, subst, below_more, arith}
use Rattle.std.specs.List.{slice_set}
use Rattle.std.proofs.lemmas.Bool.{false≢true, cases_Bool, eqb-false, eq-eqb, ne_eqb}
use Rattle.std.proofs.lemmas.Option.{same_Some}
use Rattle.hist_types.specs.Edges.{process, Edge}
use Rattle.hist_types.specs.Phenomena.{is_order}
use Rattle.hist_types.specs.Witness.{stations, ends_in_order}
use Rattle.history_laws.proofs.ThinningWitnesses.{IsOff}
use Rattle.dep_edges.specs.Labels.{joined}
use Rattle.cycle_show.specs.Paths.{last_joined, path_to, HavePlaces}

-- ---- the last edge

pub ends_at_last :
    (path : List Edge) (d : Edge)
    → 0 < length path
    → ends_in_order path ≡ is_order (get_or path (length path - 1) d)
ends_at_last [] d some = absurd (omega (arith, some))
ends_at_last (e ∷ []) d some = refl
ends_at_last (e ∷ f ∷ path) d some =
    let m : length (e ∷ f ∷ path) - 1 ≡ suc (length (f ∷ path) - 1) = omega arith in
    ends_at_last (f ∷ path) d (omega arith)
    ∙ ap (λ k. is_order (get_or (e ∷ f ∷ path) k d)) (sym m)

pub last_joined_as_set :
    (path : List Edge) (next d : Edge)
    → 0 < length path
    → slice_set path (length path - 1) (joined (get_or path (length path - 1) d) next) ≡ last_joined path next
last_joined_as_set [] next d some = absurd (omega (arith, some))
last_joined_as_set (e ∷ []) next d some = refl
last_joined_as_set (e ∷ f ∷ path) next d some =
    let m : length (e ∷ f ∷ path) - 1 ≡ suc (length (f ∷ path) - 1) = omega arith in
    ap (λ k. slice_set (e ∷ f ∷ path) k (joined (get_or (e ∷ f ∷ path) k d) next)) m
    ∙ ap (λ es. e ∷ es) (last_joined_as_set (f ∷ path) next d (omega arith))

-- an empty path does not end in an order edge
pub some_edge : (path : List Edge) → ends_in_order path ≡ true → 0 < length path
some_edge [] e = absurd (false≢true e)
some_edge (f ∷ path) e = omega arith

-- ---- back to a transaction

pub path_to_off : (t : ℕ) (path : List Edge) → IsOff t (stations (path_to t path))
path_to_off t [] = tt
path_to_off t (e ∷ path) = elim (cases_Bool (e.from == t)) [
  | inl there ↦ rw there tt
  | inr further ↦
      subst (λ b. IsOff t (stations (if b then [] else e ∷ path_to t path))) (sym further)
      (ne_eqb t e.from (λ same. eqb-false e.from t further (sym same)), path_to_off t path)
]

pub place_at :
    (place_of : ℕ → Option ℕ) (n : ℕ) (path : List Edge) (k : ℕ) (d : Edge)
    → HavePlaces place_of n path
    → k < length path
    → place_of (get_or path k d).from ≡ Some (n + k)
place_at place_of n [] k d have below = absurd (omega (arith, below))
place_at place_of n (e ∷ path) zero d have below =
    let same : n ≡ n + 0 = omega arith in
    have.0 ∙ ap Some same
place_at place_of n (e ∷ path) (suc k) d have below =
    let same : (n + 1) + k ≡ n + suc k = omega arith in
    place_at place_of (n + 1) path k d have.1 (omega (arith, below)) ∙ ap Some same

-- from the place that is looked up on, the path is left out
pub path_to_place :
    (place_of : ℕ → Option ℕ) (n : ℕ) (path : List Edge) (t k : ℕ) (d : Edge)
    → HavePlaces place_of n path
    → k < length path
    → (get_or path k d).from ≡ t
    → take k path ≡ path_to t path
path_to_place place_of n [] t k d have below there = absurd (omega (arith, below))
path_to_place place_of n (e ∷ path) t zero d have below there =
    sym (ap (λ b. if b then [] else e ∷ path_to t path) (eq-eqb e.from t there))
path_to_place place_of n (e ∷ path) t (suc k) d have below there =
    let later : place_of t ≡ Some ((n + 1) + k) =
    ap place_of (sym there) ∙ place_at place_of (n + 1) path k d have.1 (omega (arith, below)) in
    let other : ¬ (e.from ≡ t) = λ same.
    let clash : n ≡ (n + 1) + k = same_Some n ((n + 1) + k) (sym have.0 ∙ ap place_of same ∙ later) in
    let none : ⊥ = omega (arith, clash) in
    none in
    ap (λ es. e ∷ es) (path_to_place place_of (n + 1) path t k d have.1 (omega (arith, below)) there)
    ∙ sym (ap (λ b. if b then [] else e ∷ path_to t path) (ne_eqb e.from t other))

-- a path without the transaction stays
pub path_to_stays :
    (t : ℕ) (path : List Edge) (d : Edge)
    → ((k : ℕ) → k < length path → ¬ ((get_or path k d).from ≡ t))
    → path ≡ path_to t path
path_to_stays t [] d none = refl
path_to_stays t (e ∷ path) d none =
    let other : ¬ (e.from ≡ t) = none 0 (omega arith) in
    ap (λ es. e ∷ es) (path_to_stays t path d (λ k below. none (suc k) (omega (arith, below))))
    ∙ sym (ap (λ b. if b then [] else e ∷ path_to t path) (ne_eqb e.from t other))

-- what is not looked up is not on the path
pub not_looked_up :
    (place_of : ℕ → Option ℕ) (path : List Edge) (t : ℕ)
    → HavePlaces place_of 0 path
    → place_of t ≡ None
    → path ≡ path_to t path
not_looked_up place_of path t have none =
    let d : Edge = record { from = 0; to = 0; label = process 0 } in
    path_to_stays t path d (λ k below there.
    let found : place_of t ≡ Some (0 + k) = ap place_of (sym there) ∙ place_at place_of 0 path k d have below in
    let clash : ⊥ = cc in
    clash)

-- nor is what is not at the place that is looked up
pub not_at_place :
    (place_of : ℕ → Option ℕ) (path : List Edge) (t place : ℕ) (d : Edge)
    → HavePlaces place_of 0 path
    → place_of t ≡ Some place
    → (place < length path → ¬ ((get_or path place d).from ≡ t))
    → path ≡ path_to t path
not_at_place place_of path t place d have found none =
    path_to_stays t path d (λ k below there.
    let looked_up : place_of t ≡ Some (0 + k) = ap place_of (sym there) ∙ place_at place_of 0 path k d have below in
    let same : place ≡ 0 + k = same_Some place (0 + k) (sym found ∙ looked_up) in
    let is : k ≡ place = omega (arith, same) in
    none (subst (λ j. j < length path) is below) (subst (λ j. (get_or path j d).from ≡ t) is there))

-- ---- places

pub places_before :
    (place_of : ℕ → Option ℕ) (n t : ℕ) (path : List Edge)
    → HavePlaces place_of n path
    → HavePlaces place_of n (path_to t path)
places_before place_of n t [] have = have
places_before place_of n t (e ∷ path) have = elim (cases_Bool (e.from == t)) [
  | inl there ↦ rw there tt
  | inr further ↦
      subst (λ b. HavePlaces place_of n (if b then [] else e ∷ path_to t path)) (sym further)
      (have.0, places_before place_of (n + 1) t path have.1)
]

pub places_joined :
    (place_of : ℕ → Option ℕ) (n : ℕ) (path : List Edge) (next : Edge)
    → HavePlaces place_of n path
    → HavePlaces place_of n (last_joined path next)
places_joined place_of n [] next have = have
places_joined place_of n (e ∷ []) next have = have
places_joined place_of n (e ∷ f ∷ path) next have = (have.0, places_joined place_of (n + 1) (f ∷ path) next have.1)

-- one more edge at the end, whose first end is new, is given its place
pub places_pushed :
    (before after : ℕ → Option ℕ) (n : ℕ) (path : List Edge) (next : Edge)
    → HavePlaces before n path
    → IsOff next.from (stations path)
    → after next.from ≡ Some (n + length path)
    → ((q : ℕ) → ¬ (q ≡ next.from) → after q ≡ before q)
    → HavePlaces after n (path ++ next ∷ [])
places_pushed before after n [] next have off at others =
    let same : n + 0 ≡ n = omega arith in
    (at ∙ ap Some same, tt)
places_pushed before after n (e ∷ path) next have off at others =
    let further : n + length (e ∷ path) ≡ (n + 1) + length path = omega arith in (
      others e.from (λ same. eqb-false next.from e.from off.0 (sym same)) ∙ have.0,
      places_pushed before after (n + 1) path next have.1 off.1 (at ∙ ap Some further) others,
    )

pub places_alike :
    (before after : ℕ → Option ℕ) (n : ℕ) (path : List Edge)
    → HavePlaces before n path
    → ((q : ℕ) → after q ≡ before q)
    → HavePlaces after n path
places_alike before after n [] have same = have
places_alike before after n (e ∷ path) have same =
    (same e.from ∙ have.0, places_alike before after (n + 1) path have.1 same)

-- ---- the edge that begins first

pub station_at :
    (path : List Edge) (k : ℕ) (d : Edge)
    → k < length path
    → slice_index (stations path) k ≡ (get_or path k d).from
station_at [] k d below = absurd (omega (arith, below))
station_at (e ∷ path) zero d below = refl
station_at (e ∷ path) (suc k) d below = station_at path k d (omega (arith, below))

-- the least number so far, with the next one
pub least_next :
    (ns : List ℕ) (least place : ℕ)
    → ((k : ℕ) → k < place → slice_index ns least ≤ slice_index ns k)
    → slice_index ns place < slice_index ns least
    → (k : ℕ)
    → k < place + 1
    → slice_index ns place ≤ slice_index ns k
least_next ns least place so_far less =
    below_more (λ k. slice_index ns place ≤ slice_index ns k) place (λ k below. let before : slice_index ns least ≤ slice_index ns k = so_far k below in omega (arith, less)) (omega arith)

pub least_still :
    (ns : List ℕ) (least place : ℕ)
    → ((k : ℕ) → k < place → slice_index ns least ≤ slice_index ns k)
    → slice_index ns least ≤ slice_index ns place
    → (k : ℕ)
    → k < place + 1
    → slice_index ns least ≤ slice_index ns k
least_still ns least place so_far here = below_more (λ k. slice_index ns least ≤ slice_index ns k) place so_far here
