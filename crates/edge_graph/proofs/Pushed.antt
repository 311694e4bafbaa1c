-- A place that is added to the list of each predecessor.
use Rattle.std.proofs.Common.{◌≡◌, ◌∙◌, ◌<◌, ◌+◌, inl, inr, ℕ, List, [], ◌∷◌, ◌++◌, ◌||◌, ◌==◌, Bool, true, false, length, get_or, take, map, nat_eq, if◌then◌else◌, ap, sym, arith}
use Rattle.std.proofs.Math.Bool.{or-false}
use Rattle.std.proofs.lemmas.Bool.Decides.{eqb_tells}
use Rattle.std.proofs.lemmas.List.{append-nil, length-take-le, length-map, get_or-take, get_or-map}
use Rattle.std.proofs.lemmas.List.Folds.{list_any_more, list_any_none}
use Rattle.std.proofs.lemmas.Map.Keys.{apart_from_distinct}
use Rattle.order_frontier.specs.declared.types.Predecessor.{Predecessor}
use Rattle.edge_graph.specs.Successors.{place_of, HaveOwnPlaces, has_place, list_at}

abbrev if_has : Bool → ℕ → List ℕ
if_has b place = if b then place ∷ [] else []

module _ (places : List ℕ) (ps : List Predecessor) (i : ℕ) (p : Predecessor) (within : i < length ps) (is : p ≡ get_or ps i p) (apart : HaveOwnPlaces places ps) where
  added : (first : ℕ) → has_place places (take (i + 1) ps) first ≡ (has_place places (take i ps) first || (place_of places p == first))
  added first =
      list_any_more (λ q. place_of places q == first) ps i p within
      ∙ ap (λ (q : Predecessor). has_place places (take i ps) first || (place_of places q == first)) (sym is)

  -- none of those before it has its place
  new_place : has_place places (take i ps) (place_of places p) ≡ false
  new_place =
      list_any_none (λ q. place_of places q == place_of places p) (take i ps) (λ k d h.
      let low : k < i = omega (arith, h, length-take-le i ps (omega arith)) in
      let e = length-map ps (place_of places) in
      let differ : (get_or (map (place_of places) ps) k (place_of places p) == get_or (map (place_of places) ps) i (place_of places p)) ≡ false =
      apart_from_distinct nat_eq (map (place_of places) ps) k i (place_of places p) apart low (omega (arith, e)) in
      ap (λ (q : Predecessor). place_of places q == place_of places p) (get_or-take i ps k d low)
      ∙ ap (λ n. n == place_of places p) (sym (get_or-map (place_of places) ps k d (place_of places p) (omega arith)))
      ∙ ap (λ n. get_or (map (place_of places) ps) k (place_of places p) == n)
      (ap (place_of places) is ∙ sym (get_or-map (place_of places) ps i p (place_of places p) within))
      ∙ differ)

  pub next_pushed :
      (place n : ℕ) (before lists more : List (List ℕ))
      → list_at more (place_of places p) ≡ list_at lists (place_of places p) ++ place ∷ []
      → ((first : ℕ) → first < n → (place_of places p == first) ≡ false → list_at more first ≡ list_at lists first)
      → ((first : ℕ) → first < n → list_at lists first ≡ list_at before first ++ if_has (has_place places (take i ps) first) place)
      → (first : ℕ)
      → first < n
      → list_at more first ≡ list_at before first ++ if_has (has_place places (take (i + 1) ps) first) place
  next_pushed place n before lists more here elsewhere so_far first h =
      elim (eqb_tells (place_of places p) first) [
        | inl same ↦
            let one : place_of places p ≡ first = same.1 in
            let none : has_place places (take i ps) first ≡ false = ap (has_place places (take i ps)) (sym one) ∙ new_place in
            let now : has_place places (take (i + 1) ps) first ≡ true =
            added first ∙ ap (λ b. b || (place_of places p == first)) none ∙ same.0 in
            ap (list_at more) (sym one) ∙ here
            ∙ ap (λ xs. xs ++ place ∷ [])
            (ap (list_at lists) one ∙ so_far first h ∙ ap (λ b. list_at before first ++ if_has b place) none ∙ append-nil (list_at before first))
            ∙ ap (λ b. list_at before first ++ if_has b place) (sym now)
        | inr other ↦
            let now : has_place places (take (i + 1) ps) first ≡ has_place places (take i ps) first =
            added first ∙ ap (λ b. has_place places (take i ps) first || b) other.0 ∙ or-false (has_place places (take i ps) first) in
            elsewhere first h other.0 ∙ so_far first h ∙ ap (λ b. list_at before first ++ if_has b place) (sym now)
      ]
