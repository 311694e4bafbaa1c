-- Walks by their cost.
use Rattle.std.proofs.Common.{◌≡◌, ℕ, ◌+◌, ◌-◌, ◌<◌, ◌≤◌, ◌⊎◌, List, [], ◌∷◌, length, get_or, suc, zero, subst, sym, ap, refl, ◌∙◌, inl, inr, arith}
use Rattle.std.proofs.lemmas.Bool.{eq-eqb, eqb-true}
use Rattle.std.specs.Prelude.{Option, Some, None}
use Rattle.graph_search.specs.Costs.{LeadsWithin, IsWalkToTargetIfAny}
use Rattle.graph_search.specs.Graphs.{IsWalk, IsWalkIfAny, single}

-- what costs at most so much costs at most more
pub more : (Free Paid : ℕ → ℕ → Type 0) (most most' from to : ℕ) (rest : List ℕ) → most ≤ most' → LeadsWithin Free Paid most from rest to
    → LeadsWithin Free Paid most' from rest to
more Free Paid most most' from to [] le is = is
more Free Paid most most' from to (v ∷ rest) le is =
    elim is [
      | inl h ↦ inl (h.0, more Free Paid most most' v to rest le h.1)
      | inr h ↦
          let one : most ≡ suc h.0 = h.1 in
          inr (most' - 1, omega (arith, one, le), h.2, more Free Paid h.0 (most' - 1) v to rest (omega (arith, one, le)) h.3)
    ]

-- arcs that are others too
pub along : (Free Paid Free' Paid' : ℕ → ℕ → Type 0) (most from to : ℕ) (rest : List ℕ) → ((v w : ℕ) → Free v w → Free' v w) → ((v w : ℕ) → Paid v w → Paid' v w)
    → LeadsWithin Free Paid most from rest to → LeadsWithin Free' Paid' most from rest to
along Free Paid Free' Paid' most from to [] free paid is = is
along Free Paid Free' Paid' most from to (v ∷ rest) free paid is =
    elim is [
      | inl h ↦ inl (free from v h.0, along Free Paid Free' Paid' most v to rest free paid h.1)
      | inr h ↦ inr (h.0, h.1, paid from v h.2, along Free Paid Free' Paid' h.0 v to rest free paid h.3)
    ]

-- a walk as its first vertex and the others

pub record HasRest (from : ℕ) (walk : List ℕ) : Type 0 where
  pub rest : List ℕ
  pub vertices : walk ≡ from ∷ rest

pub rest_of : (Leads : ℕ → ℕ → Type 0) (from to : ℕ) (walk : List ℕ) → IsWalk Leads from to walk → HasRest from walk
rest_of Leads from to [] is = absurd (omega (arith, is.some))
rest_of Leads from to (v ∷ rest) is = record { rest = rest; vertices = ap (λ u. u ∷ rest) is.begins }

-- a walk from its second vertex on
pub tail : (Leads : ℕ → ℕ → Type 0) (v w to : ℕ) (rest : List ℕ) → IsWalk Leads v to (v ∷ w ∷ rest) → IsWalk Leads w to (w ∷ rest)
tail Leads v w to rest is = record {
  some = omega arith;
  begins = refl;
  ends =
      let e : length (v ∷ w ∷ rest) - 1 ≡ suc (length (w ∷ rest) - 1) = omega arith in
      ap (λ k. get_or (v ∷ w ∷ rest) k 0) (sym e) ∙ is.ends;
  joined = λ k h.
      let e : k + 1 ≡ suc k = omega arith in
      let e' : k + 1 + 1 ≡ suc (k + 1) = omega arith in
      let step : Leads (get_or (v ∷ w ∷ rest) (k + 1) 0) (get_or (v ∷ w ∷ rest) (k + 1 + 1) 0) = is.joined (k + 1) (omega (arith, h)) in
      subst (λ i. Leads (get_or (v ∷ w ∷ rest) i 0) (get_or (v ∷ w ∷ rest) (suc (k + 1)) 0)) e
      (subst (λ i. Leads (get_or (v ∷ w ∷ rest) (k + 1) 0) (get_or (v ∷ w ∷ rest) i 0)) e' step);
}

pub head : (Leads : ℕ → ℕ → Type 0) (v w to : ℕ) (rest : List ℕ) → IsWalk Leads v to (v ∷ w ∷ rest) → Leads v w
head Leads v w to rest is =
    let e : 0 + 1 ≡ suc zero = omega arith in
    let step : Leads v (get_or (v ∷ w ∷ rest) (0 + 1) 0) = is.joined 0 (omega arith) in
    subst (λ i. Leads v (get_or (v ∷ w ∷ rest) i 0)) e step

-- a walk along free arcs costs nothing

pub free_leads : (Free Paid : ℕ → ℕ → Type 0) (from to : ℕ) (rest : List ℕ) → IsWalk Free from to (from ∷ rest) → LeadsWithin Free Paid 0 from rest to
free_leads Free Paid from to [] is = is.ends
free_leads Free Paid from to (v ∷ rest) is = inl (head Free from v to rest is, free_leads Free Paid v to rest (tail Free from v to rest is))

joined : (Leads : ℕ → ℕ → Type 0) (v w to : ℕ) (rest : List ℕ) → Leads v w → IsWalk Leads w to (w ∷ rest)
    → (k : ℕ) → k + 1 < length (v ∷ w ∷ rest) → Leads (get_or (v ∷ w ∷ rest) k 0) (get_or (v ∷ w ∷ rest) (k + 1) 0)
joined Leads v w to rest leads is zero h =
    let e : suc zero ≡ 0 + 1 = omega arith in
    subst (λ i. Leads v (get_or (v ∷ w ∷ rest) i 0)) e leads
joined Leads v w to rest leads is (suc k) h =
    let e : suc (k + 1) ≡ suc k + 1 = omega arith in
    subst (λ i. Leads (get_or (w ∷ rest) k 0) (get_or (v ∷ w ∷ rest) i 0)) e (is.joined k (omega (arith, h)))

pub cons : (Leads : ℕ → ℕ → Type 0) (v w to : ℕ) (rest : List ℕ) → Leads v w → IsWalk Leads w to (w ∷ rest) → IsWalk Leads v to (v ∷ w ∷ rest)
cons Leads v w to rest leads is = record {
  some = omega arith;
  begins = refl;
  ends =
      let e : length (v ∷ w ∷ rest) - 1 ≡ suc (length (w ∷ rest) - 1) = omega arith in
      ap (λ k. get_or (v ∷ w ∷ rest) k 0) e ∙ is.ends;
  joined = joined Leads v w to rest leads is;
}

pub leads_free : (Free Paid : ℕ → ℕ → Type 0) (from to : ℕ) (rest : List ℕ) → LeadsWithin Free Paid 0 from rest to → IsWalk Free from to (from ∷ rest)
leads_free Free Paid from to [] is =
    record { some = omega arith; begins = refl; ends = is; joined = λ k h. absurd (omega (arith, h)) }
leads_free Free Paid from to (v ∷ rest) is =
    elim is [
      | inl h ↦ cons Free from v to rest h.0 (leads_free Free Paid v to rest h.1)
      | inr h ↦
          let one : 0 ≡ suc h.0 = h.1 in
          absurd (omega (arith, one))
    ]

pub walk_to_single : (Leads : ℕ → ℕ → Type 0) (count from to : ℕ) (found : Option (List ℕ)) → (from ≡ to → ⊥)
    → IsWalkToTargetIfAny Leads Leads (single count to) 0 from found → IsWalkIfAny Leads from to found
walk_to_single Leads count from to None other none = λ walk is.
    let split : HasRest from walk = rest_of Leads from to walk is in
    none to (eq-eqb to to refl) other split.rest (free_leads Leads Leads from to split.rest (subst (λ w. IsWalk Leads from to w) split.vertices is))
walk_to_single Leads count from to (Some walk) other found =
    let (to', target, other', is) = found in
    let same : to' ≡ to = eqb-true to' to target in
    subst (λ v. IsWalk Leads from v walk) same
    (subst (λ w. IsWalk Leads from to' w) (sym is.vertices) (leads_free Leads Leads from to' is.rest is.leads))

-- vertices have costs that rise along the steps of a walk, where these are no free arcs

pub record Costs (Free Paid : ℕ → ℕ → Type 0) (costs : ℕ → ℕ) (from to : ℕ) (rest : List ℕ) : Type 0 where
  pub cost : ℕ
  pub below : cost + costs from ≤ costs to
  pub leads : LeadsWithin Free Paid cost from rest to

pub costs : (Free Paid Step : ℕ → ℕ → Type 0) (costs' : ℕ → ℕ)
    → ((v w : ℕ) → Step v w → (Free v w × (costs' v ≤ costs' w)) ⊎ (Paid v w × (costs' v < costs' w)))
    → (from to : ℕ) (rest : List ℕ) → IsWalk Step from to (from ∷ rest) → Costs Free Paid costs' from to rest
costs Free Paid Step costs' rising from to [] is =
    let same : from ≡ to = is.ends in
    record { cost = 0; below = omega (arith, ap costs' same); leads = same }
costs Free Paid Step costs' rising from to (v ∷ rest) is =
    let on : Costs Free Paid costs' v to rest = costs Free Paid Step costs' rising v to rest (tail Step from v to rest is) in
    elim (rising from v (head Step from v to rest is)) [
      | inl h ↦
          let up : costs' from ≤ costs' v = h.1 in
          record { cost = on.cost; below = omega (arith, up, on.below); leads = inl (h.0, on.leads) }
      | inr h ↦
          let up : costs' from < costs' v = h.1 in
          record { cost = suc on.cost; below = omega (arith, up, on.below); leads = inr (on.cost, refl, h.0, on.leads) }
    ]
