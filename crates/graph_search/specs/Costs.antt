-- Walks by their cost, where some arcs are free and others are paid.
--
-- A walk costs as much as it has paid arcs; an arc that is both may be taken as either. Numbers bound
-- cheap walks if none of these ends in a vertex that is below the number of the one where it began.
-- Whoever looks for a cheap walk to a vertex then needs to enter none whose number is above it.
use Rattle.std.specs.Prelude.{◌≡◌, ℕ, suc, ◌<◌, ◌≤◌, ◌⊎◌, List, [], ◌∷◌, length, slice_index, nat_le, IsTrue, Option, Some, None}
use Rattle.graph_search.specs.Graphs.{VertexSet}

-- a vertex leads by these others to the last one, along free arcs and at most n paid ones
abbrev pub LeadsWithin :
    (Free Paid : ℕ → ℕ → Type 0) → (most from : ℕ) → (rest : List ℕ) → (to : ℕ) → Type 0
LeadsWithin Free Paid most from [] to = from ≡ to
LeadsWithin Free Paid most from (v ∷ rest) to =
    (Free from v × LeadsWithin Free Paid most v rest to)
    ⊎ ((fewer : ℕ) × (most ≡ suc fewer) × Paid from v × LeadsWithin Free Paid fewer v rest to)

-- the vertices of a walk that costs at most so much
pub record IsWalkWithin (Free Paid : ℕ → ℕ → Type 0) (most from to : ℕ)
    (walk : List ℕ) : Type 0 where
  pub rest : List ℕ
  pub vertices : walk ≡ from ∷ rest
  pub leads : LeadsWithin Free Paid most from rest to

-- a walk that costs at most so much, from a vertex to another one that is a target; or nothing where
-- there is no such walk
abbrev pub IsWalkToTargetIfAny :
    (Free Paid : ℕ → ℕ → Type 0)
    → (targets : VertexSet)
    → (most from : ℕ)
    → Option (List ℕ)
    → Type 0
IsWalkToTargetIfAny Free Paid targets most from None =
    (to : ℕ)
    → IsTrue (targets.has to)
    → ¬ (from ≡ to)
    → (rest : List ℕ)
    → ¬ LeadsWithin Free Paid most from rest to
IsWalkToTargetIfAny Free Paid targets most from (Some walk) =
    (to : ℕ) × IsTrue (targets.has to) × ¬ (from ≡ to) × IsWalkWithin Free Paid most from to walk

-- a number for each vertex, such that no walk which costs at most so much and ends in a vertex below
-- `places` ends in one below the number of where it began
abbrev pub BoundsWalks :
    (Free Paid : ℕ → ℕ → Type 0) → (places most : ℕ) → (numbers : List ℕ) → Type 0
BoundsWalks Free Paid places most numbers =
    (from to : ℕ)
    → to < places
    → (rest : List ℕ)
    → LeadsWithin Free Paid most from rest to
    → slice_index numbers from ≤ to

-- numbers of vertices, and the walks that they bound
pub record Labelling : Type 0 where
  pub numbers : List ℕ
  pub places : ℕ
  pub most : ℕ

-- numbers of vertices of which none is above another one of the same vertex
abbrev pub NoneAbove : (numbers limits : List ℕ) → Type 0
NoneAbove numbers limits = (v : ℕ) → slice_index numbers v ≤ slice_index limits v

-- the vertices whose number isn't above a limit
abbrev pub not_above : (numbers : List ℕ) → (top : ℕ) → VertexSet
not_above numbers top =
    record { count = length numbers; has = λ v. nat_le (slice_index numbers v) top }
