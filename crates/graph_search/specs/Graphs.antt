-- Directed graphs, walks in them, and ranks of their vertices.
--
-- The vertices of a graph are the numbers below its count. A walk is a list of vertices, at least
-- one, each of which leads to the next; a vertex alone is a walk from itself to itself. Ranks are
-- numbers that don't fall along any arc, as those of the strongly connected components in a
-- topological order.
use Rattle.std.specs.Prelude.{◌≡◌, ℕ, ◌+◌, ◌-◌, ◌<◌, ◌≤◌, List, length, slice_index, Contains, Bool, ◌==◌, IsTrue, Option, Some, None}

pub record Graph : Type 0 where
  pub count : ℕ
  pub successors : ℕ → List ℕ

-- what one vertex leads to, in a graph with n vertices
pub record Leaving : Type 0 where
  pub count : ℕ
  pub to : List ℕ

-- an arc from one vertex to another
abbrev pub HasArc : Graph → ℕ → ℕ → Type 0
HasArc g v w = (v < g.count) × Contains (g.successors v) w

-- some of the vertices below a count
pub record VertexSet : Type 0 where
  pub count : ℕ
  pub has : ℕ → Bool

-- the vertices of one rank
abbrev pub of_rank : List ℕ → ℕ → VertexSet
of_rank ranks rank = record { count = length ranks; has = λ v. slice_index ranks v == rank }

-- one of the vertices below a count
abbrev pub single : (count vertex : ℕ) → VertexSet
single count vertex = record { count = count; has = λ v. v == vertex }

-- an arc into a set of vertices
abbrev pub HasArcInto : Graph → VertexSet → ℕ → ℕ → Type 0
HasArcInto g set v w = HasArc g v w × IsTrue (set.has w)

-- a walk, where some vertices lead to others
pub record IsWalk (Leads : ℕ → ℕ → Type 0) (from to : ℕ) (walk : List ℕ) : Type 0 where
  pub some : 0 < length walk
  pub begins : slice_index walk 0 ≡ from
  pub ends : slice_index walk (length walk - 1) ≡ to
  pub joined : (k : ℕ) → k + 1 < length walk → Leads (slice_index walk k) (slice_index walk (k + 1))

-- a walk, or nothing where there is no walk
abbrev pub IsWalkIfAny : (ℕ → ℕ → Type 0) → ℕ → ℕ → Option (List ℕ) → Type 0
IsWalkIfAny Leads from to None = (walk : List ℕ) → ¬ IsWalk Leads from to walk
IsWalkIfAny Leads from to (Some walk) = IsWalk Leads from to walk

-- a vertex leads to none whose number is below another one
abbrev pub NoneBelow : Graph → (numbers : List ℕ) → (vertex least : ℕ) → Type 0
NoneBelow g numbers v least = (w : ℕ) → HasArc g v w → least ≤ slice_index numbers w

-- along no arc it falls from one list of numbers to another one
abbrev pub NeverFallBetween : Graph → (before after : List ℕ) → Type 0
NeverFallBetween g before after = (v w : ℕ) → HasArc g v w → slice_index before v ≤ slice_index after w

-- each arc leaves one of these vertices
abbrev pub AllLeave : Graph → (vertices : List ℕ) → Type 0
AllLeave g vertices = (v w : ℕ) → HasArc g v w → Contains vertices v

-- a rank for each vertex, none of which falls along an arc
pub record AreRanks (g : Graph) (ranks : List ℕ) : Type 0 where
  pub one_each : length ranks ≡ g.count
  pub rising : (v w : ℕ) → HasArc g v w → slice_index ranks v ≤ slice_index ranks w
