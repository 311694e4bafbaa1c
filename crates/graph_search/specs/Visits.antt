-- What a breadth-first search has come to: a queue of the vertices that it reached, and a mark on
-- each of them.
use Rattle.std.specs.Prelude.{◌≡◌, ℕ, ◌+◌, ◌-◌, ◌<◌, ◌≤◌, ◌⊎◌, List, length, slice_index_or, Bool, true, false, not, count_by, IsTrue}
use Rattle.std.specs.Bool.{OnFalse, OnTrue}
use Rattle.graph_search.specs.Graphs.{VertexSet}
use Rattle.graph_search.specs.declared.breadth_first.Visit.{Visit}

-- the vertex at a place in the queue
abbrev pub vertex_at : List Visit → ℕ → ℕ
vertex_at queue k = (slice_index_or queue k (record { vertex = 0; parent = 0 })).vertex

-- the place of the vertex that it was reached from
abbrev pub parent_at : List Visit → ℕ → ℕ
parent_at queue k = (slice_index_or queue k (record { vertex = 0; parent = 0 })).parent

abbrev pub IsMarked : List Bool → ℕ → Type 0
IsMarked marks v = slice_index_or marks v false ≡ true

-- each vertex of the queue but the first was reached from an earlier one, and the marked vertices
-- are those of the queue
pub record AreReached (marks : List Bool) (queue : List Visit) : Type 0 where
  pub some : 0 < length queue
  pub earlier : (k : ℕ) → 0 < k → k < length queue → parent_at queue k < k
  pub marked : (k : ℕ) → k < length queue → IsMarked marks (vertex_at queue k)
  pub queued : (v : ℕ) → IsMarked marks v → (k : ℕ) × (k < length queue) × (vertex_at queue k ≡ v)
  pub unmarked : count_by not marks + length queue ≡ length marks

-- one search goes on from another: nothing that was marked or queued is lost, and each vertex that
-- is new was reached by an arc from one whose place in the queue is below a limit
pub record Extends (Leads : ℕ → ℕ → Type 0) (limit : ℕ) (marks : List Bool) (queue : List Visit)
    (marks' : List Bool) (queue' : List Visit) : Type 0 where
  pub count : length marks' ≡ length marks
  pub marked : (v : ℕ) → IsMarked marks v → IsMarked marks' v
  pub longer : length queue ≤ length queue'
  pub same : (k : ℕ) → k < length queue → vertex_at queue' k ≡ vertex_at queue k
  pub parents : (k : ℕ) → k < length queue → parent_at queue' k ≡ parent_at queue k
  pub new :
      (k : ℕ) → length queue ≤ k → k < length queue' → ¬ IsMarked marks (vertex_at queue' k)
  pub led :
      (k : ℕ)
      → length queue ≤ k
      → k < length queue'
      → Leads (vertex_at queue' (parent_at queue' k)) (vertex_at queue' k)
  pub from : (k : ℕ) → length queue ≤ k → k < length queue' → parent_at queue' k < limit

-- the last vertex of the queue is new, and in a set
abbrev pub EndsIn : VertexSet → (queue queue' : List Visit) → Type 0
EndsIn set queue queue' =
    (length queue < length queue') × IsTrue (set.has (vertex_at queue' (length queue' - 1)))

-- the last vertex of the queue is in a set, and isn't the first one
abbrev pub EndsInOther : VertexSet → List Visit → Type 0
EndsInOther set queue =
    IsTrue (set.has (vertex_at queue (length queue - 1)))
    × ¬ (vertex_at queue 0 ≡ vertex_at queue (length queue - 1))

-- no vertex from a place of the queue on is in a set
abbrev pub HasNoneOf : VertexSet → (place : ℕ) → List Visit → Type 0
HasNoneOf set place queue =
    (k : ℕ) → place ≤ k → k < length queue → ¬ IsTrue (set.has (vertex_at queue k))

-- one search goes on from another until it found a new vertex that is a target, or has none to find
pub record GoesOn (Leads : ℕ → ℕ → Type 0) (targets : VertexSet) (limit : ℕ) (marks : List Bool)
    (queue : List Visit) (marks' : List Bool) (queue' : List Visit) (stopped : Bool) : Type 0 where
  pub reached : AreReached marks' queue'
  pub extends : Extends Leads limit marks queue marks' queue'
  pub found : OnTrue stopped (EndsIn targets queue queue')
  pub unfound : OnFalse stopped (HasNoneOf targets (length queue) queue')

-- all that a vertex leads to is marked
abbrev pub IsOpened : (Leads : ℕ → ℕ → Type 0) → List Bool → ℕ → Type 0
IsOpened Leads marks v = (w : ℕ) → Leads v w → IsMarked marks w

-- all that the vertices from one place of the queue to before another one lead to is marked
abbrev pub AreOpened : (Leads : ℕ → ℕ → Type 0) → List Bool → List Visit → (from to : ℕ) → Type 0
AreOpened Leads marks queue from to =
    (k : ℕ) → from ≤ k → k < to → IsOpened Leads marks (vertex_at queue k)

-- a step of the queue: from the vertex that another one was reached from to that one
abbrev pub IsStep : List Visit → ℕ → ℕ → Type 0
IsStep queue v w =
    (k : ℕ)
    × (0 < k)
    × (k < length queue)
    × (vertex_at queue (parent_at queue k) ≡ v)
    × (vertex_at queue k ≡ w)

-- vertices have costs, none of which is above a limit. They don't fall along the steps of the queue,
-- and rise where such a step is a paid arc and no free one
pub record AreCheap (Free Paid : ℕ → ℕ → Type 0) (most : ℕ) (queue : List Visit) : Type 0 where
  pub costs : ℕ → ℕ
  pub within : (k : ℕ) → k < length queue → costs (vertex_at queue k) ≤ most
  pub rising :
      (v w : ℕ)
      → IsStep queue v w
      → (Free v w × (costs v ≤ costs w)) ⊎ (Paid v w × (costs v < costs w))
