-- Dependencies by version: the words of the laws about them.
--
-- Where keys are basic, a transaction depends on another one if it reads a version that the other
-- one installs (wr), or installs a version after one that the other one reads (rw). A version comes
-- after nil of its key, and after what its own transaction reads of the key. So whoever installs the
-- later version of a ww edge reads the earlier one, and there is a wr edge beside it.
use Rattle.std.specs.Prelude.{◌≡◌, ◌⊎◌, ◌↔◌, ℕ, ◌<◌, List, None, Contains, IsTrue}
use Rattle.hist_types.specs.Edges.{Label, Edge, edge, dependency_edges}
use Rattle.hist_types.specs.Operations.{Operation}
use Rattle.hist_types.specs.Transactions.{Transaction, Version, transactions_of, nodes, installs, is_known_to_read}
use Rattle.hist_types.specs.declared.types.KeyOrder.TheVariants.{Basic}

-- they are two transactions
abbrev pub IsAnother : Transaction → Transaction → Type 0
IsAnother t u = ¬ (t.invocation ≡ u.invocation)

-- the transaction reads this version, and installs another one of its key
abbrev pub Updates : Transaction → Version → Version → Type 0
Updates t v w = IsTrue (is_known_to_read t v) × ¬ (v ≡ w)

-- the transaction installs a version after this one, which is nil or which it reads
abbrev pub Follows : Transaction → Version → Type 0
Follows t v =
    (w : Version)
    × IsTrue (installs t w)
    × (v.key ≡ w.key)
    × ((v.value ≡ None) ⊎ Updates t v w)

-- the second transaction depends on the first one by this version
abbrev pub DependsBy : Version → Transaction → Transaction → Type 0
DependsBy v t u =
    (IsTrue (installs t v) × IsTrue (is_known_to_read u v))
    ⊎ (IsTrue (is_known_to_read t v) × Follows u v)

-- there are dependency edges from one node to another one exactly if the second one depends on the
-- first one by some version
abbrev pub AreJoinedByVersions : List Operation → Type 0
AreJoinedByVersions events =
    let ts = transactions_of events in
    (t u : Transaction)
    → Contains (nodes ts) t
    → Contains (nodes ts) u
    → IsAnother t u
    → ((label : Label) × Contains (dependency_edges Basic ts) (edge t u label))
    ↔ ((v : Version) × DependsBy v t u)

-- ---- points

-- the point of what the edge leads to is above that of what it leaves
abbrev pub RisesAlong : (point : ℕ → ℕ) → Edge → Type 0
RisesAlong point e = point e.from < point e.to

-- points rise along each edge
abbrev pub Rises : (point : ℕ → ℕ) → List Edge → Type 0
Rises point es = (e : Edge) → Contains es e → RisesAlong point e

-- points rise along each of the edges that leads into the transaction, or out of it
abbrev pub RisesInto : (point : ℕ → ℕ) → Transaction → List Edge → Type 0
RisesInto point u es = (e : Edge) → Contains es e → e.to ≡ u.invocation → RisesAlong point e

abbrev pub RisesOutOf : (point : ℕ → ℕ) → Transaction → List Edge → Type 0
RisesOutOf point t es = (e : Edge) → Contains es e → e.from ≡ t.invocation → RisesAlong point e

-- the first one's point is below the second one's, if they are two
abbrev pub IsBelow : (point : ℕ → ℕ) → Transaction → Transaction → Type 0
IsBelow point t u = IsAnother t u → point t.invocation < point u.invocation

-- the point is above that of each other node that installs what this one reads, or reads what this
-- one follows
pub record IsAbovePredecessors (ts : List Transaction) (point : ℕ → ℕ) (u : Transaction) :
    Type 0 where
  pub installers :
      (t : Transaction) (v : Version)
      → Contains (nodes ts) t
      → IsTrue (is_known_to_read u v)
      → IsTrue (installs t v)
      → IsBelow point t u
  pub readers :
      (t : Transaction) (v : Version)
      → Contains (nodes ts) t
      → Follows u v
      → IsTrue (is_known_to_read t v)
      → IsBelow point t u

-- the point is below that of each other node that reads what this one installs, or follows what
-- this one reads
pub record IsBelowSuccessors (ts : List Transaction) (point : ℕ → ℕ) (t : Transaction) :
    Type 0 where
  pub readers :
      (u : Transaction) (v : Version)
      → Contains (nodes ts) u
      → IsTrue (installs t v)
      → IsTrue (is_known_to_read u v)
      → IsBelow point t u
  pub followers :
      (u : Transaction) (v : Version)
      → Contains (nodes ts) u
      → IsTrue (is_known_to_read t v)
      → Follows u v
      → IsBelow point t u

-- points rise along each edge into a node that is above its predecessors
abbrev pub EdgesIntoRise : List Operation → Type 0
EdgesIntoRise events =
    let ts = transactions_of events in
    (point : ℕ → ℕ) (u : Transaction)
    → Contains (nodes ts) u
    → IsAbovePredecessors ts point u
    → RisesInto point u (dependency_edges Basic ts)

-- and along each edge out of a node that is below its successors
abbrev pub EdgesOutOfRise : List Operation → Type 0
EdgesOutOfRise events =
    let ts = transactions_of events in
    (point : ℕ → ℕ) (t : Transaction)
    → Contains (nodes ts) t
    → IsBelowSuccessors ts point t
    → RisesOutOf point t (dependency_edges Basic ts)

-- and along all edges, if each node is above its predecessors
abbrev pub AllEdgesRise : List Operation → Type 0
AllEdgesRise events =
    let ts = transactions_of events in
    (point : ℕ → ℕ)
    → ((u : Transaction) → Contains (nodes ts) u → IsAbovePredecessors ts point u)
    → Rises point (dependency_edges Basic ts)
