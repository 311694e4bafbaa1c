-- Points as a history grows by one event: the words of the laws about that.
--
-- An event changes one transaction, which it invokes or completes. A fail, an info, and an
-- invocation that writes nothing that was read before add no dependency edge, so points stay points.
-- Where keys are basic, each edge that any other event adds has the event's transaction at an end, or
-- leads into a transaction that the event made a node. So if no other point rises, it is enough to
-- look at the edges there, and at those into transactions whose points fell: each other edge was
-- there before, and only its first end may have fallen.
use Rattle.std.specs.Prelude.{◌≡◌, ◌⊎◌, ◌≤◌, ℕ, List, [], ◌∷◌, ◌++◌, length, Some, Contains, IsTrue, IsFalse, map}
use Rattle.hist_types.specs.Edges.{dependency_edges}
use Rattle.hist_types.specs.Journal.{writes_of}
use Rattle.hist_types.specs.Operations.{Operation}
use Rattle.hist_types.specs.Transactions.{Transaction, Version, transactions_of, version_of, has_version, is_known_to_read, is_node, nodes}
use Rattle.hist_types.specs.declared.types.KeyOrder.{KeyOrder}
use Rattle.hist_types.specs.declared.types.KeyOrder.TheVariants.{Basic}
use Rattle.clean_order.specs.ByVersion.{IsAnother, RisesInto, RisesOutOf}
use Rattle.clean_order.specs.Points.{IsNotBefore, IsNotAfter, ArePoints}

-- points of the events are points of these and one more
abbrev pub PointsStay : KeyOrder → List Operation → Operation → Type 0
PointsStay keys events event =
    (point : ℕ → ℕ)
    → ArePoints keys (transactions_of events) point
    → ArePoints keys (transactions_of (events ++ event ∷ [])) point

-- no transaction is known to read a version that the operation writes
abbrev pub WritesNothingRead : List Transaction → Operation → Type 0
WritesNothingRead ts o =
    (t : Transaction) (v : Version)
    → Contains ts t
    → IsTrue (is_known_to_read t v)
    → IsFalse (has_version (map version_of (writes_of o.mops)) v)

-- the event with this index invoked or completed the transaction
abbrev pub IsOfEvent : (index : ℕ) → Transaction → Type 0
IsOfEvent index t = (t.invocation ≡ index) ⊎ (t.completion ≡ Some index)

-- the transaction is t, of which the event is, or wasn't a node, or had another point
abbrev pub HasMoved :
    (ts : List Transaction) (t : Transaction) (point next : ℕ → ℕ) → Transaction → Type 0
HasMoved ts t point next u =
    (u.invocation ≡ t.invocation)
    ⊎ IsFalse (is_node ts u)
    ⊎ ¬ (next u.invocation ≡ point u.invocation)

-- What there is to look at in the next points, after an event of the transaction t.
pub record AreNextPoints (ts later : List Transaction) (t : Transaction) (point next : ℕ → ℕ) :
    Type 0 where
  pub falls :
      (u : Transaction)
      → Contains (nodes ts) u
      → IsAnother t u
      → next u.invocation ≤ point u.invocation
  pub begun :
      (u : Transaction)
      → Contains (nodes later) u
      → HasMoved ts t point next u
      → IsNotBefore (next u.invocation) u
  pub ended : IsNotAfter (next t.invocation) t
  pub into :
      (u : Transaction)
      → Contains (nodes later) u
      → HasMoved ts t point next u
      → RisesInto next u (dependency_edges Basic later)
  pub out : RisesOutOf next t (dependency_edges Basic later)

-- such next points are points of the events and one more
abbrev pub PointsMove : List Operation → Operation → Type 0
PointsMove events event =
    let ts = transactions_of events in
    let later = transactions_of (events ++ event ∷ []) in
    (t : Transaction) (point next : ℕ → ℕ)
    → Contains later t
    → IsOfEvent (length events) t
    → ArePoints Basic ts point
    → AreNextPoints ts later t point next
    → ArePoints Basic later next
