-- The order turned round: for each transaction, the nodes that it comes before.
use Rattle.std.specs.Prelude.{◌≡◌, ℕ, ◌<◌, List, [], ◌∷◌, ◌++◌, length, Bool, ◌&&◌, ◌==◌, if◌then◌else◌, Some, slice_get, slice_index, slice_index_or, map, filter, nat_eq, All}
use Rattle.std.specs.List.{list_any, range_with_len, IsDistinct}
use Rattle.hist_types.specs.Transactions.{Transaction, is_node}
use Rattle.hist_types.specs.declared.types.Level.{Level}
use Rattle.hist_types.specs.declared.types.Level.TheVariants.{Plain, Process, Realtime}
use Rattle.dep_edges.specs.Tables.{txn_at}
use Rattle.order_frontier.specs.Predecessors.{Before, before_at}
use Rattle.order_frontier.specs.declared.types.Predecessor.{Predecessor}

-- ---- places of transactions

-- the place of each transaction, by the index of its invocation
abbrev pub ArePlaces : List Transaction → List ℕ → Type 0
ArePlaces ts places =
    (place : ℕ) (t : Transaction)
    → slice_get ts place ≡ Some t
    → slice_get places t.invocation ≡ Some place

abbrev pub place_of : List ℕ → Predecessor → ℕ
place_of places p = slice_index places p.invocation

-- ---- one transaction's predecessors

abbrev pub predecessors_at : Level → Before → List Predecessor
predecessors_at Plain before = []
predecessors_at Process before = before.in_process
predecessors_at Realtime before = before.in_realtime

-- each has a place below the count
abbrev pub HavePlaces : List ℕ → (count : ℕ) → List Predecessor → Type 0
HavePlaces places count ps =
    All (λ (p : Predecessor). (p.invocation < length places) × (place_of places p < count)) ps

abbrev pub HaveOwnPlaces : List ℕ → List Predecessor → Type 0
HaveOwnPlaces places ps = IsDistinct nat_eq (map (place_of places) ps)

-- one of them is at the place
abbrev pub has_place : List ℕ → List Predecessor → ℕ → Bool
has_place places ps place = list_any (λ p. place_of places p == place) ps

-- one of them has the invocation
abbrev pub has_invocation : List Predecessor → ℕ → Bool
has_invocation ps invocation = list_any (λ (p : Predecessor). p.invocation == invocation) ps

-- ---- lists of places

abbrev pub list_at : List (List ℕ) → ℕ → List ℕ
list_at lists place = slice_index_or lists place []

-- the place is added to the list of each predecessor, and to no other
pub record AddsNode (places : List ℕ) (ps : List Predecessor) (place : ℕ)
    (before after : List (List ℕ)) : Type 0 where
  pub count : length after ≡ length before
  pub each :
      (first : ℕ)
      → first < length before
      → list_at after first
      ≡ list_at before first ++ (if has_place places ps first then place ∷ [] else [])

-- ---- all transactions

-- the second place has a node with the transaction at the first one among its predecessors
abbrev pub is_successor : List Transaction → List Before → Level → ℕ → ℕ → Bool
is_successor ts order level place next =
    is_node ts (txn_at ts next)
    && has_invocation (predecessors_at level (before_at order next)) (txn_at ts place).invocation

-- for each place those of the nodes that its transaction comes before, at both levels that have an
-- order
pub record Turned : Type 0 where
  pub in_process : List (List ℕ)
  pub in_realtime : List (List ℕ)

abbrev pub lists_at : Level → Turned → List (List ℕ)
lists_at Plain turned = []
lists_at Process turned = turned.in_process
lists_at Realtime turned = turned.in_realtime

-- for each transaction those of its successors that are among the first places
pub record AreFirstSuccessors (ts : List Transaction) (order : List Before) (level : Level)
    (places : ℕ) (lists : List (List ℕ)) : Type 0 where
  pub count : length lists ≡ length ts
  pub each :
      (place : ℕ)
      → place < length ts
      → list_at lists place ≡ filter (is_successor ts order level place) (range_with_len 0 places)

abbrev pub AreSuccessors :
    List Transaction
    → List Before
    → Level
    → List (List ℕ)
    → Type 0
AreSuccessors ts order level = AreFirstSuccessors ts order level (length ts)

pub record AreTurned (ts : List Transaction) (order : List Before) (turned : Turned) : Type 0 where
  pub process : AreSuccessors ts order Process turned.in_process
  pub realtime : AreSuccessors ts order Realtime turned.in_realtime
