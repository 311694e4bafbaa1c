-- Witnesses (this project's own form, after Elle's explained cycles).
--
-- A witness of a phenomenon at a level is a closed walk that shows it there, with no transaction
-- twice and, round the whole cycle, no two order edges side by side, written from its least
-- transaction. The one that is reported has the fewest dependency edges of all closed walks that
-- show the phenomenon at its level; order edges count nothing. Where several fit, any is right.
use Rattle.std.specs.Prelude.{ℕ, ◌≤◌, List, [], ◌∷◌, Bool, true, false, not, ◌&&◌, nat_eq, nat_le, IsTrue, Option, IfSome, option_map, map, count_by}
use Rattle.std.specs.List.{list_all, IsDistinct}
use Rattle.hist_types.specs.Transactions.{Transaction}
use Rattle.hist_types.specs.Edges.{Edge, edges_at}
use Rattle.hist_types.specs.Phenomena.{Shows, is_order, IsLowestLevel}
use Rattle.hist_types.specs.declared.types.Level.{Level}
use Rattle.hist_types.specs.declared.types.Phenomenon.{Phenomenon}
use Rattle.hist_types.specs.declared.types.KeyOrder.{KeyOrder}

-- the transactions of a closed walk, in order
abbrev pub stations : List Edge → List ℕ
stations walk = map (λ (e : Edge). e.from) walk

-- no two order edges side by side, and not after an order edge where `after` says so
abbrev pub alternates : (after : Bool) → List Edge → Bool
alternates after [] = true
alternates after (e ∷ es) = not (after && is_order e) && alternates (is_order e) es

-- whether the last edge is an order edge
abbrev pub ends_in_order : List Edge → Bool
ends_in_order [] = false
ends_in_order (e ∷ []) = is_order e
ends_in_order (e ∷ f ∷ es) = ends_in_order (f ∷ es)

-- it begins at its least transaction
abbrev pub begins_least : List ℕ → Bool
begins_least [] = true
begins_least (n ∷ ns) = list_all (nat_le n) ns

pub record IsWitness (keys : KeyOrder)
    (phenomenon : Phenomenon) (level : Level) (ts : List Transaction) (walk : List Edge)
    : Type 0 where
  pub shows : Shows phenomenon (edges_at keys level ts) walk
  pub different : IsDistinct nat_eq (stations walk)
  pub apart : IsTrue (alternates (ends_in_order walk) walk)
  pub least : IsTrue (begins_least (stations walk))

-- ---- dependency edges

-- how many edges of the walk are no order edges
abbrev pub dependencies_in : List Edge → ℕ
dependencies_in walk = count_by (λ e. not (is_order e)) walk

-- no closed walk along these edges that shows the phenomenon has fewer
abbrev pub HasFewest : Phenomenon → List Edge → (walk : List Edge) → Type 0
HasFewest phenomenon es walk =
    (other : List Edge) → Shows phenomenon es other → dependencies_in walk ≤ dependencies_in other

-- ---- findings

-- what is reported of a phenomenon: its lowest level with a witness, or nothing
pub record Finding : Type 0 where
  pub level : Level
  pub walk : List Edge

abbrev pub IsFinding : KeyOrder → Phenomenon → List Transaction → Option Finding → Type 0
IsFinding keys phenomenon ts found =
    IsLowestLevel keys phenomenon ts (option_map (λ (f : Finding). f.level) found)
    × IfSome found (λ f.
    IsWitness keys phenomenon f.level ts f.walk
    × HasFewest phenomenon (edges_at keys f.level ts) f.walk)
