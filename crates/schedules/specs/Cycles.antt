-- What a schedule rules out (after Fekete and others, Making Snapshot Isolation Serializable, and
-- the pivots of Cahill and others, Serializable Isolation for Snapshot Databases).
--
-- A closed walk has a pivot where it comes to a transaction by an rw edge and leaves it by one.
-- Each closed walk along edges that a schedule keeps has a pivot that starts before it commits. So
-- a serial schedule keeps no closed walk, and another one none with a single rw edge.
use Rattle.std.specs.Prelude.{ℕ, ◌<◌, List, [], ◌∷◌, Bool, false, true, ◌&&◌, if◌then◌else◌, All, Contains, IsTrue}
use Rattle.hist_types.specs.Edges.{Edge, edges_at}
use Rattle.hist_types.specs.Phenomena.{IsClosedWalk, is_rw, IsThere}
use Rattle.hist_types.specs.Transactions.{Transaction}
use Rattle.hist_types.specs.declared.types.Level.{Level}
use Rattle.hist_types.specs.declared.types.Level.TheVariants.{Plain, Process, Realtime}
use Rattle.hist_types.specs.declared.types.KeyOrder.{KeyOrder}
use Rattle.hist_types.specs.declared.types.Phenomenon.{Phenomenon}
use Rattle.hist_types.specs.declared.types.Phenomenon.TheVariants.{G0, G1c, GSingle, G2Item}
use Rattle.schedules.specs.Schedules.{Schedule, is_of}
use Rattle.schedules.specs.declared.types.EdgeKinds.{EdgeKinds}

-- whether a walk ends with an rw edge, and if it has no edge whether one came before it
abbrev pub ends_with_rw : (came : Bool) → List Edge → Bool
ends_with_rw came [] = came
ends_with_rw came (e ∷ es) = ends_with_rw (is_rw e) es

-- where a walk leaves by an rw edge after it came by one, or after one came before it
abbrev pub pivots_after : (came : Bool) → List Edge → List ℕ
pivots_after came [] = []
pivots_after came (e ∷ es) =
    if came && is_rw e then e.from ∷ pivots_after (is_rw e) es else pivots_after (is_rw e) es

-- round a closed walk
abbrev pub pivots : List Edge → List ℕ
pivots walk = pivots_after (ends_with_rw false walk) walk

-- each closed walk along edges of these kinds has a pivot that starts before it commits
abbrev pub CyclesPivot : KeyOrder → EdgeKinds → List Transaction → Schedule → Type 0
CyclesPivot keys kinds ts s =
    (level : Level) (walk : List Edge)
    → IsClosedWalk walk
    → All (Contains (edges_at keys level ts)) walk
    → All (λ (e : Edge). IsTrue (is_of kinds e.label)) walk
    → (n : ℕ) × Contains (pivots walk) n × (s.start n < s.commit n)

-- ---- phenomena

-- whether a schedule that keeps these kinds of edges rules out the phenomenon
abbrev pub rules_out : EdgeKinds → (serial : Bool) → Phenomenon → Bool
rules_out kinds serial G0 = kinds.ww
rules_out kinds serial G1c = kinds.ww && kinds.wr
rules_out kinds serial GSingle = kinds.ww && kinds.wr && kinds.rw
rules_out kinds serial G2Item = kinds.ww && kinds.wr && kinds.rw && serial

-- at this level
abbrev pub reaches : EdgeKinds → Level → Bool
reaches kinds Plain = true
reaches kinds Process = kinds.order
reaches kinds Realtime = kinds.order

-- the history has none of the phenomena that such a schedule rules out
abbrev pub HasNoneRuledOut : KeyOrder → EdgeKinds → (serial : Bool) → List Transaction → Type 0
HasNoneRuledOut keys kinds serial ts =
    (phenomenon : Phenomenon) (level : Level)
    → IsTrue (rules_out kinds serial phenomenon)
    → IsTrue (reaches kinds level)
    → ¬ IsThere keys phenomenon level ts
