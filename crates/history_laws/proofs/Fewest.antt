-- How many dependency edges walks have: as many where they count alike, and a closed walk one more than the way back from an edge
-- that it needs.
use Rattle.std.proofs.Common.{◌≡◌, ◌↔◌, ℕ, ◌+◌, ◌≤◌, List, [], ◌∷◌, ◌++◌, true, not, ◌||◌, count_by, refl, ap, arith}
use Rattle.hist_types.specs.Edges.{Label, ww, wr, rw, process, realtime, Edge, dependency_edges, edges_at}
use Rattle.hist_types.specs.Operations.{Operation}
use Rattle.hist_types.specs.Phenomena.{is_ww_label, is_wr_label, is_rw_label, is_ww, is_wr, is_rw, Shows}
use Rattle.hist_types.specs.Transactions.{Transaction, nodes, transactions_of}
use Rattle.hist_types.specs.Witness.{dependencies_in, HasFewest}
use Rattle.hist_types.specs.declared.types.KeyOrder.{KeyOrder}
use Rattle.hist_types.specs.declared.types.Level.{Level}
use Rattle.hist_types.specs.declared.types.Phenomenon.{Phenomenon}
use Rattle.history_laws.specs.Shown.{thinned_edges_at}
use Rattle.history_laws.specs.Walks.{SameCounts, WalksCarryOver}
use Rattle.history_laws.specs.WaysBack.{is_needed, IsShownWithin, HasWayBackWithin}
use Rattle.history_laws.proofs.ThinningCycles.{turned_to_one, closed_by_edge}
use Rattle.history_laws.proofs.ThinningPaths.{nodes_included}
use Rattle.history_laws.proofs.ThinningWalks.{one_if, count-cons, count-append, count_yes, makes_alike, carried_to_thinned}
use Rattle.history_laws.proofs.ThinningWitnesses.{is_dependency, needed_dependency}

-- ---- by kind

by_label : (label : Label) → one_if (not (not (is_ww_label label || is_wr_label label || is_rw_label label))) ≡ one_if (is_ww_label label) + (one_if (is_wr_label label) + one_if (is_rw_label label))
by_label (ww earlier later) = refl
by_label (wr version) = refl
by_label (rw earlier later) = refl
by_label (process number) = refl
by_label (realtime completion invocation) = refl

by_kind : (walk : List Edge) → dependencies_in walk ≡ count_by is_ww walk + (count_by is_wr walk + count_by is_rw walk)
by_kind [] = refl
by_kind (e ∷ walk) =
    omega (arith, by_label e.label, by_kind walk, count-cons is_dependency e walk, count-cons is_ww e walk, count-cons is_wr e walk, count-cons is_rw e walk)

pub as_many : (walk other : List Edge) → SameCounts walk other → dependencies_in walk ≡ dependencies_in other
as_many walk other same = omega (arith, by_kind walk, by_kind other, same.ww, same.wr, same.rw)

-- ---- the fewest

fewest_carried :
    (phenomenon : Phenomenon) (es others walk : List Edge)
    → WalksCarryOver es others
    → HasFewest phenomenon others walk
    → HasFewest phenomenon es walk
fewest_carried phenomenon es others walk over fewest other shows =
    let (like, closed, within, counts) = over.closed other shows.closed shows.within in
    let few : dependencies_in walk ≤ dependencies_in like = fewest like (record { closed = closed; within = within; kinds = makes_alike phenomenon other like counts shows.kinds }) in
    omega (arith, few, as_many other like counts)

pub fewest_of_thinned :
    (keys : KeyOrder) (phenomenon : Phenomenon) (level : Level) (events : List Operation) (walk : List Edge)
    → HasFewest phenomenon (thinned_edges_at keys level (transactions_of events)) walk
    → HasFewest phenomenon (edges_at keys level (transactions_of events)) walk
fewest_of_thinned keys phenomenon level events walk =
    let ts : List Transaction = transactions_of events in
    fewest_carried phenomenon (edges_at keys level ts) (thinned_edges_at keys level ts) walk
    (carried_to_thinned level events (nodes ts) (dependency_edges keys ts) (nodes_included ts))

-- ---- one edge and the way back

-- an edge of the needed kind is one of the dependency edges
pub one_more : (phenomenon : Phenomenon) (e : Edge) (walk : List Edge) → is_needed phenomenon e ≡ true → dependencies_in (e ∷ walk) ≡ 1 + dependencies_in walk
one_more phenomenon e walk is = count_yes is_dependency e walk (ap not (needed_dependency phenomenon e is))

pub some_dependency : (phenomenon : Phenomenon) (es walk : List Edge) → Shows phenomenon es walk → 1 ≤ dependencies_in walk
some_dependency phenomenon es walk shows =
    let (front, e, back, about, among, leads) = turned_to_one phenomenon es walk shows in
    let whole : dependencies_in walk ≡ dependencies_in (front ++ e ∷ back) = ap dependencies_in about.is in
    omega (arith, whole, count-append is_dependency front (e ∷ back), one_more phenomenon e back about.passes)

turned_within : (phenomenon : Phenomenon) (es : List Edge) (most : ℕ) → IsShownWithin phenomenon es (1 + most) → HasWayBackWithin phenomenon es most
turned_within phenomenon es most (walk, shows, few) =
    let (front, e, back, about, among, leads) = turned_to_one phenomenon es walk shows in
    let whole : dependencies_in walk ≡ dependencies_in (front ++ e ∷ back) = ap dependencies_in about.is in
    let fewer : dependencies_in (back ++ front) ≤ most =
    omega (arith, few, whole, count-append is_dependency front (e ∷ back), one_more phenomenon e back about.passes, count-append is_dependency back front) in
    (e, among, about.passes, back ++ front, leads, fewer)

closed_within : (phenomenon : Phenomenon) (es : List Edge) (most : ℕ) → HasWayBackWithin phenomenon es most → IsShownWithin phenomenon es (1 + most)
closed_within phenomenon es most (e, among, is, walk, back, few) =
    (e ∷ walk, closed_by_edge phenomenon es e walk among is back, omega (arith, few, one_more phenomenon e walk is))

pub few_by_one : (phenomenon : Phenomenon) (es : List Edge) (most : ℕ) → IsShownWithin phenomenon es (1 + most) ↔ HasWayBackWithin phenomenon es most
few_by_one phenomenon es most = (turned_within phenomenon es most, closed_within phenomenon es most)
