-- What is known of a phenomenon, as more becomes known, and what follows for another one.
use Rattle.std.proofs.Common.{◌≡◌, inl, inr, ◌<◌, ◌≤◌, ◌+◌, ◌∙◌, ℕ, List, Option, Some, None, count_by, sym, subst, arith}
use Rattle.std.proofs.lemmas.Bool.{eqb-true}
use Rattle.std.specs.Prelude.{IfSome, IsSomeAnd}
use Rattle.hist_types.specs.Edges.{Edge, dependency_edges, order_edges, order_labels, edges_at}
use Rattle.hist_types.specs.Phenomena.{height, is_rw, Shows, IsThere}
use Rattle.hist_types.specs.Reports.{Findings, AreFindings}
use Rattle.hist_types.specs.Transactions.{Transaction, nodes, transactions_of}
use Rattle.hist_types.specs.Witness.{IsWitness, IsFinding, dependencies_in, HasFewest}
use Rattle.hist_types.specs.declared.types.KeyOrder.{KeyOrder}
use Rattle.hist_types.specs.declared.types.Level.{Level}
use Rattle.hist_types.specs.declared.types.Level.TheVariants.{Plain, Process, Realtime}
use Rattle.hist_types.specs.declared.types.Phenomenon.{Phenomenon}
use Rattle.hist_types.specs.declared.types.Phenomenon.TheVariants.{G0, G1c, GSingle, G2Item}
use Rattle.hist_types.proofs.Members.{In, in_append}
use Rattle.history_laws.proofs.Fewest.{some_dependency}
use Rattle.history_laws.proofs.ThinningCycles.{has_above}
use Rattle.history_laws.proofs.ThinningPaths.{ends_of}
use Rattle.history_laws.proofs.ThinningWalks.{any_counted}
use Rattle.dep_edges.specs.Histories.{AreOfHistory}
use Rattle.cycle_find.specs.Found.{NeedsMoreThan, ShowsByFewest}
use Rattle.cycle_find.proofs.TwoEdges.{two_at_least}
use Rattle.cycle_show.specs.Reductions.{IsWitnessOf}
use Rattle.edge_graph.specs.Parts.{Parts, IsMadeOf}
use Rattle.order_frontier.specs.Predecessors.{Before}
use Rattle.verdict.specs.Board.{known, IsRight, IsNotBelow, IsKnown, IsSettled}
use Rattle.verdict.specs.declared.board.Board.{Board}
use Rattle.verdict.specs.declared.known.Known.{Known}
use Rattle.verdict.specs.declared.known.Seen.{Seen}

-- ---- nothing yet

depend : (keys : KeyOrder) (ts : List Transaction) (e : Edge) → In e (edges_at keys Plain ts) → In e (dependency_edges keys ts)
depend keys ts e i = elim (in_append e (dependency_edges keys ts) (order_edges Plain ts) i) [
  | inl j ↦ j
  | inr j ↦
      let (t, u, label, ends) = ends_of (nodes ts) (order_labels Plain) e j in
      absurd ends.labelled
]

two_at_plain :
    (keys : KeyOrder) (phenomenon : Phenomenon) (ts : List Transaction) (level : Level) (walk : List Edge)
    → height level ≡ 0
    → Shows phenomenon (edges_at keys level ts) walk
    → 2 ≤ dependencies_in walk
two_at_plain keys phenomenon ts Plain walk same shows = two_at_least keys ts (edges_at keys Plain ts) (depend keys ts) phenomenon walk shows
two_at_plain keys phenomenon ts Process walk same shows = absurd (omega (arith, same))
two_at_plain keys phenomenon ts Realtime walk same shows = absurd (omega (arith, same))

pub nothing_known : (keys : KeyOrder) (phenomenon : Phenomenon) (ts : List Transaction) → IsKnown keys phenomenon ts (record { none_below = 0; needs = 2; seen = None })
nothing_known keys phenomenon ts = record {
  none_below = λ level h has. absurd (omega (arith, h));
  needs = λ level walk same shows. two_at_plain keys phenomenon ts level walk same shows;
  seen = tt;
}

-- ---- more

-- what isn't there at a level is there at no lower one
pub none_up_to :
    (keys : KeyOrder) (phenomenon : Phenomenon) (ts : List Transaction) (level : Level)
    → ¬ IsThere keys phenomenon level ts
    → IsNotBelow (height level + 1) keys phenomenon ts
none_up_to keys phenomenon ts level none = λ lower h has. none (has_above keys phenomenon lower level ts (omega (arith, h)) has)

pub risen :
    (keys : KeyOrder) (phenomenon : Phenomenon) (ts : List Transaction) (about : Known) (top : ℕ)
    → IsKnown keys phenomenon ts about
    → IsNotBelow top keys phenomenon ts
    → IsKnown keys phenomenon ts (record { none_below = top; needs = 1; seen = about.seen })
risen keys phenomenon ts about top is none = record {
  none_below = none;
  needs = λ level walk same shows. some_dependency phenomenon (edges_at keys level ts) walk shows;
  seen = is.seen;
}

pub seen_at :
    (keys : KeyOrder) (phenomenon : Phenomenon) (ts : List Transaction) (about : Known) (level : Level) (walk : List Edge)
    → IsKnown keys phenomenon ts about
    → ShowsByFewest phenomenon (edges_at keys level ts) walk
    → IsKnown keys phenomenon ts (record { none_below = about.none_below; needs = about.needs; seen = Some (record { level = level; walk = walk }) })
seen_at keys phenomenon ts about level walk is shows = record { none_below = is.none_below; needs = is.needs; seen = shows }

-- at plain, no walk has fewer than three dependency edges
pub needs_three :
    (keys : KeyOrder) (phenomenon : Phenomenon) (ts : List Transaction) (about : Known)
    → IsKnown keys phenomenon ts about
    → about.none_below ≡ 0
    → NeedsMoreThan 2 phenomenon (edges_at keys Plain ts)
    → IsKnown keys phenomenon ts (record { none_below = about.none_below; needs = 3; seen = about.seen })
needs_three keys phenomenon ts about is plain more = record {
  none_below = is.none_below;
  needs = λ level walk same shows. by_level level walk (same ∙ plain) shows;
  seen = is.seen;
}
  where
    by_level : (level : Level) (walk : List Edge) → height level ≡ 0 → Shows phenomenon (edges_at keys level ts) walk → 3 ≤ dependencies_in walk
    by_level Plain walk same shows = (let few : 2 < dependencies_in walk = more walk shows in omega (arith, few))
    by_level Process walk same shows = absurd (omega (arith, same))
    by_level Realtime walk same shows = absurd (omega (arith, same))

pub highest : (level : Level) → height level + 1 ≤ 3
highest Plain = omega arith
highest Process = omega arith
highest Realtime = omega arith

-- ---- from one phenomenon to another

shows_item : (es walk : List Edge) → Shows GSingle es walk → Shows G2Item es walk
shows_item es walk shows =
    let one : count_by is_rw walk ≡ 1 = eqb-true (count_by is_rw walk) 1 shows.kinds in
    record { closed = shows.closed; within = shows.within; kinds = any_counted is_rw walk (omega (arith, one)) }

-- what takes more to show G2-item takes more to show G-single
pub single_needs : (es : List Edge) → NeedsMoreThan 2 G2Item es → NeedsMoreThan 2 GSingle es
single_needs es more walk shows = more walk (shows_item es walk shows)

-- where G2-item isn't there, G-single isn't either
pub no_single : (keys : KeyOrder) (ts : List Transaction) (item : Known) → IsKnown keys G2Item ts item → IsNotBelow item.none_below keys GSingle ts
no_single keys ts item is = λ level h has. is.none_below level h (has.0, shows_item (edges_at keys level ts) has.0 has.1)

-- a walk that shows G-single shows G2-item, by the fewest if none can have fewer
pub item_by_single :
    (keys : KeyOrder) (ts : List Transaction) (item : Known) (level : Level) (walk : List Edge)
    → IsKnown keys G2Item ts item
    → height level ≡ item.none_below
    → dependencies_in walk ≤ item.needs
    → ShowsByFewest GSingle (edges_at keys level ts) walk
    → ShowsByFewest G2Item (edges_at keys level ts) walk
item_by_single keys ts item level walk is same few single = record {
  shows = shows_item (edges_at keys level ts) walk single.shows;
  fewest = λ other shows. (let least : item.needs ≤ dependencies_in other = is.needs level other same shows in omega (arith, few, least));
}

-- ---- what is reported

pub found_nowhere :
    (keys : KeyOrder) (phenomenon : Phenomenon) (ts : List Transaction) (about : Known)
    → IsKnown keys phenomenon ts about
    → 3 ≤ about.none_below
    → IsFinding keys phenomenon ts None
found_nowhere keys phenomenon ts about is nowhere = (λ level. is.none_below level (omega (arith, highest level, nowhere)), tt)

pub shown_at :
    (keys : KeyOrder) (phenomenon : Phenomenon) (ts : List Transaction) (about : Known) (seen : Seen)
    → IsKnown keys phenomenon ts about
    → about.seen ≡ Some seen
    → ShowsByFewest phenomenon (edges_at keys seen.level ts) seen.walk
shown_at keys phenomenon ts about seen is there =
    subst (λ (o : Option Seen). IfSome o (λ (s : Seen). ShowsByFewest phenomenon (edges_at keys s.level ts) s.walk)) there is.seen

seen_lowest :
    (about : Known) (seen : Seen)
    → about.seen ≡ Some seen
    → about.none_below < 3
    → IsSettled about
    → height seen.level ≡ about.none_below
seen_lowest about seen same low (inl nowhere) = absurd (omega (arith, low, nowhere))
seen_lowest about seen same low (inr lowest) = subst (λ (o : Option Seen). IsSomeAnd o (λ (s : Seen). height s.level ≡ about.none_below)) same lowest

-- the walk that shows it at its lowest level, reduced to a witness
pub found_lowest :
    (keys : KeyOrder) (phenomenon : Phenomenon) (ts : List Transaction) (about : Known) (seen : Seen) (told : List Edge)
    → AreOfHistory ts
    → IsKnown keys phenomenon ts about
    → IsSettled about
    → about.seen ≡ Some seen
    → about.none_below < 3
    → IsWitnessOf seen.walk told
    → dependencies_in told ≤ dependencies_in seen.walk
    → IsFinding keys phenomenon ts (Some (record { level = seen.level; walk = told }))
found_lowest keys phenomenon ts about seen told (events, kept, same) is settled there low witness fewer =
    let level = seen.level in
    let walk = seen.walk in
    let shows = shown_at keys phenomenon ts about seen is there in
    let lowest : height level ≡ about.none_below = seen_lowest about seen there low settled in
    let of_events : Shows phenomenon (edges_at keys level (transactions_of events)) walk =
    subst (λ vs. Shows phenomenon (edges_at keys level vs) walk) same shows.shows in
    let witnessed : IsWitness keys phenomenon level ts told =
    subst (λ vs. IsWitness keys phenomenon level vs told) (sym same) (witness keys phenomenon level events of_events) in
    let fewest : HasFewest phenomenon (edges_at keys level ts) told = λ other shown. (
    let few : dependencies_in walk ≤ dependencies_in other = shows.fewest other shown in
    omega (arith, fewer, few)) in
    let below : (lower : Level) → height lower < height level → ¬ IsThere keys phenomenon lower ts =
    λ lower h. is.none_below lower (omega (arith, h, lowest)) in
    (((walk, shows.shows), below), (witnessed, fewest))

-- ---- all four

-- what holds of each
pub four :
    (P : Phenomenon → Known → Type 0) (board : Board)
    → P G0 board.g0
    → P G1c board.g1c
    → P GSingle board.single
    → P G2Item board.item
    → (phenomenon : Phenomenon)
    → P phenomenon (known board phenomenon)
four P board g0 g1c single item G0 = g0
four P board g0 g1c single item G1c = g1c
four P board g0 g1c single item GSingle = single
four P board g0 g1c single item G2Item = item

pub four_findings :
    (keys : KeyOrder) (ts : List Transaction) (found : Findings)
    → IsFinding keys G0 ts found.g0
    → IsFinding keys G1c ts found.g1c
    → IsFinding keys GSingle ts found.single
    → IsFinding keys G2Item ts found.item
    → AreFindings keys ts found
four_findings keys ts found g0 g1c single item G0 = g0
four_findings keys ts found g0 g1c single item G1c = g1c
four_findings keys ts found g0 g1c single item GSingle = single
four_findings keys ts found g0 g1c single item G2Item = item

-- ---- over a graph

module _ (keys : KeyOrder) (ts : List Transaction) (order : List Before) (made graph : Parts) (same : graph ≡ made) (of : IsMadeOf keys ts order made) (board : Board) where
  pub right_over : IsRight keys ts board → IsRight graph.keys graph.txns board
  right_over right =
      subst (λ (g : Parts). IsRight g.keys g.txns board) (sym same)
      (subst (λ (ks : KeyOrder). IsRight ks made.txns board) (sym of.keys_are) (subst (λ (us : List Transaction). IsRight keys us board) (sym of.txns) right))

  pub right_from : IsRight graph.keys graph.txns board → IsRight keys ts board
  right_from right =
      subst (λ (us : List Transaction). IsRight keys us board) of.txns
      (subst (λ (ks : KeyOrder). IsRight ks made.txns board) of.keys_are (subst (λ (g : Parts). IsRight g.keys g.txns board) same right))
