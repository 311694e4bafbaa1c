-- Each edge of the needed kind that has a way back is met along the needed arcs.
use Rattle.std.proofs.Common.{◌≡◌, ◌∙◌, ◌<◌, ◌≤◌, ℕ, List, [], ◌∷◌, get_or, true, inl, inr, Contains, refl, sym, subst, arith}
use Rattle.std.specs.List.{AllByRecursion}
use Rattle.std.proofs.lemmas.Bool.{false≢true}
use Rattle.std.proofs.lemmas.List.Elements.{All-from_recursion}
use Rattle.hist_types.specs.Edges.{Label, ww, wr, rw, process, realtime, Edge}
use Rattle.hist_types.specs.Phenomena.{Leads, IsShownBy}
use Rattle.history_laws.specs.WaysBack.{HasWayBack, LeadsBack, is_needed, may_lead_back}
use Rattle.hist_types.specs.declared.types.Level.{Level}
use Rattle.hist_types.specs.declared.types.Level.TheVariants.{Plain}
use Rattle.hist_types.specs.declared.types.Phenomenon.{Phenomenon}
use Rattle.hist_types.specs.declared.types.Phenomenon.TheVariants.{G0, G1c, GSingle, G2Item}
use Rattle.history_laws.proofs.ThinningCycles.{closed_by_one}
use Rattle.history_laws.proofs.ThinningWitnesses.{needed_dependency, passes_list}
use Rattle.dep_edges.specs.Histories.{AreOfHistory}
use Rattle.dep_edges.specs.Tables.{IsPlace, txn_at}
use Rattle.edge_graph.specs.Kinds.{includes, kinds_of, AreAmong}
use Rattle.edge_graph.specs.Parts.{Parts, edges_in}
use Rattle.edge_graph.specs.Vertices.{IsArc, RwByVersions}
use Rattle.edge_graph.specs.Walks.{LeadsBetween, IsEdgeOf, IsEdgeBetween, AreEdgesBetween, HasDirectArc, HasWayByVersion}
use Rattle.edge_graph.specs.declared.types.Dependencies.{Dependencies}
use Rattle.edge_graph.specs.declared.types.Dependencies.TheVariants.{Ww, Wr, Rw}
use Rattle.edge_graph.proofs.EdgesIn.{levels}
use Rattle.edge_graph.proofs.EdgeArcs.{arc_of_ww, arc_of_wr, way_of_rw, walk_over, more_at_level}
use Rattle.cycle_find.specs.Dependencies.{needed, way_back, whole}
use Rattle.cycle_find.specs.Found.{ShowNoneOver}
use Rattle.cycle_find.specs.Ranked.{ranking_of, AreRanksOver, AreRanksWithin}
use Rattle.cycle_find.specs.Tasks.{Task, task_of, needed_kinds, back_kinds, HasReturnBetween, NoneFrom}
use Rattle.cycle_find.specs.Ways.{LeadsOn, Rises}
use Rattle.cycle_find.proofs.Closing.{back_kind}
use Rattle.cycle_find.proofs.Passing.{needed_of_whole, back_of_whole}
use Rattle.cycle_find.proofs.RankedArcs.{raise, within, IsArcWithin, rising_within, fewer, fewer_plain, fewer_within, among_itself, among_both}

-- ---- kinds

pub needed_label : (phenomenon : Phenomenon) (from to : ℕ) (label : Label) → is_needed phenomenon (record { from = from; to = to; label = label }) ≡ true → includes (kinds_of (needed phenomenon) Plain) label ≡ true
needed_label G0 from to (ww a b) is = refl
needed_label G0 from to (wr a) is = absurd (false≢true is)
needed_label G0 from to (rw a b) is = absurd (false≢true is)
needed_label G0 from to (process n) is = refl
needed_label G0 from to (realtime m n) is = refl
needed_label G1c from to (ww a b) is = absurd (false≢true is)
needed_label G1c from to (wr a) is = refl
needed_label G1c from to (rw a b) is = absurd (false≢true is)
needed_label G1c from to (process n) is = refl
needed_label G1c from to (realtime m n) is = refl
needed_label GSingle from to (ww a b) is = absurd (false≢true is)
needed_label GSingle from to (wr a) is = absurd (false≢true is)
needed_label GSingle from to (rw a b) is = refl
needed_label GSingle from to (process n) is = refl
needed_label GSingle from to (realtime m n) is = refl
needed_label G2Item from to (ww a b) is = absurd (false≢true is)
needed_label G2Item from to (wr a) is = absurd (false≢true is)
needed_label G2Item from to (rw a b) is = refl
needed_label G2Item from to (process n) is = refl
needed_label G2Item from to (realtime m n) is = refl

back_labels : (phenomenon : Phenomenon) (level : Level) (es : List Edge) → AllByRecursion (λ (e : Edge). may_lead_back phenomenon e ≡ true) es
    → AllByRecursion (λ (e : Edge). includes (kinds_of (way_back phenomenon) level) e.label ≡ true) es
back_labels phenomenon level [] all = tt
back_labels phenomenon level (e ∷ es) all = (sym (back_kind phenomenon level e) ∙ all.0, back_labels phenomenon level es all.1)

-- ---- places

-- an edge of the needed kind with a way back, and where it is met
pub record IsMet (task : Task) (from by to : ℕ) : Type 0 where
  pub first : IsPlace task.graph.txns from
  pub last : IsPlace task.graph.txns to
  pub arc : IsArc task.graph (needed_kinds task) from by
  pub leads : LeadsOn task.graph (needed_kinds task) from by to
  pub back : HasReturnBetween task from to

module _ (task : Task) (kept : AreOfHistory task.graph.txns) (by_versions : RwByVersions task.graph) where
  abbrev g : Parts
  g = task.graph

  abbrev es : List Edge
  es = edges_in g task.level

  -- the edge, and the edges of its way back
  pub returning : (from to : ℕ) (e : Edge) (walk : List Edge) → Contains es e → is_needed task.phenomenon e ≡ true → LeadsBack task.phenomenon es e walk → LeadsBetween g from to e
      → IsEdgeBetween g (needed_kinds task) from to e × AreEdgesBetween g (back_kinds task) to from walk
  returning from to e walk among is back ends =
      let of_kind : IsEdgeOf g (needed_kinds task) e =
      record {
        among = (levels g task.level e).1 (among, needed_dependency task.phenomenon e is);
        kind = needed_label task.phenomenon e.from e.to e.label is;
      } in
      let leads : Leads (txn_at g.txns to).invocation walk (txn_at g.txns from).invocation =
      subst (λ n. Leads (txn_at g.txns to).invocation walk n) ends.begins (subst (λ n. Leads n walk e.from) ends.ends back.leads) in
      let along : AreEdgesBetween g (back_kinds task) to from walk =
      record {
        leads = leads;
        among = back.within;
        of_kinds =
            All-from_recursion (λ (d : Edge). includes (kinds_of (way_back task.phenomenon) task.level) d.label ≡ true) walk
            (back_labels task.phenomenon task.level walk (passes_list (may_lead_back task.phenomenon) walk back.kinds));
      } in
      (record { edge = of_kind; leads = ends }, along)

  between : (from to : ℕ) (e : Edge) (walk : List Edge) → Contains es e → is_needed task.phenomenon e ≡ true → LeadsBack task.phenomenon es e walk → LeadsBetween g from to e
      → HasReturnBetween task from to
  between from to e walk among is back ends =
      let (edge, along) = returning from to e walk among is back ends in
      ((e, edge), walk_over g kept by_versions (back_kinds task) to from ends.last ends.first walk along)

  directly : (d : Dependencies) (e : Edge) (walk : List Edge) → needed task.phenomenon ≡ d → Contains es e → is_needed task.phenomenon e ≡ true → LeadsBack task.phenomenon es e walk → HasDirectArc g d e
      → (from by to : ℕ) × IsMet task from by to
  directly d e walk same among is back (from, to, ends, direct) = (
    from,
    to,
    to,
    record {
      first = direct.first;
      last = direct.last;
      arc = subst (λ d. IsArc g (kinds_of d Plain) from to) (sym same) direct.arc;
      leads = inl refl;
      back = between from to e walk among is back ends;
    },
  )

  by_way : (e : Edge) (walk : List Edge) → needed task.phenomenon ≡ Rw → Contains es e → is_needed task.phenomenon e ≡ true → LeadsBack task.phenomenon es e walk → HasWayByVersion g Rw e
      → (from by to : ℕ) × IsMet task from by to
  by_way e walk same among is back (from, version, to, ends, way) = (
    from,
    version,
    to,
    record {
      first = way.first;
      last = way.last;
      arc = subst (λ d. IsArc g (kinds_of d Plain) from version) (sym same) way.reads;
      leads = inr (way.between, way.other, subst (λ d. IsArc g (kinds_of d Plain) version to) (sym same) way.follows);
      back = between from to e walk among is back ends;
    },
  )

met : (phenomenon : Phenomenon) (graph : Parts) (level : Level) → AreOfHistory graph.txns → RwByVersions graph → HasWayBack phenomenon (edges_in graph level)
    → (from by to : ℕ) × IsMet (task_of graph phenomenon level) from by to
met G0 graph level kept by_versions (e, among, is, walk, back) =
    directly (task_of graph G0 level) kept by_versions Ww e walk refl among is back (arc_of_ww graph level e among is)
met G1c graph level kept by_versions (e, among, is, walk, back) =
    directly (task_of graph G1c level) kept by_versions Wr e walk refl among is back (arc_of_wr graph level e among is)
met GSingle graph level kept by_versions (e, among, is, walk, back) =
    by_way (task_of graph GSingle level) kept by_versions e walk refl among is back (way_of_rw graph by_versions level e among is)
met G2Item graph level kept by_versions (e, among, is, walk, back) =
    by_way (task_of graph G2Item level) kept by_versions e walk refl among is back (way_of_rw graph by_versions level e among is)

-- ---- none

pub none_over : (task : Task) → AreOfHistory task.graph.txns → RwByVersions task.graph → ((from : ℕ) → IsPlace task.graph.txns from → NoneFrom task from) → ¬ IsShownBy task.phenomenon (edges_in task.graph task.level)
none_over task kept by_versions none over =
    let (from, by, to, is) = met task.phenomenon task.graph task.level kept by_versions ((closed_by_one task.phenomenon (edges_in task.graph task.level)).0 over) in
    none from is.first by is.arc to is.last is.leads is.back

more_leads_on : (graph : Parts) (few more : Dependencies) (among : AreAmong few more) (from by to : ℕ) → LeadsOn graph (kinds_of few Plain) from by to → LeadsOn graph (kinds_of more Plain) from by to
more_leads_on graph few more among from by to (inl same) = inl same
more_leads_on graph few more among from by to (inr (absent, other, arc)) = inr (absent, other, more_at_level graph few more among Plain by to arc)

-- where a rank rises along each dependency edge, no edge has a way back
pub settled : (graph : Parts) (dependencies : Dependencies) (level : Level) (coarse ranks : List ℕ) → AreOfHistory graph.txns → RwByVersions graph
    → AreRanksOver graph (kinds_of dependencies level) coarse → AreRanksWithin graph (kinds_of dependencies level) coarse ranks → Rises (ranking_of graph dependencies coarse ranks)
    → ShowNoneOver dependencies (edges_in graph level)
settled graph dependencies level coarse ranks kept by_versions over are rise phenomenon among shown =
    let (from, by, to, is) = met phenomenon graph level kept by_versions ((closed_by_one phenomenon (edges_in graph level)).0 shown) in
    let needed_among = among_both (needed phenomenon) (whole phenomenon) dependencies (needed_of_whole phenomenon) among in
    let back_among = among_both (way_back phenomenon) (whole phenomenon) dependencies (back_of_whole phenomenon) among in
    let arc : IsArc graph (kinds_of dependencies Plain) from by = more_at_level graph (needed phenomenon) dependencies needed_among Plain from by is.arc in
    let leads : LeadsOn graph (kinds_of dependencies Plain) from by to = more_leads_on graph (needed phenomenon) dependencies needed_among from by to is.leads in
    let plain = fewer_plain graph dependencies dependencies level coarse (among_itself dependencies) over in
    let start : get_or coarse from 0 ≤ get_or coarse by 0 = plain.rising from by arc in
    let on : get_or coarse by 0 ≤ get_or coarse to 0 = elim leads [
      | inl one ↦ subst (λ v. get_or coarse by 0 ≤ get_or coarse v 0) one (omega arith)
      | inr (absent, other, next) ↦ plain.rising by to next
    ] in
    let back = kinds_of (way_back phenomenon) level in
    let over_back = fewer graph (way_back phenomenon) dependencies level coarse back_among over in
    let walk = is.back.1.0 in
    let steps = is.back.1.1.steps in
    let end : get_or coarse to 0 ≤ get_or coarse from 0 = raise (IsArc graph back) coarse over_back.rising to from walk steps in
    let up : get_or ranks from 0 < get_or ranks to 0 = rise from is.first by arc to is.last leads (omega (arith, start, on, end)) in
    let inner = within graph back coarse over_back to from walk (omega (arith, start, on)) steps in
    let down : get_or ranks to 0 ≤ get_or ranks from 0 =
    raise (IsArcWithin graph back coarse) ranks (rising_within graph back coarse ranks (fewer_within graph (way_back phenomenon) dependencies level coarse ranks back_among are)) to from walk inner in
    omega (arith, up, down)
