-- Where no needed edge to the first places has a way back of so few, ranks without the needed arcs to these places confine each way
-- back to another place.
use Rattle.std.proofs.Common.{◌≡◌, ◌∙◌, ◌<◌, ◌≤◌, ◌+◌, ℕ, zero, suc, List, [], ◌∷◌, ◌++◌, length, get_or, true, ◌==◌, Option, Some, None, inl, inr, ◌⊎◌, All, Contains, refl, sym, ap, subst, arith}
use Rattle.std.proofs.lemmas.Bool.{false≢true, cases_Bool, cases_lt, eqb-true, eq-eqb}
use Rattle.std.proofs.lemmas.List.{get_or_default}
use Rattle.std.proofs.lemmas.List.Elements.{All-contains}
use Rattle.std.proofs.lemmas.Option.{get_or_from_slice_get, slice_get_within}
use Rattle.hist_types.specs.Edges.{Label, ww, wr, rw, process, realtime}
use Rattle.hist_types.specs.declared.types.Level.TheVariants.{Plain}
use Rattle.hist_types.specs.declared.types.Phenomenon.{Phenomenon}
use Rattle.hist_types.specs.declared.types.Phenomenon.TheVariants.{G0, G1c, GSingle, G2Item}
use Rattle.dep_edges.specs.Histories.{AreOfHistory}
use Rattle.dep_edges.specs.Tables.{IsPlace}
use Rattle.edge_graph.specs.Kinds.{kinds_of, includes_directly, has_rw, AreAmong}
use Rattle.edge_graph.specs.Parts.{Parts}
use Rattle.edge_graph.specs.Vertices.{Vertex, txn, version, IsVertex, LeadsTo, IsArc, AreArcs, AreArcsThat, RwByVersions, graph_by}
use Rattle.edge_graph.specs.Walks.{HasEdgeBetween, IsWayByVersion}
use Rattle.edge_graph.specs.declared.types.Dependencies.{Dependencies}
use Rattle.edge_graph.specs.declared.types.Dependencies.TheVariants as dependencies
use Rattle.edge_graph.specs.declared.types.Kinds.{Kinds}
use Rattle.edge_graph.proofs.EdgeArcs.{edge_of_direct, edge_of_way, more_at_level, more_than_plain}
use Rattle.edge_graph.specs.Made.{AreWithin}
use Rattle.flat_groups.specs.Groups.{group, groups_from}
use Rattle.hist_types.proofs.Members.{in_from_Contains, Contains_from_in}
use Rattle.graph_search.specs.Costs.{IsWalkToTargetIfAny, LeadsWithin}
use Rattle.graph_search.specs.Graphs.{HasArc, HasArcInto, AreRanks, VertexSet, of_rank}
use Rattle.graph_search.proofs.Costs.{along, more}
use Rattle.cycle_find.specs.Dependencies.{needed, way_back, others}
use Rattle.cycle_find.specs.Fewest.{IsFreeBack, IsPaidBack, NoneTo, IsReturnIfAny, AreTrueMarks, AreMarkedFor, marked}
use Rattle.cycle_find.specs.Past.{AreRanksPast, HasArcsPast, IsPairWithin, RisePast}
use Rattle.cycle_find.specs.Tasks.{Task, needed_kinds}
use Rattle.cycle_find.proofs.FewBack.{apart, arcs_of, is_target, target_has_edge}
use Rattle.cycle_find.proofs.Grouped.{group_at, group_has, length-groups}
use Rattle.cycle_find.proofs.RankedArcs.{among_itself, behind_version}
use Rattle.cycle_find.proofs.Turned.{from_group, group_is}

-- ---- dependencies

-- the needed edges may lead back too
abbrev LeadBackToo : Phenomenon → Type 0
LeadBackToo phenomenon = AreAmong (needed phenomenon) (way_back phenomenon)

none_among : (d : Dependencies) → AreAmong dependencies.None d
none_among d = record { ww = λ h. absurd (false≢true h); wr = λ h. absurd (false≢true h); rw = λ h. absurd (false≢true h) }

others_no_rw : (phenomenon : Phenomenon) → has_rw (others phenomenon) ≡ true → ⊥
others_no_rw G0 h = false≢true h
others_no_rw G1c h = false≢true h
others_no_rw GSingle h = false≢true h
others_no_rw G2Item h = false≢true h

-- what may lead back is needed, or among the others
direct_split :
    (phenomenon : Phenomenon) (label : Label) → includes_directly (kinds_of (way_back phenomenon) Plain) label ≡ true
    → (includes_directly (kinds_of (others phenomenon) Plain) label ≡ true)
    ⊎ ((includes_directly (kinds_of (needed phenomenon) Plain) label ≡ true) × LeadBackToo phenomenon)
direct_split G0 (ww a b) is = inr (refl, among_itself dependencies.Ww)
direct_split G0 (wr a) is = absurd (false≢true is)
direct_split G0 (rw a b) is = absurd (false≢true is)
direct_split G0 (process n) is = inl refl
direct_split G0 (realtime m n) is = inl refl
direct_split G1c (ww a b) is = inl refl
direct_split G1c (wr a) is = inr (refl, record { ww = λ h. refl; wr = λ h. refl; rw = λ h. h })
direct_split G1c (rw a b) is = absurd (false≢true is)
direct_split G1c (process n) is = inl refl
direct_split G1c (realtime m n) is = inl refl
direct_split GSingle (ww a b) is = inl refl
direct_split GSingle (wr a) is = inl refl
direct_split GSingle (rw a b) is = absurd (false≢true is)
direct_split GSingle (process n) is = inl refl
direct_split GSingle (realtime m n) is = inl refl
direct_split G2Item (ww a b) is = inl refl
direct_split G2Item (wr a) is = inl refl
direct_split G2Item (rw a b) is = absurd (false≢true is)
direct_split G2Item (process n) is = inl refl
direct_split G2Item (realtime m n) is = inl refl

rw_split : (phenomenon : Phenomenon) → has_rw (way_back phenomenon) ≡ true → (has_rw (needed phenomenon) ≡ true) × LeadBackToo phenomenon
rw_split G0 h = absurd (false≢true h)
rw_split G1c h = absurd (false≢true h)
rw_split GSingle h = absurd (false≢true h)
rw_split G2Item h = (refl, record { ww = λ h. refl; wr = λ h. refl; rw = λ h. refl })

-- ---- arcs

leads_split :
    (g : Parts) (phenomenon : Phenomenon) (x y : Vertex) → LeadsTo g (kinds_of (way_back phenomenon) Plain) x y
    → LeadsTo g (kinds_of (others phenomenon) Plain) x y ⊎ (LeadsTo g (kinds_of (needed phenomenon) Plain) x y × LeadBackToo phenomenon)
leads_split g phenomenon (txn t) (txn u) (label, has, is) = elim (direct_split phenomenon label is) [
  | inl h ↦ inl (label, has, h)
  | inr h ↦ inr ((label, has, h.0), h.1)
]
leads_split g phenomenon (txn t) (version v) (allowed, read) = let h = rw_split phenomenon allowed in inr ((h.0, read), h.1)
leads_split g phenomenon (version v) (txn u) (allowed, follows) = let h = rw_split phenomenon allowed in inr ((h.0, follows), h.1)
leads_split g phenomenon (version v) (version w) leads = absurd leads

to_place : (g : Parts) (kinds : Kinds) (w : ℕ) (x y : Vertex) → (kinds.rw ≡ true → ⊥) → IsVertex g w y → LeadsTo g kinds x y → IsPlace g.txns w
to_place g kinds w x (txn u) no_rw at leads = slice_get_within g.txns w u at
to_place g kinds w (txn t) (version v) no_rw at leads = absurd (no_rw leads.0)
to_place g kinds w (version a) (version v) no_rw at leads = absurd leads

from_place : (g : Parts) (kinds : Kinds) (v : ℕ) (x y : Vertex) → (kinds.rw ≡ true → ⊥) → IsVertex g v x → LeadsTo g kinds x y → IsPlace g.txns v
from_place g kinds v (txn t) y no_rw at leads = slice_get_within g.txns v t at
from_place g kinds v (version a) (txn u) no_rw at leads = absurd (no_rw leads.0)
from_place g kinds v (version a) (version b) no_rw at leads = absurd leads

module _ (task : Task) (kept : AreOfHistory task.graph.txns) (by_versions : RwByVersions task.graph) where
  abbrev g : Parts
  g = task.graph

  abbrev Arc : ℕ → ℕ → Type 0
  Arc = IsArc task.graph (needed_kinds task)

  abbrev Other : ℕ → ℕ → Type 0
  Other = IsArc task.graph (kinds_of (others task.phenomenon) task.level)

  abbrev Free : ℕ → ℕ → Type 0
  Free = IsFreeBack task

  abbrev Paid : ℕ → ℕ → Type 0
  Paid = IsPaidBack task

  arc_split : (v w : ℕ) → IsArc g (kinds_of (way_back task.phenomenon) Plain) v w → Other v w ⊎ (Arc v w × LeadBackToo task.phenomenon)
  arc_split v w (x, y, at, at', leads) = elim (leads_split g task.phenomenon x y leads) [
    | inl h ↦ inl (more_than_plain g (others task.phenomenon) (others task.phenomenon) (among_itself (others task.phenomenon)) task.level v w (x, y, at, at', h))
    | inr h ↦ inr ((x, y, at, at', h.0), h.1)
  ]

  other_to : (v w : ℕ) → Other v w → IsPlace g.txns w
  other_to v w (x, y, at, at', leads) = to_place g (kinds_of (others task.phenomenon) task.level) w x y (others_no_rw task.phenomenon) at' leads

  order_from : (v w : ℕ) → IsArc g (kinds_of dependencies.None task.level) v w → IsPlace g.txns v
  order_from v w (x, y, at, at', leads) = from_place g (kinds_of dependencies.None task.level) v x y (λ h. false≢true h) at leads

  order_other : (v w : ℕ) → IsArc g (kinds_of dependencies.None task.level) v w → Other v w
  order_other = more_at_level g dependencies.None (others task.phenomenon) (none_among (others task.phenomenon)) task.level

  -- a free arc that leaves a place is one of the order
  free_other : (v w : ℕ) → IsPlace g.txns v → Free v w → Other v w
  free_other v w h (inl arc) = order_other v w arc
  free_other v w h (inr (out, arc)) = absurd (out h)

  -- one walk after another
  join :
      (i j x y z : ℕ) (first second : List ℕ) → LeadsWithin Free Paid i x first y → LeadsWithin Free Paid j y second z
      → LeadsWithin Free Paid (i + j) x (first ++ second) z
  join i j x y z [] second same on = more Free Paid j (i + j) x z second (omega arith) (subst (λ v. LeadsWithin Free Paid j v second z) (sym same) on)
  join i j x y z (v ∷ first) second (inl (arc, leads)) on = inl (arc, join i j v y z first second leads on)
  join i j x y z (v ∷ first) second (inr (fewer, one, arc, leads)) on =
      inr (fewer + j, omega (arith, one), arc, join fewer j v y z first second leads on)

  module _ (most cut to from : ℕ) (ranks : List ℕ) (are : AreRanksPast task cut ranks) (none : (b : ℕ) → b < cut → NoneTo task most b) (high : cut ≤ to) (place : IsPlace g.txns to) (edge : HasEdgeBetween g (needed_kinds task) from to) where
    abbrev Up : (ℕ → ℕ → Type 0) → ℕ → ℕ → Type 0
    Up Leads v w = Leads v w × (get_or ranks v 0 ≤ get_or ranks w 0)

    abbrev Risen : (cost v : ℕ) → Type 0
    Risen cost v = (rest : List ℕ) × LeadsWithin (Up Free) (Up Paid) cost v rest from

    first : IsPlace g.txns from
    first = edge.1.leads.first

    far : (v : ℕ) → (IsPlace g.txns v → ⊥) → cut ≤ v
    far v out = elim (cases_lt v (length g.txns)) [
      | inl h ↦ absurd (out h)
      | inr h ↦ omega (arith, h, place, high)
    ]

    -- the rank doesn't fall along the needed edge
    edge_rises : get_or ranks from 0 ≤ get_or ranks to 0
    edge_rises = elim (arcs_of task kept by_versions from to edge) [
      | inl arc ↦ are.needed from to arc high
      | inr (middle, way) ↦
          let reads : get_or ranks from 0 ≤ get_or ranks middle 0 = are.needed from middle way.reads (far middle way.between) in
          let follows : get_or ranks middle 0 ≤ get_or ranks to 0 = are.needed middle to way.follows high in
          omega (arith, reads, follows)
    ]

    -- the needed edge as a step of a way back
    step : LeadBackToo task.phenomenon → (rest : List ℕ) × LeadsWithin Free Paid 1 from rest to
    step too =
        let leads : (v w : ℕ) → Arc v w → IsArc g (kinds_of (way_back task.phenomenon) Plain) v w = more_at_level g (needed task.phenomenon) (way_back task.phenomenon) too Plain in
        elim (arcs_of task kept by_versions from to edge) [
          | inl arc ↦ (to ∷ [], inr (0, refl, (first, leads from to arc), refl))
          | inr (middle, way) ↦
              (middle ∷ to ∷ [], inr (0, refl, (way.first, leads from middle way.reads), inl (inr (way.between, leads middle to way.follows), refl)))
        ]

    -- no such way back has a needed edge to one of the first places
    round :
        LeadBackToo task.phenomenon → (x b i j : ℕ) → b < cut → HasEdgeBetween g (needed_kinds task) x b → (before after : List ℕ)
        → LeadsWithin Free Paid i to before x → LeadsWithin Free Paid j b after from → i + j < most → ⊥
    round too x b i j low e before after leads on few =
        let (steps, closing) = step too in
        let back = join 1 i from to x steps before closing leads in
        let all = join j (1 + i) b from x after (steps ++ before) on back in
        none b low x (e, after ++ (steps ++ before), more Free Paid (j + (1 + i)) most b x (after ++ (steps ++ before)) (omega (arith, few)) all)

    abbrev Rises : ℕ → Type 0
    Rises n =
        (v i j : ℕ) (before rest : List ℕ) → length rest ≤ n → IsPlace g.txns v → LeadsWithin Free Paid i to before v → LeadsWithin Free Paid j v rest from → i + j ≤ most
        → Risen j v

    -- from a place to a version, and on
    by_version :
        (n : ℕ) → Rises n → (v w i fewer : ℕ) (before rest : List ℕ) → length rest ≤ n → IsPlace g.txns v → (IsPlace g.txns w → ⊥) → Paid v w → Arc v w → LeadBackToo task.phenomenon
        → LeadsWithin Free Paid i to before v → LeadsWithin Free Paid fewer w rest from → i + fewer < most
        → Risen (suc fewer) v
    by_version n rises v w i fewer before [] short h out paid arc too leads on few = absurd (out (subst (IsPlace g.txns) (sym on) first))
    by_version n rises v w i fewer before (u ∷ rest) short h out paid arc too leads (inr (less, one, other, on)) few = absurd (out other.0)
    by_version n rises v w i fewer before (u ∷ rest) short h out paid arc too leads (inl (inl order, on)) few = absurd (out (order_from w u order))
    by_version n rises v w i fewer before (u ∷ rest) short h out paid arc too leads (inl (inr (away, follows), on)) few =
        let up : Up Paid v w = (paid, are.needed v w arc (far w out)) in
        let k : IsPlace g.txns u = behind_version g (kinds_of (way_back task.phenomenon) Plain) w u out follows in
        let two : LeadsWithin Free Paid 1 v (w ∷ u ∷ []) u = inr (0, refl, paid, inl (inr (away, follows), refl)) in
        let so_far : LeadsWithin Free Paid (i + 1) to (before ++ w ∷ u ∷ []) u = join i 1 to v u before (w ∷ u ∷ []) leads two in
        let further : get_or ranks w 0 ≤ get_or ranks u 0 → Risen (suc fewer) v = λ up_too.
        let (rest', risen) = rises u (i + 1) fewer (before ++ w ∷ u ∷ []) rest (omega (arith, short)) k so_far on (omega (arith, few)) in
        (w ∷ u ∷ rest', inr (fewer, refl, up, inl ((inr (away, follows), up_too), risen))) in
        elim (arc_split w u follows) [
          | inl other ↦ further (are.others w u other)
          | inr (next, also) ↦ elim (cases_lt u cut) [
            | inr over ↦ further (are.needed w u next over)
            | inl low ↦ elim (cases_Bool (v == u)) [
              | inl same ↦
                  let is : v ≡ u = eqb-true v u same in
                  let (rest', risen) = rises v i fewer before rest (omega (arith, short)) h leads (subst (λ x. LeadsWithin Free Paid fewer x rest from) (sym is) on) (omega (arith, few)) in
                  (rest', more (Up Free) (Up Paid) fewer (suc fewer) v from rest' (omega arith) risen)
              | inr other ↦
                  let way : IsWayByVersion g (needed_kinds task) v w u =
                  record { first = h; between = out; last = k; other = λ is. false≢true (sym other ∙ eq-eqb v u is); reads = arc; follows = next } in
                  absurd (round too v u i fewer low (edge_of_way g kept by_versions (needed_kinds task) v w u way) before rest leads on few)
            ]
          ]
        ]

    rising : (n : ℕ) → Rises n
    rising zero v i j before [] short h leads on few = ([], on)
    rising zero v i j before (w ∷ rest) short h leads on few = absurd (omega (arith, short))
    rising (suc n) v i j before [] short h leads on few = ([], on)
    rising (suc n) v i j before (w ∷ rest) short h leads (inl (free, on)) few =
        let other : Other v w = free_other v w h free in
        let one : LeadsWithin Free Paid 0 v (w ∷ []) w = inl (free, refl) in
        let so_far : LeadsWithin Free Paid (i + 0) to (before ++ w ∷ []) w = join i 0 to v w before (w ∷ []) leads one in
        let (rest', risen) = rising n w (i + 0) j (before ++ w ∷ []) rest (omega (arith, short)) (other_to v w other) so_far on (omega (arith, few)) in
        (w ∷ rest', inl ((free, are.others v w other), risen))
    rising (suc n) v i j before (w ∷ rest) short h leads (inr (fewer, one, paid, on)) few =
        let so_far : LeadsWithin Free Paid (i + 1) to (before ++ w ∷ []) w = join i 1 to v w before (w ∷ []) leads (inr (0, refl, paid, refl)) in
        let further : IsPlace g.txns w → get_or ranks v 0 ≤ get_or ranks w 0 → Risen j v = λ k up.
        let (rest', risen) = rising n w (i + 1) fewer (before ++ w ∷ []) rest (omega (arith, short)) k so_far on (omega (arith, few, one)) in
        (w ∷ rest', inr (fewer, one, (paid, up), risen)) in
        elim (arc_split v w paid.1) [
          | inl other ↦ further (other_to v w other) (are.others v w other)
          | inr (arc, too) ↦ elim (cases_lt w (length g.txns)) [
            | inl k ↦ elim (cases_lt w cut) [
              | inr over ↦ further k (are.needed v w arc over)
              | inl low ↦
                  absurd (round too v w i fewer low (edge_of_direct g (needed_kinds task) v w (record { first = h; last = k; arc = arc })) before rest leads on (omega (arith, few, one)))
            ]
            | inr over ↦
                subst (λ c. Risen c v) (sym one)
                (by_version n (rising n) v w i fewer before rest (omega (arith, short)) h (λ k. omega (arith, k, over)) paid arc too leads on (omega (arith, few, one)))
          ]
        ]

    risen : (rest : List ℕ) → LeadsWithin Free Paid most to rest from → Risen most to
    risen rest leads = rising (length rest) to 0 most [] rest (omega arith) place refl leads (omega arith)

    -- ---- within one rank

    up : (cost v : ℕ) (rest : List ℕ) → LeadsWithin (Up Free) (Up Paid) cost v rest from → get_or ranks v 0 ≤ get_or ranks from 0
    up cost v [] same = subst (λ u. get_or ranks v 0 ≤ get_or ranks u 0) same (omega arith)
    up cost v (w ∷ rest) (inl ((arc, rise), on)) =
        let here : get_or ranks v 0 ≤ get_or ranks w 0 = rise in
        omega (arith, here, up cost w rest on)
    up cost v (w ∷ rest) (inr (fewer, one, (arc, rise), on)) =
        let here : get_or ranks v 0 ≤ get_or ranks w 0 = rise in
        omega (arith, here, up fewer w rest on)

    module _ (free paid : List (List ℕ)) (free_are : AreArcsThat g (IsFreeBack task) free) (paid_are : AreArcsThat g (IsPaidBack task) paid) where
      abbrev rank_of_to : ℕ
      rank_of_to = get_or ranks to 0

      abbrev FreeInto : ℕ → ℕ → Type 0
      FreeInto = HasArcInto (graph_by free) (of_rank ranks rank_of_to)

      abbrev PaidInto : ℕ → ℕ → Type 0
      PaidInto = HasArcInto (graph_by paid) (of_rank ranks rank_of_to)

      into : (cost v : ℕ) (rest : List ℕ) → rank_of_to ≤ get_or ranks v 0 → LeadsWithin (Up Free) (Up Paid) cost v rest from → LeadsWithin FreeInto PaidInto cost v rest from
      into cost v [] low same = same
      into cost v (w ∷ rest) low (inl ((arc, rise), on)) =
          let here : get_or ranks v 0 ≤ get_or ranks w 0 = rise in
          let end : get_or ranks w 0 ≤ get_or ranks from 0 = up cost w rest on in
          let same : get_or ranks w 0 ≡ rank_of_to = omega (arith, low, here, end, edge_rises) in
          inl (((free_are.arcs v w).1 arc, eq-eqb (get_or ranks w 0) rank_of_to same), into cost w rest (omega (arith, same)) on)
      into cost v (w ∷ rest) low (inr (fewer, one, (arc, rise), on)) =
          let here : get_or ranks v 0 ≤ get_or ranks w 0 = rise in
          let end : get_or ranks w 0 ≤ get_or ranks from 0 = up fewer w rest on in
          let same : get_or ranks w 0 ≡ rank_of_to = omega (arith, low, here, end, edge_rises) in
          inr (fewer, one, ((paid_are.arcs v w).1 arc, eq-eqb (get_or ranks w 0) rank_of_to same), into fewer w rest (omega (arith, same)) on)

      pub within_rank : (rest : List ℕ) → LeadsWithin Free Paid most to rest from → (rest' : List ℕ) × LeadsWithin FreeInto PaidInto most to rest' from
      within_rank rest leads =
          let (rest', is) = risen rest leads in
          (rest', into most to rest' (omega arith) is)

  -- ---- a way back

  module _ (lists : List (List ℕ)) (arcs : AreArcs g (needed_kinds task) lists) (free paid : List (List ℕ)) (free_are : AreArcsThat g (IsFreeBack task) free) (paid_are : AreArcsThat g (IsPaidBack task) paid) (most to : ℕ) (ranks : List ℕ) (are : AreRanksPast task to ranks) (none : (b : ℕ) → b < to → NoneTo task most b) (marks : List ℕ) (place : IsPlace g.txns to) (true_marks : AreTrueMarks task marks) (all_marked : AreMarkedFor task to marks) where
    abbrev Allowed : List (List ℕ) → (rank : ℕ) → ℕ → ℕ → Type 0
    Allowed lists rank = HasArcInto (graph_by lists) (of_rank ranks rank)

    abbrev targets : VertexSet
    targets = marked (length g.txns) lists marks (suc to)

    return_in :
        (found : Option (List ℕ)) → IsWalkToTargetIfAny (Allowed free (get_or ranks to 0)) (Allowed paid (get_or ranks to 0)) targets most to found
        → IsReturnIfAny task most to found
    return_in None nothing = λ from (edge, rest, leads).
        let (rest', within) = within_rank most to to from ranks are none (omega arith) place edge free paid free_are paid_are rest leads in
        nothing from (is_target task kept by_versions lists arcs marks to place true_marks all_marked from edge) (apart task kept by_versions lists arcs from to edge) rest' within
    return_in (Some way) (from, target, other, walk) = (
      from,
      target_has_edge task kept by_versions lists arcs marks to place true_marks all_marked from other target,
      record {
        rest = walk.rest;
        vertices = walk.vertices;
        leads =
            along (Allowed free (get_or ranks to 0)) (Allowed paid (get_or ranks to 0)) Free Paid most to from walk.rest (λ v w h. (free_are.arcs v w).0 h.0) (λ v w h. (paid_are.arcs v w).0 h.0)
            walk.leads;
      },
    )

    -- the same, where what the search was given has other names
    pub return_in_rank :
        (n rank mark : ℕ) (found : Option (List ℕ)) → n ≡ length g.txns → rank ≡ get_or ranks to 0 → mark ≡ suc to
        → IsWalkToTargetIfAny (Allowed free rank) (Allowed paid rank) (marked n lists marks mark) most to found → IsReturnIfAny task most to found
    return_in_rank n rank mark found same own numbered is =
        let Answer : ℕ → ℕ → ℕ → Type 0 = λ n rank mark. IsWalkToTargetIfAny (Allowed free rank) (Allowed paid rank) (marked n lists marks mark) most to found in
        return_in found
        (subst (λ k. Answer (length g.txns) (get_or ranks to 0) k) numbered (subst (λ k. Answer (length g.txns) k mark) own (subst (λ k. Answer k rank mark) same is)))

-- ---- ranks

-- ranks that fall along fewer arcs do for a later cut
pub later_cut : (task : Task) (cut later : ℕ) (ranks : List ℕ) → cut ≤ later → AreRanksPast task cut ranks → AreRanksPast task later ranks
later_cut task cut later ranks low are =
    record { one_each = are.one_each; others = are.others; needed = λ v w arc h. are.needed v w arc (omega (arith, low, h)) }

-- ranks of lists of arcs are ranks of the graph
pub ranks_of_lists :
    (task : Task) (other_lists needed_lists : List (List ℕ)) (cut : ℕ) (ranks : List ℕ) → AreArcs task.graph (kinds_of (others task.phenomenon) task.level) other_lists
    → AreArcs task.graph (needed_kinds task) needed_lists → RisePast other_lists needed_lists cut ranks → AreRanksPast task cut ranks
ranks_of_lists task other_lists needed_lists cut ranks others_are needed_are rise = record {
  one_each = rise.one_each ∙ needed_are.count;
  others = λ v w arc. rise.others v w ((others_are.arcs v w).1 arc);
  needed = λ v w arc h. rise.needed v w ((needed_are.arcs v w).1 arc) h;
}

module _ (n : ℕ) (pairs : List (ℕ × ℕ)) where
  abbrev groups : List (List ℕ)
  groups = groups_from 0 n pairs

  -- what is grouped are vertices
  pub groups_within : All (IsPairWithin n) pairs → AreWithin groups
  groups_within all v d h j e l =
      let count : length groups ≡ n = length-groups 0 n pairs in
      let below : v < n = omega (arith, h, count) in
      let zero' : 0 + v ≡ v = omega arith in
      let same : get_or groups v d ≡ group v pairs = get_or_from_slice_get groups v (group (0 + v) pairs) d (group_at 0 n v pairs below) ∙ ap (λ k. group k pairs) zero' in
      let low : (w : ℕ) → Contains (group v pairs) w → w < length groups = λ w c.
      let both = All-contains (IsPairWithin n) pairs (v, w) all (Contains_from_in (v, w) pairs (from_group v w pairs (in_from_Contains w (group v pairs) c))) in
      let up : w < n = both.1 in
      omega (arith, up, count) in
      subst (λ xs. (j : ℕ) → (e : ℕ) → j < length xs → get_or xs j e < length groups) (sym same) (λ j e l. low (get_or (group v pairs) j e) (j, l, get_or_default (group v pairs) j (get_or (group v pairs) j e) e l)) j e l

  has : (v w : ℕ) → v < n → Contains pairs (v, w) → HasArc (graph_by groups) v w
  has v w h c =
      let count : length groups ≡ n = length-groups 0 n pairs in
      (omega (arith, h, count), subst (λ xs. Contains xs w) (sym (group_is n v pairs h)) (Contains_from_in w (group v pairs) (group_has v w pairs (in_from_Contains (v, w) pairs c))))

  -- ranks over the arcs of the pairs
  pub rise_past :
      (other_lists needed_lists : List (List ℕ)) (cut : ℕ) (ranks : List ℕ) → n ≡ length needed_lists → length other_lists ≡ length needed_lists → ((v : ℕ) → v < n → HasArcsPast other_lists v 0 pairs)
      → ((v : ℕ) → v < n → HasArcsPast needed_lists v cut pairs) → AreRanks (graph_by groups) ranks → RisePast other_lists needed_lists cut ranks
  rise_past other_lists needed_lists cut ranks same even others needed are = record {
    one_each = are.one_each ∙ length-groups 0 n pairs ∙ same;
    others = λ v w arc.
        let h : v < length other_lists = arc.0 in
        let below : v < n = omega (arith, h, same, even) in
        are.rising v w (has v w below (others v below w arc (omega arith)));
    needed = λ v w arc high.
        let h : v < length needed_lists = arc.0 in
        let below : v < n = omega (arith, h, same) in
        are.rising v w (has v w below (needed v below w arc high));
  }
