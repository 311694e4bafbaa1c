-- Ways back with few dependency edges: which there can be, and what they and their needed edges make.
use Rattle.std.proofs.Common.{◌≡◌, ◌∙◌, ◌<◌, ◌≤◌, ℕ, suc, List, [], ◌∷◌, length, get_or, Bool, true, false, ◌||◌, ◌==◌, is_some, Option, Some, None, inl, inr, ◌⊎◌, Contains, sym, ap, subst, arith}
use Rattle.std.specs.List.{list_any}
use Rattle.std.specs.Prelude.{nat_lt, nat_le}
use Rattle.std.proofs.lemmas.Bool.{true≢false, cases_lt, and_parts, and_from, or_cases, or_left, or_right, ltb-true, lt-ltb, leb-true, le-leb, eqb-true, eq-eqb}
use Rattle.std.proofs.lemmas.List.Folds.{list_any_at}
use Rattle.hist_types.proofs.Members.{in_from_Contains, Contains_from_in}
use Rattle.hist_types.specs.Edges.{Edge}
use Rattle.hist_types.specs.Witness.{dependencies_in, HasFewest}
use Rattle.hist_types.specs.declared.types.Level.TheVariants.{Plain}
use Rattle.history_laws.specs.WaysBack.{is_needed}
use Rattle.history_laws.proofs.Fewest.{few_by_one, one_more}
use Rattle.history_laws.proofs.ThinningPaths.{some_passes}
use Rattle.dep_edges.specs.Histories.{AreOfHistory}
use Rattle.dep_edges.specs.Tables.{IsPlace, txn_at}
use Rattle.edge_graph.specs.Costs.{AreAsCheap}
use Rattle.edge_graph.specs.Parts.{Parts, edges_in}
use Rattle.edge_graph.specs.Vertices.{IsArc, AreArcs, AreArcsThat, RwByVersions, graph_by}
use Rattle.edge_graph.specs.Walks.{LeadsBetween, IsEdgeBetween, HasEdgeBetween, IsWayByVersion, AreEdgesAlong}
use Rattle.edge_graph.proofs.EdgeArcs.{edge_of_direct, edge_of_way, cheap_over, walk_of}
use Rattle.graph_search.specs.Costs.{BoundsWalks, IsWalkToTargetIfAny, IsWalkWithin, Labelling, not_above}
use Rattle.graph_search.specs.Graphs.{HasArc, HasArcInto, IsWalk, VertexSet}
use Rattle.graph_search.proofs.Bounds.{stays_below}
use Rattle.graph_search.proofs.Costs.{along}
use Rattle.cycle_find.specs.Dependencies.{way_back}
use Rattle.cycle_find.specs.Fewest.{IsFreeBack, IsPaidBack, NoneTo, ShowsWithin, IsWithinOr, IsReturnIfAny, AreLabels, AreLeading, AreLast, AreTrueMarks, AreMarkedFor, is_marked_version, marked}
use Rattle.cycle_find.specs.Found.{NeedsMoreThan}
use Rattle.cycle_find.specs.Tasks.{Task, task_of, needed_kinds, back_kinds}
use Rattle.cycle_find.proofs.Closing.{needed_kind, shows_along}
use Rattle.cycle_find.proofs.OrderBack.{has_arcs}
use Rattle.cycle_find.proofs.ArcsBetween.{arcs_there}
use Rattle.cycle_find.proofs.ArcsBetween.{apart as no_loop}
use Rattle.cycle_find.proofs.Returning.{returning}

-- ---- a walk, or nothing

pub within_or : (task : Task) (most : ℕ) (A B : Type 0) (found : Option (List Edge)) → (A → B) → IsWithinOr task most A found → IsWithinOr task most B found
within_or task most A B None f is = f is
within_or task most A B (Some walk) f is = is

pub within_otherwise : (task : Task) (most : ℕ) (A : Type 0) (found : Option (List Edge)) → is_some found ≡ false → IsWithinOr task most A found → A
within_otherwise task most A None none is = is
within_otherwise task most A (Some walk) none is = absurd (true≢false none)

module _ (task : Task) (kept : AreOfHistory task.graph.txns) (by_versions : RwByVersions task.graph) where
  abbrev g : Parts
  g = task.graph

  abbrev es : List Edge
  es = edges_in task.graph task.level

  abbrev Arc : ℕ → ℕ → Type 0
  Arc = IsArc task.graph (needed_kinds task)

  -- ---- none

  places : (e : Edge) → Contains es e → is_needed task.phenomenon e ≡ true → (from to : ℕ) × LeadsBetween g from to e
  places e among is = elim (has_arcs g task.phenomenon task.level by_versions e among is) [
    | inl (other, (from, to, leads, arc)) ↦ (from, to, leads)
    | inr (same, (from, version, to, leads, way)) ↦ (from, to, leads)
  ]

  -- where no needed edge has a way back of so few, each walk needs more
  pub needs_more : (most : ℕ) → ((to : ℕ) → IsPlace g.txns to → NoneTo task most to) → NeedsMoreThan (suc most) task.phenomenon es
  needs_more most none walk is = elim (cases_lt (suc most) (dependencies_in walk)) [
    | inl more ↦ more
    | inr few ↦
        let (e, among, needs, back, leads, fewer) = (few_by_one task.phenomenon es most).0 (walk, is, omega (arith, few)) in
        let (from, to, ends) = places e among needs in
        let (edge, along) = returning task kept by_versions from to e back among needs leads ends in
        let cheap = cheap_over g kept by_versions (back_kinds task) to from ends.last ends.first back along most fewer in
        absurd (none to ends.last from ((e, edge), cheap.0, cheap.1))
  ]

  -- a needed edge has an arc of its own, or two by a version
  pub arcs_of :
      (from to : ℕ) → HasEdgeBetween g (needed_kinds task) from to
      → Arc from to ⊎ ((version : ℕ) × IsWayByVersion g (needed_kinds task) from version to)
  arcs_of from to edge =
      elim (arcs_there (task_of g task.phenomenon Plain) kept by_versions from to edge) [
        | inl (other, arc) ↦ inl arc
        | inr (same, version, way) ↦ inr (version, way)
      ]

  module _ (lists : List (List ℕ)) (arcs : AreArcs g (needed_kinds task) lists) where
    listed : (v w : ℕ) → Arc v w → HasArc (graph_by lists) v w
    listed v w = (arcs.arcs v w).1

    -- nothing leads to the vertex by a needed arc
    pub none_leads : (leading : List (List ℕ)) (most to : ℕ) → AreLeading lists leading → length (get_or leading to []) ≡ 0 → NoneTo task most to
    none_leads leading most to are empty from (edge, rest, leads) = elim (arcs_of from to edge) [
      | inl arc ↦ nothing from arc
      | inr (version, way) ↦ nothing version way.follows
    ]
      where
        nothing : (v : ℕ) → Arc v to → ⊥
        nothing v arc =
            let (k, h, is) = (are.exactly v to).1 (listed v to arc) in
            omega (arith, h, empty)

    -- the last that leads to the vertex isn't before any from which a needed edge does
    pub at_most_last : (last : List ℕ) → AreLast (length g.txns) lists last → (from to : ℕ) → HasEdgeBetween g (needed_kinds task) from to → from ≤ get_or last to 0
    at_most_last last are from to edge = elim (arcs_of from to edge) [
      | inl arc ↦ are.direct from to edge.1.leads.first (listed from to arc)
      | inr (version, way) ↦ are.by_version from version to way.first way.between (listed from version way.reads) (listed version to way.follows)
    ]

    -- where the label is above that, no way leads back
    pub none_above : (last : List ℕ) (labels : Labelling) (to : ℕ) → AreLast (length g.txns) lists last → AreLabels task labels → get_or last to 0 < get_or labels.numbers to 0 → NoneTo task labels.most to
    none_above last labels to are labelled above from (edge, rest, leads) =
        omega (arith, above, at_most_last last are from to edge, labelled.bounding to from edge.1.leads.first rest leads)

    -- ---- targets

    module _ (marks : List ℕ) (to : ℕ) (place : IsPlace g.txns to) (true_marks : AreTrueMarks task marks) (all_marked : AreMarkedFor task to marks) where
      abbrev targets : VertexSet
      targets = marked (length g.txns) lists marks (suc to)

      abbrev is_version : ℕ → Bool
      is_version = is_marked_version (length g.txns) marks (suc to)

      reads_any : (from version : ℕ) → Arc from version → is_version version ≡ true → list_any is_version (get_or lists from []) ≡ true
      reads_any from version arc is =
          let (k, h, same) = (listed from version arc).1 in
          list_any_at is_version (get_or lists from []) k version h (subst (λ v. is_version v ≡ true) (sym same) is)

      pub is_target : (from : ℕ) → HasEdgeBetween g (needed_kinds task) from to → targets.has from ≡ true
      is_target from edge =
          let below = lt-ltb from (length g.txns) edge.1.leads.first in
          elim (arcs_of from to edge) [
            | inl arc ↦
                let mark = eq-eqb (get_or marks from 0) (suc to) (all_marked from arc) in
                and_from (nat_lt from (length g.txns)) _ below (or_left (get_or marks from 0 == suc to) (list_any is_version (get_or lists from [])) mark)
            | inr (version, way) ↦
                let far : length g.txns ≤ version = elim (cases_lt version (length g.txns)) [ inl h ↦ absurd (way.between h) | inr h ↦ h ] in
                let mark = eq-eqb (get_or marks version 0) (suc to) (all_marked version way.follows) in
                let is = and_from (nat_le (length g.txns) version) (get_or marks version 0 == suc to) (le-leb (length g.txns) version far) mark in
                and_from (nat_lt from (length g.txns)) _ below (or_right (get_or marks from 0 == suc to) (list_any is_version (get_or lists from [])) (reads_any from version way.reads is))
          ]

      direct_edge : (from : ℕ) → IsPlace g.txns from → get_or marks from 0 ≡ suc to → HasEdgeBetween g (needed_kinds task) from to
      direct_edge from h mark = edge_of_direct g (needed_kinds task) from to (record { first = h; last = place; arc = true_marks from to mark })

      edge_by : (from : ℕ) → IsPlace g.txns from → ¬ (from ≡ to) → list_any is_version (get_or lists from []) ≡ true → HasEdgeBetween g (needed_kinds task) from to
      edge_by from h other some =
          let (version, at, is) = some_passes is_version (get_or lists from []) some in
          let both = and_parts (nat_le (length g.txns) version) (get_or marks version 0 == suc to) is in
          let far : length g.txns ≤ version = leb-true (length g.txns) version both.0 in
          let mark : get_or marks version 0 ≡ suc to = eqb-true (get_or marks version 0) (suc to) both.1 in
          let reads : Arc from version = (arcs.arcs from version).0 (omega (arith, h, arcs.count), Contains_from_in version (get_or lists from []) at) in
          edge_of_way g kept by_versions (needed_kinds task) from version to
          (record { first = h; between = λ below. omega (arith, far, below); last = place; other = other; reads = reads; follows = true_marks version to mark })

      pub target_has_edge : (from : ℕ) → ¬ (to ≡ from) → targets.has from ≡ true → HasEdgeBetween g (needed_kinds task) from to
      target_has_edge from other is =
          let both = and_parts (nat_lt from (length g.txns)) (get_or marks from 0 == suc to || list_any is_version (get_or lists from [])) is in
          let h : IsPlace g.txns from = ltb-true from (length g.txns) both.0 in
          elim (or_cases (get_or marks from 0 == suc to) (list_any is_version (get_or lists from [])) both.1) [
            | inl mark ↦ direct_edge from h (eqb-true (get_or marks from 0) (suc to) mark)
            | inr some ↦ edge_by from h (λ same. other (sym same)) some
          ]

    -- ---- a way back

    pub apart : (from to : ℕ) → HasEdgeBetween g (needed_kinds task) from to → ¬ (to ≡ from)
    apart from to (e, is) same =
        no_loop (task_of g task.phenomenon Plain) kept by_versions e (in_from_Contains e (edges_in g Plain) is.edge.among)
        (is.leads.ends ∙ ap (λ n. (txn_at g.txns n).invocation) same ∙ sym is.leads.begins)

    module _ (free paid : List (List ℕ)) (free_are : AreArcsThat g (IsFreeBack task) free) (paid_are : AreArcsThat g (IsPaidBack task) paid) where
      -- bounds of the arcs are bounds of the lists, and the other way round
      pub bounds_listed : (most : ℕ) (numbers : List ℕ) → BoundsWalks (IsFreeBack task) (IsPaidBack task) (length g.txns) most numbers → BoundsWalks (HasArc (graph_by free)) (HasArc (graph_by paid)) (length g.txns) most numbers
      bounds_listed most numbers bound from to place rest leads =
          bound from to place rest (along (HasArc (graph_by free)) (HasArc (graph_by paid)) (IsFreeBack task) (IsPaidBack task) most from to rest (λ v w. (free_are.arcs v w).0) (λ v w. (paid_are.arcs v w).0) leads)

      pub bounds_of_lists : (most : ℕ) (numbers : List ℕ) → BoundsWalks (HasArc (graph_by free)) (HasArc (graph_by paid)) (length g.txns) most numbers → BoundsWalks (IsFreeBack task) (IsPaidBack task) (length g.txns) most numbers
      bounds_of_lists most numbers bound from to place rest leads =
          bound from to place rest (along (IsFreeBack task) (IsPaidBack task) (HasArc (graph_by free)) (HasArc (graph_by paid)) most from to rest (λ v w. (free_are.arcs v w).1) (λ v w. (paid_are.arcs v w).1) leads)

      module _ (last : List ℕ) (labels : Labelling) (last_are : AreLast (length g.txns) lists last) (labelled : AreLabels task labels) (marks : List ℕ) (to : ℕ) (place : IsPlace g.txns to) (true_marks : AreTrueMarks task marks) (all_marked : AreMarkedFor task to marks) where
        abbrev allowed : VertexSet
        allowed = not_above labels.numbers (get_or last to 0)

        abbrev Free : ℕ → ℕ → Type 0
        Free = HasArcInto (graph_by free) allowed

        abbrev Paid : ℕ → ℕ → Type 0
        Paid = HasArcInto (graph_by paid) allowed

        pub return_of : (found : Option (List ℕ)) → IsWalkToTargetIfAny Free Paid (targets marks to place true_marks all_marked) labels.most to found → IsReturnIfAny task labels.most to found
        return_of None none = λ from (edge, rest, leads).
            let listed_leads = along (IsFreeBack task) (IsPaidBack task) (HasArc (graph_by free)) (HasArc (graph_by paid)) labels.most to from rest (λ v w. (free_are.arcs v w).1) (λ v w. (paid_are.arcs v w).1) leads in
            none from (is_target marks to place true_marks all_marked from edge) (apart from to edge) rest
            (stays_below (HasArc (graph_by free)) (HasArc (graph_by paid)) (length g.txns) labels.most labels.most (get_or last to 0) to from labels.numbers rest
            (bounds_listed labels.most labels.numbers labelled.bounding) edge.1.leads.first (at_most_last last last_are from to edge) (omega arith) listed_leads)
        return_of (Some way) (from, target, other, walk) = (
          from,
          target_has_edge marks to place true_marks all_marked from other target,
          record {
            rest = walk.rest;
            vertices = walk.vertices;
            leads = along Free Paid (IsFreeBack task) (IsPaidBack task) labels.most to from walk.rest (λ v w h. (free_are.arcs v w).0 h.0) (λ v w h. (paid_are.arcs v w).0 h.0) walk.leads;
          },
        )

        -- the same, where what the search was given has other names
        pub return_by :
            (n top mark cost : ℕ) (found : Option (List ℕ)) → n ≡ length g.txns → top ≡ get_or last to 0 → mark ≡ suc to → cost ≡ labels.most
            → IsWalkToTargetIfAny (HasArcInto (graph_by free) (not_above labels.numbers top)) (HasArcInto (graph_by paid) (not_above labels.numbers top)) (marked n lists marks mark) cost to found
            → IsReturnIfAny task labels.most to found
        return_by n top mark cost found same highest numbered costs is =
            let Answer : ℕ → ℕ → ℕ → ℕ → Type 0 = λ n top mark cost.
            IsWalkToTargetIfAny (HasArcInto (graph_by free) (not_above labels.numbers top)) (HasArcInto (graph_by paid) (not_above labels.numbers top)) (marked n lists marks mark) cost to found in
            return_of found
            (subst (λ k. Answer (length g.txns) (get_or last to 0) (suc to) k) costs
            (subst (λ k. Answer (length g.txns) (get_or last to 0) k cost) numbered
            (subst (λ k. Answer (length g.txns) k mark cost) highest
            (subst (λ k. Answer k top mark cost) same is))))

  -- ---- the closed walk

  pub walk_along : (most to from : ℕ) (way : List ℕ) → IsWalkWithin (IsFreeBack task) (IsPaidBack task) most to from way → IsWalk (IsArc g (back_kinds task)) to from way
  walk_along most to from way walk = subst (IsWalk (IsArc g (back_kinds task)) to from) (sym walk.vertices) (walk_of g (back_kinds task) most to walk.rest from walk.leads)

  pub shows_within :
      (most to from : ℕ) (way : List ℕ) (e : Edge) (back : List Edge) → IsWalkWithin (IsFreeBack task) (IsPaidBack task) most to from way → IsEdgeBetween g (needed_kinds task) from to e
      → AreEdgesAlong g (back_kinds task) way back → AreAsCheap g (way_back task.phenomenon) task.level way back → ShowsWithin task most (e ∷ back)
  shows_within most to from way e back walk is are cheap =
      let steps = walk_along most to from way walk in
      let few : dependencies_in back ≤ most = cheap most (to, from, walk) in
      record {
        shows = shows_along task from to way e back steps.begins steps.ends is are;
        few = omega (arith, few, one_more task.phenomenon e back (needed_kind g task.phenomenon e is.edge));
      }

  -- ---- the fewest

  -- a walk of so many, where each needs more than one less
  pub fewest_within : (most floor : ℕ) (walk : List Edge) → ShowsWithin task most walk → floor ≤ most → (floor < most → NeedsMoreThan most task.phenomenon es) → NeedsMoreThan floor task.phenomenon es → HasFewest task.phenomenon es walk
  fewest_within most floor walk within reached passed above other is = elim (cases_lt floor most) [
    | inl higher ↦ omega (arith, within.few, passed higher other is)
    | inr even ↦ omega (arith, within.few, reached, even, above other is)
  ]
