-- A search that leaves out the vertices whose rank is too high misses outside way.
use Rattle.std.proofs.Common.{◌≡◌, ◌∙◌, ◌≤◌, ◌+◌, ◌<◌, ℕ, length, List, get_or, Bool, true, false, Option, Some, None, sym, subst}
use Rattle.std.specs.Prelude.{nat_le, ◌&&◌}
use Rattle.std.proofs.lemmas.Bool.{true≢false, and_from, le-leb}
use Rattle.graph_search.specs.Graphs.{VertexSet, HasArcInto, IsWalk, IsWalkIfAny}
use Rattle.edge_graph.specs.Parts.{Parts}
use Rattle.edge_graph.specs.Vertices.{IsArc, graph_by, AreArcs}
use Rattle.edge_graph.specs.declared.types.Kinds.{Kinds}
use Rattle.cycle_find.specs.Ranked.{AreRanksOver, AreRanksWithin, not_above}
use Rattle.cycle_find.proofs.RankedArcs.{along, to_last, within, IsArcWithin, rising_within}

module _ (g : Parts) (kinds : Kinds) (lists : List (List ℕ)) (coarse ranks back far late : List ℕ) (arcs : AreArcs g kinds lists) (coarse_are : AreRanksOver g kinds coarse) (are : AreRanksWithin g kinds coarse ranks) (back_are : AreRanksWithin g kinds coarse back) (far_are : AreRanksWithin g kinds coarse far) (late_are : AreRanksWithin g kinds coarse late) (from to : ℕ) (no_lower : get_or coarse to 0 ≤ get_or coarse from 0) where
  abbrev allowed : VertexSet
  allowed = not_above coarse ranks back far late to

  abbrev below : List ℕ → ℕ → Bool
  below some v = nat_le (get_or some v 0) (get_or some to 0)

  in_set : (v : ℕ) → get_or coarse v 0 ≤ get_or coarse to 0 → get_or ranks v 0 ≤ get_or ranks to 0 → get_or back v 0 ≤ get_or back to 0 → get_or far v 0 ≤ get_or far to 0 → get_or late v 0 ≤ get_or late to 0 → allowed.has v ≡ true
  in_set v by_coarse by_ranks by_back by_far by_late =
      let low : (some : List ℕ) → get_or some v 0 ≤ get_or some to 0 → below some v ≡ true = λ some h. le-leb (get_or some v 0) (get_or some to 0) h in
      and_from (below late v && below back v && below far v && below ranks v) (below coarse v)
      (and_from (below late v && below back v && below far v) (below ranks v)
      (and_from (below late v && below back v) (below far v)
      (and_from (below late v) (below back v) (low late by_late) (low back by_back)) (low far by_far)) (low ranks by_ranks)) (low coarse by_coarse)

  -- all of a way is in the set
  on_way : (walk : List ℕ) → IsWalk (IsArc g kinds) from to walk → (k : ℕ) → k < length walk → allowed.has (get_or walk k 0) ≡ true
  on_way walk is k h =
      let inner = within g kinds coarse coarse_are from to walk no_lower is in
      let L = IsArcWithin g kinds coarse in
      in_set (get_or walk k 0) (to_last (IsArc g kinds) coarse coarse_are.rising from to walk is k h)
      (to_last L ranks (rising_within g kinds coarse ranks are) from to walk inner k h)
      (to_last L back (rising_within g kinds coarse back back_are) from to walk inner k h)
      (to_last L far (rising_within g kinds coarse far far_are) from to walk inner k h)
      (to_last L late (rising_within g kinds coarse late late_are) from to walk inner k h)

  -- no way leads down
  pub none_above : allowed.has from ≡ false → (walk : List ℕ) → IsWalk (IsArc g kinds) from to walk → ⊥
  none_above outside walk is = true≢false (sym (subst (λ v. allowed.has v ≡ true) is.begins (on_way walk is 0 is.some)) ∙ outside)

  inside : (walk : List ℕ) → IsWalk (IsArc g kinds) from to walk → IsWalk (HasArcInto (graph_by lists) allowed) from to walk
  inside walk is = record {
    some = is.some;
    begins = is.begins;
    ends = is.ends;
    joined = λ k h. ((arcs.arcs (get_or walk k 0) (get_or walk (k + 1) 0)).1 (is.joined k h), on_way walk is (k + 1) h);
  }

  pub found : (way : Option (List ℕ)) → IsWalkIfAny (HasArcInto (graph_by lists) allowed) from to way → IsWalkIfAny (IsArc g kinds) from to way
  found None none = λ walk is. none walk (inside walk is)
  found (Some walk) is = along (HasArcInto (graph_by lists) allowed) (IsArc g kinds) from to walk (λ v w h. (arcs.arcs v w).0 h.0) is
