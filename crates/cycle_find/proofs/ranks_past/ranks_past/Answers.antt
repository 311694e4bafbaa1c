use Rattle.std.proofs.Common.{◌≡◌, ◌∙◌, ◌<◌, ℕ, length, All, arith, below_more, sym, ap, subst}
use Rattle.std.proofs.lemmas.Result.{IfOk-weaker}
use Rattle.edge_graph.specs.Made.{AreWithin}
use Rattle.edge_graph.specs.Vertices.{graph_by}
use Rattle.flat_groups.specs.Groups.{groups_from}
use Rattle.graph_search.specs.Graphs.{AreRanks}
use Rattle.cycle_find.specs.Past.{HasArcsPast, IsPairWithin}
use Rattle.cycle_find.proofs.Grouped.{length-groups}
use Rattle.cycle_find.proofs.Past.{groups_within, rise_past}
use Rattle.cycle_find.proofs.ranks_past.ranks_past.Goals as goal

pub loop-from-preserved : goal.loop-from-preserved
loop-from-preserved c =
    let v = c.loop-from.from in
    let inv = c.loop-from.invariant in
    let first = c.in_ok-add_arcs_past.ensures in
    let second = c.in_ok-add_arcs_past-2.ensures in
    let pairs = c.add_arcs_past-in-loop-from.new.pairs.items in
    record {
      within = second.within;
      others =
          below_more (λ u. HasArcsPast c.args.others.now u 0 pairs) v (λ u h to arc high. second.kept (u, to) (first.kept (u, to) (inv.others u h to arc high)))
          (λ to arc high. second.kept (v, to) (first.added to arc high));
      needed =
          below_more (λ u. HasArcsPast c.args.needed.now u c.args.cut pairs) v (λ u h to arc high. second.kept (u, to) (first.kept (u, to) (inv.needed u h to arc high)))
          second.added;
    }

pub invariant_of-arcs : goal.invariant_of-arcs
invariant_of-arcs c =
    let n = c.vertices-2.result in
    let pairs = c.deref.result.now in
    let is : c.in_ok-of.field-0 ≡ groups_from 0 n pairs = c.in_ok-of.ensures in
    let given : All (IsPairWithin n) c.loop-from.pairs.items =
    subst (λ k. All (IsPairWithin k) c.loop-from.pairs.items) (sym c.vertices-2.ensures) c.loop-from.invariant.within in
    let within : All (IsPairWithin n) pairs = subst (All (IsPairWithin n)) (sym c.deref.ensures.value) given in
    record {
      within = (
        ap length is ∙ length-groups 0 n pairs ∙ c.vertices-2.ensures ∙ sym c.vertices.ensures,
        subst AreWithin (sym is) (groups_within n pairs within),
      );
    }

pub returns : goal.returns
returns c =
    let n = c.vertices-2.result in
    let pairs = c.deref.result.now in
    let others = c.args.others.now in
    let needed = c.args.needed.now in
    let inv = c.loop-from.invariant in
    let is : c.in_ok-of.field-0 ≡ groups_from 0 n pairs = c.in_ok-of.ensures in
    let same : n ≡ length needed = c.vertices-2.ensures in
    let seen : c.loop-from.pairs.items ≡ pairs = sym c.deref.ensures.value in
    let below : (v : ℕ) → v < n → v < c.loop-from.from = λ v h. omega (arith, h, same, c.loop-from-test.false, c.vertices-from-end.ensures) in
    IfOk-weaker c.of-2.result _ _
    (λ ranks are.
    rise_past n pairs others needed c.args.cut ranks same c.requires (λ v h. subst (HasArcsPast others v 0) seen (inv.others v (below v h))) (λ v h. subst (HasArcsPast needed v c.args.cut) seen (inv.needed v (below v h)))
    (subst (λ lists. AreRanks (graph_by lists) ranks) is are))
    c.of-2.ensures
