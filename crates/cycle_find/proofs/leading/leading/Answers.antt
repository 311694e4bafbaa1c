use Rattle.std.proofs.Common.{◌≡◌, ◌∙◌, length, All, arith, below_more, sym, ap, subst}
use Rattle.std.proofs.lemmas.Result.{IfOk-weaker}
use Rattle.flat_groups.specs.Groups.{IsNumbered, groups_from}
use Rattle.cycle_find.specs.Fewest.{AreLeading, HasArcsFrom}
use Rattle.cycle_find.proofs.Turned.{leading_of}
use Rattle.cycle_find.proofs.leading.leading.Goals as goal

pub loop-from-preserved : goal.loop-from-preserved
loop-from-preserved c =
    let pairs = c.add_arcs.new.pairs.items in
    record {
      numbered = c.in_ok-add_arcs.ensures.numbered;
      arcs = c.in_ok-add_arcs.ensures.arcs;
      added =
          below_more (λ v. HasArcsFrom c.args.arcs.now v pairs) c.loop-from.from
          (λ v h to arc. c.in_ok-add_arcs.ensures.kept (to, v) (c.loop-from.invariant.added v h to arc)) c.in_ok-add_arcs.ensures.added;
    }

pub returns : goal.returns
returns c =
    let lists = c.args.arcs.now in
    let n = c.vertices.result in
    let pairs = c.loop-from.pairs.items in
    let inv = c.loop-from.invariant in
    let same : n ≡ length lists = c.vertices.ensures in
    let are : AreLeading lists (groups_from 0 n pairs) =
    leading_of lists n pairs same (subst (λ k. All (IsNumbered k) pairs) (sym same) inv.numbered) inv.arcs
    (λ v h. inv.added v (omega (arith, h, same, c.loop-from-test.false, c.vertices-from-end.ensures))) in
    IfOk-weaker c.of.result _ _ (λ groups is. subst (AreLeading lists) (sym (is ∙ ap (groups_from 0 n) c.deref.ensures.value)) are) c.of.ensures
