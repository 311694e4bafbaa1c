use Rattle.std.proofs.Common.{◌∙◌, ap}
use Rattle.hist_types.specs.Operations.{Operation}
use Rattle.op_view.proofs.OperationMops.{operation_mops}
use Rattle.op_view.proofs.op.OpView.mops.Goals as goal

pub new-requires : goal.new-requires
new-requires c =
    (operation_mops c.self.inside.block.now.operations c.self.inside.index c.text-text.result.now c.shape-shape.result
    c.self.invariant c.text-text.ensures.mops c.text-text.ensures.atoms c.shape-shape.ensures).0

pub returns : goal.returns
returns c =
    c.new.ensures
    ∙ ((operation_mops c.self.inside.block.now.operations c.self.inside.index c.text-text.result.now c.shape-shape.result
    c.self.invariant c.text-text.ensures.mops c.text-text.ensures.atoms c.shape-shape.ensures).1
    ∙ ap (λ (o : Operation). o.mops) c.self.view_is)
