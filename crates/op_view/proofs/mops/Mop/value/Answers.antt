use Rattle.std.proofs.Common.{◌≡◌, ◌∙◌, true, sym, ap}
use Rattle.op_view.specs.Mops.{value_of}
use Rattle.op_block.specs.MopTexts.{is_nil}
use Rattle.op_view.proofs.NilReads.{nil_read}
use Rattle.op_view.proofs.mops.Mop.value.Goals as goal

pub returns-then-is_nil : goal.returns-then-is_nil
returns-then-is_nil c =
    let nil : is_nil c.self.inside.text.value.now ≡ true = sym c.is_nil.ensures ∙ c.if-is_nil.true in
    sym (nil_read c.self.inside.text _ c.self.invariant nil) ∙ ap value_of c.self.view_is
