use Rattle.std.proofs.Common.{Err, Ok, sym, ap, ◌∙◌, List, length, ◌≤◌, ◌<◌, arith}
use Rattle.hist_types.specs.Tokens.{byte_fault}
use Rattle.hist_types.specs.declared.limits.TheConstants.{MAX_MICRO_OPS}
use Rattle.hist_types.specs.declared.types.Fault.{Fault}
use Rattle.hist_types.specs.declared.types.Refusal.TheVariants.{TooManyMicroOps}
use Rattle.edn_ops.specs.declared.types.MopShape.{MopShape}
use Rattle.edn_ops.specs.Fields.{shapes_result}
use Rattle.edn_ops.proofs.MicroOps.{still_fails, too_many, no_micro_op, one_micro_op}
use Rattle.edn_ops.proofs.micro_ops.add_micro_op.Goals as goal

pub returns-in-Err-clause-ok : goal.returns-in-Err-clause-ok
returns-in-Err-clause-ok c members form e place mop =
    ap shapes_result c.in-Err.is ∙ still_fails c.in-Err.field-0 members form (sym (ap shapes_result c.in-Err.is) ∙ e)

pub returns-then-len-ge-MAX_MICRO_OPS-clause-ok : goal.returns-then-len-ge-MAX_MICRO_OPS-clause-ok
returns-then-len-ge-MAX_MICRO_OPS-clause-ok c members form e place mop =
    let full : MAX_MICRO_OPS ≤ length c.in-Ok.mops.items = omega (arith, c.in-Ok.mops.ok.0, c.len.ensures, c.if-len-ge-MAX_MICRO_OPS.true) in
    ap (λ (fault : Fault). Err fault) (c.fault_at.ensures ∙ ap (byte_fault TooManyMicroOps) place)
    ∙ too_many c.in-Ok.mops.items members form (sym (ap shapes_result c.in-Ok.is) ∙ e) full

pub returns-in_ok-push-in-Ok-micro_op-clause-ok : goal.returns-in_ok-push-in-Ok-micro_op-clause-ok
returns-in_ok-push-in-Ok-micro_op-clause-ok c members form e place mop =
    let some : length c.in-Ok.mops.items < MAX_MICRO_OPS = omega (arith, c.in-Ok.mops.ok.0, c.len.ensures, c.if-len-ge-MAX_MICRO_OPS.false) in
    ap (λ (shapes : List MopShape). Ok shapes) c.in_ok-push-in-Ok-micro_op.ensures.items
    ∙ one_micro_op c.in-Ok.mops.items members form c.in-Ok-micro_op.shape (sym (ap shapes_result c.in-Ok.is) ∙ e) some (sym c.in-Ok-micro_op.is ∙ mop)

pub returns-in-Err-micro_op-clause-ok : goal.returns-in-Err-micro_op-clause-ok
returns-in-Err-micro_op-clause-ok c members form e place mop =
    let some : length c.in-Ok.mops.items < MAX_MICRO_OPS = omega (arith, c.in-Ok.mops.ok.0, c.len.ensures, c.if-len-ge-MAX_MICRO_OPS.false) in
    no_micro_op c.in-Ok.mops.items members form c.in-Err-micro_op.fault (sym (ap shapes_result c.in-Ok.is) ∙ e) some (sym c.in-Err-micro_op.is ∙ mop)
