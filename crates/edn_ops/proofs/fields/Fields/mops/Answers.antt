use Rattle.std.proofs.Common.{codes, sym, ap, ◌∙◌}
use Rattle.edn_ops.specs.Fields.{fields_named, shapes_result, mops_result}
use Rattle.edn_ops.proofs.Closing.{err_is, has_value, no_value, value_mops}
use Rattle.edn_ops.proofs.fields.Fields.mops.Goals as goal

pub returns-in_err-the_one-in-Invoke : goal.returns-in_err-the_one-in-Invoke
returns-in_err-the_one-in-Invoke c text members g =
    let e = no_value c.args.kind c.args.start g.pairs _ (has_value c.args.kind c.in-Invoke.is) (c.in_err-the_one-in-Invoke.ensures.one text (fields_named (codes ":value") g.pairs) g.value) in
    ap shapes_result (err_is _ _ c.from_residual.ensures.1) ∙ sym (ap mops_result e)

pub returns-in_ok-the_one-in-Invoke : goal.returns-in_ok-the_one-in-Invoke
returns-in_ok-the_one-in-Invoke c text members g =
    value_mops c.args.kind c.args.start g.pairs _ _ (has_value c.args.kind c.in-Invoke.is) (c.in_ok-the_one-in-Invoke.ensures.one text (fields_named (codes ":value") g.pairs) g.value) g.transaction
