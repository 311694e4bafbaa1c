use Rattle.std.proofs.Common.{Some, sym, ap, ◌∙◌}
use Rattle.std.proofs.lemmas.Result.{err_from_is_err_and}
use Rattle.edn_ops.specs.declared.flat.Owner.{Owner}
use Rattle.edn_ops.proofs.FlatMaps.{operation_given, flat_no_client}
use Rattle.edn_ops.proofs.flat.other_entry.Goals as goal

pub returns-in_err-end : goal.returns-in_err-end
returns-in_err-end c opener pairs begins front =
    let p = err_from_is_err_and c.from_residual.result c.from_residual.ensures.1 in
    rw (p.1, p.2) (c.in_err-end.ensures opener.end pairs front)

pub returns-in-Some-complete_kind : goal.returns-in-Some-complete_kind
returns-in-Some-complete_kind c opener pairs begins front =
    let read = rw c.in-Some.is at (c.in_ok-end.ensures opener.end pairs front) in
    operation_given c.args.text.now opener c.flat_map.new.fields c.flat_map.new.mops c.args.start c.in-Some.end c.in-Some-complete_kind.kind c.in-Client.process c.operation_of.result c.operation_of.ensures begins read
    (sym c.owner.ensures ∙ c.in-Some-owner.is ∙ ap (λ (o : Owner). Some o) c.in-Client.is) c.in-Some-complete_kind.ensures

pub returns-in-NoClient : goal.returns-in-NoClient
returns-in-NoClient c opener pairs begins front =
    flat_no_client c.args.text.now opener c.flat_map.new.fields c.flat_map.new.mops.items c.in-Some.end (rw c.in-Some.is at (c.in_ok-end.ensures opener.end pairs front))
    (sym c.owner.ensures ∙ c.in-Some-owner.is ∙ ap (λ (o : Owner). Some o) c.in-NoClient.is)
