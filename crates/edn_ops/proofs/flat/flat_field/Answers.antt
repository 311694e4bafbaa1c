use Rattle.std.proofs.Common.{Some, sym, ◌∙◌}
use Rattle.std.specs.Prelude.{codes}
use Rattle.std.proofs.lemmas.Bool.{true≢false}
use Rattle.hist_types.specs.Forms.{plain}
use Rattle.edn_lex.specs.Kinds.{item_of}
use Rattle.edn_ops.proofs.FlatMaps.{value_read, value_passed, value_ahead}
use Rattle.edn_ops.proofs.Gathering.{value_type, value_process}
use Rattle.edn_ops.proofs.flat.flat_field.Goals as goal

pub returns-in-Some : goal.returns-in-Some
returns-in-Some c =
    let key = c.in-Some in
    value_read c.args.text.now c.args.start key.key (codes ":type") c.args.fields.now (Some c.in_ok-read_kind-in-Some-eq116.field-0) c.read_kind.new.self key.ensures.lone key.ensures.named c.in_ok-read_kind-in-Some-eq116.ensures

pub returns-in-Some-key_at : goal.returns-in-Some-key_at
returns-in-Some-key_at c =
    let key = c.in-Some-key_at in
    value_read c.args.text.now c.args.start key.key (codes ":process") c.args.fields.now (Some c.in_ok-read_owner-in-Some-eq112.field-0) c.read_owner.new.self key.ensures.lone key.ensures.named c.in_ok-read_owner-in-Some-eq112.ensures

pub returns-then-not-may_have_mops : goal.returns-then-not-may_have_mops
returns-then-not-may_have_mops c =
    let key = c.in-Some-key_at-2 in
    let never = sym c.may_have_mops.ensures ∙ c.if-not-may_have_mops.true in
    let k = plain (item_of c.args.text.now key.key) in
    value_passed c.args.text.now c.args.start key.key c.args.fields.now (Some c.in_ok-passed_value-in-Some-eq118.field-0) key.ensures.lone (value_type k key.ensures.named) (value_process k key.ensures.named)
    (λ may. absurd (true≢false (sym may ∙ never))) c.in_ok-passed_value-in-Some-eq118.ensures

pub returns-in-Some-key_at-2 : goal.returns-in-Some-key_at-2
returns-in-Some-key_at-2 c =
    let key = c.in-Some-key_at-2 in
    let opener = c.in_ok-opener-in-Some-eq118 in
    value_ahead c.args.text.now c.args.start key.key opener.opener c.args.fields.now key.ensures.lone key.ensures.named (sym c.may_have_mops.ensures ∙ c.if-not-may_have_mops.false) c.if-fields.false opener.ensures.gives opener.ensures.fits
