use Rattle.std.proofs.Common.{sym, ◌∙◌}
use Rattle.edn_ops.proofs.FlatMaps.{kind_read}
use Rattle.edn_ops.proofs.flat.FlatFields.read_kind.Goals as goal

pub returns : goal.returns
returns c =
    let found = c.in_ok-kind in
    kind_read c.args.text.now c.args.offset found.token c.args.self.now found.kind (sym c.is_some.ensures ∙ c.if-is_some.false) (found.ensures.lone c.args.offset c.behind_word.ensures) found.ensures.fits found.ensures.kind
