use Rattle.std.proofs.Common.{◌∙◌}
use Rattle.edn_ops.proofs.Appended.{appended_as, extended, longer_unless, on_err}
use Rattle.edn_ops.proofs.ValueFronts.{value_written, other_written}
use Rattle.edn_ops.proofs.write.append_value.Goals as goal

pub returns-in-Str-clause-ok : goal.returns-in-Str-clause-ok
returns-in-Str-clause-ok c value h =
    let written = rw c.in-Str.is at (value_written c.token_kind.result c.args.text.now value c.token_kind.ensures h) in
    appended_as c.append_string.result _ _ _ _ written c.append_string.ensures.ok

pub decimal_of-requires : goal.decimal_of-requires
decimal_of-requires c =
    let written = rw c.in-Int.is at (value_written c.token_kind.result c.args.text.now c.requires.0 c.token_kind.ensures c.requires.1) in
    record { int = written.int; fits = written.fits }

pub returns-in-Int-clause-ok : goal.returns-in-Int-clause-ok
returns-in-Int-clause-ok c value h =
    let written = rw c.in-Int.is at (value_written c.token_kind.result c.args.text.now value c.token_kind.ensures h) in
    extended c.extend_from_slice.result _ _ _ _ c.extend_from_slice.ensures.items (c.decimal_of.ensures ∙ written.written)

pub returns-in_default-clause-ok : goal.returns-in_default-clause-ok
returns-in_default-clause-ok c value h =
    let kind = c.token_kind.result in
    let written = value_written kind c.args.text.now value c.token_kind.ensures h in
    extended c.extend_from_slice-in_default.result _ _ _ _ c.extend_from_slice-in_default.ensures.items (other_written kind c.args.text.now value c.in_default.not-Str c.in_default.not-Int written)

pub returns-in_default-clause-err : goal.returns-in_default-clause-err
returns-in_default-clause-err c = let r = c.extend_from_slice-in_default.result in on_err r (longer_unless r _ _ _ c.extend_from_slice-in_default.ensures.items)
