use Rattle.edn_ops.specs.declared.flat.TheConstants.{VALUE_LEVELS}
use Rattle.edn_ops.proofs.FlatForms.{lone_passed}
use Rattle.edn_ops.proofs.flat.passed_value.Goals as goal

pub returns-in-Some : goal.returns-in-Some
returns-in-Some c = lone_passed c.args.text.now VALUE_LEVELS c.args.offset c.behind_word-start.result c.in-Some.token c.behind_word-start.ensures c.in-Some.ensures.lone c.in-Some.ensures.fits

pub returns-in-Some-number_at : goal.returns-in-Some-number_at
returns-in-Some-number_at c =
    let found = c.in-Some-number_at in
    lone_passed c.args.text.now VALUE_LEVELS c.args.offset c.behind_word-start.result found.number c.behind_word-start.ensures found.ensures.lone found.ensures.fits

pub returns : goal.returns
returns c = c.form_end.ensures c.args.offset (c.in_ok-token_at.ensures.gives c.args.offset c.behind_word-start.ensures)
