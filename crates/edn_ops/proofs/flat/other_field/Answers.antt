use Rattle.edn_ops.proofs.FlatMaps.{value_passed}
use Rattle.edn_ops.proofs.flat.other_field.Goals as goal

pub returns : goal.returns
returns c fields =
    let key = c.in_ok-key in
    value_passed c.args.text.now c.args.start key.key fields c.passed_value.result key.ensures.lone key.ensures.name.0 key.ensures.name.1 (λ _. key.ensures.name.2) c.passed_value.ensures
