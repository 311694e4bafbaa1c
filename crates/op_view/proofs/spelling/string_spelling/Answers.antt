use Rattle.std.proofs.Common.{◌≡◌, List, ℕ, Some, false, refl, ap, subst}
use Rattle.std.specs.Option.{option_map}
use Rattle.hist_types.specs.Atoms.{string}
use Rattle.hist_types.specs.AtomTokens.{decoded}
use Rattle.op_view.proofs.Contents.{plain_content}
use Rattle.op_view.proofs.spelling.string_spelling.Goals as goal

pub returns-in-None : goal.returns-in-None
returns-in-None c =
    let plain = plain_content c.between_quotes-between.result.now c.in-None.ensures in
    record { of_kind = refl; atom = ap (option_map string) (subst (λ (bs : List ℕ). decoded false bs ≡ Some bs) c.between_quotes-between.ensures plain) }
