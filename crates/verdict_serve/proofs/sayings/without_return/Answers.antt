use Rattle.std.proofs.Common.{ℕ, List, [], ◌∷◌, ap, ◌∙◌}
use Rattle.std.specs.Borrow.{Bor}
use Rattle.std.proofs.lemmas.Bool.Decides.{Decides-eqb}
use Rattle.std.proofs.lemmas.Slice.Eq.{strip_suffix_is}
use Rattle.verdict_serve.proofs.Words.{stripped}
use Rattle.verdict_serve.proofs.sayings.without_return.Goals as goal

pub returns : goal.returns
returns c =
    let cases = strip_suffix_is Decides-eqb c.args.line.now (13 ∷ []) c.strip_suffix.result c.strip_suffix.ensures.cases in
    ap (λ (text : Bor (List ℕ)). text.now) c.unwrap_or.ensures ∙ stripped c.args.line c.strip_suffix.result cases
