use Rattle.std.proofs.Common.{arith}
use Rattle.std.proofs.lemmas.Bool.{OnTrue_from}
use borrow.Author.Tests.{ltb-true}
use Rattle.clean_order.specs.Highest.{IsAbove}
use Rattle.clean_order.proofs.keeping.is_above.Goals as goal

pub returns-then-number_at-without : goal.returns-then-number_at-without
returns-then-number_at-without c =
    OnTrue_from _ (IsAbove c.args.deps.now.txns c.args.numbers.now c.args.highest.now c.args.place) (λ e node other rank counted apart.
    let lower = c.without.ensures other rank counted apart in
    omega (arith, lower, ltb-true _ _ e, c.number_at.ensures))
