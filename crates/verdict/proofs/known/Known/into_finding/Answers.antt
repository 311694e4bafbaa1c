use Rattle.verdict.proofs.Knowing.{found_nowhere, found_lowest}
use Rattle.verdict.proofs.known.Known.into_finding.Goals as goal

pub returns-then-none_below-ge-LEVELS : goal.returns-then-none_below-ge-LEVELS
returns-then-none_below-ge-LEVELS c = λ keys phenomenon ts history is settled. found_nowhere keys phenomenon ts c.args.self is c.if-none_below-ge-LEVELS.true

pub returns-in_ok-of-in-Some : goal.returns-in_ok-of-in-Some
returns-in_ok-of-in-Some c = λ keys phenomenon ts history is settled.
    found_lowest keys phenomenon ts c.args.self c.in-Some.seen c.in_ok-of-in-Some.field-0 history is settled c.in-Some.is c.if-none_below-ge-LEVELS.false
    c.in_ok-of-in-Some.ensures.witness c.in_ok-of-in-Some.ensures.dependencies
