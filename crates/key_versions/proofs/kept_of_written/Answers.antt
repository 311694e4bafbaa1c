use Rattle.std.proofs.Common.{List, sym, subst}
use Rattle.hist_types.specs.Journal.{Write}
use Rattle.history_laws.specs.Writers.{writes_of_all}
use Rattle.key_versions.specs.Given.{AreNamed, HaveNumbers}
use Rattle.key_versions.specs.Kept.{AreKept}
use Rattle.key_versions.specs.Numbering.{versions_of}
use Rattle.key_versions.specs.declared.write_numbers.WriteNumbers.TheVariants.{Consecutive}
use Rattle.key_versions.proofs.Journaled.{given_named}
use Rattle.key_versions.proofs.kept_of_written.Goals as goal

pub of-requires-clause-named : goal.of-requires-clause-named
of-requires-clause-named c =
    let vs = versions_of c.in_ok-numbering.numbering in
    subst (λ ts. AreNamed ts vs) (sym c.as_slice.ensures) (given_named c.args.written.items vs c.args.txns.now c.in_ok-numbering.ensures.given c.requires)

pub of-requires-clause-numbers : goal.of-requires-clause-numbers
of-requires-clause-numbers c =
    let vs = versions_of c.in_ok-numbering.numbering in
    subst (λ ts. HaveNumbers (Consecutive 0) vs (writes_of_all ts)) (sym c.as_slice.ensures)
    (subst (λ (ws : List Write). HaveNumbers (Consecutive 0) vs ws) c.requires c.in_ok-numbering.ensures.numbers)

pub returns-clause-kept : goal.returns-clause-kept
returns-clause-kept c = subst (λ ts. AreKept ts c.in_ok-kept.kept) c.as_slice.ensures c.in_ok-kept.ensures.kept
