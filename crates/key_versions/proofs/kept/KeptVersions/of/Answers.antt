use Rattle.std.proofs.Common.{List, sym, subst}
use Rattle.hist_types.specs.Transactions.{Version}
use Rattle.history_laws.specs.Writers.{writes_of_all}
use Rattle.key_versions.specs.Given.{AreNamed, HaveNumbers}
use Rattle.key_versions.proofs.Keeping.{all_kept}
use Rattle.key_versions.proofs.kept.KeptVersions.of.Goals as goal

pub returns-clause-kept : goal.returns-clause-kept
returns-clause-kept g c =
    all_kept c.in_ok-kept.kept.versions c.args.txns.now c.take_all.new.self c.in_ok-take_all.ensures.kept
    (subst (AreNamed c.args.txns.now) (sym c.in_ok-kept.ensures.versions) c.requires.named)

pub take_all-requires-clause-numbers : goal.take_all-requires-clause-numbers
take_all-requires-clause-numbers g c =
    subst (λ (vs : List Version). HaveNumbers c.args.numbers vs (writes_of_all c.args.txns.now)) (sym c.in_ok-kept.ensures.versions) c.requires.numbers
