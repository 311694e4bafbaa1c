use Rattle.std.proofs.Common.{subst}
use Rattle.hist_types.specs.Reports.{IsVerdictOf}
use Rattle.report_laws.specs.Explained.{RefutesExplanations}
use Rattle.report_laws.proofs.ExplainedVerdicts.{verdict_refutes}
use Rattle.verdict.specs.Analysed.{Analysed, events_of_blocks}
use Rattle.verdict.proofs.analysis.Analysis.verdict.Goals as goal

pub verdict-requires : goal.verdict-requires
verdict-requires g c = (events_of_blocks c.self.inside.blocks.items, c.self.invariant)

pub returns-clause-ok : goal.returns-clause-ok
returns-clause-ok g c =
    subst (λ (a : Analysed). IsVerdictOf a.keys a.events c.in_ok-verdict.field-0) c.self.view_is
    (c.in_ok-verdict.ensures (events_of_blocks c.self.inside.blocks.items) c.self.invariant)

pub returns-clause-strict : goal.returns-clause-strict
returns-clause-strict g c =
    let events = events_of_blocks c.self.inside.blocks.items in
    subst (λ (a : Analysed). RefutesExplanations a.events c.in_ok-verdict.field-0) c.self.view_is
    (verdict_refutes c.self.inside.tables.versions.keys events c.in_ok-verdict.field-0 c.self.invariant.rules (c.in_ok-verdict.ensures events c.self.invariant))
