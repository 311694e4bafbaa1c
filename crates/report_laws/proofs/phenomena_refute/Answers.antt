use Rattle.report_laws.proofs.ExplainedPhenomena.{refuted}
use Rattle.report_laws.proofs.ExplainedVerdicts.{verdict_refutes, verdict_of_run_refutes}
use Rattle.report_laws.proofs.phenomena_refute.Goals as goal

pub returns : goal.returns
returns c = record {
  phenomena = refuted;
  verdict = verdict_refutes;
  run = verdict_of_run_refutes;
}
