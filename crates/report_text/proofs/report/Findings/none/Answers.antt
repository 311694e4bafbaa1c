use Rattle.std.proofs.Common.{refl}
use Rattle.report_text.proofs.report.Findings.none.Goals as goal

pub returns : goal.returns
returns c = refl
