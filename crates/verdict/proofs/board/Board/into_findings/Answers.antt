use Rattle.hist_types.specs.Reports.{Findings}
use Rattle.hist_types.specs.declared.types.Phenomenon.TheVariants.{G0, G1c, GSingle, G2Item}
use Rattle.verdict.proofs.Knowing.{four_findings}
use Rattle.verdict.proofs.board.Board.into_findings.Goals as goal

pub returns : goal.returns
returns c = λ keys ts history right settled.
    let found : Findings =
    record { g0 = c.in_ok-into_finding.field-0; g1c = c.in_ok-into_finding-2.field-0; single = c.in_ok-into_finding-3.field-0; item = c.in_ok-into_finding-4.field-0 } in
    four_findings keys ts found (c.in_ok-into_finding.ensures keys G0 ts history (right G0) (settled G0)) (c.in_ok-into_finding-2.ensures keys G1c ts history (right G1c) (settled G1c))
    (c.in_ok-into_finding-3.ensures keys GSingle ts history (right GSingle) (settled GSingle)) (c.in_ok-into_finding-4.ensures keys G2Item ts history (right G2Item) (settled G2Item))
