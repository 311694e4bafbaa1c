-- The lines so far are those of the edges so far.
use Rattle.std.proofs.Common.{◌≡◌, ◌++◌, take}
use Rattle.hist_types.specs.Texts.{witness_lines}
use Rattle.report_text.proofs.lines.append_witness.Given as goal

abbrev pub invariant-loop-edge : goal.invariant-loop-edge
invariant-loop-edge l = l.out.items ≡ l.fn.out.items ++ witness_lines (take l.edge-index l.edges)
