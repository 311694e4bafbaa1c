use Rattle.std.proofs.Common.{◌≡◌, ◌++◌, List, take}
use Rattle.std.specs.Prelude.{codes}
use Rattle.std.specs.List.{join_by}
use Rattle.hist_types.specs.Operations.{Mop}
use Rattle.hist_types.specs.CanonicalText.{mop_text}
use Rattle.edn_ops.specs.SourceTexts.{AreMopTexts}
use Rattle.edn_ops.proofs.MopTexts.{gap_before}
use Rattle.edn_ops.proofs.write.append_mops.Given as goal

abbrev pub invariant-loop-mop : goal.invariant-loop-mop
invariant-loop-mop l =
    (l.gap ≡ gap_before l.mop-index)
    × ((ms : List Mop) → AreMopTexts l.mops ms → l.out.items ≡ l.fn.out.items ++ (codes "[" ++ join_by mop_text (codes " ") (take l.mop-index ms)))
