use Rattle.report_text.proofs.EdgeLines.{leaving_sorted}
use Rattle.report_text.proofs.leaving.find_leaving.Goals as goal

pub returns : goal.returns
returns c =
    leaving_sorted _ _ _ _ _ _ c.requires.history c.clear.ensures.items c.in_ok-edges_from.ensures.ok c.sort_edges.ensures.permutation c.sort_edges.ensures.sorted
