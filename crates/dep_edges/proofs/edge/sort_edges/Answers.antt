use Rattle.std.proofs.Common.{rules, ◌≡◌}
use Rattle.std.specs.Ordering.{is_lt}
use Rattle.std.proofs.lemmas.Fn.{always_returns_same}
use Rattle.std.proofs.lemmas.List.MinMax.{ranks_by}
use Rattle.hist_types.specs.Edges.{Edge}
use Rattle.hist_types.specs.EdgeOrder.{edge_cmp}
use Rattle.history_laws.proofs.EdgeOrder.{edge_cmp_total}
use Rattle.dep_edges.proofs.edge.sort_edges.Goals as goal

pub returns-clause-sorted : goal.returns-clause-sorted
returns-clause-sorted c =
    c.sort_unstable_by.ensures.sorted (λ a b. is_lt (edge_cmp a b)) (ranks_by edge_cmp_total (λ (e : Edge). e))
    (always_returns_same _ (λ a r. is_lt r ≡ is_lt (edge_cmp a.0.now a.1.0.now)) _ (λ a r f k. search rules))
