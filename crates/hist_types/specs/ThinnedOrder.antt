-- Thinned order edges (this project's own): the edges to which a moving frontier comes down.
--
-- A thinned edge is a realtime edge from T to U such that no ok transaction was invoked after T's
-- completion and completed before U's invocation. The process form is alike, within one process.
use Rattle.std.specs.Prelude.{List, [], Bool, false, ◌&&◌, if◌then◌else◌}
use Rattle.std.specs.List.{list_any}
use Rattle.hist_types.specs.Transactions.{Transaction, nodes}
use Rattle.hist_types.specs.Edges.{Label, Edge, between_each, is_ok_before, same_process, order_labels}
use Rattle.hist_types.specs.declared.types.Level.{Level}
use Rattle.hist_types.specs.declared.types.Level.TheVariants.{Plain, Process, Realtime}

-- the level's order puts t before u
abbrev pub is_ordered : Level → Transaction → Transaction → Bool
is_ordered Plain t u = false
is_ordered Process t u = is_ok_before t u && same_process t u
is_ordered Realtime t u = is_ok_before t u

-- some transaction comes between the two in the level's order
abbrev pub has_between : Level → List Transaction → Transaction → Transaction → Bool
has_between level ts t u = list_any (λ v. is_ordered level t v && is_ordered level v u) ts

abbrev pub thinned_labels : Level → List Transaction → Transaction → Transaction → List Label
thinned_labels level ts t u = if has_between level ts t u then [] else order_labels level t u

-- the thinned edges as if every transaction were a node
abbrev pub all_thinned_edges : Level → List Transaction → List Edge
all_thinned_edges level ts = between_each ts (thinned_labels level ts)

abbrev pub thinned_edges : Level → List Transaction → List Edge
thinned_edges level ts = between_each (nodes ts) (thinned_labels level ts)
