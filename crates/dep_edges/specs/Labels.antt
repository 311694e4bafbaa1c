-- The labels of the definitions, by those of the code.
use Rattle.std.specs.Prelude.{Some}
use Rattle.hist_types.specs.Atoms.{Atom, Value}
use Rattle.hist_types.specs.Edges as edges
use Rattle.hist_types.specs.Edges.{ww, wr, rw, process, realtime, Edge}
use Rattle.hist_types.specs.Transactions.{Version}
use Rattle.dep_edges.specs.declared.edge.Label.{Label}
use Rattle.dep_edges.specs.declared.edge.Label.TheVariants.{Ww, Wr, Rw, Process, Realtime}

abbrev pub version : Atom → Value → Version
version key value = record { key = key; value = value }

abbrev pub label_of : Label → edges.Label
label_of (Ww key earlier later) = ww (version key (Some earlier)) (version key (Some later))
label_of (Wr key value) = wr (version key (Some value))
label_of (Rw key earlier later) = rw (version key earlier) (version key (Some later))
label_of (Process number) = process number
label_of (Realtime completion invocation) = realtime completion invocation

-- ---- one order edge in the place of two that follow each other

abbrev pub joined_label : edges.Label → edges.Label → edges.Label
joined_label (realtime completion i) (realtime c invocation) = realtime completion invocation
joined_label first second = first

abbrev pub joined : Edge → Edge → Edge
joined first second =
    record { from = first.from; to = second.to; label = joined_label first.label second.label }
