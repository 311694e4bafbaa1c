-- Shapes of operations: what is kept of an operation that was read, with the places of its parts.
use Rattle.std.specs.Prelude.{◌≡◌, ℕ, List, Bool, true, false, map}
use Rattle.hist_types.specs.Entries.{PlacedMop, PlacedOperation, end_of}
use Rattle.hist_types.specs.Operations.{Mop, read, write}
use Rattle.reading_laws.specs.Placed.{IsIn}
use Rattle.hist_types.specs.Tokens.{Item}
use Rattle.edn_ops.specs.declared.types.Span.{Span}
use Rattle.edn_ops.specs.declared.types.MopShape.{MopShape}
use Rattle.edn_ops.specs.declared.types.OpShape.{OpShape}

abbrev pub span_of : Item → Span
span_of item = record { start = item.start; end = end_of item }

abbrev pub is_write : Mop → Bool
is_write (read key value) = false
is_write (write key value) = true

abbrev pub mop_shape_of : PlacedMop → MopShape
mop_shape_of m = record { is_write = is_write m.mop; key = span_of m.key; value = span_of m.value }

-- the shape says what the operation says, and where
pub record IsShapeOf (shape : OpShape) (o : PlacedOperation) : Type 0 where
  pub span : shape.span ≡ record { start = o.start; end = o.end }
  pub kind : shape.kind ≡ o.kind
  pub process : shape.process ≡ o.process
  pub mops : shape.mops.items ≡ map mop_shape_of o.mops

-- the text has an operation with this shape
abbrev pub IsShapeIn : List ℕ → OpShape → Type 0
IsShapeIn text shape = (o : PlacedOperation) × IsIn text o × IsShapeOf shape o
