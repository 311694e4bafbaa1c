-- The parts of a micro-operation.
use Rattle.std.specs.Prelude.{ℕ, Bool, Some, not, ◌==◌, if◌then◌else◌}
use Rattle.hist_types.specs.Atoms.{Atom, Value}
use Rattle.hist_types.specs.Operations.{Mop, read, write}
use Rattle.op_block.specs.declared.shapes.ShortMop.{ShortMop}

abbrev pub key_of : Mop → Atom
key_of (read key value) = key
key_of (write key value) = key

-- what was read or is written
abbrev pub value_of : Mop → Value
value_of (read key value) = value
value_of (write key value) = Some value

-- how many bytes the value has that is written
abbrev pub written_len : ShortMop → ℕ
written_len m = if m.is_write then m.value_len else 0

-- whether a byte is another one than the byte at its place in the other text
abbrev pub is_other : ℕ → ℕ → Bool
is_other a b = not (a == b)
