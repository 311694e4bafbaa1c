-- Operations and the texts in which they are (this project's own).
--
-- An operation is in a text where its map, read alone, gives the operation with its places counted
-- from the map's own start.
use Rattle.std.specs.Prelude.{◌≡◌, ℕ, ◌≤◌, ◌-◌, List, [], ◌∷◌, length, take, drop, Some, None, map, ⊤}
use Rattle.hist_types.specs.Atoms.{Atom, Value}
use Rattle.hist_types.specs.AtomTokens.{atom_of_token}
use Rattle.hist_types.specs.Entries.{PlacedMop, PlacedOperation, operation, end_of}
use Rattle.hist_types.specs.Operations.{Mop, read, write}
use Rattle.hist_types.specs.Reading.{Reads}
use Rattle.hist_types.specs.Tokens.{Item, ItemKind, Nil, HasTokens}
use Rattle.hist_types.specs.declared.limits.TheConstants.{MAX_PROCESS, MAX_MICRO_OPS, MAX_OPERATION_BYTES}
use Rattle.hist_types.specs.declared.types.OpKind.{OpKind}
use Rattle.hist_types.specs.declared.types.OpKind.TheVariants.{Fail, Info}

-- the text is the operation's map, and nothing else
abbrev pub IsTextOf : List ℕ → PlacedOperation → Type 0
IsTextOf text o = (o.start ≡ 0) × (o.end ≡ length text) × Reads text (operation o ∷ []) None

-- the token, counted from an offset before it
abbrev pub item_from : ℕ → Item → Item
item_from offset item = record { kind = item.kind; start = item.start - offset; bytes = item.bytes }

abbrev pub mop_from : ℕ → PlacedMop → PlacedMop
mop_from offset m =
    record { mop = m.mop; key = item_from offset m.key; value = item_from offset m.value }

-- the operation with its places counted from its own start
abbrev pub from_its_start : PlacedOperation → PlacedOperation
from_its_start o =
    record {
      kind = o.kind;
      process = o.process;
      mops = map (mop_from o.start) o.mops;
      start = 0;
      end = o.end - o.start;
    }

-- what a text has between two offsets
abbrev pub between : List ℕ → ℕ → ℕ → List ℕ
between text start end = take (end - start) (drop start text)

abbrev pub IsIn : List ℕ → PlacedOperation → Type 0
IsIn text o =
    (o.start ≤ o.end)
    × (o.end ≤ length text)
    × IsTextOf (between text o.start o.end) (from_its_start o)

-- ---- what the parts of an operation are spelled by

-- the token's bytes are those that the text has between its start and its end
abbrev pub IsTokenIn : List ℕ → Item → Type 0
IsTokenIn text t = (end_of t ≤ length text) × (t.bytes ≡ between text t.start (end_of t))

abbrev pub Spells : Item → Atom → Type 0
Spells t atom = atom_of_token t.kind t.bytes ≡ Some atom

-- the token spells the atom, or nil
abbrev pub SpellsValue : Item → Value → Type 0
SpellsValue t None = t.kind ≡ Nil
SpellsValue t (Some atom) = Spells t atom

-- the first token spells the micro-operation's key, the second its value
abbrev pub SpellsParts : Item → Item → Mop → Type 0
SpellsParts first second (read key value) = Spells first key × SpellsValue second value
SpellsParts first second (write key value) = Spells first key × Spells second value

-- bytes that are one token of this kind, and nothing else
abbrev pub IsTokenAlone : ItemKind → List ℕ → Type 0
IsTokenAlone kind bytes =
    HasTokens bytes (record { kind = kind; start = 0; bytes = bytes } ∷ []) None

-- the tokens of a micro-operation are in the text, and spell its key and its value
abbrev pub IsMopIn : List ℕ → PlacedMop → Type 0
IsMopIn text m = IsTokenIn text m.key × IsTokenIn text m.value × SpellsParts m.key m.value m.mop

-- a fail and an info have no micro-operations
abbrev pub FitsKind : OpKind → List PlacedMop → Type 0
FitsKind Fail mops = mops ≡ []
FitsKind Info mops = mops ≡ []
FitsKind kind mops = ⊤

-- an operation of this text keeps the limits
abbrev pub KeepsLimits : List ℕ → PlacedOperation → Type 0
KeepsLimits text o =
    (length text ≤ MAX_OPERATION_BYTES)
    × (o.process ≤ MAX_PROCESS)
    × (length o.mops ≤ MAX_MICRO_OPS)
    × FitsKind o.kind o.mops

-- the key and the value of a micro-operation are tokens by themselves
abbrev pub IsMopOfTokens : PlacedMop → Type 0
IsMopOfTokens m = IsTokenAlone m.key.kind m.key.bytes × IsTokenAlone m.value.kind m.value.bytes
