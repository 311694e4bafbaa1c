-- Operations that can be written and read again, and the lines that they make.
--
-- Reading gives an operation with a process up to 2147483647, and at most 256 micro-operations; its
-- atoms are integers of 64 bits, keywords and symbols of one run, and strings of well-formed UTF-8.
use Rattle.std.specs.Prelude.{◌≡◌, ◌≢◌, ◌⊎◌, ◌<◌, ◌≤◌, ℕ, List, [], ◌∷◌, ◌++◌, length, true, Option, Some, None, map}
use Rattle.std.specs.List.{All, list_all, flat_map}
use Rattle.std.specs.Str.{IsUtf8}
use Rattle.hist_types.specs.Bytes.{backslash, line_feed, is_run_byte}
use Rattle.hist_types.specs.Atoms.{Atom, integer, keyword, string, symbol, Value}
use Rattle.hist_types.specs.Entries.{Entry, operation, PlacedOperation, operation_of}
use Rattle.hist_types.specs.Operations.{Mop, read, write, Operation}
use Rattle.reading_laws.specs.Placed.{IsTextOf}
use Rattle.hist_types.specs.Reading.{Reads}
use Rattle.hist_types.specs.Tokens.{ItemKind, Keyword, Symbol, run_kind, first_byte}
use Rattle.hist_types.specs.AtomTokens.{is_64_bit}
use Rattle.hist_types.specs.CanonicalText.{operation_text}
use Rattle.hist_types.specs.Texts.{line}
use Rattle.hist_types.specs.declared.limits.TheConstants.{MAX_PROCESS, MAX_MICRO_OPS, MAX_OPERATION_BYTES}
use Rattle.hist_types.specs.declared.types.Fault.{Fault}
use Rattle.hist_types.specs.declared.types.OpKind.{OpKind}
use Rattle.hist_types.specs.declared.types.OpKind.TheVariants as kinds

-- ---- operations

-- a keyword's or a symbol's spelling: one run of that kind; what begins with a backslash is a
-- character
pub record IsSpelling (kind : ItemKind) (spelling : List ℕ) : Type 0 where
  pub nonempty : 0 < length spelling
  pub one_run : list_all is_run_byte spelling ≡ true
  pub of_kind : run_kind spelling ≡ kind
  pub no_character : first_byte spelling ≢ backslash
  pub utf8 : IsUtf8 spelling

-- an atom that a text can give
abbrev pub CanBeRead : Atom → Type 0
CanBeRead (integer number) = is_64_bit number ≡ true
CanBeRead (keyword spelling) = IsSpelling Keyword spelling
CanBeRead (string content) = IsUtf8 content
CanBeRead (symbol spelling) = IsSpelling Symbol spelling

-- nil, or such an atom
abbrev pub ValueCanBeRead : Value → Type 0
ValueCanBeRead None = Unit {0}
ValueCanBeRead (Some atom) = CanBeRead atom

-- a micro-operation of such atoms
abbrev pub MopCanBeRead : Mop → Type 0
MopCanBeRead (read key value) = CanBeRead key × ValueCanBeRead value
MopCanBeRead (write key value) = CanBeRead key × CanBeRead value

-- a fail and an info have no transaction
abbrev pub MopsCanBeRead : OpKind → List Mop → Type 0
MopsCanBeRead kinds.Invoke mops = (length mops ≤ MAX_MICRO_OPS) × All MopCanBeRead mops
MopsCanBeRead kinds.Ok mops = (length mops ≤ MAX_MICRO_OPS) × All MopCanBeRead mops
MopsCanBeRead kinds.Fail mops = mops ≡ []
MopsCanBeRead kinds.Info mops = mops ≡ []

-- an operation that a text can give, and whose canonical text is short enough
pub record OperationCanBeRead (o : Operation) : Type 0 where
  pub process : o.process ≤ MAX_PROCESS
  pub mops : MopsCanBeRead o.kind o.mops
  pub bytes : length (operation_text o) ≤ MAX_OPERATION_BYTES

-- the operation can be read, unless its canonical text is too long
abbrev pub CanBeReadIfShort : Operation → Type 0
CanBeReadIfShort o = length (operation_text o) ≤ MAX_OPERATION_BYTES → OperationCanBeRead o

-- ---- what is read

-- the entries are these operations, wherever they are, and nothing is skipped
abbrev pub AreOperations : List Entry → List Operation → Type 0
AreOperations entries os =
    (placed : List PlacedOperation) × (entries ≡ map operation placed)
    × (map operation_of placed ≡ os)

-- the text is the map of the operation, wherever its parts are
abbrev pub IsMapOf : List ℕ → Operation → Type 0
IsMapOf text o = (placed : PlacedOperation) × IsTextOf text placed × (operation_of placed ≡ o)

-- the text reads as these operations, and has no fault
abbrev pub ReadsAsOperations : List ℕ → List Operation → Type 0
ReadsAsOperations text os =
    (entries : List Entry) × Reads text entries None × AreOperations entries os

-- it reads as nothing else
abbrev pub ReadsOnlyAs : List ℕ → List Operation → Type 0
ReadsOnlyAs text os =
    (entries : List Entry) (fault : Option Fault) → Reads text entries fault →
    AreOperations entries os × (fault ≡ None)

-- ---- lines

-- the operations' texts in order, each followed by a byte 10
abbrev pub operation_lines : List Operation → List ℕ
operation_lines os = flat_map (λ (o : Operation). line (operation_text o)) os

-- one operation to a line; the byte 10 after the last may be left out
abbrev pub AreLines : List ℕ → List Operation → Type 0
AreLines text os = (text ≡ operation_lines os) ⊎ (text ++ line_feed ∷ [] ≡ operation_lines os)
