-- Canonical text of atoms and operations (EDN).
--
-- Canonical operations are `{:type :T, :process P, :value [M M ..]}` for an invoke and an ok, with
-- one blank between members, and `{:type :T, :process P}` for a fail and an info. A micro-operation
-- is `[:r K V]` or `[:w K V]`, a nil read `[:r K nil]`. Canonical atoms are an integer in decimal,
-- a keyword or symbol as it is, and a string in double quotes with `\b \t \n \f \r \" \\` for the
-- bytes 8, 9, 10, 12, 13, 34 and 92, every other byte as it is.
use Rattle.std.specs.Prelude.{ℕ, List, [], ◌∷◌, ◌++◌, ◌==◌, if◌then◌else◌, codes, decimal, Some, None, flat_map}
use Rattle.std.specs.Fmt.{signed_decimal}
use Rattle.std.specs.List.{join_by}
use Rattle.hist_types.specs.Bytes.{quote, backslash}
use Rattle.hist_types.specs.Atoms.{Atom, integer, keyword, string, symbol, Value}
use Rattle.hist_types.specs.Operations.{Mop, read, write, Operation}
use Rattle.hist_types.specs.declared.types.OpKind.{OpKind}
use Rattle.hist_types.specs.declared.types.OpKind.TheVariants as kinds

-- a byte of a string's content, as it is written
abbrev pub written_byte : ℕ → List ℕ
written_byte b =
    if b == 8 then codes "\\b"
    else (if b == 9 then codes "\\t"
    else (if b == 10 then codes "\\n"
    else (if b == 12 then codes "\\f"
    else (if b == 13 then codes "\\r"
    else (if b == quote then codes "\\\""
    else (if b == backslash then codes "\\\\"
    else b ∷ []))))))

abbrev pub atom_text : Atom → List ℕ
atom_text (integer n) = signed_decimal n
atom_text (keyword spelling) = spelling
atom_text (string content) = quote ∷ (flat_map written_byte content ++ quote ∷ [])
atom_text (symbol spelling) = spelling

abbrev pub value_text : Value → List ℕ
value_text None = codes "nil"
value_text (Some atom) = atom_text atom

abbrev pub mop_text : Mop → List ℕ
mop_text (read key value) =
    codes "[:r " ++ atom_text key ++ codes " " ++ value_text value ++ codes "]"
mop_text (write key value) =
    codes "[:w " ++ atom_text key ++ codes " " ++ atom_text value ++ codes "]"

abbrev pub mops_text : List Mop → List ℕ
mops_text mops = codes "[" ++ join_by mop_text (codes " ") mops ++ codes "]"

abbrev pub kind_text : OpKind → List ℕ
kind_text kinds.Invoke = codes ":invoke"
kind_text kinds.Ok = codes ":ok"
kind_text kinds.Fail = codes ":fail"
kind_text kinds.Info = codes ":info"

-- what an invoke and an ok have more than a fail and an info
abbrev pub value_field_text : OpKind → List Mop → List ℕ
value_field_text kinds.Invoke mops = codes ", :value " ++ mops_text mops
value_field_text kinds.Ok mops = codes ", :value " ++ mops_text mops
value_field_text kinds.Fail mops = []
value_field_text kinds.Info mops = []

abbrev pub operation_text : Operation → List ℕ
operation_text o =
    codes "{:type " ++ kind_text o.kind
    ++ codes ", :process " ++ decimal o.process
    ++ value_field_text o.kind o.mops
    ++ codes "}"
