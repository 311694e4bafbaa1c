-- Source texts of atoms and micro-operations, and how they are written canonically.
use Rattle.std.specs.Prelude.{◌≡◌, ℕ, ℤ, List, [], ◌∷◌, ◌++◌, Bool, true, false, ◌==◌, if◌then◌else◌, bytes_eq, drop, codes, Some, None, Result, OnOk, Vec}
use Rattle.std.specs.Char.{is_ascii_digit}
use Rattle.std.specs.List.{list_all}
use Rattle.hist_types.specs.Atoms.{Atom, Value}
use Rattle.hist_types.specs.AtomTokens.{atom_of_token, int_value, is_64_bit}
use Rattle.hist_types.specs.Bytes.{plus, quote, colon}
use Rattle.hist_types.specs.Operations.{Mop, read, write, Operation}
use Rattle.reading_laws.specs.Placed.{IsTokenAlone}
use Rattle.hist_types.specs.CanonicalText.{operation_text}
use Rattle.hist_types.specs.Tokens.{ItemKind, Int, Keyword, Symbol, Str, first_byte, begins_with_number}
use Rattle.hist_types.specs.declared.types.OpKind.{OpKind}
use Rattle.edn_ops.specs.declared.write.MopText.{MopText}

-- The text is one token of this kind, and that token is the atom.
abbrev pub IsTokenOf : ItemKind → List ℕ → Atom → Type 0
IsTokenOf kind text atom = IsTokenAlone kind text × (atom_of_token kind text ≡ Some atom)

-- the same, whichever kind it is
abbrev pub IsAtomText : List ℕ → Atom → Type 0
IsAtomText text atom =
    (kind : ItemKind) × IsTokenAlone kind text × (atom_of_token kind text ≡ Some atom)

-- the same, or nil
abbrev pub IsValueText : List ℕ → Value → Type 0
IsValueText text None = text ≡ codes "nil"
IsValueText text (Some atom) = IsAtomText text atom

-- the texts of a key and of a value spell the micro-operation
abbrev pub IsMopText : MopText → Mop → Type 0
IsMopText t (read key value) =
    (t.is_write ≡ false) × IsAtomText t.key.now key × IsValueText t.value.now value
IsMopText t (write key value) =
    (t.is_write ≡ true) × IsAtomText t.key.now key × IsAtomText t.value.now value

-- the kind of an atom's token, by the first bytes of its text
abbrev pub kind_by_front : List ℕ → ItemKind
kind_by_front text =
    if first_byte text == quote then Str
    else (if first_byte text == colon then Keyword
    else (if begins_with_number text then Int
    else Symbol))

-- The text is digits alone, and the number that they write has 64 bits.
pub record IsNumberOf (text : List ℕ) (number : ℤ) : Type 0 where
  pub digits : list_all is_ascii_digit text ≡ true
  pub means : int_value text ≡ number
  pub fits : is_64_bit number ≡ true

-- one for one, in order
abbrev pub AreMopTexts : List MopText → List Mop → Type 0
AreMopTexts [] [] = Unit {0}
AreMopTexts [] (mop ∷ mops) = ⊥
AreMopTexts (text ∷ texts) [] = ⊥
AreMopTexts (text ∷ texts) (mop ∷ mops) = IsMopText text mop × AreMopTexts texts mops

abbrev pub operation : OpKind → ℕ → List Mop → Operation
operation kind process mops = record { kind = kind; process = process; mops = mops }

-- the canonical text of an operation, by its parts
abbrev pub op_text : OpKind → ℕ → List Mop → List ℕ
op_text kind process mops = operation_text (operation kind process mops)

-- ---- how a source text is written

-- whatever the source spells, its canonical text is appended to the Vec where the call succeeds
abbrev pub Writes :
    {A B G E : Type 0} → (A → Type 0) → (A → List ℕ) → Result B E → (old new : Vec ℕ G) → Type 0
Writes {A} Spells text_of result old new =
    (a : A) → Spells a → OnOk result (new.items ≡ old.items ++ text_of a)

-- A byte of a string's source: a control byte that has an escape is written as that, every other
-- byte as it is.
abbrev pub source_byte_text : ℕ → List ℕ
source_byte_text b =
    if b == 8 then codes "\\b"
    else (if b == 9 then codes "\\t"
    else (if b == 10 then codes "\\n"
    else (if b == 12 then codes "\\f"
    else (if b == 13 then codes "\\r"
    else b ∷ []))))

-- An integer without its `N`: a plus is left out, and `-0` is `0`.
abbrev pub decimal_spelling : List ℕ → List ℕ
decimal_spelling number =
    if first_byte number == plus then drop 1 number
    else (if bytes_eq number (codes "-0") then codes "0" else number)

-- what a micro-operation's text has before its key
abbrev pub front_of_mop : (is_write : Bool) → List ℕ
front_of_mop is_write = if is_write then codes "[:w " else codes "[:r "

-- the list is the other with more after it
abbrev pub IsLonger : List ℕ → List ℕ → Type 0
IsLonger longer list = (more : List ℕ) × (longer ≡ list ++ more)
