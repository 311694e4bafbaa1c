-- How atoms are spelled.
use Rattle.std.specs.Prelude.{◌≡◌, ◌-◌, ℕ, List, true, false, Option, Some, None, MatchOption}
use Rattle.std.specs.Char.{is_ascii_digit}
use Rattle.hist_types.specs.Atoms.{Atom, integer, keyword, string, symbol}
use Rattle.hist_types.specs.AtomTokens.{atom_of_token, between_quotes}
use Rattle.hist_types.specs.Tokens.{ItemKind, Int, Keyword, Symbol, Str}
use Rattle.op_view.specs.Decoding.{has_content, content_of}
use Rattle.op_view.specs.declared.spelling.Spelling.{Spelling}
use Rattle.op_view.specs.declared.spelling.Spelling.TheVariants as spellings
use Rattle.edn_ops.specs.SourceTexts.{IsTokenOf}

abbrev pub kind_spelled : Spelling → ItemKind
kind_spelled (spellings.Integer number) = Int
kind_spelled spellings.Keyword = Keyword
kind_spelled spellings.PlainString = Str
kind_spelled spellings.EscapedString = Str
kind_spelled spellings.Symbol = Symbol

-- the atom that a text spells
abbrev pub atom_spelled : Spelling → List ℕ → Atom
atom_spelled (spellings.Integer number) text = integer number
atom_spelled spellings.Keyword text = keyword text
atom_spelled spellings.PlainString text = string (between_quotes text)
atom_spelled spellings.EscapedString text = string (content_of (between_quotes text))
atom_spelled spellings.Symbol text = symbol text

-- The text is one token, and that token is the atom that it spells.
abbrev pub IsTokenSpelled : Spelling → List ℕ → Type 0
IsTokenSpelled spelling text = IsTokenOf (kind_spelled spelling) text (atom_spelled spelling text)

-- A token of this kind with these bytes is the atom that is spelled so.
pub record IsSpelled (kind : ItemKind) (text : List ℕ) (spelling : Spelling) : Type 0 where
  pub of_kind : kind_spelled spelling ≡ kind
  pub atom : atom_of_token kind text ≡ Some (atom_spelled spelling text)

-- A string's text has an escape that is not known.
abbrev pub HasNoContent : List ℕ → Type 0
HasNoContent text = has_content (between_quotes text) ≡ false

-- how a token of this kind with these bytes is spelled, if it is an atom
abbrev pub IsSpellingOf : ItemKind → List ℕ → Option Spelling → Type 0
IsSpellingOf kind text found =
    MatchOption found (atom_of_token kind text ≡ None) (IsSpelled kind text)

-- Whichever kind of token and whichever atom the text is, it is spelled so.
abbrev pub IsKnownSpelling : List ℕ → Spelling → Type 0
IsKnownSpelling text spelling =
    (kind : ItemKind) (atom : Atom) → IsTokenOf kind text atom → IsSpelled kind text spelling

-- The byte is a digit, which spells this number.
pub record IsDigit (byte number : ℕ) : Type 0 where
  pub digit : is_ascii_digit byte ≡ true
  pub value : number ≡ byte - 48
