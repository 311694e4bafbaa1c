-- Texts that are one atom.
use Rattle.std.specs.Prelude.{ℕ, ℤ, List, Option, Some, None}
use Rattle.hist_types.specs.Atoms.{Atom, integer}
use Rattle.hist_types.specs.Tokens.{Item, ItemKind}
use Rattle.reading_laws.specs.Placed.{IsTokenAlone}
use Rattle.edn_ops.specs.SourceTexts.{IsAtomText}
use Rattle.edn_lex.specs.Kinds.{kind_of}
use Rattle.edn_lex.specs.declared.types.TokenKind.{TokenKind}

-- the token that takes up a whole text
abbrev pub whole_token : ItemKind → List ℕ → Item
whole_token kind text = record { kind = kind; start = 0; bytes = text }

-- The text is one token, of this kind.
abbrev pub HasTokenAlone : List ℕ → TokenKind → Type 0
HasTokenAlone text kind = IsTokenAlone (kind_of kind) text

-- The text is no single token.
abbrev pub HasNoTokenAlone : List ℕ → Type 0
HasNoTokenAlone text = (kind : ItemKind) → ¬ (IsTokenAlone kind text)

-- The text is no atom.
abbrev pub IsNoAtomText : List ℕ → Type 0
IsNoAtomText text = (atom : Atom) → ¬ (IsAtomText text atom)

-- the number of an atom that is an integer
abbrev pub number_of : Atom → Option ℤ
number_of (integer number) = Some number
number_of atom = None
