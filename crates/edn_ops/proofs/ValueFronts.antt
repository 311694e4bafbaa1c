-- How a text that is an atom or nil is written, by the kind that its first bytes tell.
use Rattle.std.proofs.Common.{◌≡◌, inl, inr, ℕ, List, true, false, Some, None, refl, sym, ◌∙◌, ap, subst}
use Rattle.std.specs.Prelude.{flat_map}
use Rattle.std.specs.Fmt.{signed_decimal}
use Rattle.std.proofs.lemmas.Bool.{cases_Bool}
use Rattle.hist_types.specs.Atoms.{Atom, Value, integer, keyword, string, symbol}
use Rattle.hist_types.specs.AtomTokens.{int_value, is_64_bit, atom_of_token, decoded, between_quotes}
use Rattle.hist_types.specs.CanonicalText.{atom_text, value_text}
use Rattle.hist_types.specs.Tokens.{ItemKind, Int, Keyword, Symbol, Str, is_int}
use Rattle.edn_lex.specs.Kinds.{kind_of}
use Rattle.edn_lex.specs.declared.types.TokenKind.{TokenKind}
use Rattle.edn_lex.specs.declared.types.TokenKind.TheVariants as kinds
use Rattle.edn_ops.specs.SourceTexts.{source_byte_text, kind_by_front, IsTokenOf, IsValueText}
use Rattle.edn_ops.proofs.KindsByFront.{no_atom, kind_told}
use Rattle.edn_ops.proofs.Tokens.{token_begins}
use Rattle.edn_ops.proofs.ReadsBack.Lexed.{mapped_some}
use Rattle.edn_ops.proofs.StringSources.{string_kept}
use Rattle.reading_laws.proofs.Fronts.{word_is, str_begins}

same_atom : (a b : Atom) → Some a ≡ Some b → a ≡ b
same_atom a b e = cc

-- an integer of 64 bits
pub record IsIntegerOf (text : List ℕ) (value : Value) : Type 0 where
  pub int : is_int text ≡ true
  pub fits : is_64_bit (int_value text) ≡ true
  pub written : signed_decimal (int_value text) ≡ value_text value

fitting : (text : List ℕ) (atom : Atom) → is_int text ≡ true → atom_of_token Int text ≡ Some atom → IsIntegerOf text (Some atom)
fitting text atom int e = elim (cases_Bool (is_64_bit (int_value text))) [
  | inl fits ↦ record { int = int; fits = fits; written = ap atom_text (same_atom (integer (int_value text)) atom (rw fits at e)) }
  | inr large ↦ absurd (no_atom atom (rw large at e))
]

-- by the kind of its token
abbrev pub WrittenAs : ItemKind → List ℕ → Value → Type 0
WrittenAs Int text value = IsIntegerOf text value
WrittenAs Str text value = flat_map source_byte_text text ≡ value_text value
WrittenAs kind text value = text ≡ value_text value

written_as : (kind : ItemKind) (text : List ℕ) (atom : Atom) → IsTokenOf kind text atom → WrittenAs kind text (Some atom)
written_as Int text atom h = fitting text atom (word_is Int text refl (token_begins Int text h.0)).passed h.1
written_as Str text atom h =
    let token = token_begins Str text h.0 in
    let m = mapped_some string (decoded false (between_quotes text)) atom h.1 in
    string_kept text m.0 (str_begins text token) token m.1 ∙ ap atom_text m.2
written_as Keyword text atom h = ap atom_text (same_atom (keyword text) atom h.1)
written_as Symbol text atom h = ap atom_text (same_atom (symbol text) atom h.1)
written_as kind text atom h = absurd (no_atom atom h.1)

pub value_written : (kind : TokenKind) (text : List ℕ) (value : Value) → kind_of kind ≡ kind_by_front text → IsValueText text value → WrittenAs (kind_of kind) text value
value_written kind text None is h = subst (λ (k : ItemKind). WrittenAs k text None) (sym is) (subst (λ (bs : List ℕ). WrittenAs (kind_by_front bs) bs None) (sym h) refl)
value_written kind text (Some atom) is h = subst (λ (k : ItemKind). WrittenAs k text (Some atom)) (sym (is ∙ kind_told h.0 text atom (h.1, h.2))) (written_as h.0 text atom (h.1, h.2))

-- everything else is written as it is
pub other_written : (kind : TokenKind) (text : List ℕ) (value : Value) → (kind ≡ kinds.Str → ⊥) → (kind ≡ kinds.Int → ⊥) → WrittenAs (kind_of kind) text value → text ≡ value_text value
other_written kinds.Str text value no_str no_int h = absurd (no_str refl)
other_written kinds.Int text value no_str no_int h = absurd (no_int refl)
other_written kind text value no_str no_int h = h
