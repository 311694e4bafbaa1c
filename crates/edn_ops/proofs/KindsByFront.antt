-- The first bytes of a text that is an atom tell its kind.
use Rattle.std.proofs.Common.{◌≡◌, inl, inr, ℕ, List, [], ◌∷◌, Bool, true, false, not, Some, None, refl, sym, ◌∙◌, ap, arith}
use Rattle.std.specs.Prelude.{◌==◌, ◌&&◌, ◌||◌}
use Rattle.std.specs.Char.{is_ascii_digit}
use Rattle.std.specs.List.{list_all}
use Rattle.std.proofs.lemmas.Bool.{true≢false, and_parts, cases_Bool, eqb-true}
use Rattle.hist_types.specs.Atoms.{Atom}
use Rattle.hist_types.specs.Bytes.{quote, colon, hash, dot}
use Rattle.hist_types.specs.Tokens.{ItemKind, Int, Keyword, Symbol, Str, first_byte, second_byte, is_sign, is_symbol, begins_with_number}
use Rattle.edn_ops.specs.SourceTexts.{IsTokenOf, kind_by_front}
use Rattle.edn_ops.proofs.Integers.{digit_range, other_byte}
use Rattle.edn_ops.proofs.Tokens.{token_begins}
use Rattle.reading_laws.proofs.Fronts.{word_is, str_begins, int_begins}

neither : (a b : Bool) → (a || b) ≡ false → (a ≡ false) × (b ≡ false)
neither a b h = grind arith

fails : (a : Bool) → not a ≡ true → a ≡ false
fails a h = grind arith

-- a colon begins no number
colon_first : (text : List ℕ) → (first_byte text == colon) ≡ true → begins_with_number text ≡ false
colon_first text h =
    ap (λ (b : ℕ). is_ascii_digit b || (is_sign b && is_ascii_digit (second_byte text))) (eqb-true (first_byte text) colon h)

no_colon : (text : List ℕ) → begins_with_number text ≡ true → (first_byte text == colon) ≡ false
no_colon text h = elim (cases_Bool (first_byte text == colon)) [
  | inl is ↦ absurd (true≢false (sym h ∙ colon_first text is))
  | inr is_not ↦ is_not
]

sign_alone : (sign is_dot digit : Bool) → ((sign || is_dot) && digit) ≡ false → (sign && digit) ≡ false
sign_alone sign is_dot digit h = grind arith

no_number : (digit other : Bool) → digit ≡ false → other ≡ false → (digit || other) ≡ false
no_number digit other h k = grind arith

-- a symbol begins with neither a colon nor a number
pub record BeginsAsSymbol (text : List ℕ) : Type 0 where
  colon : (first_byte text == colon) ≡ false
  number : begins_with_number text ≡ false

symbol_begins : (text : List ℕ) → is_symbol text ≡ true → BeginsAsSymbol text
symbol_begins text h =
    let parts = and_parts (not (is_ascii_digit (first_byte text) || (first_byte text == colon) || (first_byte text == hash))) _ h in
    let first = neither (is_ascii_digit (first_byte text) || (first_byte text == colon)) _ (fails _ parts.0) in
    let digit = neither (is_ascii_digit (first_byte text)) (first_byte text == colon) first.0 in
    let sign = sign_alone (is_sign (first_byte text)) (first_byte text == dot) (is_ascii_digit (second_byte text)) (fails _ parts.1) in
    record { colon = digit.1; number = no_number (is_ascii_digit (first_byte text)) _ digit.0 sign }

pub no_atom : (atom : Atom) → None ≡ Some atom → ⊥
no_atom atom e = cc

pub kind_told : (kind : ItemKind) (text : List ℕ) (atom : Atom) → IsTokenOf kind text atom → kind_by_front text ≡ kind
kind_told Int text atom h =
    let word = word_is Int text refl (token_begins Int text h.0) in
    let begins = int_begins text word.passed in
    let no_quote = word.no_quote in
    let other = no_colon text begins in
    rw (no_quote, other, begins) refl
kind_told Keyword text atom h =
    let word = word_is Keyword text refl (token_begins Keyword text h.0) in
    let no_quote = word.no_quote in
    let is_colon = (and_parts (first_byte text == colon) _ word.passed).0 in
    rw (no_quote, is_colon) refl
kind_told Symbol text atom h =
    let word = word_is Symbol text refl (token_begins Symbol text h.0) in
    let begins = symbol_begins text word.passed in
    let no_quote = word.no_quote in
    let other = begins.colon in
    let number = begins.number in
    rw (no_quote, other, number) refl
kind_told Str text atom h =
    let is_quote = str_begins text (token_begins Str text h.0) in
    rw is_quote refl
kind_told kind text atom h = absurd (no_atom atom h.1)

-- digits alone that are an atom are an integer
pub digits_told :
    (kind : ItemKind) (text : List ℕ) (atom : Atom)
    → IsTokenOf kind text atom
    → list_all is_ascii_digit text ≡ true
    → Int ≡ kind
digits_told kind [] atom h digits = absurd (token_begins kind [] h.0)
digits_told kind (b ∷ bs) atom h digits =
    let range = digit_range b bs digits in
    let no_quote = other_byte b quote range (inl (omega arith)) in
    let no_colon = other_byte b colon range (inr (omega arith)) in
    let digit = (and_parts (is_ascii_digit b) _ digits).0 in
    let int : kind_by_front (b ∷ bs) ≡ Int = rw (no_quote, no_colon, digit) refl in
    sym int ∙ kind_told kind (b ∷ bs) atom h
