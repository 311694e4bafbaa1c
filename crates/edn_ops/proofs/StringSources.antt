-- A string's source with its control bytes escaped is how its content is written.
use Rattle.std.proofs.Common.{◌≡◌, inl, inr, ℕ, zero, suc, ◌+◌, ◌-◌, List, [], ◌∷◌, ◌++◌, length, take, get_or, Bool, true, false, Option, Some, None, option_map, refl, sym, ◌∙◌, ap, subst, arith}
use Rattle.std.specs.Prelude.{◌==◌, ◌&&◌, flat_map, if◌then◌else◌, option_and_then}
use Rattle.std.proofs.lemmas.Bool.{cases_Bool, eqb-true, and_right}
use Rattle.std.proofs.lemmas.List.Concat.{flat_map-append}
use Rattle.std.proofs.lemmas.Option.{none-some, same_Some}
use Rattle.hist_types.specs.AtomTokens.{escape_value, decoded, between_quotes}
use Rattle.hist_types.specs.Bytes.{quote, backslash}
use Rattle.hist_types.specs.CanonicalText.{written_byte}
use Rattle.hist_types.specs.Tokens.{ItemKind, Str, content_len, front, first_byte, BeginsWith}
use Rattle.edn_ops.specs.SourceTexts.{source_byte_text}
use Rattle.edn_ops.proofs.ReadsBack.Lexed.{mapped_some, content_end}

-- ---- bytes

-- one escape, or else another
escape_or :
    (b k w v : ℕ) (other : Option ℕ)
    → backslash ∷ source_byte_text k ≡ written_byte w
    → (other ≡ Some v → backslash ∷ source_byte_text b ≡ written_byte v)
    → (if b == k then Some w else other) ≡ Some v
    → backslash ∷ source_byte_text b ≡ written_byte v
escape_or b k w v other same more e = elim (cases_Bool (b == k)) [
  | inl is ↦ (
      let byte : b ≡ k = eqb-true b k is in
      let value : w ≡ v = same_Some w v (rw is at e) in
      subst (λ (x : ℕ). backslash ∷ source_byte_text x ≡ written_byte v) (sym byte)
      (subst (λ (y : ℕ). backslash ∷ source_byte_text k ≡ written_byte y) value same))
  | inr another ↦ more (rw another at e)
]

-- an escape is canonical already
escape_kept : (b v : ℕ) → escape_value b ≡ Some v → backslash ∷ source_byte_text b ≡ written_byte v
escape_kept b v =
    escape_or b 116 9 v _ refl
    (escape_or b 114 13 v _ refl
    (escape_or b 110 10 v _ refl
    (escape_or b backslash backslash v _ refl
    (escape_or b quote quote v _ refl
    (escape_or b 98 8 v _ refl
    (escape_or b 102 12 v None refl
    (λ none. absurd (none-some v none))))))))

-- a byte that is no quote and no backslash is written as in a string
byte_kept : (b : ℕ) → (b == quote) ≡ false → (b == backslash) ≡ false → source_byte_text b ≡ written_byte b
byte_kept b no_quote no_backslash = rw (no_quote, no_backslash) refl

-- ---- contents

-- what is written of the source, behind a backslash or not, is what is written of the content
abbrev IsWrittenAs : (taken : Bool) → List ℕ → List ℕ → Type 0
IsWrittenAs true source content = backslash ∷ flat_map source_byte_text source ≡ flat_map written_byte content
IsWrittenAs false source content = flat_map source_byte_text source ≡ flat_map written_byte content

and_then_some : {A B : Type 0} (o : Option A) (f : A → Option B) (y : B) → option_and_then f o ≡ Some y → (x : A) × (o ≡ Some x) × (f x ≡ Some y)
and_then_some o f y x = grind arith

-- the same for what is behind a byte
abbrev IsKept : List ℕ → ℕ → Type 0
IsKept rest n = (taken : Bool) (content : List ℕ) → content_len taken rest ≡ Some n → decoded taken (take n rest) ≡ Some content → IsWrittenAs taken (take n rest) content

kept_behind_escape :
    (b : ℕ) (bs content : List ℕ) (n : ℕ)
    → IsKept bs n
    → content_len ((b == backslash) && false) bs ≡ Some n
    → decoded true (b ∷ take n bs) ≡ Some content
    → IsWrittenAs true (b ∷ take n bs) content
kept_behind_escape b bs content n kept closes e =
    let untaken : ((b == backslash) && false) ≡ false = and_right _ _ refl in
    let v = and_then_some (escape_value b) (λ c. option_map (λ cs. c ∷ cs) (decoded ((b == backslash) && false) (take n bs))) content e in
    let c = mapped_some (λ (cs : List ℕ). v.0 ∷ cs) (decoded ((b == backslash) && false) (take n bs)) content v.2 in
    let more : IsWrittenAs false (take n bs) c.0 =
    kept false c.0 (subst (λ (t : Bool). content_len t bs ≡ Some n) untaken closes) (subst (λ (t : Bool). decoded t (take n bs) ≡ Some c.0) untaken c.1) in
    subst (λ (xs : List ℕ). backslash ∷ (source_byte_text b ++ flat_map source_byte_text (take n bs)) ≡ flat_map written_byte xs) c.2
    (ap (λ (xs : List ℕ). xs ++ flat_map source_byte_text (take n bs)) (escape_kept b v.0 v.1) ∙ ap (λ (xs : List ℕ). written_byte v.0 ++ xs) more)

kept_behind_byte :
    (b : ℕ) (bs content : List ℕ) (n : ℕ)
    → (b == quote) ≡ false
    → IsKept bs n
    → content_len ((b == backslash) && true) bs ≡ Some n
    → decoded false (b ∷ take n bs) ≡ Some content
    → IsWrittenAs false (b ∷ take n bs) content
kept_behind_byte b bs content n no_quote kept closes e = elim (cases_Bool (b == backslash)) [
  | inl takes ↦ (
      let byte : b ≡ backslash = eqb-true b backslash takes in
      let more : IsWrittenAs true (take n bs) content = kept true content (rw takes at closes) (rw takes at e) in
      subst (λ (x : ℕ). source_byte_text x ++ flat_map source_byte_text (take n bs) ≡ flat_map written_byte content) (sym byte) more)
  | inr stands ↦ (
      let c = mapped_some (λ (cs : List ℕ). b ∷ cs) (decoded false (take n bs)) content (rw stands at e) in
      let more : IsWrittenAs false (take n bs) c.0 = kept false c.0 (rw stands at closes) c.1 in
      subst (λ (xs : List ℕ). source_byte_text b ++ flat_map source_byte_text (take n bs) ≡ flat_map written_byte xs) c.2
      (ap (λ (xs : List ℕ). xs ++ flat_map source_byte_text (take n bs)) (byte_kept b no_quote stands) ∙ ap (λ (xs : List ℕ). written_byte b ++ xs) more))
]

-- The quote that closes the string is behind n bytes.
content_kept : (rest : List ℕ) (n : ℕ) → IsKept rest n
content_kept [] n taken content closes e = absurd (none-some n closes)
content_kept (b ∷ bs) n true content closes e =
    let goes_on : ((b == quote) && false) ≡ false = and_right _ _ refl in
    let m = mapped_some suc (content_len ((b == backslash) && false) bs) n (rw goes_on at closes) in
    subst (λ (k : ℕ). IsWrittenAs true (take k (b ∷ bs)) content) m.2
    (kept_behind_escape b bs content m.0 (content_kept bs m.0) m.1 (subst (λ (k : ℕ). decoded true (take k (b ∷ bs)) ≡ Some content) (sym m.2) e))
content_kept (b ∷ bs) n false content closes e = elim (cases_Bool (b == quote)) [
  | inl is_quote ↦ (
      let none : 0 ≡ n = same_Some 0 n (rw is_quote at closes) in
      let empty : [] ≡ content = same_Some [] content (subst (λ (k : ℕ). decoded false (take k (b ∷ bs)) ≡ Some content) (sym none) e) in
      subst (λ (k : ℕ). IsWrittenAs false (take k (b ∷ bs)) content) none (ap (flat_map written_byte) empty))
  | inr no_quote ↦ (
      let m = mapped_some suc (content_len ((b == backslash) && true) bs) n (rw no_quote at closes) in
      subst (λ (k : ℕ). IsWrittenAs false (take k (b ∷ bs)) content) m.2
      (kept_behind_byte b bs content m.0 no_quote (content_kept bs m.0) m.1 (subst (λ (k : ℕ). decoded false (take k (b ∷ bs)) ≡ Some content) (sym m.2) e)))
]

-- ---- strings

cut_behind : (xs : List ℕ) (n b : ℕ) → n + 1 ≡ length xs → get_or xs n 0 ≡ b → xs ≡ take n xs ++ b ∷ []
cut_behind [] n b size e = absurd (omega (arith, size))
cut_behind (x ∷ []) zero b size e = ap (λ (y : ℕ). y ∷ []) e
cut_behind (x ∷ y ∷ ys) zero b size e = absurd (omega (arith, size))
cut_behind (x ∷ xs) (suc n) b size e = ap (λ (ys : List ℕ). x ∷ ys) (cut_behind xs n b (omega (arith, size)) e)

pub string_kept :
    (text content : List ℕ)
    → (first_byte text == quote) ≡ true
    → BeginsWith text Str text
    → decoded false (between_quotes text) ≡ Some content
    → flat_map source_byte_text text ≡ quote ∷ (flat_map written_byte content ++ quote ∷ [])
string_kept [] content is_quote h e = absurd h
string_kept (b ∷ rest) content is_quote h e =
    let q : b ≡ quote = eqb-true b quote is_quote in
    let found : front quote rest ≡ (Str, Some (suc (length rest))) = subst (λ (c : ℕ). front c rest ≡ (Str, Some (suc (length rest)))) q h.0 in
    let size : option_map (λ n. n + 2) (content_len false rest) ≡ Some (suc (length rest)) = ap (λ (p : ItemKind × Option ℕ). p.1) found in
    let m = mapped_some (λ (n : ℕ). n + 2) (content_len false rest) (suc (length rest)) size in
    let at = content_end false rest m.0 m.1 in
    let cut : rest ≡ take m.0 rest ++ quote ∷ [] = cut_behind rest m.0 quote (omega (arith, m.2)) at.1 in
    let inner : suc (length rest) - 2 ≡ m.0 = omega (arith, m.2) in
    let kept : flat_map source_byte_text (take m.0 rest) ≡ flat_map written_byte content =
    content_kept rest m.0 false content m.1 (subst (λ (k : ℕ). decoded false (take k rest) ≡ Some content) inner e) in
    subst (λ (c : ℕ). source_byte_text c ++ flat_map source_byte_text rest ≡ quote ∷ (flat_map written_byte content ++ quote ∷ [])) (sym q)
    (ap (λ (xs : List ℕ). quote ∷ flat_map source_byte_text xs) cut
    ∙ ap (λ (xs : List ℕ). quote ∷ xs) (flat_map-append source_byte_text (take m.0 rest) (quote ∷ []))
    ∙ ap (λ (xs : List ℕ). quote ∷ (xs ++ quote ∷ [])) kept)
