-- Strings: what is written of a string is read as its content.
use Rattle.std.proofs.Common.{◌≡◌, ◌⊎◌, inl, inr, ℕ, suc, ◌+◌, ◌<◌, ◌≤◌, List, [], ◌∷◌, ◌++◌, length, get_or, true, false, Some, refl, sym, subst, arith}
use Rattle.std.specs.Prelude.{◌&&◌, ◌==◌}
use Rattle.std.specs.List.{flat_map}
use Rattle.std.proofs.lemmas.Bool.{cases_Bool, and_right, eqb-true, ne_eqb, cases_lt, and_parts}
use Rattle.std.proofs.lemmas.List.{append_assoc, take_at, length-append, append-nil}
use Rattle.std.specs.Str.{IsUtf8}
use lib.Utf8.{scalar, scalars, encode, encodes}
use Rattle.std.proofs.lemmas.List.Concat.{flat_map-append}
use Rattle.std.proofs.lemmas.Str.{IsUtf8-from_ascii, IsUtf8-nil, IsUtf8-append, IsUtf8-encode, inside_one}
use Rattle.std.proofs.lemmas.Str.Ascii.{IsAscii-cons, IsAscii-nil, encode_ascii}
use Rattle.hist_types.specs.Bytes.{quote, backslash}
use Rattle.hist_types.specs.Tokens.{Str, front, content_len}
use Rattle.hist_types.specs.AtomTokens.{escape_value, decoded, between_quotes}
use Rattle.hist_types.specs.CanonicalText.{written_byte}

-- a byte is written as it stands, or as a backslash and a byte that stands for it
abbrev IsWritten : ℕ → Type 0
IsWritten b =
    ((written_byte b ≡ b ∷ []) × ((b == quote) ≡ false) × ((b == backslash) ≡ false))
    ⊎ ((c : ℕ) × (written_byte b ≡ backslash ∷ c ∷ []) × (escape_value c ≡ Some b) × (c < 128))

-- a byte with an escape, or else another
escaped_or : (b k c : ℕ) → written_byte k ≡ backslash ∷ c ∷ [] → escape_value c ≡ Some k → c < 128 → ((b == k) ≡ false → IsWritten b) → IsWritten b
escaped_or b k c w v low other = elim (cases_Bool (b == k)) [
  | inl e ↦ (
      let same : b ≡ k = eqb-true b k e in
      subst IsWritten (sym same) (inr (c, w, v, low)))
  | inr e ↦ other e
]

-- each byte is written in one of the two ways
is_written : (b : ℕ) → IsWritten b
is_written b =
    escaped_or b 8 98 refl refl (omega arith) (λ n8.
    escaped_or b 9 116 refl refl (omega arith) (λ n9.
    escaped_or b 10 110 refl refl (omega arith) (λ n10.
    escaped_or b 12 102 refl refl (omega arith) (λ n12.
    escaped_or b 13 114 refl refl (omega arith) (λ n13.
    escaped_or b 34 34 refl refl (omega arith) (λ n34.
    escaped_or b 92 92 refl refl (omega arith) (λ n92.
    inl (rw (n8, n9, n10, n12, n13, n34, n92) refl, n34, n92))))))))

-- the quote that closes a written string stands behind its content
content_len_written : (content rest : List ℕ) → content_len false (flat_map written_byte content ++ quote ∷ rest) ≡ Some (length (flat_map written_byte content))
content_len_written [] rest = refl
content_len_written (b ∷ bs) rest =
    let more = content_len_written bs rest in
    elim (is_written b) [
      | inl plain ↦ (
          let w = plain.0 in
          let no_quote = plain.1 in
          let no_backslash = plain.2 in
          rw (w, no_quote, no_backslash, more) refl)
      | inr escape ↦ (
          let w = escape.1 in
          let q : ((escape.0 == quote) && false) ≡ false = and_right _ _ refl in
          let s : ((escape.0 == backslash) && false) ≡ false = and_right _ _ refl in
          rw (w, q, s, more) refl)
    ]

-- and what is written of it means the content
pub decoded_written : (content : List ℕ) → decoded false (flat_map written_byte content) ≡ Some content
decoded_written [] = refl
decoded_written (b ∷ bs) =
    let more = decoded_written bs in
    elim (is_written b) [
      | inl plain ↦ (
          let w = plain.0 in
          let no_backslash = plain.2 in
          rw (w, no_backslash, more) refl)
      | inr escape ↦ (
          let w = escape.1 in
          let v = escape.2 in
          let s : ((escape.0 == backslash) && false) ≡ false = and_right _ _ refl in
          rw (w, s, v, more) refl)
    ]

-- a written string stands at the front, whatever comes after it
pub string_fits : (content rest : List ℕ) → front quote ((flat_map written_byte content ++ quote ∷ []) ++ rest) ≡ (Str, Some (suc (length (flat_map written_byte content ++ quote ∷ []))))
string_fits content rest =
    let size : length (flat_map written_byte content) + 2 ≡ suc (length (flat_map written_byte content ++ quote ∷ [])) = omega (arith, length-append (flat_map written_byte content) (quote ∷ [])) in
    rw (append_assoc (flat_map written_byte content) (quote ∷ []) rest, content_len_written content rest, size) refl

-- between its quotes stands what is written of its content
pub between_written : (xs : List ℕ) → between_quotes (quote ∷ (xs ++ quote ∷ [])) ≡ xs
between_written xs = take_at xs (quote ∷ []) _ (omega (arith, length-append xs (quote ∷ [])))

-- ---- UTF-8

-- a byte of 128 or more is written as it stands
high_written : (b : ℕ) → 128 ≤ b → written_byte b ≡ b ∷ []
high_written b h =
    let n8 : (b == 8) ≡ false = ne_eqb b 8 (λ e. omega (arith, e, h)) in
    let n9 : (b == 9) ≡ false = ne_eqb b 9 (λ e. omega (arith, e, h)) in
    let n10 : (b == 10) ≡ false = ne_eqb b 10 (λ e. omega (arith, e, h)) in
    let n12 : (b == 12) ≡ false = ne_eqb b 12 (λ e. omega (arith, e, h)) in
    let n13 : (b == 13) ≡ false = ne_eqb b 13 (λ e. omega (arith, e, h)) in
    let n34 : (b == 34) ≡ false = ne_eqb b 34 (λ e. omega (arith, e, h)) in
    let n92 : (b == 92) ≡ false = ne_eqb b 92 (λ e. omega (arith, e, h)) in
    rw (n8, n9, n10, n12, n13, n34, n92) refl

-- and so are many of them
high_bytes_written : (bs : List ℕ) → ((k : ℕ) → k < length bs → 128 ≤ get_or bs k 0) → flat_map written_byte bs ≡ bs
high_bytes_written [] h = refl
high_bytes_written (b ∷ bs) h =
    let w = high_written b (h 0 (omega arith)) in
    let more = high_bytes_written bs (λ k l. h (suc k) (omega (arith, l))) in
    rw (w, more) refl

-- what is written of a byte below 128 is UTF-8
low_written : (b : ℕ) → b < 128 → IsUtf8 (written_byte b)
low_written b h = elim (is_written b) [
  | inl plain ↦ subst IsUtf8 (sym plain.0) (IsUtf8-from_ascii (b ∷ []) (IsAscii-cons b [] h IsAscii-nil))
  | inr escape ↦ subst IsUtf8 (sym escape.1)
      (IsUtf8-from_ascii (backslash ∷ escape.0 ∷ []) (IsAscii-cons backslash (escape.0 ∷ []) (omega arith) (IsAscii-cons escape.0 [] escape.3 IsAscii-nil)))
]

-- each byte of a character of 128 or more is one too
pub high_character : (c : ℕ) → 128 ≤ c → (k : ℕ) → k < length (encode c) → 128 ≤ get_or (encode c) k 0
high_character c high k l = elim (cases_lt (get_or (encode c) k 0) 128) [
  | inl small ↦ (
      let same : c ≡ get_or (encode c) k 0 = inside_one c [] (encode c) k (sym (append-nil (encode c))) l small in
      omega (arith, same, small, high))
  | inr large ↦ large
]

-- what is written of one character is UTF-8
character_written : (c : ℕ) → scalar c ≡ true → IsUtf8 (flat_map written_byte (encode c))
character_written c s = elim (cases_lt c 128) [
  | inl low ↦ subst (λ (bs : List ℕ). IsUtf8 (flat_map written_byte bs)) (sym (encode_ascii c low))
      (subst IsUtf8 (sym (append-nil (written_byte c))) (low_written c low))
  | inr high ↦ subst IsUtf8 (sym (high_bytes_written (encode c) (high_character c high))) (IsUtf8-encode c s)
]

-- and so is what is written of many
characters_written : (cs : List ℕ) → scalars cs ≡ true → IsUtf8 (flat_map written_byte (encodes cs))
characters_written [] s = IsUtf8-nil
characters_written (c ∷ cs) s =
    let both = and_parts (scalar c) (scalars cs) s in
    subst IsUtf8 (sym (flat_map-append written_byte (encode c) (encodes cs)))
    (IsUtf8-append _ _ (character_written c both.0) (characters_written cs both.1))

-- what is written of UTF-8 is UTF-8
pub written_utf8 : (content : List ℕ) → IsUtf8 content → IsUtf8 (flat_map written_byte content)
written_utf8 content u = subst (λ (bs : List ℕ). IsUtf8 (flat_map written_byte bs)) u.1.1 (characters_written u.0 u.1.0)
