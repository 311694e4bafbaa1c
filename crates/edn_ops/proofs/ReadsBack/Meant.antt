-- The tokens of a text mean atoms that can be read.
use Rattle.std.proofs.Common.{◌≡◌, inl, inr, ℕ, suc, ◌<◌, ◌≤◌, List, [], ◌∷◌, ◌++◌, length, get_or, Bool, true, false, cond, Option, Some, None, refl, sym, ◌∙◌, ap, subst, arith}
use Rattle.std.specs.Prelude.{◌==◌, option_and_then}
use Rattle.std.specs.Str.{IsUtf8}
use lib.Utf8.{scalar, scalars, encode, encodes}
use Rattle.std.proofs.lemmas.Bool.{cases_Bool, cases_lt, ne_eqb, and_parts}
use Rattle.std.proofs.lemmas.Str.{IsUtf8-from_ascii, IsUtf8-nil, IsUtf8-append, IsUtf8-encode, length-encode, len_utf8_bounds}
use Rattle.std.proofs.lemmas.Str.Ascii.{IsAscii-cons, IsAscii-nil, encode_ascii}
use Rattle.hist_types.specs.Bytes.{backslash}
use Rattle.hist_types.specs.Atoms.{Atom, integer, keyword, string, symbol}
use Rattle.hist_types.specs.Tokens.{ItemKind, Str, Int, Keyword, Symbol, BeginsWith}
use Rattle.hist_types.specs.AtomTokens.{escape_value, decoded, between_quotes, int_value, is_64_bit, atom_of_token}
use Rattle.edn_ops.specs.Canonical.{CanBeRead}
use Rattle.edn_ops.proofs.ReadsBack.Strings.{high_character}
use Rattle.edn_ops.proofs.ReadsBack.Lexed.{none_or_some, mapped_some, word_spelling, quoted, between_utf8}

-- ---- what is decoded from UTF-8

-- an escape stands for a byte below 128
low_branch : (c d e f g h i : Bool) (v : ℕ) → cond c (Some 9) (cond d (Some 13) (cond e (Some 10) (cond f (Some 92) (cond g (Some 34) (cond h (Some 8) (cond i (Some 12) None)))))) ≡ Some v → v < 128
low_branch true d e f g h i v q = let k : 9 ≡ v = cc in omega arith
low_branch false true e f g h i v q = let k : 13 ≡ v = cc in omega arith
low_branch false false true f g h i v q = let k : 10 ≡ v = cc in omega arith
low_branch false false false true g h i v q = let k : 92 ≡ v = cc in omega arith
low_branch false false false false true h i v q = let k : 34 ≡ v = cc in omega arith
low_branch false false false false false true i v q = let k : 8 ≡ v = cc in omega arith
low_branch false false false false false false true v q = let k : 12 ≡ v = cc in omega arith
low_branch false false false false false false false v q = absurd (none_or_some v q)

-- whichever escape it is
escape_low : (b v : ℕ) → escape_value b ≡ Some v → v < 128
escape_low b v e = low_branch (b == 116) (b == 114) (b == 110) (b == 92) (b == 34) (b == 98) (b == 102) v e

-- a byte of 128 or more is no escape
no_high_escape : (b : ℕ) → 128 ≤ b → escape_value b ≡ None
no_high_escape b h =
    let n116 : (b == 116) ≡ false = ne_eqb b 116 (λ e. omega (arith, e, h)) in
    let n114 : (b == 114) ≡ false = ne_eqb b 114 (λ e. omega (arith, e, h)) in
    let n110 : (b == 110) ≡ false = ne_eqb b 110 (λ e. omega (arith, e, h)) in
    let n92 : (b == 92) ≡ false = ne_eqb b 92 (λ e. omega (arith, e, h)) in
    let n34 : (b == 34) ≡ false = ne_eqb b 34 (λ e. omega (arith, e, h)) in
    let n98 : (b == 98) ≡ false = ne_eqb b 98 (λ e. omega (arith, e, h)) in
    let n102 : (b == 102) ≡ false = ne_eqb b 102 (λ e. omega (arith, e, h)) in
    rw (n116, n114, n110, n92, n34, n98, n102) refl

-- bytes of 128 or more are taken as they stand
abbrev Rest : List ℕ → List ℕ → List ℕ → Type 0
Rest bs text c = (d : List ℕ) × (decoded false text ≡ Some d) × (c ≡ bs ++ d)

-- and what comes after them is decoded as before
decoded_high : (bs text c : List ℕ) → ((k : ℕ) → k < length bs → 128 ≤ get_or bs k 0) → decoded false (bs ++ text) ≡ Some c → Rest bs text c
decoded_high [] text c h e = (c, e, refl)
decoded_high (b ∷ bs) text c h e =
    let high = h 0 (omega arith) in
    let no_backslash : (b == backslash) ≡ false = ne_eqb b backslash (λ q. omega (arith, q, high)) in
    let m = mapped_some (λ (cs : List ℕ). b ∷ cs) (decoded false (bs ++ text)) c (rw no_backslash at e) in
    let more = decoded_high bs text m.0 (λ k l. h (suc k) (omega (arith, l))) m.1 in
    (more.0, more.1, sym m.2 ∙ ap (λ (cs : List ℕ). b ∷ cs) more.2)

-- no backslash takes one of them
high_taken : (bs text c : List ℕ) → 0 < length bs → ((k : ℕ) → k < length bs → 128 ≤ get_or bs k 0) → decoded true (bs ++ text) ≡ Some c → ⊥
high_taken [] text c l h e = omega (arith, l)
high_taken (b ∷ bs) text c l h e =
    let n = no_high_escape b (h 0 (omega arith)) in
    none_or_some c (rw n at e)

-- what a step of two came from
and_then_some : {A B : Type 0} (o : Option A) (f : A → Option B) (y : B) → option_and_then f o ≡ Some y → (x : A) × (o ≡ Some x) × (f x ≡ Some y)
and_then_some o f y x = grind arith

-- a byte below 128 in front keeps it UTF-8
onto_utf8 : (b : ℕ) (bs c : List ℕ) → b < 128 → IsUtf8 bs → b ∷ bs ≡ c → IsUtf8 c
onto_utf8 b bs c low u e = subst IsUtf8 e (IsUtf8-append (b ∷ []) bs (IsUtf8-from_ascii (b ∷ []) (IsAscii-cons b [] low IsAscii-nil)) u)

-- what is decoded from UTF-8 is UTF-8
decoded_utf8 : (cs : List ℕ) (taken : Bool) (c : List ℕ) → scalars cs ≡ true → decoded taken (encodes cs) ≡ Some c → IsUtf8 c
decoded_utf8 [] true c s e = absurd (none_or_some c e)
decoded_utf8 [] false c s e = let n : [] ≡ c = cc in subst IsUtf8 n IsUtf8-nil
decoded_utf8 (x ∷ cs) true c s e =
    let both = and_parts (scalar x) (scalars cs) s in
    elim (cases_lt x 128) [
      | inl low ↦ (
          let plain = subst (λ (bs : List ℕ). decoded true (bs ++ encodes cs) ≡ Some c) (encode_ascii x low) e in
          let v = and_then_some (escape_value x) _ c plain in
          let m = mapped_some (λ (ds : List ℕ). v.0 ∷ ds) _ c v.2 in
          onto_utf8 v.0 m.0 c (escape_low x v.0 v.1) (decoded_utf8 cs _ m.0 both.1 m.1) m.2)
      | inr high ↦ (
          let long : 0 < length (encode x) = omega (arith, length-encode x, (len_utf8_bounds x).0) in
          absurd (high_taken (encode x) (encodes cs) c long (high_character x high) e))
    ]
decoded_utf8 (x ∷ cs) false c s e =
    let both = and_parts (scalar x) (scalars cs) s in
    elim (cases_lt x 128) [
      | inl low ↦ (
          let plain = subst (λ (bs : List ℕ). decoded false (bs ++ encodes cs) ≡ Some c) (encode_ascii x low) e in
          elim (cases_Bool (x == backslash)) [
            | inl takes ↦ decoded_utf8 cs true c both.1 (rw takes at plain)
            | inr stands ↦ (
                let m = mapped_some (λ (ds : List ℕ). x ∷ ds) (decoded false (encodes cs)) c (rw stands at plain) in
                onto_utf8 x m.0 c low (decoded_utf8 cs false m.0 both.1 m.1) m.2)
          ])
      | inr high ↦ (
          let m = decoded_high (encode x) (encodes cs) c (high_character x high) e in
          subst IsUtf8 (sym m.2) (IsUtf8-append (encode x) m.0 (IsUtf8-encode x both.0) (decoded_utf8 cs false m.0 both.1 m.1)))
    ]

-- ---- tokens

-- what a token of this kind and with these bytes means can be read
abbrev pub Means : ItemKind → List ℕ → Type 0
Means kind bytes = (a : Atom) → atom_of_token kind bytes ≡ Some a → CanBeRead a

-- the one thing that is there
same_atom : (a b : Atom) → Some a ≡ Some b → a ≡ b
same_atom a b e = cc

-- a token that stands at the front of a text means what can be read
pub token_means : (kind : ItemKind) (text bytes : List ℕ) → IsUtf8 bytes → BeginsWith text kind bytes → Means kind bytes
token_means Int text bytes u h = λ a e. elim (cases_Bool (is_64_bit (int_value bytes))) [
  | inl fits ↦ subst CanBeRead (same_atom (integer (int_value bytes)) a (rw fits at e)) fits
  | inr large ↦ absurd (none_or_some a (rw large at e))
]
token_means Keyword text bytes u h = λ a e. subst CanBeRead (same_atom (keyword bytes) a e) (word_spelling text Keyword bytes refl u h)
token_means Symbol text bytes u h = λ a e. subst CanBeRead (same_atom (symbol bytes) a e) (word_spelling text Symbol bytes refl u h)
token_means Str text bytes u h = λ a e.
    let m = mapped_some string (decoded false (between_quotes bytes)) a e in
    let v = between_utf8 bytes u (quoted text bytes h) in
    subst CanBeRead m.2 (decoded_utf8 v.0 false m.0 v.1.0 (subst (λ (bs : List ℕ). decoded false bs ≡ Some m.0) (sym v.1.1) m.1))
token_means kind text bytes u h = λ a e. absurd (none_or_some a e)
