-- An integer's spelling without its `N` and its plus is how its number is written.
use Rattle.std.proofs.Common.{◌≡◌, ◌⊎◌, inl, inr, ℕ, ℤ, pos, zero, suc, ◌-◌, ◌<◌, ◌^◌, List, [], ◌∷◌, length, take, drop, get_or, Bool, true, false, not, cond, refl, sym, ◌∙◌, ap, subst, arith}
use Rattle.std.specs.Prelude.{◌==◌, ◌&&◌, nat_eq, nat_lt, bytes_eq, codes, decimal}
use Rattle.std.specs.Char.{is_ascii_digit}
use Rattle.std.specs.Cmp.Lexicographic.{bytes_decides}
use Rattle.std.specs.Fmt.{signed_decimal}
use Rattle.std.specs.List.{list_all}
use Rattle.std.specs.Str.Parse.{digits_value, signed_digits_value}
use lib.IntN.{neg_ℤ}
use lib.Pointwise.{pointwise}
use Rattle.std.proofs.lemmas.Bool.{true≢false, and_parts, or_cases, or_parts, cases_Bool, ltb-true, eqb-true, eq-eqb, not-true}
use Rattle.std.proofs.lemmas.Fmt.{decimal-digits_value, decimal_digit}
use Rattle.hist_types.specs.AtomTokens.{int_value, is_64_bit}
use Rattle.hist_types.specs.Bytes.{letter_n, plus, minus}
use Rattle.hist_types.specs.Tokens.{is_int, is_whole, is_sign, first_byte, without_n}
use Rattle.edn_lex.proofs.RunKinds.{no_sign}
use Rattle.edn_ops.specs.SourceTexts.{decimal_spelling}
use Rattle.edn_ops.proofs.ReadsBack.Runs.{IsDecimal, is_digit, own, unsigned_value}

-- ---- the parts of an integer

pull : (t : Bool) (b : ℕ) (xs ys : List ℕ) → cond t (b ∷ xs) (b ∷ ys) ≡ b ∷ cond t xs ys
pull t b xs ys = grind arith

without_n-cons : (b c : ℕ) (cs : List ℕ) → without_n (b ∷ c ∷ cs) ≡ b ∷ without_n (c ∷ cs)
without_n-cons b c cs =
    let whole : length (b ∷ c ∷ cs) - 1 ≡ suc (length cs) = omega arith in
    let behind : length (c ∷ cs) - 1 ≡ length cs = omega arith in
    rw (whole, behind) (pull (pointwise nat_eq (letter_n ∷ []) (drop (length cs) (c ∷ cs))) b (take (length cs) (c ∷ cs)) (c ∷ cs))

decimal_from_whole : (ds : List ℕ) → is_whole ds ≡ true → IsDecimal ds
decimal_from_whole ds h =
    let parts = and_parts (list_all is_ascii_digit ds && nat_lt 0 (length ds)) _ h in
    let inner = and_parts (list_all is_ascii_digit ds) (nat_lt 0 (length ds)) parts.0 in
    record { nonempty = ltb-true 0 (length ds) inner.1; digits = inner.0; no_zero = parts.1 }

-- digits, alone or behind a sign
abbrev IsNumber : List ℕ → Type 0
IsNumber number = IsDecimal number ⊎ ((sign : ℕ) × (ds : List ℕ) × (is_sign sign ≡ true) × (number ≡ sign ∷ ds) × IsDecimal ds)

number_parts : (run : List ℕ) → is_int run ≡ true → IsNumber (without_n run)
number_parts [] h = absurd (true≢false (sym h))
number_parts (b ∷ []) h = elim (cases_Bool (is_sign b)) [
  | inl sign ↦ absurd (true≢false (sym (rw sign at h)))
  | inr no_sign ↦ inl (decimal_from_whole (without_n (b ∷ [])) (rw no_sign at h))
]
number_parts (b ∷ c ∷ cs) h = elim (cases_Bool (is_sign b)) [
  | inl sign ↦ inr (b, without_n (c ∷ cs), sign, without_n-cons b c cs, decimal_from_whole (without_n (c ∷ cs)) (rw sign at h))
  | inr no_sign ↦ inl (decimal_from_whole (without_n (b ∷ c ∷ cs)) (rw no_sign at h))
]

-- ---- the number written again

zero_alone : (ds : List ℕ) → IsDecimal ds → get_or ds 0 0 ≡ 48 → length ds ≡ 1
zero_alone ds d first = elim (or_cases (not (first_byte ds == 48)) (length ds == 1) d.no_zero) [
  | inl other ↦ absurd (true≢false (sym (eq-eqb (get_or ds 0 0) 48 first) ∙ not-true _ other))
  | inr one ↦ eqb-true (length ds) 1 one
]

written_again : (ds : List ℕ) → IsDecimal ds → digits_value 10 ds < 2 ^ 64 → decimal (digits_value 10 ds) ≡ ds
written_again ds d small = decimal-digits_value own ds d.digits d.nonempty (zero_alone ds d) small

-- digits begin with no sign
unsigned_spelled : (ds : List ℕ) → IsDecimal ds → decimal_spelling ds ≡ ds
unsigned_spelled [] d = absurd (omega (arith, d.nonempty))
unsigned_spelled (b ∷ bs) d =
    let signs = or_parts (b == 43) (b == 45) (is_digit b (and_parts _ _ d.digits).0).no_sign in
    let no_plus : (b == 43) ≡ false = signs.0 in
    let no_minus : (b == 45) ≡ false = signs.1 in
    rw (no_plus, no_minus) refl

-- behind a minus
negative : (ds : List ℕ) (n : ℕ) → IsDecimal ds → digits_value 10 ds ≡ n → is_64_bit (neg_ℤ (pos n)) ≡ true → decimal_spelling (45 ∷ ds) ≡ signed_decimal (neg_ℤ (pos n))
negative ds zero d e fits =
    let none : ds ≡ decimal 0 = sym (ap decimal (sym e) ∙ written_again ds d (omega (arith, e))) in
    let digit : ds ≡ 48 ∷ [] = none ∙ decimal_digit 0 (omega arith) in
    subst (λ (xs : List ℕ). decimal_spelling (45 ∷ xs) ≡ decimal 0) (sym digit) (sym (decimal_digit 0 (omega arith)))
negative ds (suc n) d e fits =
    let below = ltb-true n (2 ^ 63) fits in
    let same : decimal (suc n) ≡ ds = ap decimal (sym e) ∙ written_again ds d (omega (arith, e, below)) in
    elim (cases_Bool (bytes_eq (45 ∷ ds) (codes "-0"))) [
      | inl is_zero ↦ (
          let same_text : 45 ∷ ds ≡ codes "-0" = (bytes_decides (45 ∷ ds) (codes "-0")).0 is_zero in
          let digit : ds ≡ 48 ∷ [] = ap (drop 1) same_text in
          let none : suc n ≡ 0 = sym e ∙ ap (digits_value 10) digit in
          absurd (omega (arith, none)))
      | inr other ↦ rw other (ap (λ (xs : List ℕ). 45 ∷ xs) (sym same))
    ]

-- whatever the number
spelled : (number : List ℕ) → IsNumber number → is_64_bit (signed_digits_value 10 number) ≡ true → decimal_spelling number ≡ signed_decimal (signed_digits_value 10 number)
spelled number (inl d) fits =
    let value = unsigned_value number d in
    let below = ltb-true (digits_value 10 number) (2 ^ 63) (subst (λ (z : ℤ). is_64_bit z ≡ true) value fits) in
    unsigned_spelled number d ∙ sym (written_again number d (omega (arith, below))) ∙ sym (ap signed_decimal value)
spelled number (inr signed) fits =
    subst (λ (xs : List ℕ). decimal_spelling xs ≡ signed_decimal (signed_digits_value 10 xs)) (sym signed.3)
    (behind_sign signed.0 signed.1 signed.2 signed.4 (subst (λ (xs : List ℕ). is_64_bit (signed_digits_value 10 xs) ≡ true) signed.3 fits))
  where
    behind_sign : (b : ℕ) (ds : List ℕ) → is_sign b ≡ true → IsDecimal ds → is_64_bit (signed_digits_value 10 (b ∷ ds)) ≡ true → decimal_spelling (b ∷ ds) ≡ signed_decimal (signed_digits_value 10 (b ∷ ds))
    behind_sign b ds sign d fit = elim (cases_Bool (b == plus)) [
      | inl is_plus ↦ (
          let same = eqb-true b plus is_plus in
          let Holds : ℕ → Type 0 = λ x. is_64_bit (signed_digits_value 10 (x ∷ ds)) ≡ true in
          let below = ltb-true (digits_value 10 ds) (2 ^ 63) (subst Holds same fit) in
          subst (λ (x : ℕ). decimal_spelling (x ∷ ds) ≡ signed_decimal (signed_digits_value 10 (x ∷ ds))) (sym same)
          (sym (written_again ds d (omega (arith, below)))))
      | inr no_plus ↦ (
          let same = eqb-true b minus (rw no_plus at sign) in
          subst (λ (x : ℕ). decimal_spelling (x ∷ ds) ≡ signed_decimal (signed_digits_value 10 (x ∷ ds))) (sym same)
          (negative ds (digits_value 10 ds) d refl (subst (λ (x : ℕ). is_64_bit (signed_digits_value 10 (x ∷ ds)) ≡ true) same fit)))
    ]

pub decimal_spelled : (run : List ℕ) → is_int run ≡ true → is_64_bit (int_value run) ≡ true → decimal_spelling (without_n run) ≡ signed_decimal (int_value run)
decimal_spelled run h fits = spelled (without_n run) (number_parts run h) fits
