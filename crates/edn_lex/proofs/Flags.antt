-- The flags of bytes: the table against the definitions, and the flags of several bytes together.
use Rattle.std.proofs.Common.{◌≡◌, ℕ, zero, suc, ◌+◌, ◌*◌, ◌^◌, ◌<◌, max, Bool, true, false, ◌&&◌, ◌||◌, not, nat_eq, bit_and, bit_or, get_or, length, take, List, refl, sym, ◌∙◌, ap, arith, inl, inr}
use Rattle.std.specs.Bool.{beq}
use Rattle.std.specs.Int.{bit_at}
use Rattle.std.specs.List.{list_all, All}
use Rattle.std.specs.Str.{IsAscii}
use Rattle.std.proofs.lemmas.Bool.{cases_eq}
use Rattle.std.proofs.lemmas.Bool.Decides.{nat_tests}
use Rattle.std.proofs.lemmas.List.Folds.{list_all_more}
use Rattle.std.proofs.lemmas.List.Sums.{AllPass-from_list_all}
use Rattle.std.proofs.lemmas.Nat.Bits.{and_pow, bit_at_or, bit_at-lt}
use Rattle.std.proofs.lemmas.Str.Ascii.{IsAscii-from_all}
use Rattle.edn_lex.specs.Flags.{has_flag}
use Rattle.edn_lex.specs.Kinds.{is_low}

-- ---- the table

-- the two tests agree below n
unfoldable pub agree_below : (ℕ → Bool) → (ℕ → Bool) → ℕ → Bool
agree_below f g zero = true
agree_below f g (suc n) = beq (f n) (g n) && agree_below f g n

both_of : (x y rest : Bool) → (beq x y && rest) ≡ true → (x ≡ y) × (rest ≡ true)
both_of true true rest h = (refl, h)
both_of true false rest h = cc
both_of false true rest h = cc
both_of false false rest h = (refl, h)

agree_at : (f g : ℕ → Bool) (n : ℕ) → agree_below f g n ≡ true → (b : ℕ) → b < n → f b ≡ g b
unfolding agree_below
agree_at f g zero h b lt = absurd (omega arith)
agree_at f g (suc n) h b lt =
    let both = both_of (f n) (g n) (agree_below f g n) h in
    elim (cases_eq b n) [ inl same ↦ rw same both.0 | inr other ↦ agree_at f g n both.1 b (omega arith) ]

-- a table's flag tells what the test does, as computing shows for each byte
pub from_table :
    (table : List ℕ) (flag : ℕ) (test : ℕ → Bool) (b : ℕ) → b < 256 → agree_below (λ k. has_flag (get_or table k 0) flag) test 256 ≡ true →
    has_flag (get_or table b 0) flag ≡ test b
from_table table flag test b lt h = agree_at _ _ 256 h b lt

-- what the test of a flag in code tells
pub no_flag : (flags flag : ℕ) (b : Bool) → bit_and flags flag ≡ 0 → has_flag flags flag ≡ not b → b ≡ true
no_flag flags flag true none h = refl
no_flag flags flag false none h = absurd (let clash : false ≡ true = ap (λ n. not (nat_eq n 0)) (sym none) ∙ h in cc)

pub some_flag : (flags flag : ℕ) (b : Bool) → ¬ (bit_and flags flag ≡ 0) → has_flag flags flag ≡ not b → b ≡ false
some_flag flags flag true some h = absurd (some (grind (arith, nat_tests)))
some_flag flags flag false some h = refl

-- ---- several bytes together

-- a flag is a bit
flag_bit : (m p : ℕ) → m < 2 → 0 < p → not (nat_eq (m * p) 0) ≡ nat_eq m 1
flag_bit zero p h some = grind (arith, nat_tests)
flag_bit (suc zero) p h some = grind (arith, nat_tests)
flag_bit (suc (suc m)) p h some = absurd (omega arith)

-- the greater of two bits
bits_or : (m n : ℕ) → m < 2 → n < 2 → nat_eq (max m n) 1 ≡ (nat_eq m 1 || nat_eq n 1)
bits_or zero zero h k = refl
bits_or zero (suc zero) h k = refl
bits_or (suc zero) zero h k = refl
bits_or (suc zero) (suc zero) h k = refl
bits_or (suc (suc m)) n h k = absurd (omega arith)
bits_or m (suc (suc n)) h k = absurd (omega arith)

has_flag-bit : (n k : ℕ) → 0 < 2 ^ k → has_flag n (2 ^ k) ≡ nat_eq (bit_at n k) 1
has_flag-bit n k some = ap (λ m. not (nat_eq m 0)) (and_pow n k) ∙ flag_bit (bit_at n k) (2 ^ k) (bit_at-lt n k) some

-- a flag of two together
has_flag-or : (m n k : ℕ) → 0 < 2 ^ k → has_flag (bit_or m n) (2 ^ k) ≡ (has_flag m (2 ^ k) || has_flag n (2 ^ k))
has_flag-or m n k some =
    has_flag-bit (bit_or m n) k some
    ∙ ap (λ b. nat_eq b 1) (bit_at_or m n k)
    ∙ bits_or (bit_at m k) (bit_at n k) (bit_at-lt m k) (bit_at-lt n k)
    ∙ ap (λ b. b || nat_eq (bit_at n k) 1) (sym (has_flag-bit m k some))
    ∙ ap (λ b. has_flag m (2 ^ k) || b) (sym (has_flag-bit n k some))

not_both : (a b : Bool) → (not a || not b) ≡ not (a && b)
not_both true b = refl
not_both false b = refl

-- the flag that some byte fails the test, with one byte more
pub seen_more :
    (test : ℕ → Bool) (k : ℕ) (bytes : List ℕ) (i seen flags : ℕ) → 0 < 2 ^ k → i < length bytes → has_flag seen (2 ^ k) ≡ not (list_all test (take i bytes)) →
    has_flag flags (2 ^ k) ≡ not (test (get_or bytes i 0)) → has_flag (bit_or seen flags) (2 ^ k) ≡ not (list_all test (take (i + 1) bytes))
seen_more test k bytes i seen flags some within so_far here =
    has_flag-or seen flags k some
    ∙ ap (λ b. b || has_flag flags (2 ^ k)) so_far
    ∙ ap (λ b. not (list_all test (take i bytes)) || b) here
    ∙ not_both (list_all test (take i bytes)) (test (get_or bytes i 0))
    ∙ ap not (sym (list_all_more test bytes i 0 within))

-- ---- bytes of ASCII

low_all : (bytes : List ℕ) → list_all is_low bytes ≡ true → All (λ b. b < 128) bytes
low_all bytes h = λ k d lt. let low = AllPass-from_list_all is_low bytes h k d lt in grind (arith, nat_tests)

pub IsAscii_from_low : (bytes : List ℕ) → list_all is_low bytes ≡ true → IsAscii bytes
IsAscii_from_low bytes h = IsAscii-from_all bytes (low_all bytes h)
