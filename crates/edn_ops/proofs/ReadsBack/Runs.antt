-- Runs: what a run is, is decided by its bytes alone where it stops.
use Rattle.std.proofs.Common.{◌≡◌, ℕ, suc, ◌+◌, ◌-◌, ◌<◌, ◌≤◌, List, [], ◌∷◌, ◌++◌, length, take, drop, get_or, Bool, true, false, Some, refl, sym, ◌∙◌, ap, subst, arith, inl, inr, ◌^◌, rules}
use Rattle.std.specs.Prelude.{not, ◌||◌, ◌&&◌, ◌==◌, nat_eq, decimal, pos, negsuc}
use Rattle.std.specs.List.{list_all, ends_with}
use Rattle.std.specs.Char.{is_ascii_digit}
use Rattle.std.specs.Str.Parse.{digits_value, signed_digits_value}
use lib.IntN.{neg_ℤ}
use Rattle.std.proofs.lemmas.List.Sums.{AllPass-from_list_all}
use Rattle.std.proofs.lemmas.Str.Parse.{IsNumeralModel, numerals_by_value}
use Rattle.std.proofs.lemmas.Fmt.{digits_decimal, digits_value-decimal, decimal_nonempty, first_decimal, decimal_digit}
use Rattle.std.proofs.lemmas.Bool.{cases_lt, or_left, eqb-false, and_from, not_from_false, and_parts, or_parts, not-true, ne_eqb, lt-ltb, leb-true, agree_below, agree_below_at}
use Rattle.std.proofs.lemmas.List.{take_at, drop_more, drop_all}
use Rattle.edn_ops.proofs.ReadsBack.Chunks.{Fits}
use Rattle.hist_types.specs.AtomTokens.{int_value}
use Rattle.hist_types.specs.Bytes.{quote, backslash, semicolon, hash, is_blank, is_opener, is_closer, is_run_byte}
use Rattle.hist_types.specs.Tokens.{ItemKind, Int, front, run_of, run_len, run_kind, is_int, is_sign, first_byte, without_n, is_whole}

-- the longest run of a text that begins with a run and goes on with none
pub run_len_before : (run rest : List ℕ) → list_all is_run_byte run ≡ true → run_len rest ≡ 0 → run_len (run ++ rest) ≡ length run
run_len_before [] rest h e = e
run_len_before (b ∷ bs) rest h e =
    let both = and_parts (is_run_byte b) (list_all is_run_byte bs) h in
    let first = both.0 in
    let more = run_len_before bs rest both.1 e in
    rw first (omega (arith, more))

-- the run itself
pub run_of_before : (run rest : List ℕ) → list_all is_run_byte run ≡ true → run_len rest ≡ 0 → run_of (run ++ rest) ≡ run
run_of_before run rest h e = ap (λ (n : ℕ). take n (run ++ rest)) (run_len_before run rest h e) ∙ take_at run rest (length run) refl

-- the tests of which a run's byte fails each
pub record IsInRun (b : ℕ) : Type 0 where
  no_blank : is_blank b ≡ false
  no_opener : is_opener b ≡ false
  no_closer : is_closer b ≡ false
  no_quote : (b == quote) ≡ false
  no_semicolon : (b == semicolon) ≡ false

-- a byte of a run fails them
in_run : (b : ℕ) → is_run_byte b ≡ true → IsInRun b
in_run b h =
    let none = not-true (is_blank b || is_opener b || is_closer b || (b == quote) || (b == semicolon)) h in
    let a = or_parts (is_blank b || is_opener b || is_closer b || (b == quote)) (b == semicolon) none in
    let c = or_parts (is_blank b || is_opener b || is_closer b) (b == quote) a.0 in
    let d = or_parts (is_blank b || is_opener b) (is_closer b) c.0 in
    let e = or_parts (is_blank b) (is_opener b) d.0 in
    record { no_blank = e.0; no_opener = e.1; no_closer = d.1; no_quote = c.1; no_semicolon = a.1 }

-- a byte of a run that is no backslash and no `#` begins one
pub run_fits : (b : ℕ) (bs rest : List ℕ) → list_all is_run_byte (b ∷ bs) ≡ true → (b == backslash) ≡ false → (b == hash) ≡ false → run_len rest ≡ 0 → front b (bs ++ rest) ≡ (run_kind (b ∷ bs), Some (suc (length bs)))
run_fits b bs rest h no_backslash no_hash e =
    let both = and_parts (is_run_byte b) (list_all is_run_byte bs) h in
    let i = in_run b both.0 in
    let l = run_len_before bs rest both.1 e in
    let r = run_of_before bs rest both.1 e in
    rw (i.no_blank, i.no_semicolon, i.no_quote, no_backslash, i.no_opener, i.no_closer, no_hash, r, l) refl

-- ---- digits

-- a digit is a byte of a run, no sign, no letter and no colon
digit_tests : ℕ → Bool
digit_tests b = is_ascii_digit b && (is_run_byte b && (not (is_sign b) && (not (b == 78) && (not (b == 110) && (not (b == 116) && (not (b == 102) && (not (b == backslash) && not (b == hash))))))))

-- what the tests say of a digit
pub record IsDigit (b : ℕ) : Type 0 where
  pub run_byte : is_run_byte b ≡ true
  pub no_sign : is_sign b ≡ false
  pub no_big_n : (b == 78) ≡ false
  pub no_n : (b == 110) ≡ false
  pub no_t : (b == 116) ≡ false
  pub no_f : (b == 102) ≡ false
  pub no_backslash : (b == backslash) ≡ false
  pub no_hash : (b == hash) ≡ false

-- each digit passes them
all_digit_tests : agree_below digit_tests is_ascii_digit 58 ≡ true
unfolding digit_tests
all_digit_tests = refl

-- so a digit is all that
pub is_digit : (b : ℕ) → is_ascii_digit b ≡ true → IsDigit b
unfolding digit_tests
is_digit b h =
    let low : b < 58 = omega (arith, leb-true b 57 (and_parts _ _ h).1) in
    let all = agree_below_at digit_tests is_ascii_digit 58 b all_digit_tests low ∙ h in
    let t1 = and_parts _ _ all in
    let t2 = and_parts _ _ t1.1 in
    let t3 = and_parts _ _ t2.1 in
    let t4 = and_parts _ _ t3.1 in
    let t5 = and_parts _ _ t4.1 in
    let t6 = and_parts _ _ t5.1 in
    let t7 = and_parts _ _ t6.1 in
    let t8 = and_parts _ _ t7.1 in
    record {
      run_byte = t2.0;
      no_sign = not-true _ t3.0;
      no_big_n = not-true _ t4.0;
      no_n = not-true _ t5.0;
      no_t = not-true _ t6.0;
      no_f = not-true _ t7.0;
      no_backslash = not-true _ t8.0;
      no_hash = not-true _ t8.1;
    }

-- digits, of which the first is 0 only where it stands alone
pub record IsDecimal (ds : List ℕ) : Type 0 where
  pub nonempty : 0 < length ds
  pub digits : list_all is_ascii_digit ds ≡ true
  pub no_zero : (not (first_byte ds == 48) || (length ds == 1)) ≡ true

-- a test that each digit passes, all digits pass
digits_pass : (test : ℕ → Bool) → ((b : ℕ) → is_ascii_digit b ≡ true → test b ≡ true) → (ds : List ℕ) → list_all is_ascii_digit ds ≡ true → list_all test ds ≡ true
digits_pass test each [] h = refl
digits_pass test each (d ∷ ds) h =
    let both = and_parts (is_ascii_digit d) (list_all is_ascii_digit ds) h in
    and_from (test d) (list_all test ds) (each d both.0) (digits_pass test each ds both.1)

-- a run without a large N in it ends with none
no_n_at_end : (run : List ℕ) → list_all (λ b. not (b == 78)) run ≡ true → ends_with nat_eq run (78 ∷ []) ≡ false
no_n_at_end [] h = refl
no_n_at_end (b ∷ bs) h =
    let last : length bs < length (b ∷ bs) = omega arith in
    let all = AllPass-from_list_all (λ (c : ℕ). not (c == 78)) (b ∷ bs) h in
    let e : not (get_or (b ∷ bs) (length bs) 0 == 78) ≡ true = all (length bs) 0 last in
    let apart : nat_eq 78 (get_or (b ∷ bs) (length bs) 0) ≡ false = ne_eqb 78 _ (λ q. eqb-false (get_or (b ∷ bs) (length bs) 0) 78 (not-true _ e) (sym q)) in
    let front : suc (length bs) - 1 ≡ length bs = omega arith in
    let past : length (b ∷ bs) ≤ length bs + 1 = omega arith in
    let cut : drop (length bs) (b ∷ bs) ≡ get_or (b ∷ bs) (length bs) 0 ∷ [] =
    drop_more (b ∷ bs) (length bs) 0 last ∙ ap (λ (l : List ℕ). get_or (b ∷ bs) (length bs) 0 ∷ l) (drop_all (length bs + 1) (b ∷ bs) past) in
    rw (front, cut, apart) refl

-- so nothing is taken from its end
pub without_n_none : (run : List ℕ) → list_all (λ b. not (b == 78)) run ≡ true → without_n run ≡ run
without_n_none run h = rw (no_n_at_end run h) refl

-- a decimal is whole
pub whole : (ds : List ℕ) → IsDecimal ds → is_whole (without_n ds) ≡ true
whole ds d =
    rw (without_n_none ds (digits_pass (λ (b : ℕ). not (b == 78)) (λ b h. not_from_false (b == 78) (is_digit b h).no_big_n) ds d.digits))
    (rw (d.digits, lt-ltb 0 (length ds) d.nonempty) d.no_zero)

-- digits by their test and their value
pub own : IsNumeralModel (λ ds. list_all is_ascii_digit ds ≡ true) (digits_value 10)
own = numerals_by_value _ (search rules)

-- zero is the one digit 0, and no other number begins with it
no_zero_first : (n : ℕ) → n < 2 ^ 64 → (not (first_byte (decimal n) == 48) || (length (decimal n) == 1)) ≡ true
no_zero_first n h = elim (cases_lt 0 n) [
  | inl more ↦ (
      let first : 48 < first_byte (decimal n) = first_decimal n more h in
      or_left (not (first_byte (decimal n) == 48)) (length (decimal n) == 1) (not_from_false _ (ne_eqb (first_byte (decimal n)) 48 (λ q. omega (arith, first, q)))))
  | inr none ↦ (
      let zero : n ≡ 0 = omega arith in
      let text : decimal n ≡ 48 ∷ [] = ap decimal zero ∙ decimal_digit 0 (omega arith) in
      subst (λ (ds : List ℕ). (not (first_byte ds == 48) || (length ds == 1)) ≡ true) (sym text) refl)
]

-- what is written of a number is a decimal
pub decimal_is : (n : ℕ) → n < 2 ^ 64 → IsDecimal (decimal n)
decimal_is n h = record {
  nonempty = decimal_nonempty n h;
  digits = digits_decimal own n h;
  no_zero = no_zero_first n h;
}

-- a decimal is an integer
pub decimal_kind : (ds : List ℕ) → IsDecimal ds → run_kind ds ≡ Int
decimal_kind [] d = absurd (omega (arith, d.nonempty))
decimal_kind (b ∷ bs) d =
    let first = is_digit b (and_parts _ _ d.digits).0 in
    let no_sign : is_sign b ≡ false = first.no_sign in
    let no_n : (b == 110) ≡ false = first.no_n in
    let no_t : (b == 116) ≡ false = first.no_t in
    let no_f : (b == 102) ≡ false = first.no_f in
    let int : is_int (b ∷ bs) ≡ true = rw no_sign (whole (b ∷ bs) d) in
    rw (no_n, no_t, no_f, int) refl

-- and so is one behind a minus
pub negative_kind : (ds : List ℕ) → IsDecimal ds → run_kind (45 ∷ ds) ≡ Int
negative_kind ds d =
    let int : is_int (45 ∷ ds) ≡ true = whole ds d in
    rw int refl

-- no digit is an N
no_n_among : (ds : List ℕ) → IsDecimal ds → list_all (λ b. not (b == 78)) ds ≡ true
no_n_among ds d = digits_pass (λ (b : ℕ). not (b == 78)) (λ b h. not_from_false (b == 78) (is_digit b h).no_big_n) ds d.digits

-- digits without a sign mean their number
pub unsigned_value : (ds : List ℕ) → IsDecimal ds → signed_digits_value 10 ds ≡ pos (digits_value 10 ds)
unsigned_value [] d = absurd (omega (arith, d.nonempty))
unsigned_value (b ∷ bs) d =
    let signs = or_parts (b == 43) (b == 45) (is_digit b (and_parts _ _ d.digits).0).no_sign in
    let no_plus : (b == 43) ≡ false = signs.0 in
    let no_minus : (b == 45) ≡ false = signs.1 in
    rw (no_minus, no_plus) refl

-- the number that a decimal means
pub decimal_value : (n : ℕ) → n < 2 ^ 64 → int_value (decimal n) ≡ pos n
decimal_value n h =
    let d = decimal_is n h in
    ap (signed_digits_value 10) (without_n_none (decimal n) (no_n_among (decimal n) d))
    ∙ unsigned_value (decimal n) d
    ∙ ap pos (digits_value-decimal own n h)

-- and behind a minus
pub negative_value : (n : ℕ) → suc n < 2 ^ 64 → int_value (45 ∷ decimal (suc n)) ≡ negsuc n
negative_value n h =
    let d = decimal_is (suc n) h in
    let number : neg_ℤ (pos (digits_value 10 (decimal (suc n)))) ≡ neg_ℤ (pos (suc n)) = ap (λ (k : ℕ). neg_ℤ (pos k)) (digits_value-decimal own (suc n) h) in
    ap (signed_digits_value 10) (without_n_none (45 ∷ decimal (suc n)) (no_n_among (decimal (suc n)) d)) ∙ number

-- a decimal is one token
pub decimal_fits : (ds rest : List ℕ) → IsDecimal ds → run_len rest ≡ 0 → Fits Int ds rest
decimal_fits [] rest d e = absurd (omega (arith, d.nonempty))
decimal_fits (b ∷ bs) rest d e =
    let first = is_digit b (and_parts _ _ d.digits).0 in
    let all = digits_pass is_run_byte (λ c h. (is_digit c h).run_byte) (b ∷ bs) d.digits in
    run_fits b bs rest all first.no_backslash first.no_hash e ∙ ap (λ (k : ItemKind). (k, Some (suc (length bs)))) (decimal_kind (b ∷ bs) d)

-- and so is one behind a minus
pub negative_fits : (ds rest : List ℕ) → IsDecimal ds → run_len rest ≡ 0 → Fits Int (45 ∷ ds) rest
negative_fits ds rest d e =
    let all = digits_pass is_run_byte (λ c h. (is_digit c h).run_byte) ds d.digits in
    run_fits 45 ds rest all refl refl e ∙ ap (λ (k : ItemKind). (k, Some (suc (length ds)))) (negative_kind ds d)
