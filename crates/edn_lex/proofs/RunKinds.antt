-- Which kinds of runs exclude one another: keywords and integers are no other kind, and a run with a byte of 128 or more is
-- no integer.
use Rattle.std.proofs.Common.{◌≡◌, ℕ, ◌-◌, ◌<◌, ◌||◌, not, List, [], ◌∷◌, length, take, drop, Bool, true, false, cond, refl, sym, ◌∙◌, ap, subst, arith}
use Rattle.std.specs.List.{list_all, ends_with}
use Rattle.std.specs.Prelude.{nat_eq, nat_lt, ◌==◌, ◌&&◌, bytes_eq, codes}
use Rattle.std.specs.Char.{is_ascii_digit}
use Rattle.std.proofs.lemmas.Bool.{and_parts, and_from, eqb-true, true≢false}
use Rattle.std.proofs.lemmas.Bool.Decides.{nat_tests}
use Rattle.std.proofs.lemmas.List.{take-append-drop}
use Rattle.std.proofs.lemmas.List.Folds.{list_all-append}
use Rattle.std.proofs.lemmas.Slice.Eq.{bytes_eq-Decides}
use Rattle.hist_types.specs.Tokens.{Keyword, Int, run_kind, is_keyword, is_int, is_sign, without_sign, without_n, first_byte}
use Rattle.hist_types.specs.Bytes.{colon, zero_digit, letter_n}
use Rattle.reading_laws.proofs.Keywords.{keyword_kind}
use Rattle.edn_lex.specs.Kinds.{is_low}

-- a digit and a sign are of ASCII
digit_low : (b : ℕ) → is_ascii_digit b ≡ true → is_low b ≡ true
digit_low b h = grind (arith, nat_tests)

sign_low : (b : ℕ) → is_sign b ≡ true → is_low b ≡ true
sign_low b h = grind (arith, nat_tests)

pub digits_low : (bs : List ℕ) → list_all is_ascii_digit bs ≡ true → list_all is_low bs ≡ true
digits_low [] h = refl
digits_low (b ∷ bs) h =
    let parts = and_parts (is_ascii_digit b) (list_all is_ascii_digit bs) h in
    and_from (is_low b) (list_all is_low bs) (digit_low b parts.0) (digits_low bs parts.1)

-- so is an `N`
n_low : (run : List ℕ) (ends : Bool) → ends_with nat_eq run (78 ∷ []) ≡ ends → list_all is_low (cond ends (take (length run - 1) run) run) ≡ true → list_all is_low run ≡ true
n_low run false e h = h
n_low run true e h =
    let n = length run - 1 in
    let last : 78 ∷ [] ≡ drop n run = (bytes_eq-Decides (78 ∷ []) (drop n run)).0 e in
    let low : list_all is_low (drop n run) ≡ true = subst (λ (bs : List ℕ). list_all is_low bs ≡ true) last refl in
    subst (λ (bs : List ℕ). list_all is_low bs ≡ true) (take-append-drop n run) (list_all-append is_low (take n run) (drop n run) ∙ and_from _ _ h low)

-- and what follows a sign is as the run
behind_sign_low : (run : List ℕ) (sign : Bool) → is_sign (first_byte run) ≡ sign → list_all is_low (cond sign (drop 1 run) run) ≡ true → list_all is_low run ≡ true
behind_sign_low run false e h = h
behind_sign_low [] true e h = refl
behind_sign_low (b ∷ bs) true e h = and_from (is_low b) (list_all is_low bs) (sign_low b e) h

int_low : (run : List ℕ) → is_int run ≡ true → list_all is_low run ≡ true
int_low run h =
    let whole = and_parts (list_all is_ascii_digit (without_n (without_sign run)) && nat_lt 0 (length (without_n (without_sign run)))) _ h in
    let digits = and_parts (list_all is_ascii_digit (without_n (without_sign run))) _ whole.0 in
    behind_sign_low run (is_sign (first_byte run)) refl (n_low (without_sign run) (ends_with nat_eq (without_sign run) (78 ∷ [])) refl (digits_low (without_n (without_sign run)) digits.0))

pub wide_no_int : (run : List ℕ) → list_all is_low run ≡ false → is_int run ≡ false
wide_no_int run h = by_case (is_int run) refl
  where
    by_case : (b : Bool) → is_int run ≡ b → b ≡ false
    by_case false e = refl
    by_case true e = absurd (true≢false (sym (int_low run e) ∙ h))

-- ---- keywords and integers are no other kind

-- a run that is not the text where its test differs from the text's
differs : (run text : List ℕ) (test : List ℕ → Bool) → test text ≡ false → test run ≡ true → bytes_eq run text ≡ false
differs run text test text_fails run_passes = by_case (bytes_eq run text) refl
  where
    by_case : (b : Bool) → bytes_eq run text ≡ b → b ≡ false
    by_case false e = refl
    by_case true e = absurd (true≢false (sym run_passes ∙ (ap test ((bytes_eq-Decides run text).0 e) ∙ text_fails)))

pub int_is : (run : List ℕ) → is_int run ≡ true → run_kind run ≡ Int
int_is run h =
    let no_nil = differs run (codes "nil") is_int refl h in
    let no_true = differs run (codes "true") is_int refl h in
    let no_false = differs run (codes "false") is_int refl h in
    rw (no_nil, no_true, no_false, h) refl

pub keyword_is : (run : List ℕ) → is_keyword run ≡ true → run_kind run ≡ Keyword
keyword_is [] h = absurd (true≢false (sym h))
keyword_is (a ∷ []) h = absurd (true≢false (sym (and_parts (a == colon) false h).1))
keyword_is (a ∷ b ∷ bs) h =
    let is_colon : a ≡ colon = eqb-true a colon (and_parts (a == colon) _ h).0 in
    subst (λ (c : ℕ). run_kind (c ∷ b ∷ bs) ≡ Keyword) (sym is_colon) (keyword_kind b bs)

-- ---- digits alone

-- a digit is no sign, and no `N`
digit_no_sign : (b : ℕ) → is_ascii_digit b ≡ true → is_sign b ≡ false
digit_no_sign b h = grind (arith, nat_tests)

pub no_sign : (run : List ℕ) → 0 < length run → list_all is_ascii_digit run ≡ true → without_sign run ≡ run
no_sign [] some h = refl
no_sign (b ∷ bs) some h =
    let no = digit_no_sign b (and_parts (is_ascii_digit b) (list_all is_ascii_digit bs) h).0 in
    rw no refl

pub no_n : (run : List ℕ) → list_all is_ascii_digit run ≡ true → without_n run ≡ run
no_n run h = by_case (ends_with nat_eq run (letter_n ∷ [])) refl
  where
    by_case : (b : Bool) → ends_with nat_eq run (letter_n ∷ []) ≡ b → without_n run ≡ run
    by_case false e = rw e refl
    by_case true e =
        let n = length run - 1 in
        let last : letter_n ∷ [] ≡ drop n run = (bytes_eq-Decides (letter_n ∷ []) (drop n run)).0 e in
        let parts = and_parts (list_all is_ascii_digit (take n run)) _ (sym (list_all-append is_ascii_digit (take n run) (drop n run)) ∙ ap (list_all is_ascii_digit) (take-append-drop n run) ∙ h) in
        let clash : list_all is_ascii_digit (letter_n ∷ []) ≡ true = ap (list_all is_ascii_digit) last ∙ parts.1 in
        absurd (true≢false (sym clash))

-- digits with no 0 in front of others
pub digits_are : (run : List ℕ) → 0 < length run → list_all is_ascii_digit run ≡ true → (not (first_byte run == zero_digit) || (length run == 1)) ≡ true → run_kind run ≡ Int
digits_are run some digits leading =
    let plain : without_n (without_sign run) ≡ run = ap without_n (no_sign run some digits) ∙ no_n run digits in
    let is_some : nat_lt 0 (length run) ≡ true = grind (arith, nat_tests) in
    let whole : (list_all is_ascii_digit run && nat_lt 0 (length run) && (not (first_byte run == zero_digit) || (length run == 1))) ≡ true =
    rw (digits, is_some) leading in
    int_is run (subst (λ (bs : List ℕ). (list_all is_ascii_digit bs && nat_lt 0 (length bs) && (not (first_byte bs == zero_digit) || (length bs == 1))) ≡ true) (sym plain) whole)
