-- What a parsed integer is: the number that its spelling means.
use Rattle.std.proofs.Common.{◌≡◌, ℕ, zero, suc, ◌+◌, ◌-◌, ◌*◌, ◌^◌, ◌<◌, ◌⊎◌, ℤ, pos, negsuc, to_z, of_z, Bool, true, false, cond, nat_lt, ◌==◌, ◌&&◌, List, [], ◌∷◌, length, length-take-le, get_or, take, drop, Option, Some, None, Result, Ok, Err, refl, sym, ap, subst, ◌∙◌, arith, inl, inr, lit<}
use Rattle.std.specs.Prelude.{◌≤◌, nat_eq, bytes_eq, slice_index, neg_ℤ}
use Rattle.std.specs.Bool.{then_some}
use Rattle.std.specs.Char.{is_ascii_digit}
use Rattle.std.specs.Int.{w64}
use Rattle.std.specs.Int.RustNames.{FitsSigned}
use Rattle.std.specs.List.{list_all, ends_with}
use Rattle.std.specs.Result.{result_ok}
use Rattle.std.specs.Str.{all_ascii_digits, IsUtf8, IsAscii}
use Rattle.std.specs.Str.Parse.{IsNumeral, digits_value, signed_digits_value, ParsesSigned, without_leading_sign, without_leading_plus, starts_with_minus}
use Rattle.std.proofs.lemmas.Bool.{ltb-true, lt-ltb, eqb-true, and_parts, and_from, or_cases, false_from_ne_true, ne_eqb, cond-false}
use Rattle.std.proofs.Math.Nat.{pow-le-pow_right}
use Rattle.std.proofs.lemmas.Int.{to_z_pos, to_z-of_z}
use Rattle.std.proofs.lemmas.Int.Digits.{digits_value-lt, digits_value_more}
use Rattle.std.proofs.lemmas.List.{length-drop, length-take, take_all}
use Rattle.std.proofs.lemmas.List.Folds.{list_all_more}
use Rattle.std.proofs.lemmas.Fmt.{IsAscii-from_digits}
use Rattle.std.proofs.lemmas.Str.{IsUtf8-from_ascii, digit_value_digit}
use Rattle.std.proofs.lemmas.Str.Parse.{digit_at, IsNumeralModel, numerals_by_value, tells_all_ascii_digits, digits_value_short}
use Rattle.hist_types.specs.Bytes.{plus, minus, letter_n}
use Rattle.std.specs.Option.{is_some}
use Rattle.hist_types.specs.Atoms.{Atom, integer}
use Rattle.hist_types.specs.AtomTokens.{is_64_bit, int_value, atom_of_token}
use Rattle.edn_lex.specs.Kinds.{kind_of}
use Rattle.edn_lex.specs.declared.types.TokenKind.{TokenKind}
use Rattle.edn_lex.specs.declared.types.TokenKind.TheVariants as kinds
use Rattle.edn_lex.proofs.RunKinds.{no_n}
use Rattle.edn_ops.specs.Outlines.{IsSpelled}
use Rattle.edn_ops.specs.SourceTexts.{IsNumberOf}
use Rattle.hist_types.specs.Tokens.{is_int, is_whole, is_sign, first_byte, without_n}

-- two spellings of one test
all_is : (ds : List ℕ) → list_all is_ascii_digit ds ≡ all_ascii_digits ds
all_is [] = refl
all_is (d ∷ ds) = ap (λ (b : Bool). is_ascii_digit d && b) (all_is ds)

own : IsNumeralModel (λ ds. all_ascii_digits ds ≡ true) (digits_value 10)
own = numerals_by_value (λ ds. all_ascii_digits ds ≡ true) tells_all_ascii_digits

-- ---- signs and the `N`

-- the last byte behind a sign is the last byte
last_behind : (b : ℕ) (rest : List ℕ) → 0 < length rest → ends_with nat_eq (b ∷ rest) (letter_n ∷ []) ≡ ends_with nat_eq rest (letter_n ∷ [])
last_behind b [] h = absurd (omega arith)
last_behind b (c ∷ rest) h =
    let k : length (b ∷ c ∷ rest) - 1 ≡ suc (length (c ∷ rest) - 1) = omega arith in
    ap (λ (n : ℕ). bytes_eq (letter_n ∷ []) (drop n (b ∷ c ∷ rest))) k

cut_behind : (b : ℕ) (rest : List ℕ) → 0 < length rest → take (length (b ∷ rest) - 1) (b ∷ rest) ≡ b ∷ take (length rest - 1) rest
cut_behind b [] h = absurd (omega arith)
cut_behind b (c ∷ rest) h =
    let k : length (b ∷ c ∷ rest) - 1 ≡ suc (length (c ∷ rest) - 1) = omega arith in
    ap (λ (n : ℕ). take n (b ∷ c ∷ rest)) k

cons_cond : (test : Bool) (b : ℕ) (xs ys : List ℕ) → cond test (b ∷ xs) (b ∷ ys) ≡ b ∷ cond test xs ys
cons_cond test b xs ys = grind arith

without_n-sign : (b : ℕ) (rest : List ℕ) → 0 < length rest → without_n (b ∷ rest) ≡ b ∷ without_n rest
without_n-sign b rest h =
    ap (λ (t : Bool). cond t (take (length (b ∷ rest) - 1) (b ∷ rest)) (b ∷ rest)) (last_behind b rest h)
    ∙ ap (λ (front : List ℕ). cond (ends_with nat_eq rest (letter_n ∷ [])) front (b ∷ rest)) (cut_behind b rest h)
    ∙ cons_cond (ends_with nat_eq rest (letter_n ∷ [])) b (take (length rest - 1) rest) rest

-- ---- spellings without their `N`

-- a sign or none, and digits
pub record IsSigned (bytes : List ℕ) : Type 0 where
  pub ascii : IsAscii bytes
  pub numeral : IsNumeral 10 (without_leading_sign bytes)

whole_numeral : (ds : List ℕ) → is_whole ds ≡ true → IsNumeral 10 ds
whole_numeral ds h =
    let whole = and_parts (list_all is_ascii_digit ds && nat_lt 0 (length ds)) _ h in
    let parts = and_parts (list_all is_ascii_digit ds) (nat_lt 0 (length ds)) whole.0 in
    (ltb-true 0 (length ds) parts.1, own.to ds (sym (all_is ds) ∙ parts.0))

-- no digit is a sign
digit_first : (ds : List ℕ) → IsNumeral 10 ds → without_leading_sign ds ≡ ds
digit_first [] h = refl
digit_first (d ∷ ds) h =
    let range = digit_at (d ∷ ds) 0 h.1 (omega arith) in
    cond-false (d == 45) ds (drop (cond (d == 43) 1 0) (d ∷ ds)) (ne_eqb d 45 (λ e. omega arith))
    ∙ ap (λ (t : Bool). drop (cond t 1 0) (d ∷ ds)) (ne_eqb d 43 (λ e. omega arith))

unsigned : (bytes : List ℕ) → is_whole bytes ≡ true → IsSigned bytes
unsigned bytes h =
    let n = whole_numeral bytes h in
    record { ascii = IsAscii-from_digits bytes n.1; numeral = subst (IsNumeral 10) (sym (digit_first bytes n)) n }

ascii_behind : (b : ℕ) (ds : List ℕ) → b < 128 → IsAscii ds → IsAscii (b ∷ ds)
ascii_behind b ds h a zero = h
ascii_behind b ds h a (suc i) = a i

sign_first : (b : ℕ) (ds : List ℕ) → is_sign b ≡ true → (b < 128) × (without_leading_sign (b ∷ ds) ≡ ds)
sign_first b ds h =
    elim (or_cases (b == plus) (b == minus) h) [
      | inl p ↦ let e : b ≡ 43 = eqb-true b 43 p in rw e (omega arith, refl)
      | inr m ↦ let e : b ≡ 45 = eqb-true b 45 m in rw e (omega arith, refl)
    ]

signed : (b : ℕ) (ds : List ℕ) → is_sign b ≡ true → is_whole ds ≡ true → IsSigned (b ∷ ds)
signed b ds h whole =
    let n = whole_numeral ds whole in
    let sign = sign_first b ds h in
    record { ascii = ascii_behind b ds sign.0 (IsAscii-from_digits ds n.1); numeral = subst (IsNumeral 10) (sym sign.1) n }

int_signed : (bytes : List ℕ) (sign : Bool) → is_sign (first_byte bytes) ≡ sign → is_whole (without_n (cond sign (drop 1 bytes) bytes)) ≡ true → IsSigned (without_n bytes)
int_signed bytes false e h = unsigned (without_n bytes) h
int_signed [] true e h = absurd (let x = e in cc)
int_signed (b ∷ rest) true e h =
    let n = whole_numeral (without_n rest) h in
    subst IsSigned (sym (without_n-sign b rest (behind_n rest n.0))) (signed b (without_n rest) e h)
  where
    behind_n : (xs : List ℕ) → 0 < length (without_n xs) → 0 < length xs
    behind_n [] some = some
    behind_n (x ∷ xs) some = omega arith

pub int_text : (bytes : List ℕ) → is_int bytes ≡ true → IsUtf8 (without_n bytes)
int_text bytes h = IsUtf8-from_ascii (without_n bytes) (int_signed bytes (is_sign (first_byte bytes)) refl h).ascii

-- ---- what the code's parse gives

fits_is : (z : ℤ) → FitsSigned w64 z → is_64_bit z ≡ true
fits_is (pos n) h = lt-ltb n (2 ^ 63) h.sfits
fits_is (negsuc n) h = lt-ltb n (2 ^ 63) h.sfits

is_fits : (z : ℤ) → is_64_bit z ≡ true → FitsSigned w64 z
is_fits (pos n) h = record { sfits = ltb-true n (2 ^ 63) h }
is_fits (negsuc n) h = record { sfits = ltb-true n (2 ^ 63) h }

kept : {A : Type 0} (test : Bool) (x : A) → test ≡ true → then_some test x ≡ Some x
kept test x h = rw h refl

left_out : {A : Type 0} (test : Bool) (x : A) → test ≡ false → then_some test x ≡ None
left_out test x h = rw h refl

parse_is : {E : Type 0} (bytes : List ℕ) (r : Result ℤ E) → is_int bytes ≡ true → ParsesSigned w64 10 (without_n bytes) r → result_ok r ≡ then_some (is_64_bit (int_value bytes)) (int_value bytes)
parse_is {E} bytes (Ok z) h p = ap (λ (v : ℤ). Some v) p.1 ∙ sym (kept (is_64_bit (int_value bytes)) (int_value bytes) (fits_is (int_value bytes) p.0.1))
parse_is {E} bytes (Err e) h p =
    let signs = int_signed bytes (is_sign (first_byte bytes)) refl h in
    sym (left_out (is_64_bit (int_value bytes)) (int_value bytes)
    (false_from_ne_true (is_64_bit (int_value bytes)) (λ t. p (signs.numeral, is_fits (int_value bytes) t))))

pub parsed_int : {E : Type 0} (bytes text cut : List ℕ) (r : Result ℤ E) (o : Option ℤ) → is_int bytes ≡ true → cut ≡ without_n bytes → text ≡ cut → ParsesSigned w64 10 text r → o ≡ result_ok r → o ≡ then_some (is_64_bit (int_value bytes)) (int_value bytes)
parsed_int {E} bytes text cut r o h is_cut is_text p was = was ∙ parse_is bytes r h (subst (λ (t : List ℕ). ParsesSigned {E = E} w64 10 t r) (is_text ∙ is_cut) p)

-- ---- short spellings

within_either : (b : Bool) (xs ys : List ℕ) (n : ℕ) → length xs ≤ n → length ys ≤ n → length (cond b xs ys) ≤ n
within_either b xs ys n h g = grind arith

no_longer : (bytes : List ℕ) → length (without_leading_sign (without_n bytes)) ≤ length bytes
no_longer bytes =
    let n = without_n bytes in
    let cut : length n ≤ length bytes = within_either (ends_with nat_eq bytes (letter_n ∷ [])) (take (length bytes - 1) bytes) bytes (length bytes) (omega (arith, length-take (length bytes - 1) bytes)) (omega arith) in
    within_either (starts_with_minus n) (drop 1 n) (without_leading_plus n) (length bytes) (omega (arith, length-drop 1 n))
    (let plus = slice_index n 0 == 43 in omega (arith, length-drop (cond plus 1 0) n))

few_bits : (negative : Bool) (n : ℕ) → n < 2 ^ 63 → is_64_bit (cond negative (neg_ℤ (pos n)) (pos n)) ≡ true
few_bits false n h = lt-ltb n (2 ^ 63) h
few_bits true zero h = refl
few_bits true (suc n) h = lt-ltb n (2 ^ 63) (omega arith)

-- at most 18 digits have 64 bits
pub short_int : (bytes : List ℕ) → is_int bytes ≡ true → length bytes < 19 → is_64_bit (int_value bytes) ≡ true
short_int bytes h short =
    let signs = int_signed bytes (is_sign (first_byte bytes)) refl h in
    let ds = without_leading_sign (without_n bytes) in
    let few = no_longer bytes in
    let below : digits_value 10 ds < 10 ^ length ds = digits_value-lt 10 ds signs.numeral.1 in
    let most : 10 ^ length ds ≤ 10 ^ 18 = pow-le-pow_right {n = 10} (omega arith) {i = length ds} {j = 18} (omega arith) in
    let fits : 10 ^ 18 < 2 ^ 63 = lit< tt in
    few_bits (starts_with_minus (without_n bytes)) (digits_value 10 ds) (omega arith)

known_atom : (fits : Bool) (a : Atom) → fits ≡ true → is_some (cond fits (Some a) None) ≡ true
known_atom fits a h = grind arith

-- such an integer is an atom
pub short_atom :
    (kind : TokenKind) (bytes : List ℕ) → kind ≡ kinds.Int → IsSpelled (kind_of kind) bytes → length bytes < 19 → nat_lt (length bytes) 19 ≡ is_some (atom_of_token (kind_of kind) bytes)
short_atom kind bytes e spelled short =
    let P : TokenKind → Type 0 = λ k. IsSpelled (kind_of k) bytes → nat_lt (length bytes) 19 ≡ is_some (atom_of_token (kind_of k) bytes) in
    subst P (sym e) (λ h. lt-ltb (length bytes) 19 short ∙ sym (known_atom (is_64_bit (int_value bytes)) (integer (int_value bytes)) (short_int bytes h short))) spelled

-- ---- digits alone

pub digit_range : (b : ℕ) (bs : List ℕ) → list_all is_ascii_digit (b ∷ bs) ≡ true → (48 ≤ b) × (b ≤ 57)
digit_range b bs h = (tells_all_ascii_digits.parts b bs (sym (all_is (b ∷ bs)) ∙ h)).0

pub other_byte : (b c : ℕ) → (48 ≤ b) × (b ≤ 57) → (c < 48) ⊎ (57 < c) → (b == c) ≡ false
other_byte b c range (inl below) = false_from_ne_true _ (λ h. omega (arith, eqb-true b c h, range.0, below))
other_byte b c range (inr above) = false_from_ne_true _ (λ h. omega (arith, eqb-true b c h, range.1, above))

plain_sign : (ds : List ℕ) → list_all is_ascii_digit ds ≡ true → signed_digits_value 10 ds ≡ pos (digits_value 10 ds)
plain_sign [] h = refl
plain_sign (b ∷ bs) h =
    let range = digit_range b bs h in
    rw (other_byte b minus range (inl (omega arith)), other_byte b plus range (inl (omega arith))) refl

-- The first bytes are digits, and this is the number that they write.
pub record AreDigitsUpTo (text : List ℕ) (count number : ℕ) : Type 0 where
  pub digits : list_all is_ascii_digit (take count text) ≡ true
  pub value : number ≡ digits_value 10 (take count text)

pub no_digits : (text : List ℕ) → AreDigitsUpTo text 0 0
no_digits text = record { digits = refl; value = refl }

pub digit_more :
    (text : List ℕ) (count number digit : ℕ)
    → count < length text → is_ascii_digit (get_or text count 0) ≡ true → digit ≡ get_or text count 0 - 48
    → AreDigitsUpTo text count number → AreDigitsUpTo text (count + 1) (number * 10 + digit)
digit_more text count number digit within is value h =
    let range = digit_range (get_or text count 0) [] (and_from _ _ is refl) in
    record {
      digits = list_all_more is_ascii_digit text count 0 within ∙ and_from _ _ h.digits is;
      value = omega (arith, h.value, value, digits_value_more 10 text count within, digit_value_digit (get_or text count 0) range);
    }

pub digits_below : (text : List ℕ) (count number most : ℕ) → count ≤ length text → count ≤ most → AreDigitsUpTo text count number → number < 10 ^ most
digits_below text count number most within few h =
    let size : length (take count text) ≤ most = omega (arith, length-take-le count text within) in
    omega (arith, h.value, digits_value_short own (take count text) most (sym (all_is (take count text)) ∙ h.digits) size)

pub digits_number : (text : List ℕ) (count number : ℕ) → length text ≤ count → number < 2 ^ 63 → AreDigitsUpTo text count number → IsNumberOf text (to_z w64 number)
digits_number text count number whole fits h =
    let all = take_all count text whole in
    let digits : list_all is_ascii_digit text ≡ true = subst (λ (ds : List ℕ). list_all is_ascii_digit ds ≡ true) all h.digits in
    let value : pos (digits_value 10 text) ≡ to_z w64 number = ap (λ (ds : List ℕ). pos (digits_value 10 ds)) (sym all) ∙ ap pos (sym h.value) ∙ sym (to_z_pos w64 number fits) in
    record {
      digits = digits;
      means = ap (signed_digits_value 10) (no_n text digits) ∙ plain_sign text digits ∙ value;
      fits = ap is_64_bit (to_z_pos w64 number fits) ∙ lt-ltb number (2 ^ 63) fits;
    }

pub digits_taken : (text : List ℕ) (count number : ℕ) → number < 2 ^ 63 → AreDigitsUpTo text count number → IsNumberOf (take count text) (pos number)
digits_taken text count number fits h =
    let ds = take count text in
    record {
      digits = h.digits;
      means = ap (signed_digits_value 10) (no_n ds h.digits) ∙ plain_sign ds h.digits ∙ ap pos (sym h.value);
      fits = lt-ltb number (2 ^ 63) fits;
    }

-- as the machine holds it
pub number_kept : (text : List ℕ) (number : ℤ) → IsNumberOf text number → to_z w64 (of_z w64 number) ≡ number
number_kept text number h = to_z-of_z w64 number (is_fits number h.fits)

pub number_from_digits : (text : List ℕ) (number : ℤ) → IsNumberOf text number → Some (to_z w64 (of_z w64 number)) ≡ then_some (is_64_bit (int_value text)) (int_value text)
number_from_digits text number h =
    let holds : is_64_bit (int_value text) ≡ true = ap is_64_bit h.means ∙ h.fits in
    ap (λ (z : ℤ). Some z) (number_kept text number h ∙ sym h.means) ∙ sym (kept (is_64_bit (int_value text)) (int_value text) holds)
