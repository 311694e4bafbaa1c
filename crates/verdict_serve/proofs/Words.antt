-- Words, and what lines say.
use Rattle.std.proofs.Common.{◌≡◌, ◌≢◌, ◌∙◌, ◌⊎◌, inl, inr, ℕ, ◌+◌, ◌-◌, ◌*◌, ◌<◌, ◌≤◌, List, [], ◌∷◌, ◌++◌, length, take, drop, get_or, Bool, true, false, ◌&&◌, ◌==◌, if◌then◌else◌, codes, Option, Some, None, refl, sym, ap, arith, rules}
use Rattle.std.specs.Borrow.{Bor}
use Rattle.std.specs.Char.{is_ascii_digit, digit_value}
use Rattle.std.specs.List.{list_all}
use Rattle.std.specs.Prelude.{bytes_eq, unwrap_or, MatchOption}
use Rattle.std.specs.Str.Parse.{digits_value}
use Rattle.std.proofs.lemmas.Bool.{ne_eqb, eqb-true, le-ltb, lt-ltb}
use Rattle.std.proofs.lemmas.Int.Digits.{digits_value_more}
use Rattle.std.proofs.lemmas.Str.Parse.{IsNumeralModel, numerals_by_value, digit_at, digits_value_short, digits_value-take-le}
use Rattle.hist_types.specs.Sessions.{carriage_return, without_return, space, words_of, index_of, range_of}
use Rattle.verdict_serve.specs.Sayings.{IsOneWord, IsWordEnd, SplitsWord, indexes, range_by}

-- ---- words

pub one_word : (text : List ℕ) → IsOneWord text → words_of text ≡ text ∷ []
one_word [] alone = refl
one_word (b ∷ text) alone = rw (ne_eqb b space alone.0, one_word text alone.1) refl

pub first_word : (word rest : List ℕ) → IsOneWord word → words_of (word ++ space ∷ rest) ≡ word ∷ words_of rest
first_word [] rest alone = refl
first_word (b ∷ word) rest alone = rw (ne_eqb b space alone.0, first_word word rest alone.1) refl

pub split_at_space : (text : List ℕ) (place : ℕ) → IsWordEnd text place → SplitsWord text (take place text) (drop (place + 1) text)
split_at_space text place end = ap words_of end.whole ∙ first_word (take place text) (drop (place + 1) text) end.word

-- a text is one word, or a word and what follows a space
abbrev HasSpace : List ℕ → Type 0
HasSpace text = (word : List ℕ) × (rest : List ℕ) × (text ≡ word ++ space ∷ rest) × IsOneWord word

space_or_none : (text : List ℕ) → IsOneWord text ⊎ HasSpace text
space_or_none [] = inl tt
space_or_none (b ∷ text) = by_byte (b == space) refl (space_or_none text)
  where
    by_byte : (is : Bool) → (b == space) ≡ is → IsOneWord text ⊎ HasSpace text → IsOneWord (b ∷ text) ⊎ HasSpace (b ∷ text)
    by_byte true e h = inr ([], text, ap (λ (x : ℕ). x ∷ text) (eqb-true b space e), tt)
    by_byte false e (inl alone) = inl ((λ same. absurd (let no : true ≡ false = sym (ap (λ (x : ℕ). x == space) same) ∙ e in cc)), alone)
    by_byte false e (inr has) = inr (b ∷ has.0, has.1, ap (λ (t : List ℕ). b ∷ t) has.2, ((λ same. absurd (let no : true ≡ false = sym (ap (λ (x : ℕ). x == space) same) ∙ e in cc)), has.3))

-- there is a first word
some_word : (text : List ℕ) → (word : List ℕ) × (words : List (List ℕ)) × (words_of text ≡ word ∷ words)
some_word text = by_space (space_or_none text)
  where
    by_space : IsOneWord text ⊎ HasSpace text → (word : List ℕ) × (words : List (List ℕ)) × (words_of text ≡ word ∷ words)
    by_space (inl alone) = (text, [], one_word text alone)
    by_space (inr has) = (has.0, words_of has.1, ap words_of has.2 ∙ first_word has.0 has.1 has.3)

-- a space is no digit
no_digits : (word rest : List ℕ) → list_all is_ascii_digit (word ++ space ∷ rest) ≡ false
no_digits [] rest = refl
no_digits (b ∷ word) rest = rw (no_digits word rest) (by_first (is_ascii_digit b))
  where
    by_first : (is : Bool) → (is && false) ≡ false
    by_first true = refl
    by_first false = refl

no_index : (text : List ℕ) → HasSpace text → index_of text ≡ None
no_index text has = rw (has.2, no_digits has.0 has.1) refl

no_range : (is : Bool) (from : Option ℕ) → None ≡ (if is then indexes from None else None)
no_range true None = refl
no_range true (Some from) = refl
no_range false from = refl

pub three_words : (word from to : List ℕ) → range_of (word ∷ from ∷ words_of to) ≡ range_by word from to
three_words word from to = by_space (space_or_none to)
  where
    by_space : IsOneWord to ⊎ HasSpace to → range_of (word ∷ from ∷ words_of to) ≡ range_by word from to
    by_space (inl alone) = rw (one_word to alone) refl
    by_space (inr has) =
        let second = some_word has.1 in
        rw (no_index to has, has.2, first_word has.0 has.1 has.3, second.2) (no_range (bytes_eq word (codes "read")) (index_of from))

-- a text of one word, of two, and of more
pub range_of_one : (text : List ℕ) → words_of text ≡ text ∷ [] → None ≡ range_of (words_of text)
range_of_one text one = rw one refl

pub range_of_two : (text word rest : List ℕ) → SplitsWord text word rest → words_of rest ≡ rest ∷ [] → None ≡ range_of (words_of text)
range_of_two text word rest splits one = rw (splits, one) refl

pub range_of_three : (text word rest from to : List ℕ) → SplitsWord text word rest → SplitsWord rest from to → range_by word from to ≡ range_of (words_of text)
range_of_three text word rest from to splits again = rw (splits, again) (sym (three_words word from to))

-- ---- the byte 13 at a line's end

drops_return : (front : List ℕ) → without_return (front ++ carriage_return ∷ []) ≡ front
drops_return [] = refl
drops_return (b ∷ []) = refl
drops_return (b ∷ c ∷ front) = ap (λ (t : List ℕ). b ∷ t) (drops_return (c ∷ front))

keeps_line : (line : List ℕ) → ((front : List ℕ) → line ≢ front ++ carriage_return ∷ []) → without_return line ≡ line
keeps_line [] none = refl
keeps_line (b ∷ []) none = rw (ne_eqb b carriage_return (λ e. none [] (ap (λ (x : ℕ). x ∷ []) e))) refl
keeps_line (b ∷ c ∷ rest) none = ap (λ (t : List ℕ). b ∷ t) (keeps_line (c ∷ rest) (λ front e. none (b ∷ front) (ap (λ (t : List ℕ). b ∷ t) e)))

pub stripped : (line : Bor (List ℕ)) (r : Option (Bor (List ℕ)))
    → MatchOption r ((front : List ℕ) → line.now ≢ front ++ carriage_return ∷ []) (λ x. line.now ≡ x.now ++ carriage_return ∷ [])
    → (unwrap_or r line).now ≡ without_return line.now
stripped line None none = sym (keeps_line line.now none)
stripped line (Some front) ends = sym (ap without_return ends ∙ drops_return front.now)

-- ---- digits

are_digits : IsNumeralModel (λ text. list_all is_ascii_digit text ≡ true) (digits_value 10)
are_digits = numerals_by_value _ (search rules)

digit_of : (c : ℕ) → 48 ≤ c → c ≤ 57 → digit_value c ≡ c - 48
digit_of c low high = rw (le-ltb c 48 low, lt-ltb c 58 (omega arith)) refl

-- the number of one digit more
pub one_more_digit : (digits : List ℕ) (i : ℕ) → list_all is_ascii_digit digits ≡ true → i < length digits
    → digits_value 10 (take (i + 1) digits) ≡ digits_value 10 (take i digits) * 10 + (get_or digits i 0 - 48)
one_more_digit digits i all within =
    let range = digit_at digits i (are_digits.to digits all) within in
    rw (digits_value_more 10 digits i within, digit_of (get_or digits i 0) range.0 range.1) refl

-- the number of the first few digits is small
pub few_digits : (digits : List ℕ) (i : ℕ) → list_all is_ascii_digit digits ≡ true → length digits ≤ 7 → digits_value 10 (take i digits) < 10000000
few_digits digits i all few =
    let least = digits_value-take-le 10 digits i (omega arith) in
    let most = digits_value_short are_digits digits 7 all few in
    omega arith
