-- What a text that is one token begins with, by the token's kind.
use Rattle.std.proofs.Common.{◌≡◌, inl, inr, ℕ, suc, ◌+◌, ◌-◌, List, [], ◌∷◌, length, take, drop, Bool, true, false, not, cond, Option, Some, option_map, refl, sym, ◌∙◌, ap, subst, arith}
use Rattle.std.specs.Prelude.{◌==◌, ◌&&◌, ◌||◌, nat_eq, nat_lt, bytes_eq, codes}
use Rattle.std.specs.Char.{is_ascii_digit}
use Rattle.std.specs.List.{prefix_len, list_all}
use lib.Pointwise.{pointwise}
use Rattle.std.proofs.lemmas.Bool.{true≢false, and_parts, cases_Bool}
use Rattle.std.proofs.lemmas.List.{take_all}
use Rattle.hist_types.specs.Bytes.{is_blank, is_opener, is_closer, quote, semicolon, backslash, hash, line_feed, open_brace, underscore, letter_n}
use Rattle.hist_types.specs.Tokens.{ItemKind, Blank, Comment, Opener, Closer, Str, Char, Drop, Tag, Nil, True, False, Int, Keyword, Symbol, Other, run_of, run_len, run_kind, is_int, is_keyword, is_symbol, is_sign, is_whole, without_n, first_byte, character_len, content_len, hash_front, BeginsWith, begins_with_number}

-- ---- the run that a word is

-- an integer, a keyword or a symbol
abbrev pub is_word : ItemKind → Bool
is_word Int = true
is_word Keyword = true
is_word Symbol = true
is_word kind = false

abbrev is_str : ItemKind → Bool
is_str Str = true
is_str kind = false

-- which of a run's tests its kind has passed
abbrev Passed : (int keyword symbol : Bool) → ItemKind → Type 0
Passed int keyword symbol Int = int ≡ true
Passed int keyword symbol Keyword = keyword ≡ true
Passed int keyword symbol Symbol = symbol ≡ true
Passed int keyword symbol kind = Unit {0}

abbrev chosen : (c d e f g h : Bool) → ItemKind
chosen c d e f g h = cond c Nil (cond d True (cond e False (cond f Int (cond g Keyword (cond h Symbol Other)))))

passes : (c d e f g h : Bool) → Passed f g h (chosen c d e f g h)
passes true d e f g h = tt
passes false true e f g h = tt
passes false false true f g h = tt
passes false false false true g h = refl
passes false false false false true h = refl
passes false false false false false true = refl
passes false false false false false false = tt

no_str : (c d e f g h : Bool) → is_str (chosen c d e f g h) ≡ false
no_str true d e f g h = refl
no_str false true e f g h = refl
no_str false false true f g h = refl
no_str false false false true g h = refl
no_str false false false false true h = refl
no_str false false false false false true = refl
no_str false false false false false false = refl

run_passes : (run : List ℕ) → Passed (is_int run) (is_keyword run) (is_symbol run) (run_kind run)
run_passes run = passes (bytes_eq run (codes "nil")) (bytes_eq run (codes "true")) (bytes_eq run (codes "false")) (is_int run) (is_keyword run) (is_symbol run)

run_no_str : (run : List ℕ) → is_str (run_kind run) ≡ false
run_no_str run = no_str (bytes_eq run (codes "nil")) (bytes_eq run (codes "true")) (bytes_eq run (codes "false")) (is_int run) (is_keyword run) (is_symbol run)

-- ---- integers begin with a digit, or with a sign and a digit

whole_digit : (b : ℕ) (bs : List ℕ) → is_whole (b ∷ bs) ≡ true → is_ascii_digit b ≡ true
whole_digit b bs h =
    let parts = and_parts (list_all is_ascii_digit (b ∷ bs) && nat_lt 0 (length (b ∷ bs))) _ h in
    let all = and_parts (list_all is_ascii_digit (b ∷ bs)) _ parts.0 in
    (and_parts (is_ascii_digit b) (list_all is_ascii_digit bs) all.0).0

digit_by : (b : ℕ) (bs : List ℕ) (ends : Bool) → is_whole (cond ends (take (length bs) (b ∷ bs)) (b ∷ bs)) ≡ true → is_ascii_digit b ≡ true
digit_by b [] true h = absurd (true≢false (sym h))
digit_by b (c ∷ bs) true h = whole_digit b (take (length bs) (c ∷ bs)) h
digit_by b bs false h = whole_digit b bs h

-- before an `N` too
first_digit : (b : ℕ) (bs : List ℕ) → is_whole (without_n (b ∷ bs)) ≡ true → is_ascii_digit b ≡ true
first_digit b bs h =
    let n : length (b ∷ bs) - 1 ≡ length bs = omega arith in
    digit_by b bs (pointwise nat_eq (letter_n ∷ []) (drop (length bs) (b ∷ bs))) (rw n at h)

or_right : (a b : Bool) → b ≡ true → (a || b) ≡ true
or_right true b h = refl
or_right false b h = h

or_left : (a b : Bool) → a ≡ true → (a || b) ≡ true
or_left true b h = refl
or_left false b h = absurd (true≢false (sym h))

and_both : (a b : Bool) → a ≡ true → b ≡ true → (a && b) ≡ true
and_both true b h k = k
and_both false b h k = absurd (true≢false (sym h))

pub int_begins : (run : List ℕ) → is_int run ≡ true → begins_with_number run ≡ true
int_begins [] h = absurd (true≢false (sym h))
int_begins (b ∷ []) h = elim (cases_Bool (is_sign b)) [
  | inl sign ↦ absurd (true≢false (sym (rw sign at h)))
  | inr no_sign ↦ or_left (is_ascii_digit b) _ (first_digit b [] (rw no_sign at h))
]
int_begins (b ∷ c ∷ cs) h = elim (cases_Bool (is_sign b)) [
  | inl sign ↦ or_right (is_ascii_digit b) _ (and_both (is_sign b) (is_ascii_digit c) sign (first_digit c cs (rw sign at h)))
  | inr no_sign ↦ or_left (is_ascii_digit b) _ (first_digit b (c ∷ cs) (rw no_sign at h))
]

-- ---- what begins with a `#`

by_hash : (kind : ItemKind) (run : List ℕ) → Passed (is_int run) (is_keyword run) (is_symbol run) kind → is_int run ≡ false → is_keyword run ≡ false → is_symbol run ≡ false → is_word kind ≡ false
by_hash Int run p i k s = absurd (true≢false (sym p ∙ i))
by_hash Keyword run p i k s = absurd (true≢false (sym p ∙ k))
by_hash Symbol run p i k s = absurd (true≢false (sym p ∙ s))
by_hash kind run p i k s = refl

not_int : (bs : List ℕ) → is_int (hash ∷ bs) ≡ false
not_int bs = elim (cases_Bool (is_int (hash ∷ bs))) [
  | inl is ↦ absurd (true≢false (sym (int_begins (hash ∷ bs) is)))
  | inr is_not ↦ is_not
]

hash_run : (bs : List ℕ) → is_word (run_kind (hash ∷ bs)) ≡ false
hash_run bs = by_hash (run_kind (hash ∷ bs)) (hash ∷ bs) (run_passes (hash ∷ bs)) (not_int bs) refl refl

hash_by :
    (test : ItemKind → Bool) (c d e : Bool) (o p q : Option ℕ) (run : ItemKind × Option ℕ)
    → test Opener ≡ false → test Drop ≡ false → test Tag ≡ false → test run.0 ≡ false
    → test (cond c (Opener, o) (cond d (Drop, p) (cond e run (Tag, q)))).0 ≡ false
hash_by test true d e o p q run x y z r = x
hash_by test false true e o p q run x y z r = y
hash_by test false false true o p q run x y z r = r
hash_by test false false false o p q run x y z r = z

hash_no_word : (rest : List ℕ) → is_word (hash_front rest).0 ≡ false
hash_no_word rest =
    hash_by is_word (first_byte rest == open_brace) (first_byte rest == underscore) (first_byte rest == hash)
    (Some 2) (Some 2) (Some (suc (run_len rest))) (run_kind (hash ∷ run_of rest), Some (suc (run_len rest)))
    refl refl refl (hash_run (run_of rest))

hash_no_str : (rest : List ℕ) → is_str (hash_front rest).0 ≡ false
hash_no_str rest =
    hash_by is_str (first_byte rest == open_brace) (first_byte rest == underscore) (first_byte rest == hash)
    (Some 2) (Some 2) (Some (suc (run_len rest))) (run_kind (hash ∷ run_of rest), Some (suc (run_len rest)))
    refl refl refl (run_no_str (hash ∷ run_of rest))

-- ---- what is at the front of a text

abbrev found : (c d e f g h i : Bool) (o p q r s t : Option ℕ) (tag run : ItemKind × Option ℕ) → ItemKind × Option ℕ
found c d e f g h i o p q r s t tag run =
    cond c (Blank, o) (cond d (Comment, p) (cond e (Str, q) (cond f (Char, r) (cond g (Opener, s) (cond h (Closer, t) (cond i tag run))))))

no_word : {A : Type 0} (kind : ItemKind) → is_word kind ≡ true → is_word kind ≡ false → A
no_word kind is is_not = absurd (true≢false (sym is ∙ is_not))

word_found :
    (c d e f g h i : Bool) (o p q r s t : Option ℕ) (tag run : ItemKind × Option ℕ)
    → is_word (found c d e f g h i o p q r s t tag run).0 ≡ true → is_word tag.0 ≡ false
    → (e ≡ false) × (found c d e f g h i o p q r s t tag run ≡ run)
word_found true d e f g h i o p q r s t tag run w n = absurd (true≢false (sym w))
word_found false true e f g h i o p q r s t tag run w n = absurd (true≢false (sym w))
word_found false false true f g h i o p q r s t tag run w n = absurd (true≢false (sym w))
word_found false false false true g h i o p q r s t tag run w n = absurd (true≢false (sym w))
word_found false false false false true h i o p q r s t tag run w n = absurd (true≢false (sym w))
word_found false false false false false true i o p q r s t tag run w n = absurd (true≢false (sym w))
word_found false false false false false false true o p q r s t tag run w n = absurd (true≢false (sym w ∙ n))
word_found false false false false false false false o p q r s t tag run w n = (refl, refl)

str_found :
    (c d e f g h i : Bool) (o p q r s t : Option ℕ) (tag run : ItemKind × Option ℕ)
    → is_str (found c d e f g h i o p q r s t tag run).0 ≡ true → is_str tag.0 ≡ false → is_str run.0 ≡ false → e ≡ true
str_found true d e f g h i o p q r s t tag run w n m = absurd (true≢false (sym w))
str_found false true e f g h i o p q r s t tag run w n m = absurd (true≢false (sym w))
str_found false false true f g h i o p q r s t tag run w n m = refl
str_found false false false true g h i o p q r s t tag run w n m = absurd (true≢false (sym w))
str_found false false false false true h i o p q r s t tag run w n m = absurd (true≢false (sym w))
str_found false false false false false true i o p q r s t tag run w n m = absurd (true≢false (sym w))
str_found false false false false false false true o p q r s t tag run w n m = absurd (true≢false (sym w ∙ n))
str_found false false false false false false false o p q r s t tag run w n m = absurd (true≢false (sym w ∙ m))

pub str_begins : (text : List ℕ) → BeginsWith text Str text → (first_byte text == quote) ≡ true
str_begins [] h = absurd h
str_begins (b ∷ rest) h =
    str_found (is_blank b) (b == semicolon) (b == quote) (b == backslash) (is_opener b) (is_closer b) (b == hash)
    (Some 1) (Some (suc (prefix_len (λ c. not (c == line_feed)) rest))) (option_map (λ n. n + 2) (content_len false rest))
    (Some (suc (character_len rest))) (Some 1) (Some 1) (hash_front rest) (run_kind (b ∷ run_of rest), Some (suc (run_len rest)))
    (ap (λ (p : ItemKind × Option ℕ). is_str p.0) h.0) (hash_no_str rest) (run_no_str (b ∷ run_of rest))

-- A text that is a word: it begins with no quote, and has passed the test of its kind.
pub record IsWord (kind : ItemKind) (text : List ℕ) : Type 0 where
  pub no_quote : (first_byte text == quote) ≡ false
  pub passed : Passed (is_int text) (is_keyword text) (is_symbol text) kind

abbrev sized : ItemKind → ℕ → ItemKind × Option ℕ
sized kind len = (kind, Some len)

same_pair : (k l : ItemKind) (m n : ℕ) → sized k m ≡ sized l n → (k ≡ l) × (m ≡ n)
same_pair k l m n e =
    let second : Some m ≡ Some n = ap (λ (p : ItemKind × Option ℕ). p.1) e in
    (ap (λ (p : ItemKind × Option ℕ). p.0) e, cc)

pub word_is : (kind : ItemKind) (text : List ℕ) → is_word kind ≡ true → BeginsWith text kind text → IsWord kind text
word_is kind [] w h = absurd h
word_is kind (b ∷ rest) w h =
    let is =
    word_found (is_blank b) (b == semicolon) (b == quote) (b == backslash) (is_opener b) (is_closer b) (b == hash)
    (Some 1) (Some (suc (prefix_len (λ c. not (c == line_feed)) rest))) (option_map (λ n. n + 2) (content_len false rest))
    (Some (suc (character_len rest))) (Some 1) (Some 1) (hash_front rest) (run_kind (b ∷ run_of rest), Some (suc (run_len rest)))
    (ap (λ (p : ItemKind × Option ℕ). is_word p.0) h.0 ∙ w) (hash_no_word rest) in
    let same = same_pair (run_kind (b ∷ run_of rest)) kind (suc (run_len rest)) (length (b ∷ rest)) (sym is.1 ∙ h.0) in
    let all : run_of rest ≡ rest = take_all (run_len rest) rest (omega (arith, same.1)) in
    let P : List ℕ → Type 0 = λ run. Passed (is_int (b ∷ run)) (is_keyword (b ∷ run)) (is_symbol (b ∷ run)) kind in
    let passed = subst (λ (k : ItemKind). Passed (is_int (b ∷ run_of rest)) (is_keyword (b ∷ run_of rest)) (is_symbol (b ∷ run_of rest)) k) same.0 (run_passes (b ∷ run_of rest)) in
    record { no_quote = is.0; passed = subst P all passed }
