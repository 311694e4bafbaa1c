-- The tokens of a text mean atoms that can be read.
use Rattle.std.proofs.Common.{◌≡◌, inl, inr, ℕ, zero, suc, ◌+◌, ◌-◌, ◌<◌, ◌≤◌, List, [], ◌∷◌, length, take, drop, get_or, Bool, true, false, cond, Option, Some, None, refl, sym, ◌∙◌, ap, subst, arith}
use Rattle.std.specs.Prelude.{bytes_eq, codes, not, ◌&&◌, ◌==◌, nat_lt, option_map}
use Rattle.std.specs.List.{list_all, prefix_len}
use Rattle.std.specs.Str.{IsUtf8, is_utf8}
use Rattle.std.specs.Str.Lossy.{utf8_valid_len, valid_len_up_to}
use Rattle.std.proofs.lemmas.Bool.{cases_Bool, both_ways, and_from, cond-true, cond-false, eqb-true, eqb-false, ltb-false, and_parts}
use Rattle.std.proofs.lemmas.List.{take_all, get_or-take}
use Rattle.std.proofs.lemmas.List.Sums.{take_while-cons}
use Rattle.std.proofs.lemmas.Str.{IsUtf8-between, IsCharBoundary-after_ascii, IsCharBoundary-before_ascii, IsUtf8-from_is_utf8, IsUtf8-nil, utf8_valid_len_le}
use Rattle.hist_types.specs.Bytes.{line_feed, quote, backslash, semicolon, hash, is_blank, is_opener, is_closer, is_run_byte, open_brace, underscore}
use Rattle.hist_types.specs.Tokens.{ItemKind, Blank, Comment, Opener, Closer, Str, Char, Drop, Tag, Nil, True, False, Int, Keyword, Symbol, Other, front, hash_front, run_of, run_len, run_kind, is_int, is_keyword, is_symbol, character_len, first_byte, BeginsWith, item_fault, content_len}
use Rattle.hist_types.specs.AtomTokens.{between_quotes}
use Rattle.edn_ops.specs.Canonical.{IsSpelling}

-- ---- UTF-8

-- the longest well-formed front is no longer than what is looked at
valid_le : (bs : List ℕ) (n : ℕ) → valid_len_up_to bs n ≤ n
valid_le bs zero = omega arith
valid_le bs (suc n) = elim (cases_Bool (is_utf8 (take (suc n) bs))) [
  | inl e ↦ rw e (omega arith)
  | inr e ↦ rw e (omega (arith, valid_le bs n))
]

-- where it is the whole, the bytes are UTF-8
whole_valid : (bs : List ℕ) (n : ℕ) → length bs ≡ n → valid_len_up_to bs n ≡ n → IsUtf8 bs
whole_valid [] n l e = IsUtf8-nil
whole_valid (b ∷ bs) zero l e = absurd (omega (arith, l))
whole_valid (b ∷ bs) (suc n) l e = elim (cases_Bool (is_utf8 (take (suc n) (b ∷ bs)))) [
  | inl is ↦ subst IsUtf8 (take_all (suc n) (b ∷ bs) (omega (arith, l))) (IsUtf8-from_is_utf8 (take (suc n) (b ∷ bs)) is)
  | inr is_not ↦ (
      let same = rw is_not at e in
      absurd (omega (arith, same, valid_le (b ∷ bs) n)))
]

-- an item without a fault is UTF-8
pub no_fault_utf8 : (kind : ItemKind) (at : ℕ) (bytes closers : List ℕ) → item_fault kind at bytes closers ≡ None → IsUtf8 bytes
unfolding utf8_valid_len
no_fault_utf8 kind at bytes closers e = elim (cases_Bool (nat_lt (utf8_valid_len bytes) (length bytes))) [
  | inl bad ↦ (let none = rw bad at e in cc)
  | inr good ↦ whole_valid bytes (length bytes) refl (omega (arith, ltb-false (utf8_valid_len bytes) (length bytes) good, utf8_valid_len_le bytes))
]

-- ---- keywords and symbols

-- whether it is a keyword or a symbol
abbrev pub is_word : ItemKind → Bool
is_word Keyword = true
is_word Symbol = true
is_word kind = false

-- what is no word is no word
not_word : (found : ItemKind × Option ℕ) (kind : ItemKind) (o : Option ℕ) → found ≡ (kind, o) → is_word kind ≡ true → is_word found.0 ≡ false → ⊥
not_word found kind o e is_one is_none = both_ways (is_word found.0) is_none (ap is_word (ap (λ (p : ItemKind × Option ℕ). p.0) e) ∙ is_one)

-- what begins with a `#` is no word
hash_no_word : (bs : List ℕ) → is_word (run_kind (hash ∷ bs)) ≡ false
hash_no_word bs = elim (cases_Bool (is_int (hash ∷ bs))) [
  | inl is ↦ rw is refl
  | inr is_not ↦ rw is_not refl
]

-- whatever item it is
hash_front_no_word : (rest : List ℕ) → is_word (hash_front rest).0 ≡ false
hash_front_no_word rest = elim (cases_Bool (first_byte rest == open_brace)) [
  | inl e ↦ rw e refl
  | inr e ↦ elim (cases_Bool (first_byte rest == underscore)) [
    | inl f ↦ rw (e, f) refl
    | inr f ↦ elim (cases_Bool (first_byte rest == hash)) [
      | inl g ↦ rw (e, f, g) (hash_no_word (run_of rest))
      | inr g ↦ rw (e, f, g) refl
    ]
  ]
]

-- the run that a word is
record IsWordRun (b : ℕ) (rest : List ℕ) (kind : ItemKind) (n : ℕ) : Type 0 where
  of_kind : run_kind (b ∷ run_of rest) ≡ kind
  size : n ≡ suc (run_len rest)
  in_run : is_run_byte b ≡ true
  no_backslash : (b == backslash) ≡ false

-- what a keyword or a symbol at the front says of the text
word_run : (b : ℕ) (rest : List ℕ) (kind : ItemKind) (n : ℕ) → is_word kind ≡ true → front b rest ≡ (kind, Some n) → IsWordRun b rest kind n
word_run b rest kind n is_one h = elim (cases_Bool (is_blank b)) [
  | inl e ↦ absurd (not_word (Blank, _) kind (Some n) (rw e at h) is_one refl)
  | inr no_blank ↦ elim (cases_Bool (b == semicolon)) [
    | inl e ↦ absurd (not_word (Comment, _) kind (Some n) (rw (no_blank, e) at h) is_one refl)
    | inr no_semicolon ↦ elim (cases_Bool (b == quote)) [
      | inl e ↦ absurd (not_word (Str, _) kind (Some n) (rw (no_blank, no_semicolon, e) at h) is_one refl)
      | inr no_quote ↦ elim (cases_Bool (b == backslash)) [
        | inl e ↦ absurd (not_word (Char, _) kind (Some n) (rw (no_blank, no_semicolon, no_quote, e) at h) is_one refl)
        | inr no_backslash ↦ elim (cases_Bool (is_opener b)) [
          | inl e ↦ absurd (not_word (Opener, _) kind (Some n) (rw (no_blank, no_semicolon, no_quote, no_backslash, e) at h) is_one refl)
          | inr no_opener ↦ elim (cases_Bool (is_closer b)) [
            | inl e ↦ absurd (not_word (Closer, _) kind (Some n) (rw (no_blank, no_semicolon, no_quote, no_backslash, no_opener, e) at h) is_one refl)
            | inr no_closer ↦ elim (cases_Bool (b == hash)) [
              | inl e ↦ absurd (not_word (hash_front rest) kind (Some n) (rw (no_blank, no_semicolon, no_quote, no_backslash, no_opener, no_closer, e) at h) is_one (hash_front_no_word rest))
              | inr no_hash ↦ (
                  let front_is : front b rest ≡ (run_kind (b ∷ run_of rest), Some (suc (run_len rest))) = rw (no_blank, no_semicolon, no_quote, no_backslash, no_opener, no_closer, no_hash) refl in
                  let found = sym front_is ∙ h in
                  let size : Some (suc (run_len rest)) ≡ Some n = ap (λ (p : ItemKind × Option ℕ). p.1) found in
                  record {
                    of_kind = ap (λ (p : ItemKind × Option ℕ). p.0) found;
                    size = cc;
                    in_run = rw (no_blank, no_opener, no_closer, no_quote, no_semicolon) refl;
                    no_backslash = no_backslash;
                  })
            ]
          ]
        ]
      ]
    ]
  ]
]

-- the run at the front has bytes of a run only
run_bytes : (text : List ℕ) → list_all is_run_byte (run_of text) ≡ true
run_bytes [] = refl
run_bytes (b ∷ bs) = elim (cases_Bool (is_run_byte b)) [
  | inl e ↦ (
      let more = run_bytes bs in
      let all : list_all is_run_byte (b ∷ run_of bs) ≡ true = and_from (is_run_byte b) (list_all is_run_byte (run_of bs)) e more in
      let run : run_of (b ∷ bs) ≡ b ∷ run_of bs = take_while-cons is_run_byte b bs ∙ cond-true (is_run_byte b) (b ∷ run_of bs) [] e in
      subst (λ (r : List ℕ). list_all is_run_byte r ≡ true) (sym run) all)
  | inr e ↦ (
      let run : run_of (b ∷ bs) ≡ [] = take_while-cons is_run_byte b bs ∙ cond-false (is_run_byte b) (b ∷ run_of bs) [] e in
      subst (λ (r : List ℕ). list_all is_run_byte r ≡ true) (sym run) refl)
]

-- a keyword or a symbol of a text is spelled as it can be read
pub word_spelling : (text : List ℕ) (kind : ItemKind) (bytes : List ℕ) → is_word kind ≡ true → IsUtf8 bytes → BeginsWith text kind bytes → IsSpelling kind bytes
word_spelling [] kind bytes is_one u h = absurd h
word_spelling (b ∷ rest) kind bytes is_one u h =
    let w = word_run b rest kind (length bytes) is_one h.0 in
    let whole : bytes ≡ b ∷ run_of rest = h.1 ∙ ap (λ (n : ℕ). take n (b ∷ rest)) w.size in
    let spelling : IsUtf8 (b ∷ run_of rest) → IsSpelling kind (b ∷ run_of rest) = (λ v. record {
      nonempty = omega arith;
      one_run = and_from (is_run_byte b) (list_all is_run_byte (run_of rest)) w.in_run (run_bytes rest);
      of_kind = w.of_kind;
      no_character = eqb-false b backslash w.no_backslash;
      utf8 = v;
    }) in
    subst (IsSpelling kind) (sym whole) (spelling (subst IsUtf8 whole u))

-- ---- strings

-- whether it is a string
is_str : ItemKind → Bool
is_str Str = true
is_str kind = false

-- whether an item that was found is a string
abbrev names_str : ItemKind × Option ℕ → Bool
names_str p = is_str p.0

-- no branch is a string
no_str_branch : (c d e f g h : Bool) → is_str (cond c Nil (cond d True (cond e False (cond f Int (cond g Keyword (cond h Symbol Other)))))) ≡ false
unfolding is_str
no_str_branch true d e f g h = refl
no_str_branch false true e f g h = refl
no_str_branch false false true f g h = refl
no_str_branch false false false true g h = refl
no_str_branch false false false false true h = refl
no_str_branch false false false false false true = refl
no_str_branch false false false false false false = refl

-- a run is no string
run_no_str : (run : List ℕ) → is_str (run_kind run) ≡ false
run_no_str run = no_str_branch (bytes_eq run (codes "nil")) (bytes_eq run (codes "true")) (bytes_eq run (codes "false")) (is_int run) (is_keyword run) (is_symbol run)

-- nor is what begins with a `#`
no_str_hash : (c d e : Bool) (o p q : Option ℕ) (run : ItemKind × Option ℕ) → names_str run ≡ false → names_str (cond c (Opener, o) (cond d (Drop, p) (cond e run (Tag, q)))) ≡ false
unfolding is_str
no_str_hash true d e o p q run r = refl
no_str_hash false true e o p q run r = refl
no_str_hash false false true o p q run r = r
no_str_hash false false false o p q run r = refl

-- whatever item it is
hash_no_str : (rest : List ℕ) → names_str (hash_front rest) ≡ false
hash_no_str rest =
    no_str_hash (first_byte rest == open_brace) (first_byte rest == underscore) (first_byte rest == hash) (Some 2) (Some 2) (Some (suc (run_len rest)))
    (run_kind (hash ∷ run_of rest), Some (suc (run_len rest))) (run_no_str (hash ∷ run_of rest))

-- nor what begins with anything but a quote
no_str_front : (c d e f g h i : Bool) (o p q r s t : Option ℕ) (tag run : ItemKind × Option ℕ) → e ≡ false → names_str tag ≡ false → names_str run ≡ false → names_str (cond c (Blank, o) (cond d (Comment, p) (cond e (Str, q) (cond f (Char, r) (cond g (Opener, s) (cond h (Closer, t) (cond i tag run))))))) ≡ false
unfolding is_str
no_str_front true d e f g h i o p q r s t tag run n x y = refl
no_str_front false true e f g h i o p q r s t tag run n x y = refl
no_str_front false false true f g h i o p q r s t tag run n x y = absurd (both_ways true n refl)
no_str_front false false false true g h i o p q r s t tag run n x y = refl
no_str_front false false false false true h i o p q r s t tag run n x y = refl
no_str_front false false false false false true i o p q r s t tag run n x y = refl
no_str_front false false false false false false true o p q r s t tag run n x y = x
no_str_front false false false false false false false o p q r s t tag run n x y = y

-- only a quote begins a string
front_no_str : (b : ℕ) (rest : List ℕ) → (b == quote) ≡ false → names_str (front b rest) ≡ false
front_no_str b rest no_quote =
    no_str_front (is_blank b) (b == semicolon) (b == quote) (b == backslash) (is_opener b) (is_closer b) (b == hash)
    (Some 1) (Some (suc (prefix_len (λ c. not (c == line_feed)) rest))) (option_map (λ n. n + 2) (content_len false rest)) (Some (suc (character_len rest))) (Some 1) (Some 1)
    (hash_front rest) (run_kind (b ∷ run_of rest), Some (suc (run_len rest))) no_quote (hash_no_str rest) (run_no_str (b ∷ run_of rest))

-- there is none or one
pub none_or_some : {A : Type 0} (x : A) → None ≡ Some x → ⊥
none_or_some x e = cc

-- what a mapped option that is there came from
pub mapped_some : {A B : Type 0} (f : A → B) (o : Option A) (y : B) → option_map f o ≡ Some y → (x : A) × (o ≡ Some x) × (f x ≡ y)
mapped_some f o y x = grind arith

-- where the closing quote stands
pub content_end : (taken : Bool) (text : List ℕ) (n : ℕ) → content_len taken text ≡ Some n → (n < length text) × (get_or text n 0 ≡ quote)
content_end taken [] n e = absurd (none_or_some n e)
content_end taken (b ∷ bs) n e = elim (cases_Bool ((b == quote) && not taken)) [
  | inl closes ↦ (
      let zero_is : Some 0 ≡ Some n = rw closes at e in
      let z : 0 ≡ n = cc in
      let q : b ≡ quote = eqb-true b quote (and_parts (b == quote) (not taken) closes).0 in
      subst (λ (k : ℕ). (k < suc (length bs)) × (get_or (b ∷ bs) k 0 ≡ quote)) z (omega arith, q))
  | inr goes_on ↦ (
      let later : option_map suc (content_len ((b == backslash) && not taken) bs) ≡ Some n = rw goes_on at e in
      let m = mapped_some suc (content_len ((b == backslash) && not taken) bs) n later in
      let more = content_end ((b == backslash) && not taken) bs m.0 m.1 in
      subst (λ (k : ℕ). (k < suc (length bs)) × (get_or (b ∷ bs) k 0 ≡ quote)) m.2 (omega (arith, more.0), more.1))
]

-- a string begins and ends with a quote, and has both
pub record IsQuoted (bytes : List ℕ) : Type 0 where
  pub long : 2 ≤ length bytes
  pub first : get_or bytes 0 0 ≡ quote
  pub last : get_or bytes (length bytes - 1) 0 ≡ quote

-- a string of a text is between quotes
pub quoted : (text bytes : List ℕ) → BeginsWith text Str bytes → IsQuoted bytes
unfolding is_str
quoted [] bytes h = absurd h
quoted (b ∷ rest) bytes h = elim (cases_Bool (b == quote)) [
  | inr none ↦ absurd (both_ways (names_str (front b rest)) (front_no_str b rest none) (ap names_str h.0))
  | inl one ↦ (
      let q : b ≡ quote = eqb-true b quote one in
      let found : front quote rest ≡ (Str, Some (length bytes)) = subst (λ (c : ℕ). front c rest ≡ (Str, Some (length bytes))) q h.0 in
      let size : option_map (λ n. n + 2) (content_len false rest) ≡ Some (length bytes) = ap (λ (p : ItemKind × Option ℕ). p.1) found in
      let m = mapped_some (λ (n : ℕ). n + 2) (content_len false rest) (length bytes) size in
      let at = content_end false rest m.0 m.1 in
      let whole : bytes ≡ take (length bytes) (b ∷ rest) = h.1 in
      let one : suc m.0 ≡ length bytes - 1 = omega (arith, m.2) in
      record {
        long = omega (arith, m.2);
        first = ap (λ (xs : List ℕ). get_or xs 0 0) whole ∙ get_or-take (length bytes) (b ∷ rest) 0 0 (omega (arith, m.2)) ∙ q;
        last = ap (λ (xs : List ℕ). get_or xs (length bytes - 1) 0) whole ∙ get_or-take (length bytes) (b ∷ rest) (length bytes - 1) 0 (omega (arith, m.2)) ∙ ap (λ (k : ℕ). get_or (b ∷ rest) k 0) (sym one) ∙ at.1;
      })
]

-- what stands between the quotes is UTF-8
pub between_utf8 : (bytes : List ℕ) → IsUtf8 bytes → IsQuoted bytes → IsUtf8 (between_quotes bytes)
between_utf8 bytes u q =
    let after = IsCharBoundary-after_ascii bytes 0 u (omega (arith, q.long)) (omega (arith, q.first)) in
    let before = IsCharBoundary-before_ascii bytes (length bytes - 1) (omega (arith, q.long)) (omega (arith, q.last)) in
    let n : length bytes - 1 - 1 ≡ length bytes - 2 = omega arith in
    subst (λ (k : ℕ). IsUtf8 (take k (drop 1 bytes))) n (IsUtf8-between bytes 1 (length bytes - 1) u (omega (arith, q.long)) after before)
