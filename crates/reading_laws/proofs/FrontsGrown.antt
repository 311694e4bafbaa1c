-- An item at the front of a text stays as it is where more comes after the text, if the item is not all of the text, or is the end of
-- a line.
use Rattle.std.proofs.Common.{◌≡◌, ◌⊎◌, inl, inr, ℕ, zero, suc, ◌+◌, ◌<◌, ◌≤◌, List, [], ◌∷◌, ◌++◌, length, take, drop, Bool, true, false, not, ◌==◌, ◌&&◌, cond, Option, Some, None, option_map, refl, sym, ◌∙◌, ap, subst, arith, append_assoc, length-append}
use Rattle.std.specs.Bool.{if◌then◌else◌}
use Rattle.std.specs.Prelude.{◌≢◌}
use Rattle.std.specs.List.{prefix_len}
use Rattle.std.proofs.Math.Nat.{eq-or-lt_of_le}
use Rattle.std.proofs.lemmas.Bool.{eqb-true}
use Rattle.std.proofs.lemmas.List.{take-append-le}
use Rattle.std.proofs.lemmas.Option.{none-some, same_Some}
use Rattle.hist_types.specs.Bytes.{is_blank, is_opener, is_closer, is_run_byte, quote, semicolon, backslash, hash, line_feed, open_brace, underscore}
use Rattle.hist_types.specs.Tokens.{ItemKind, Blank, Comment, Opener, Closer, Str, Char, Drop, Tag, run_of, run_len, run_kind, character_len, content_len, hash_front, front, BeginsWith}
use Rattle.reading_laws.specs.Parts.{EndsLine}
use Rattle.reading_laws.proofs.PartCuts.{closed_alike, Kept, kept_both, kept_same, len_of, kept_item, kept_string, BeginsWith-len}

-- ---- rows that end before the text does

more_counted : (passes : Bool) (a b n : ℕ) → (b < n → a ≡ b) → cond passes (1 + b) 0 < suc n → cond passes (1 + a) 0 ≡ cond passes (1 + b) 0
more_counted true a b n same h = ap (λ k. 1 + k) (same (omega arith))
more_counted false a b n same h = refl

prefix_len-more : (p : ℕ → Bool) (xs ys : List ℕ) → prefix_len p xs < length xs → prefix_len p (xs ++ ys) ≡ prefix_len p xs
prefix_len-more p [] ys h = absurd (omega arith)
prefix_len-more p (x ∷ xs) ys h = more_counted (p x) (prefix_len p (xs ++ ys)) (prefix_len p xs) (length xs) (prefix_len-more p xs ys) h

run_of-more : (xs ys : List ℕ) → run_len xs < length xs → run_of (xs ++ ys) ≡ run_of xs
run_of-more xs ys h = ap (λ n. take n (xs ++ ys)) (prefix_len-more is_run_byte xs ys h) ∙ take-append-le (run_len xs) xs ys (omega arith)

character_len-more : (xs ys : List ℕ) → character_len xs < length xs → character_len (xs ++ ys) ≡ character_len xs
character_len-more [] ys h = absurd (omega arith)
character_len-more (x ∷ xs) ys h = ap suc (prefix_len-more is_run_byte xs ys (omega arith))

content_len-more : (xs ys : List ℕ) (taken : Bool) (k : ℕ) → content_len taken xs ≡ Some k → content_len taken (xs ++ ys) ≡ Some k
content_len-more [] ys taken k e = absurd (none-some k e)
content_len-more (x ∷ xs) ys taken k e =
    closed_alike ((x == quote) && not taken) _ _ k k (λ j is less. content_len-more xs ys ((x == backslash) && not taken) j is) e (omega arith)

hash-more : (c : ℕ) (xs ys : List ℕ) (m : ℕ) → length (c ∷ xs) ≡ suc m → Kept m (hash_front (c ∷ xs)) (hash_front (c ∷ xs ++ ys))
hash-more c xs ys m long =
    kept_both m (c == open_brace) _ _ _ _ (kept_same m (Opener, Some 2))
    (kept_both m (c == underscore) _ _ _ _ (kept_same m (Drop, Some 2))
    (kept_both m (c == hash) _ _ _ _
    (kept_item m _ _ (run_len (c ∷ xs)) (run_len (c ∷ xs ++ ys))
    (λ h. (ap (λ run. run_kind (hash ∷ run)) (run_of-more (c ∷ xs) ys (omega arith)), prefix_len-more is_run_byte (c ∷ xs) ys (omega arith))))
    (kept_item m Tag Tag (run_len (c ∷ xs)) (run_len (c ∷ xs ++ ys)) (λ h. (refl, prefix_len-more is_run_byte (c ∷ xs) ys (omega arith))))))

some_hash-more : (xs ys : List ℕ) (m : ℕ) → length xs ≡ suc m → Kept m (hash_front xs) (hash_front (xs ++ ys))
some_hash-more [] ys m long = absurd (omega arith)
some_hash-more (c ∷ xs) ys m long = hash-more c xs ys m long

front-more : (b : ℕ) (xs ys : List ℕ) (m : ℕ) → length xs ≡ suc m → Kept m (front b xs) (front b (xs ++ ys))
front-more b xs ys m long =
    kept_both m (is_blank b) _ _ _ _ (kept_same m (Blank, Some 1))
    (kept_both m (b == semicolon) _ _ _ _
    (kept_item m Comment Comment _ _ (λ h. (refl, prefix_len-more (λ c. not (c == line_feed)) xs ys (omega arith))))
    (kept_both m (b == quote) _ _ _ _ (kept_string m _ _ (λ j is less. content_len-more xs ys false j is))
    (kept_both m (b == backslash) _ _ _ _ (kept_item m Char Char _ _ (λ h. (refl, character_len-more xs ys (omega arith))))
    (kept_both m (is_opener b) _ _ _ _ (kept_same m (Opener, Some 1))
    (kept_both m (is_closer b) _ _ _ _ (kept_same m (Closer, Some 1))
    (kept_both m (b == hash) _ _ _ _ (some_hash-more xs ys m long)
    (kept_item m _ _ (run_len xs) (run_len (xs ++ ys))
    (λ h. (ap (λ run. run_kind (b ∷ run)) (run_of-more xs ys (omega arith)), prefix_len-more is_run_byte xs ys (omega arith))))))))))

-- ---- no item but a blank takes the end of a line

abbrev NotWhole : ℕ → ItemKind × Option ℕ → Type 0
NotWhole n p = (kind : ItemKind) → p ≡ (kind, Some n) → ⊥

not_whole : (n : ℕ) (kind : ItemKind) (len : ℕ) → (len ≡ n → ⊥) → NotWhole n (kind, Some len)
not_whole n kind len other k e = other (len_of kind k len n e)

not_whole_if : (n : ℕ) (test : Bool) (p q : ItemKind × Option ℕ) → (test ≡ true → NotWhole n p) → NotWhole n q → NotWhole n (if test then p else q)
not_whole_if n true p q x y = x refl
not_whole_if n false p q x y = y

at_most : (passes : Bool) (a n : ℕ) → a ≤ n → cond passes (1 + a) 0 ≤ suc n
at_most true a n h = omega arith
at_most false a n h = omega arith

no_more : (passes : Bool) → passes ≡ false → cond passes (1 + 0) 0 ≤ 0
no_more true e = absurd cc
no_more false e = omega arith

-- a row ends before a byte that isn't of it
row_ends : (p : ℕ → Bool) (xs : List ℕ) (last : ℕ) → p last ≡ false → prefix_len p (xs ++ last ∷ []) ≤ length xs
row_ends p [] last e = no_more (p last) e
row_ends p (x ∷ xs) last e = at_most (p x) (prefix_len p (xs ++ last ∷ [])) (length xs) (row_ends p xs last e)

closes_before_if : (here : Bool) (o : Option ℕ) (n j : ℕ) → ((i : ℕ) → o ≡ Some i → i < n) → (if here then Some 0 else option_map suc o) ≡ Some j → j < suc n
closes_before_if true o n j h e = let first : 0 ≡ j = same_Some 0 j e in omega arith
closes_before_if false None n j h e = absurd (none-some j e)
closes_before_if false (Some i) n j h e =
    let next : suc i ≡ j = same_Some (suc i) j e in
    let less = h i refl in
    omega arith

-- no string closes with the end of a line
closes_before : (xs : List ℕ) (taken : Bool) (j : ℕ) → content_len taken (xs ++ line_feed ∷ []) ≡ Some j → j < length xs
closes_before [] taken j e = absurd (none-some j e)
closes_before (x ∷ xs) taken j e =
    closes_before_if ((x == quote) && not taken) _ (length xs) j (λ i. closes_before xs ((x == backslash) && not taken) i) e

string_not_whole : (xs : List ℕ) (o : Option ℕ) (n : ℕ) → n ≡ suc (suc (length xs)) → ((j : ℕ) → o ≡ Some j → j < length xs) → NotWhole n (Str, option_map (λ k. k + 2) o)
string_not_whole xs None n long h kind e = none-some n (ap (λ (p : ItemKind × Option ℕ). p.1) e)
string_not_whole xs (Some j) n long h kind e =
    let len : j + 2 ≡ n = len_of Str kind (j + 2) n e in
    let less = h j refl in
    omega arith

character_ends : (xs : List ℕ) → (xs ≡ [] → ⊥) → character_len (xs ++ line_feed ∷ []) ≤ length xs
character_ends [] some = absurd (some refl)
character_ends (x ∷ xs) some = let short = row_ends is_run_byte xs line_feed refl in omega arith

hash_not_whole : (xs : List ℕ) (n : ℕ) → n ≡ suc (suc (length xs)) → NotWhole n (hash_front (xs ++ line_feed ∷ []))
hash_not_whole [] n long = not_whole n Tag 1 (λ e. absurd (omega arith))
hash_not_whole (x ∷ xs) n long =
    let short = row_ends is_run_byte (x ∷ xs) line_feed refl in
    not_whole_if n (x == open_brace) _ _ (λ is. not_whole n Opener 2 (λ e. absurd (omega arith)))
    (not_whole_if n (x == underscore) _ _ (λ is. not_whole n Drop 2 (λ e. absurd (omega arith)))
    (not_whole_if n (x == hash) _ _ (λ is. not_whole n _ _ (λ e. absurd (omega arith))) (not_whole n _ _ (λ e. absurd (omega arith)))))

front_not_whole : (b : ℕ) (xs : List ℕ) (n : ℕ) → n ≡ suc (suc (length xs)) → (b ≡ backslash → xs ≡ [] → ⊥) → NotWhole n (front b (xs ++ line_feed ∷ []))
front_not_whole b xs n long taken =
    let short = row_ends is_run_byte xs line_feed refl in
    let comment = row_ends (λ c. not (c == line_feed)) xs line_feed refl in
    not_whole_if n (is_blank b) _ _ (λ is. not_whole n _ _ (λ e. absurd (omega arith)))
    (not_whole_if n (b == semicolon) _ _ (λ is. not_whole n _ _ (λ e. absurd (omega arith)))
    (not_whole_if n (b == quote) _ _ (λ is. string_not_whole xs _ n long (λ j. closes_before xs false j))
    (not_whole_if n (b == backslash) _ _
    (λ is. not_whole n _ _ (λ e. let char = character_ends xs (taken (eqb-true b backslash is)) in absurd (omega arith)))
    (not_whole_if n (is_opener b) _ _ (λ is. not_whole n _ _ (λ e. absurd (omega arith)))
    (not_whole_if n (is_closer b) _ _ (λ is. not_whole n _ _ (λ e. absurd (omega arith)))
    (not_whole_if n (b == hash) _ _ (λ is. hash_not_whole xs n long) (not_whole n _ _ (λ e. absurd (omega arith)))))))))

-- ---- items at the front of a text

-- a text that ends a line, and so do its ends
abbrev pub EndsSo : List ℕ → Type 0
EndsSo text = (text ≡ line_feed ∷ []) ⊎ EndsLine text

no_item : (before : List ℕ) (last : ℕ) (kind : ItemKind) (bytes : List ℕ) → last ≢ backslash
    → BeginsWith (before ++ last ∷ line_feed ∷ []) kind bytes → length bytes ≡ length (before ++ last ∷ line_feed ∷ []) → ⊥
no_item [] last kind bytes other begins long = front_not_whole last [] (length bytes) long (λ e none. other e) kind begins.0
no_item (b ∷ before) last kind bytes other begins long =
    let inner = before ++ last ∷ [] in
    let same : before ++ last ∷ line_feed ∷ [] ≡ inner ++ line_feed ∷ [] = sym (append_assoc before (last ∷ []) (line_feed ∷ [])) in
    let len : length (before ++ last ∷ line_feed ∷ []) ≡ length before + 2 = length-append before (last ∷ line_feed ∷ []) in
    let some : length inner ≡ length before + 1 = length-append before (last ∷ []) in
    front_not_whole b inner (length bytes) (omega arith) (λ e none. let no : length inner ≡ 0 = ap length none in absurd (omega arith)) kind
    (ap (front b) (sym same) ∙ begins.0)

pub item_ends : (text : List ℕ) (kind : ItemKind) (bytes : List ℕ) → EndsSo text → BeginsWith text kind bytes → (length bytes < length text) ⊎ (text ≡ line_feed ∷ [])
item_ends text kind bytes (inl is) begins = inr is
item_ends text kind bytes (inr (before, last, other, is)) begins =
    let long = (BeginsWith-len text kind bytes begins).1 in
    elim (eq-or-lt_of_le long) [
      | inl all ↦ absurd (no_item before last kind bytes other (subst (λ t. BeginsWith t kind bytes) is begins) (all ∙ ap length is))
      | inr less ↦ inl less
    ]

grown : (b : ℕ) (rest more : List ℕ) (kind : ItemKind) (bytes : List ℕ) (m : ℕ) → length rest ≡ suc m → length bytes < suc (length rest)
    → BeginsWith (b ∷ rest) kind bytes → BeginsWith (b ∷ rest ++ more) kind bytes
grown b rest more kind bytes m long less begins = (
  front-more b rest more m long kind (length bytes) begins.0 (omega arith),
  begins.1 ∙ sym (take-append-le (length bytes) (b ∷ rest) more (omega arith)),
)

pub BeginsWith-more : (text more : List ℕ) (kind : ItemKind) (bytes : List ℕ) → (length bytes < length text) ⊎ (text ≡ line_feed ∷ []) → BeginsWith text kind bytes → BeginsWith (text ++ more) kind bytes
BeginsWith-more [] more kind bytes stands begins = absurd begins
BeginsWith-more (b ∷ []) more kind bytes (inl less) begins =
    let some = (BeginsWith-len (b ∷ []) kind bytes begins).0 in absurd (omega arith)
BeginsWith-more (b ∷ c ∷ rest) more kind bytes (inl less) begins = grown b (c ∷ rest) more kind bytes (length rest) refl less begins
BeginsWith-more (b ∷ rest) more kind bytes (inr is) begins =
    subst (λ t. BeginsWith (t ++ more) kind bytes) (sym is) (line_end more kind bytes (subst (λ t. BeginsWith t kind bytes) is begins))
  where
    line_end : (more : List ℕ) (kind : ItemKind) (bytes : List ℕ) → BeginsWith (line_feed ∷ []) kind bytes → BeginsWith (line_feed ∷ more) kind bytes
    line_end more kind bytes begins =
        let one : 1 ≡ length bytes = len_of Blank kind 1 (length bytes) begins.0 in
        (begins.0, begins.1 ∙ (ap (λ n. take n (line_feed ∷ [])) (sym one) ∙ ap (λ n. take n (line_feed ∷ more)) one))

-- what is left of such a text behind an item
pub ends_so_behind : (text : List ℕ) (n : ℕ) → EndsSo text → n < length text → 0 < n → EndsSo (drop n text)
ends_so_behind text n (inl is) less some = let one : length text ≡ 1 = ap length is in absurd (omega arith)
ends_so_behind text n (inr (before, last, other, is)) less some = subst (λ t. EndsSo (drop n t)) (sym is) (by before n (subst (λ t. n < length t) is less))
  where
    by : (before : List ℕ) (n : ℕ) → n < length (before ++ last ∷ line_feed ∷ []) → EndsSo (drop n (before ++ last ∷ line_feed ∷ []))
    by [] zero h = inr ([], last, other, refl)
    by [] (suc zero) h = inl refl
    by [] (suc (suc n)) h = absurd (omega arith)
    by (b ∷ before) zero h = inr (b ∷ before, last, other, refl)
    by (b ∷ before) (suc n) h = by before n (omega arith)
