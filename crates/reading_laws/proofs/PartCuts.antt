-- Parts of a text that are cut as they are cut in the whole: an item's bytes alone decide it.
use Rattle.std.proofs.Common.{◌≡◌, inl, inr, ℕ, zero, suc, ◌+◌, ◌<◌, ◌≤◌, List, [], ◌∷◌, ◌++◌, length, take, drop, map, Bool, true, false, not, ◌==◌, ◌&&◌, cond, Option, Some, None, option_map, refl, sym, ◌∙◌, ap, subst, arith, take-take, length-drop, drop-drop}
use Rattle.std.specs.Prelude.{nat_lt}
use Rattle.std.specs.Bool.{if◌then◌else◌}
use Rattle.std.specs.List.{prefix_len}
use Rattle.std.specs.Str.Lossy.{utf8_valid_len}
use Rattle.std.proofs.lemmas.Bool.{eqb-true}
use Rattle.std.proofs.lemmas.List.{drop-take}
use Rattle.std.proofs.lemmas.Option.{none-some, same_Some}
use Rattle.hist_types.specs.Bytes.{is_blank, is_opener, is_closer, is_run_byte, quote, semicolon, backslash, hash, line_feed, open_brace, underscore}
use Rattle.reading_laws.specs.Placed.{item_from}
use Rattle.hist_types.specs.Tokens.{ItemKind, Blank, Comment, Opener, Closer, Str, Char, Drop, Tag, Item, run_of, run_len, run_kind, character_len, content_len, hash_front, front, BeginsWith, IsCut, item_fault, nesting_refusal, open_after, byte_fault}
use Rattle.hist_types.specs.declared.types.Fault.{Fault}
use Rattle.hist_types.specs.declared.types.Refusal.{Refusal}
use Rattle.hist_types.specs.declared.types.Refusal.TheVariants.{BadUtf8}
use Rattle.reading_laws.proofs.EachCut.{shape}

-- ---- what a front of a text keeps

take-nil : (m : ℕ) → (let none : List ℕ = [] in take m none ≡ none)
take-nil zero = refl
take-nil (suc m) = refl

counted :
    (passes : Bool) (a b m : ℕ)
    → (b ≤ m → a ≡ b)
    → cond passes (1 + b) 0 ≤ suc m
    → cond passes (1 + a) 0 ≡ cond passes (1 + b) 0
counted true a b m same h = ap (λ n. 1 + n) (same (omega arith))
counted false a b m same h = refl

-- a longest row that lies within the first m
prefix_len-take :
    (p : ℕ → Bool) (xs : List ℕ) (m : ℕ)
    → prefix_len p xs ≤ m
    → prefix_len p (take m xs) ≡ prefix_len p xs
prefix_len-take p [] m h = ap (prefix_len p) (take-nil m)
prefix_len-take p (x ∷ xs) zero h = let none : cond (p x) (1 + prefix_len p xs) 0 ≡ 0 = omega arith in sym none
prefix_len-take p (x ∷ xs) (suc m) h =
    counted (p x) (prefix_len p (take m xs)) (prefix_len p xs) m (prefix_len-take p xs m) h

run_of-take : (xs : List ℕ) (m : ℕ) → run_len xs ≤ m → run_of (take m xs) ≡ run_of xs
run_of-take xs m h = ap (λ n. take n (take m xs)) (prefix_len-take is_run_byte xs m h) ∙ take-take (run_len xs) m xs h

character_len-take : (xs : List ℕ) (m : ℕ) → character_len xs ≤ m → character_len (take m xs) ≡ character_len xs
character_len-take [] m h = ap character_len (take-nil m)
character_len-take (x ∷ xs) zero h = absurd (omega arith)
character_len-take (x ∷ xs) (suc m) h = ap suc (prefix_len-take is_run_byte xs m (omega arith))

-- the closing quote is here, or further on
pub closed_alike :
    (here : Bool) (x y : Option ℕ) (m k : ℕ)
    → ((j : ℕ) → x ≡ Some j → j < m → y ≡ Some j)
    → (if here then Some 0 else option_map suc x) ≡ Some k
    → k < suc m
    → (if here then Some 0 else option_map suc y) ≡ Some k
closed_alike true x y m k same e within = e
closed_alike false None y m k same e within = absurd (none-some k e)
closed_alike false (Some j) y m k same e within =
    let one_more : suc j ≡ k = same_Some (suc j) k e in
    ap (option_map suc) (same j refl (omega arith)) ∙ e

content_len-take :
    (xs : List ℕ) (taken : Bool) (m k : ℕ)
    → content_len taken xs ≡ Some k
    → k < m
    → content_len taken (take m xs) ≡ Some k
content_len-take [] taken m k e within = absurd (none-some k e)
content_len-take (x ∷ xs) taken zero k e within = absurd (omega arith)
content_len-take (x ∷ xs) taken (suc m) k e within =
    closed_alike ((x == quote) && not taken) _ _ m k
    (λ j. content_len-take xs ((x == backslash) && not taken) m j) e within

-- ---- an item in a front of a text that has all its bytes

-- what p says of an item of at most suc m bytes, q says too
abbrev pub Kept : ℕ → ItemKind × Option ℕ → ItemKind × Option ℕ → Type 0
Kept m p q = (kind : ItemKind) → (n : ℕ) → p ≡ (kind, Some n) → n ≤ suc m → q ≡ (kind, Some n)

pub kept_both :
    (m : ℕ) (test : Bool) (p q s t : ItemKind × Option ℕ)
    → Kept m p q
    → Kept m s t
    → Kept m (if test then p else s) (if test then q else t)
kept_both m true p q s t x y = x
kept_both m false p q s t x y = y

kept_either :
    (m : ℕ) (test : Bool) (p s q : ItemKind × Option ℕ)
    → Kept m p q
    → Kept m s q
    → Kept m (if test then p else s) q
kept_either m true p s q x y = x
kept_either m false p s q x y = y

pub kept_same : (m : ℕ) (p : ItemKind × Option ℕ) → Kept m p p
kept_same m p kind n e fits = e

pub len_of : (k l : ItemKind) (a b : ℕ) → (let p : ItemKind × Option ℕ = (k, Some a) in p ≡ (l, Some b)) → a ≡ b
len_of k l a b e = same_Some a b (ap (λ (p : ItemKind × Option ℕ). p.1) e)

pub kept_item :
    (m : ℕ) (k l : ItemKind) (a b : ℕ)
    → (a ≤ m → (l ≡ k) × (b ≡ a))
    → Kept m (k, Some (suc a)) (l, Some (suc b))
kept_item m k l a b same kind n e fits =
    let len : suc a ≡ n = len_of k kind (suc a) n e in
    let is = same (omega arith) in
    let by_kind : ItemKind → ItemKind × Option ℕ = λ x. (x, Some (suc b)) in
    let by_len : ℕ → ItemKind × Option ℕ = λ x. (k, Some (suc x)) in
    ap by_kind is.0 ∙ (ap by_len is.1 ∙ e)

-- an item of more than one byte has no room where nothing follows
kept_none : (k : ItemKind) (a : ℕ) (q : ItemKind × Option ℕ) → 0 < a → Kept 0 (k, Some (suc a)) q
kept_none k a q some kind n e fits = let len : suc a ≡ n = len_of k kind (suc a) n e in absurd (omega arith)

pub kept_string :
    (m : ℕ) (x y : Option ℕ)
    → ((j : ℕ) → x ≡ Some j → j < m → y ≡ Some j)
    → Kept m (Str, option_map (λ n. n + 2) x) (Str, option_map (λ n. n + 2) y)
kept_string m None y same kind n e fits = absurd (none-some n (ap (λ (p : ItemKind × Option ℕ). p.1) e))
kept_string m (Some j) y same kind n e fits =
    let len : j + 2 ≡ n = len_of Str kind (j + 2) n e in
    let by_content : Option ℕ → ItemKind × Option ℕ = λ o. (Str, option_map (λ n. n + 2) o) in
    ap by_content (same j refl (omega arith)) ∙ e

-- a hash alone is a tag
kept_hash_alone :
    (test : Bool) (k : ItemKind) (a : ℕ)
    → (test ≡ true → 0 < a)
    → Kept 0 (if test then (k, Some (suc a)) else (Tag, Some (suc a))) (Tag, Some 1)
kept_hash_alone true k a some = kept_none k a (Tag, Some 1) (some refl)
kept_hash_alone false k a some = kept_item 0 Tag Tag a 0 (λ h. (refl, omega arith))

hash_runs : (c : ℕ) (xs : List ℕ) → (c == hash) ≡ true → 0 < run_len (c ∷ xs)
hash_runs c xs e =
    let more : run_len (c ∷ xs) ≡ 1 + run_len xs = ap (λ x. run_len (x ∷ xs)) (eqb-true c hash e) in omega arith

kept_hash : (xs : List ℕ) (m : ℕ) → Kept m (hash_front xs) (hash_front (take m xs))
kept_hash [] zero = kept_same zero (hash_front [])
kept_hash [] (suc m) = kept_same (suc m) (hash_front [])
kept_hash (c ∷ xs) zero =
    kept_either 0 (c == open_brace) _ _ _ (kept_none Opener 1 _ (omega arith))
    (kept_either 0 (c == underscore) _ _ _ (kept_none Drop 1 _ (omega arith))
    (kept_hash_alone (c == hash) (run_kind (hash ∷ run_of (c ∷ xs))) (run_len (c ∷ xs)) (hash_runs c xs)))
kept_hash (c ∷ xs) (suc m) =
    kept_both (suc m) (c == open_brace) _ _ _ _ (kept_same (suc m) (Opener, Some 2))
    (kept_both (suc m) (c == underscore) _ _ _ _ (kept_same (suc m) (Drop, Some 2))
    (kept_both (suc m) (c == hash) _ _ _ _
    (kept_item (suc m) _ _ (run_len (c ∷ xs)) (run_len (take (suc m) (c ∷ xs)))
    (λ h. (
      ap (λ run. run_kind (hash ∷ run)) (run_of-take (c ∷ xs) (suc m) h),
      prefix_len-take is_run_byte (c ∷ xs)
          (suc m) h,
    )))
    (kept_item (suc m) Tag Tag (run_len (c ∷ xs)) (run_len (take (suc m) (c ∷ xs)))
    (λ h. (refl, prefix_len-take is_run_byte (c ∷ xs) (suc m) h)))))

front-take : (b : ℕ) (xs : List ℕ) (m : ℕ) → Kept m (front b xs) (front b (take m xs))
front-take b xs m =
    kept_both m (is_blank b) _ _ _ _ (kept_same m (Blank, Some 1))
    (kept_both m (b == semicolon) _ _ _ _
    (kept_item m Comment Comment _ _ (λ h. (refl, prefix_len-take (λ c. not (c == line_feed)) xs m h)))
    (kept_both m (b == quote) _ _ _ _ (kept_string m _ _ (λ j. content_len-take xs false m j))
    (kept_both m (b == backslash) _ _ _ _ (kept_item m Char Char _ _ (λ h. (refl, character_len-take xs m h)))
    (kept_both m (is_opener b) _ _ _ _ (kept_same m (Opener, Some 1))
    (kept_both m (is_closer b) _ _ _ _ (kept_same m (Closer, Some 1))
    (kept_both m (b == hash) _ _ _ _ (kept_hash xs m)
    (kept_item m _ _ (run_len xs) (run_len (take m xs))
    (λ h. (ap (λ run. run_kind (b ∷ run)) (run_of-take xs m h), prefix_len-take is_run_byte xs m h)))))))))

-- an item has bytes, all within the text
pub BeginsWith-len :
    (text : List ℕ) (kind : ItemKind) (bytes : List ℕ)
    → BeginsWith text kind bytes
    → (0 < length bytes) × (length bytes ≤ length text)
BeginsWith-len [] kind bytes begins = absurd begins
BeginsWith-len (b ∷ rest) kind bytes begins =
    elim (shape b rest) [
      | inl unclosed ↦ absurd (none-some (length bytes) (ap (λ (p : ItemKind × Option ℕ). p.1) (sym unclosed ∙ begins.0)))
      | inr found ↦
          let len : found.1 ≡ length bytes = len_of found.0 kind found.1 (length bytes) (sym found.2 ∙ begins.0) in
          let some : 0 < found.1 = found.3 in
          let fits : found.1 ≤ suc (length rest) = found.4 in
          (omega arith, omega arith)
    ]

pub BeginsWith-take :
    (text : List ℕ) (m : ℕ) (kind : ItemKind) (bytes : List ℕ)
    → BeginsWith text kind bytes
    → length bytes ≤ m
    → BeginsWith (take m text) kind bytes
BeginsWith-take [] m kind bytes begins h = absurd begins
BeginsWith-take (b ∷ rest) zero kind bytes begins h =
    let some = (BeginsWith-len (b ∷ rest) kind bytes begins).0 in absurd (omega arith)
BeginsWith-take (b ∷ rest) (suc m) kind bytes begins h =
    (front-take b rest m kind (length bytes) begins.0 h, begins.1 ∙ sym (take-take (length bytes) (suc m) (b ∷ rest) h))

-- ---- faults of one item

refused_alike :
    (invalid : Bool) (x y : Option Refusal) (m n i j : ℕ)
    → (x ≡ None → y ≡ None)
    → (if invalid then Some (byte_fault BadUtf8 m) else option_map (λ refusal. byte_fault refusal i) x) ≡ None
    → (if invalid then Some (byte_fault BadUtf8 n) else option_map (λ refusal. byte_fault refusal j) y) ≡ None
refused_alike true x y m n i j same e = absurd (none-some _ (sym e))
refused_alike false None y m n i j same e = ap (option_map (λ refusal. byte_fault refusal j)) (same refl)
refused_alike false (Some refusal) y m n i j same e = absurd (none-some _ (sym e))

-- an item without a fault has none at another place, nor inside other collections where it may stand
pub item_fault-elsewhere :
    (kind : ItemKind) (offset other : ℕ) (bytes closers others : List ℕ)
    → (nesting_refusal kind bytes closers ≡ None → nesting_refusal kind bytes others ≡ None)
    → item_fault kind offset bytes closers ≡ None
    → item_fault kind other bytes others ≡ None
item_fault-elsewhere kind offset other bytes closers others stands fine =
    refused_alike (nat_lt (utf8_valid_len bytes) (length bytes)) (nesting_refusal kind bytes closers)
    (nesting_refusal kind bytes others) _ _ offset other stands fine

-- ---- a cut in two

-- how many bytes the items have
abbrev pub width : List Item → ℕ
width [] = 0
width (i ∷ items) = length i.bytes + width items

-- the closers that are waited for behind the items
abbrev pub closers_after : List Item → List ℕ → List ℕ
closers_after [] closers = closers
closers_after (i ∷ items) closers = closers_after items (open_after i.kind i.bytes closers)

pub IsCut-front :
    (xs ys : List Item) (text : List ℕ) (offset : ℕ) (closers : List ℕ) (ending : Option Fault)
    → IsCut text offset closers (xs ++ ys) ending
    → IsCut (take (width xs) text) offset closers xs None
IsCut-front [] ys text offset closers ending cut = refl
IsCut-front (x ∷ xs) ys text offset closers ending cut = (
  BeginsWith-take text (length x.bytes + width xs) x.kind x.bytes cut.0 (omega arith),
  cut.1,
  cut.2,
  subst (λ t. IsCut t (offset + length x.bytes) (open_after x.kind x.bytes closers) xs None)
      (sym (drop-take (length x.bytes) (width xs) text))
      (IsCut-front xs ys (drop (length x.bytes) text) (offset + length x.bytes)
      (open_after x.kind x.bytes closers) ending cut.3),
)

pub IsCut-back :
    (xs ys : List Item) (text : List ℕ) (offset : ℕ) (closers : List ℕ) (ending : Option Fault)
    → IsCut text offset closers (xs ++ ys) ending
    → IsCut (drop (width xs) text) (offset + width xs) (closers_after xs closers) ys ending
IsCut-back [] ys text offset closers ending cut = subst (λ n. IsCut text n closers ys ending) (omega arith) cut
IsCut-back (x ∷ xs) ys text offset closers ending cut =
    let n = length x.bytes in
    let later = IsCut-back xs ys (drop n text) (offset + n) (open_after x.kind x.bytes closers) ending cut.3 in
    subst (λ t. IsCut t (offset + (n + width xs)) (closers_after (x ∷ xs) closers) ys ending)
    (drop-drop (width xs) n text)
    (subst (λ k. IsCut (drop (width xs) (drop n text)) k (closers_after (x ∷ xs) closers) ys ending)
    (omega arith) later)

pub IsCut-within :
    (xs ys : List Item) (text : List ℕ) (offset : ℕ) (closers : List ℕ) (ending : Option Fault)
    → IsCut text offset closers (xs ++ ys) ending
    → width xs ≤ length text
IsCut-within [] ys text offset closers ending cut = omega arith
IsCut-within (x ∷ xs) ys text offset closers ending cut =
    let len = BeginsWith-len text x.kind x.bytes cut.0 in
    let first : length x.bytes ≤ length text = len.1 in
    let later = IsCut-within xs ys (drop (length x.bytes) text) (offset + length x.bytes)
    (open_after x.kind x.bytes closers) ending cut.3 in
    omega (arith, length-drop (length x.bytes) text)

-- the same text from another offset
pub IsCut-moved :
    (k : ℕ) (xs : List Item) (text : List ℕ) (offset : ℕ) (closers : List ℕ)
    → IsCut text (k + offset) closers xs None
    → IsCut text offset closers (map (item_from k) xs) None
IsCut-moved k [] text offset closers cut = cut
IsCut-moved k (x ∷ xs) text offset closers cut =
    let start : x.start ≡ k + offset = cut.1 in
    let n = length x.bytes in (
      cut.0,
      omega arith,
      item_fault-elsewhere x.kind (k + offset) offset x.bytes closers closers (λ e. e) cut.2,
      IsCut-moved k xs (drop n text) (offset + n) (open_after x.kind x.bytes closers)
          (subst (λ o. IsCut (drop n text) o (open_after x.kind x.bytes closers) xs None) (omega arith) cut.3),
    )
