-- Each text has a cut.
use Rattle.std.proofs.Common.{◌≡◌, ◌⊎◌, ℕ, zero, suc, ◌+◌, ◌<◌, ◌≤◌, List, [], ◌∷◌, length, drop, take, Bool, true, false, not, ◌==◌, ◌&&◌, Option, Some, None, option_map, refl, sym, ◌∙◌, ap, arith, inl, inr, length-take-le, length-drop}
use Rattle.std.specs.Bool.{if◌then◌else◌}
use Rattle.std.specs.List.{prefix_len}
use Rattle.std.proofs.lemmas.List.Sums.{prefix_len-le-length}
use Rattle.hist_types.specs.declared.types.Fault.{Fault}
use Rattle.hist_types.specs.Bytes.{is_blank, is_opener, is_closer, is_run_byte, quote, semicolon, backslash, hash, line_feed, open_brace, underscore}
use Rattle.hist_types.specs.Tokens.{ItemKind, Blank, Comment, Opener, Closer, Str, Char, Drop, Tag, Item, run_of, run_len, run_kind, character_len, content_len, hash_front, front, BeginsWith, IsCut, item_fault, open_after, byte_fault, tokens_of, HasTokens}
use Rattle.hist_types.specs.declared.types.Refusal.TheVariants.{UnclosedString}
use Rattle.reading_laws.proofs.OneCut.{the_item}

-- An item within a text of n bytes, or a string that nothing closes.
abbrev pub IsShape : ℕ → ItemKind × Option ℕ → Type 0
IsShape n p = (p ≡ (Str, None)) ⊎ ((kind : ItemKind) × (len : ℕ) × (p ≡ (kind, Some len)) × (0 < len) × (len ≤ n))

-- each of two choices has the shape
either : (n : ℕ) (b : Bool) (p q : ItemKind × Option ℕ) → IsShape n p → IsShape n q → IsShape n (if b then p else q)
either n true p q x y = x
either n false p q x y = y

-- an item within the text
within : (n : ℕ) (kind : ItemKind) (len : ℕ) → 0 < len → len ≤ n → IsShape n (kind, Some len)
within n kind len some fits = inr (kind, len, refl, some, fits)

-- the content of a string ends within the text
abbrev EndsWithin : ℕ → Option ℕ → Type 0
EndsWithin n None = Unit {0}
EndsWithin n (Some k) = k < n

-- one byte more in front
EndsWithin-suc : (n : ℕ) (o : Option ℕ) → EndsWithin n o → EndsWithin (suc n) (option_map suc o)
EndsWithin-suc n None h = tt
EndsWithin-suc n (Some k) h = omega arith

-- an end here, or a later one
EndsWithin-if : (n : ℕ) (b : Bool) (o : Option ℕ) → EndsWithin (suc n) o → EndsWithin (suc n) (if b then Some 0 else o)
EndsWithin-if n true o h = omega arith
EndsWithin-if n false o h = h

-- the content of a string ends before the text does
content_len-within : (rest : List ℕ) (taken : Bool) → EndsWithin (length rest) (content_len taken rest)
content_len-within [] taken = tt
content_len-within (b ∷ rest) taken =
    EndsWithin-if (length rest) ((b == quote) && not taken) _
    (EndsWithin-suc (length rest) _ (content_len-within rest ((b == backslash) && not taken)))

-- a string, or one that nothing closes
string_shape : (n : ℕ) (o : Option ℕ) → EndsWithin n o → IsShape (suc n) (Str, option_map (λ k. k + 2) o)
string_shape n None h = inl refl
string_shape n (Some k) h = within (suc n) Str (k + 2) (omega arith) (omega arith)

-- a character lies within the text
character_len-le : (rest : List ℕ) → character_len rest ≤ length rest
character_len-le [] = omega arith
character_len-le (b ∷ rest) = let h = prefix_len-le-length is_run_byte rest in omega arith

-- a byte and a run lie within the text
run_shape : (rest : List ℕ) (kind : ItemKind) → IsShape (suc (length rest)) (kind, Some (suc (run_len rest)))
run_shape rest kind =
    let h = prefix_len-le-length is_run_byte rest in within _ kind (suc (run_len rest)) (omega arith) (omega arith)

-- what a hash begins lies within the text
hash_shape : (rest : List ℕ) → IsShape (suc (length rest)) (hash_front rest)
hash_shape [] = run_shape [] Tag
hash_shape (b ∷ rest) =
    either _ (b == open_brace) _ _ (within _ Opener 2 (omega arith) (omega arith))
    (either _ (b == underscore) _ _ (within _ Drop 2 (omega arith) (omega arith))
    (either _ (b == hash) _ _ (run_shape (b ∷ rest) (run_kind (hash ∷ run_of (b ∷ rest)))) (run_shape (b ∷ rest) Tag)))

-- what any byte begins lies within the text
pub shape : (b : ℕ) (rest : List ℕ) → IsShape (suc (length rest)) (front b rest)
shape b rest =
    let comment = prefix_len-le-length (λ c. not (c == line_feed)) rest in
    let character = character_len-le rest in
    either _ (is_blank b) _ _ (within _ Blank 1 (omega arith) (omega arith))
    (either _ (b == semicolon) _ _
    (within _ Comment (suc (prefix_len (λ c. not (c == line_feed)) rest)) (omega arith) (omega arith))
    (either _ (b == quote) _ _ (string_shape (length rest) (content_len false rest) (content_len-within rest false))
    (either _ (b == backslash) _ _ (within _ Char (suc (character_len rest)) (omega arith) (omega arith))
    (either _ (is_opener b) _ _ (within _ Opener 1 (omega arith) (omega arith))
    (either _ (is_closer b) _ _ (within _ Closer 1 (omega arith) (omega arith))
    (either _ (b == hash) _ _ (hash_shape rest) (run_shape rest (run_kind (b ∷ run_of rest)))))))))

-- a text with a cut
abbrev pub HasCut : List ℕ → ℕ → List ℕ → Type 0
HasCut text offset closers = (items : List Item) × (ending : Option Fault) × IsCut text offset closers items ending

-- the item at the front, and a cut of what follows unless it has a fault
cut_from :
    (b : ℕ) (rest : List ℕ) (offset : ℕ) (closers : List ℕ) (kind : ItemKind) (bytes : List ℕ)
    (refused : Option Fault) →
    BeginsWith (b ∷ rest) kind bytes → item_fault kind offset bytes closers ≡ refused →
    HasCut (drop (length bytes) (b ∷ rest)) (offset + length bytes) (open_after kind bytes closers) →
    HasCut (b ∷ rest) offset closers
cut_from b rest offset closers kind bytes None begins fine later =
    (the_item kind offset bytes ∷ later.0, later.1, (begins, refl, fine, later.2))
cut_from b rest offset closers kind bytes (Some fault) begins bad later =
    ([], Some fault, inr (kind, bytes, begins, bad))

-- texts of at most n bytes have cuts
cut_within : (n : ℕ) (text : List ℕ) (offset : ℕ) (closers : List ℕ) → length text ≤ n → HasCut text offset closers
cut_within n [] offset closers h = ([], None, refl)
cut_within zero (b ∷ rest) offset closers h = absurd (omega arith)
cut_within (suc n) (b ∷ rest) offset closers h =
    elim (shape b rest) [
      | inl open_string ↦ ([], Some (byte_fault UnclosedString offset), inl (open_string, refl))
      | inr found ↦
          let kind = found.0 in
          let bytes = take found.1 (b ∷ rest) in
          let len : length bytes ≡ found.1 = length-take-le found.1 (b ∷ rest) found.4 in
          let begins : BeginsWith (b ∷ rest) kind bytes =
          (found.2 ∙ ap (λ m. (kind, Some m)) (sym len), ap (λ m. take m (b ∷ rest)) (sym len)) in
          let some : 0 < found.1 = found.3 in
          let shorter : length (drop (length bytes) (b ∷ rest)) ≤ n =
          omega (arith, length-drop (length bytes) (b ∷ rest)) in
          cut_from b rest offset closers kind bytes _ begins refl
          (cut_within n (drop (length bytes) (b ∷ rest)) (offset + length bytes)
          (open_after kind bytes closers) shorter)
    ]

-- each text has a cut, from any offset and inside any collections
pub each_cut : (text : List ℕ) (offset : ℕ) (closers : List ℕ) → HasCut text offset closers
each_cut text offset closers = cut_within (length text) text offset closers (omega arith)

-- each text has a row of tokens
pub each_row_of_tokens : (text : List ℕ) → (tokens : List Item) × (ending : Option Fault) × HasTokens text tokens ending
each_row_of_tokens text =
    let found = each_cut text 0 [] in
    (tokens_of found.0, found.1, (found.0, found.2, refl))
