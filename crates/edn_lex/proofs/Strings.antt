-- Where the content of a string ends, told by the first quote or backslash.
use Rattle.std.proofs.Common.{◌≡◌, ℕ, zero, suc, ◌+◌, ◌-◌, ◌<◌, ◌≤◌, List, [], ◌∷◌, length, get_or, drop, Bool, true, false, ◌||◌, ◌&&◌, ◌==◌, Option, Some, None, refl, ◌∙◌, ap, arith}
use Rattle.std.specs.Option.{option_map}
use Rattle.std.proofs.lemmas.List.{drop_more, drop_all, drop-drop}
use Rattle.std.proofs.lemmas.Bool.Decides.{nat_tests}
use Rattle.memchr.specs.Find.{Passes, NoneBefore, Nowhere, is_byte2}
use Rattle.hist_types.specs.Tokens.{content_len}

-- a count that begins k bytes later
abbrev pub later : ℕ → Option ℕ → Option ℕ
later k o = option_map (λ n. k + n) o

-- a map after a map, which std gives no lemma for
later-later : (j k : ℕ) (o : Option ℕ) → later j (later k o) ≡ later (j + k) o
later-later j k None = refl
later-later j k (Some n) = ap (λ m. Some m) (omega arith)

-- a count that begins here
later-zero : (o : Option ℕ) → o ≡ later 0 o
later-zero None = refl
later-zero (Some n) = ap (λ m. Some m) (omega arith)

-- a count that begins one byte later
suc-later : (k : ℕ) (o : Option ℕ) → option_map suc (later k o) ≡ later (suc k) o
suc-later k None = refl
suc-later k (Some n) = ap (λ m. Some m) (omega arith)

-- a test beside one that fails
and-false : (b : Bool) → (b && false) ≡ false
and-false true = refl
and-false false = refl

-- two tests of which neither passes
or-false : (a b : Bool) → (a || b) ≡ false → (a ≡ false) × (b ≡ false)
or-false true b h = absurd (cc)
or-false false b h = (refl, h)

-- a count that begins two bytes later
suc-suc : (o : Option ℕ) → option_map suc (option_map suc o) ≡ later 2 o
suc-suc None = refl
suc-suc (Some n) = ap (λ m. Some m) (omega arith)

-- a byte that is neither a quote nor a backslash
content_len-plain : (b : ℕ) (rest : List ℕ) → is_byte2 34 92 b ≡ false → content_len false (b ∷ rest) ≡ option_map suc (content_len false rest)
content_len-plain b rest h =
    let parts = or-false (b == 34) (b == 92) h in
    let no_quote = parts.0 in
    let no_backslash = parts.1 in
    rw (no_quote, no_backslash) refl

-- a backslash takes the byte after it
content_len-backslash : (b : ℕ) (rest : List ℕ) → content_len false (92 ∷ b ∷ rest) ≡ later 2 (content_len false rest)
content_len-backslash b rest =
    let untaken = and-false (b == 34) in
    let plain = and-false (b == 92) in
    rw (untaken, plain) (suc-suc (content_len false rest))

-- a test that does not pass
pub is_false : (b : Bool) → ¬ (b ≡ true) → b ≡ false
is_false true h = absurd (h refl)
is_false false h = refl

-- bytes that are neither a quote nor a backslash are passed over
pub content_len-skip :
    (text : List ℕ) (k : ℕ) → k ≤ length text → ((j : ℕ) → j < k → ¬ (is_byte2 34 92 (get_or text j 0) ≡ true)) →
    content_len false text ≡ later k (content_len false (drop k text))
content_len-skip text zero within plain = later-zero (content_len false text)
content_len-skip [] (suc k) within plain = absurd (omega arith)
content_len-skip (b ∷ rest) (suc k) within plain =
    content_len-plain b rest (is_false _ (plain 0 (omega arith)))
    ∙ ap (option_map suc) (content_len-skip rest k (omega arith) (λ j h. plain (suc j) (omega arith)))
    ∙ suc-later k _

-- no quote and no backslash
pub content_len-none : (text : List ℕ) → Nowhere (Passes (is_byte2 34 92) text) 0 (length text) → content_len false text ≡ None
content_len-none text plain =
    content_len-skip text (length text) (omega arith) (λ j h. plain j (omega arith) h)
    ∙ ap (λ rest. later (length text) (content_len false rest)) (drop_all (length text) text (omega arith))

-- the first of them is a quote
pub content_len-quote :
    (text : List ℕ) (k : ℕ) → NoneBefore (Passes (is_byte2 34 92) text) 0 (length text) k → get_or text k 0 ≡ 34 →
    content_len false text ≡ Some k
content_len-quote text k first here =
    content_len-skip text k (omega arith) (λ j h. first.before j (omega arith) h)
    ∙ ap (λ rest. later k (content_len false rest)) (drop_more text k 0 first.high ∙ ap (λ b. b ∷ drop (k + 1) text) here)
    ∙ ap (λ m. Some m) (omega arith)

-- the first of them is a backslash, the last byte
pub content_len-cut :
    (text : List ℕ) (k : ℕ) → NoneBefore (Passes (is_byte2 34 92) text) 0 (length text) k → get_or text k 0 ≡ 92 → length text - k < 2 →
    content_len false text ≡ None
content_len-cut text k first here last =
    content_len-skip text k (omega arith) (λ j h. first.before j (omega arith) h)
    ∙ ap (λ rest. later k (content_len false rest))
    (drop_more text k 0 first.high ∙ ap (λ b. b ∷ drop (k + 1) text) here ∙ ap (λ rest. 92 ∷ rest) (drop_all (k + 1) text (omega arith)))

-- the first of them is a backslash that takes a byte
pub content_len-taken :
    (text : List ℕ) (k : ℕ) → NoneBefore (Passes (is_byte2 34 92) text) 0 (length text) k → get_or text k 0 ≡ 92 → 2 ≤ length text - k →
    content_len false text ≡ later (k + 2) (content_len false (drop (k + 2) text))
content_len-taken text k first here more =
    content_len-skip text k (omega arith) (λ j h. first.before j (omega arith) h)
    ∙ ap (λ rest. later k (content_len false rest))
    (drop_more text k 0 first.high ∙ ap (λ b. b ∷ drop (k + 1) text) here ∙ ap (λ rest. 92 ∷ rest) (drop_more text (k + 1) 0 (omega arith)))
    ∙ ap (later k) (content_len-backslash (get_or text (k + 1) 0) (drop (k + 1 + 1) text))
    ∙ later-later k 2 _
    ∙ ap (λ n. later (k + 2) (content_len false (drop n text))) (omega arith)

-- ---- the loop over the content: what has been passed is at bytes long

-- the content ends as many bytes after a place as the rest's content has
abbrev pub PassedTo : List ℕ → ℕ → Type 0
PassedTo text at = content_len false text ≡ later at (content_len false (drop at text))

-- an end was found in the rest
pub content_len-after : (text : List ℕ) (at k : ℕ) → PassedTo text at → content_len false (drop at text) ≡ Some k → content_len false text ≡ Some (at + k)
content_len-after text at k passed found = passed ∙ ap (later at) found

-- the rest has no end
pub content_len-never : (text : List ℕ) (at : ℕ) → PassedTo text at → content_len false (drop at text) ≡ None → content_len false text ≡ None
content_len-never text at passed found = passed ∙ ap (later at) found

-- more of the rest was passed over
pub content_len-on :
    (text : List ℕ) (at k : ℕ) → PassedTo text at → content_len false (drop at text) ≡ later k (content_len false (drop k (drop at text))) →
    PassedTo text (at + k)
content_len-on text at k passed found =
    passed ∙ ap (later at) found ∙ later-later at k _ ∙ ap (λ rest. later (at + k) (content_len false rest)) (drop-drop k at text)

-- of a quote and a backslash the byte is the backslash
pub is_backslash : (b : ℕ) → is_byte2 34 92 b ≡ true → ¬ (b ≡ 34) → b ≡ 92
is_backslash b h other = grind (arith, nat_tests)
