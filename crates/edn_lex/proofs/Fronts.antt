-- What stands at the front of a text, from its first bytes.
use Rattle.std.proofs.Common.{◌≡◌, ℕ, suc, ◌+◌, ◌<◌, ◌≤◌, List, [], ◌∷◌, length, drop, take, Bool, true, false, ◌||◌, not, ◌==◌, nat_eq, cond, Some, refl, sym, ◌∙◌, ap, arith, length-take-le}
use Rattle.std.specs.List.{prefix_len}
use Rattle.std.proofs.lemmas.Bool.Decides.{nat_tests}
use Rattle.hist_types.specs.Bytes.{is_blank, is_opener, is_closer, is_run_byte, quote, semicolon, hash, open_brace, underscore}
use Rattle.hist_types.specs.Tokens.{ItemKind, Blank, run_of, run_len, first_byte, run_kind, front, hash_front, BeginsWith}

-- where none of five tests passes
none_of :
    (a b c d e : Bool) → not (a || b || c || d || e) ≡ true →
    (a ≡ false) × (b ≡ false) × (c ≡ false) × (d ≡ false) × (e ≡ false)
none_of true b c d e h = absurd (cc)
none_of false true c d e h = absurd (cc)
none_of false false true d e h = absurd (cc)
none_of false false false true e h = absurd (cc)
none_of false false false false true h = absurd (cc)
none_of false false false false false h = (refl, refl, refl, refl, refl)

-- numbers that differ
is_false : (a b : ℕ) → ¬ (a ≡ b) → nat_eq a b ≡ false
is_false a b h = grind (arith, nat_tests)

-- a run that goes on over the first byte
pub run_len-cons : (b : ℕ) (rest : List ℕ) → is_run_byte b ≡ true → run_len (b ∷ rest) ≡ suc (run_len rest)
run_len-cons b rest h = let runs : is_run_byte b ≡ true = h in rw runs (omega arith)

-- such a run, as bytes
run_of-cons : (b : ℕ) (rest : List ℕ) → is_run_byte b ≡ true → run_of (b ∷ rest) ≡ b ∷ run_of rest
run_of-cons b rest h = ap (λ n. take n (b ∷ rest)) (run_len-cons b rest h)

-- a count that begins with 1 tells that the test passed
passes_by : (b : Bool) (n : ℕ) → 0 < cond b (1 + n) 0 → b ≡ true
passes_by true n h = refl
passes_by false n h = absurd (omega arith)

-- the first of a longest front that is not empty passes the test
first_passes : (p : ℕ → Bool) (b : ℕ) (rest : List ℕ) → 0 < prefix_len p (b ∷ rest) → p b ≡ true
first_passes p b rest h = passes_by (p b) (prefix_len p rest) h

-- a run that is not empty goes on over the first byte
is_run_byte-first : (b : ℕ) (rest : List ℕ) → 0 < run_len (b ∷ rest) → is_run_byte b ≡ true
is_run_byte-first b rest h = first_passes is_run_byte b rest h

-- a run that begins with no backslash and no hash
front-run_cons : (b : ℕ) (rest : List ℕ) → is_run_byte b ≡ true → ¬ (b ≡ 92) → ¬ (b ≡ 35) → front b rest ≡ (run_kind (b ∷ run_of rest), Some (suc (run_len rest)))
front-run_cons b rest h not_backslash not_hash =
    let plain = none_of (is_blank b) (is_opener b) (is_closer b) (b == quote) (b == semicolon) h in
    let no_blank = plain.0 in
    let no_opener = plain.1 in
    let no_closer = plain.2 in
    let no_quote = plain.3 in
    let no_semicolon = plain.4 in
    let no_backslash = is_false b 92 not_backslash in
    let no_hash = is_false b 35 not_hash in
    rw (no_blank, no_semicolon, no_quote, no_backslash, no_opener, no_closer, no_hash) refl

-- the same of a whole text
pub front-run :
    (text : List ℕ) → 0 < run_len text → ¬ (first_byte text ≡ 92) → ¬ (first_byte text ≡ 35) →
    front (first_byte text) (drop 1 text) ≡ (run_kind (run_of text), Some (run_len text))
front-run [] h n m = absurd (omega arith)
front-run (b ∷ rest) h n m =
    let runs = is_run_byte-first b rest h in
    front-run_cons b rest runs n m
    ∙ sym (ap (λ p. (run_kind p, Some (suc (run_len rest)))) (run_of-cons b rest runs))
    ∙ sym (ap (λ p. (run_kind (run_of (b ∷ rest)), Some p)) (run_len-cons b rest runs))

-- a byte that no other item begins with, nor a blank
pub run_len-some :
    (text : List ℕ) → 0 < length text → is_blank (first_byte text) ≡ false → is_opener (first_byte text) ≡ false → is_closer (first_byte text) ≡ false →
    ¬ (first_byte text ≡ 34) → ¬ (first_byte text ≡ 59) → 0 < run_len text
run_len-some [] some no_blank no_opener no_closer not_quote not_semicolon = some
run_len-some (b ∷ rest) some no_blank no_opener no_closer not_quote not_semicolon =
    let no_quote = is_false b 34 not_quote in
    let no_semicolon = is_false b 59 not_semicolon in
    let runs : is_run_byte b ≡ true = rw (no_blank, no_opener, no_closer, no_quote, no_semicolon) refl in
    let len = run_len-cons b rest runs in
    omega arith

-- a text that begins with a blank
pub front-blank : (b : ℕ) (rest : List ℕ) → is_blank b ≡ true → front b rest ≡ (Blank, Some 1)
front-blank b rest h = rw h refl

-- what follows the first of two hashes
hash_front-two : (rest : List ℕ) → first_byte rest ≡ 35 → hash_front rest ≡ (run_kind (run_of (35 ∷ rest)), Some (run_len (35 ∷ rest)))
hash_front-two rest k =
    let no_brace : (first_byte rest == open_brace) ≡ false = ap (λ b. b == open_brace) k in
    let no_underscore : (first_byte rest == underscore) ≡ false = ap (λ b. b == underscore) k in
    let a_hash : (first_byte rest == hash) ≡ true = ap (λ b. b == hash) k in
    rw (no_brace, no_underscore, a_hash)
    (sym (ap (λ p. (run_kind p, Some (suc (run_len rest)))) (run_of-cons 35 rest refl))
    ∙ sym (ap (λ p. (run_kind (run_of (35 ∷ rest)), Some p)) (run_len-cons 35 rest refl)))

-- two hashes begin a run
pub hash_front-run :
    (text : List ℕ) → 0 < length text → first_byte text ≡ 35 → first_byte (drop 1 text) ≡ 35 →
    hash_front (drop 1 text) ≡ (run_kind (run_of text), Some (run_len text))
hash_front-run [] some h k = absurd (omega arith)
hash_front-run (b ∷ rest) some h k =
    hash_front-two rest k
    ∙ ap (λ c. (run_kind (run_of (c ∷ rest)), Some (run_len (c ∷ rest)))) (sym h)

-- the item that stands at the front
pub BeginsWith-front :
    (text : List ℕ) (kind : ItemKind) (n : ℕ) → 0 < length text → n ≤ length text → front (first_byte text) (drop 1 text) ≡ (kind, Some n) →
    BeginsWith text kind (take n text)
BeginsWith-front [] kind n some fits h = absurd (omega arith)
BeginsWith-front (b ∷ rest) kind n some fits h =
    let len : length (take n (b ∷ rest)) ≡ n = length-take-le n (b ∷ rest) fits in
    (h ∙ ap (λ m. (kind, Some m)) (sym len), ap (λ m. take m (b ∷ rest)) (sym len))
