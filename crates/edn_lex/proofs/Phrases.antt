-- Bytes that a text is known to have at a place, and the tokens among them.
use Rattle.std.proofs.Common.{◌≡◌, ℕ, ◌+◌, ◌-◌, ◌<◌, ◌≤◌, ◌==◌, List, length, drop, take, get_or, true, false, sym, ◌∙◌, ap, arith, refl}
use Rattle.std.specs.Prelude.{slice_range}
use Rattle.std.proofs.lemmas.Bool.Decides.{nat_tests}
use Rattle.std.proofs.lemmas.List.{get_or-drop, get_or-take, take-take, drop-take, drop-drop}
use Rattle.hist_types.specs.Bytes.{is_run_byte}
use Rattle.hist_types.specs.Tokens.{ItemKind, run_len}
use Rattle.edn_lex.specs.declared.types.Token.{Token}
use Rattle.edn_lex.specs.Ahead.{IsLoneAt, IsWord}
use Rattle.edn_lex.specs.Kinds.{kind_of}
use Rattle.edn_lex.proofs.LookAhead.{word_begins, no_run_at}

-- the text has these bytes here
abbrev pub Has : List ℕ → ℕ → List ℕ → Type 0
Has text start bytes = bytes ≡ take (length bytes) (drop start text)

-- one of the bytes
pub byte_in : (text : List ℕ) (start : ℕ) (bytes : List ℕ) (k : ℕ) → Has text start bytes → k < length bytes → get_or text (start + k) 0 ≡ get_or bytes k 0
byte_in text start bytes k has within =
    sym (ap (λ (xs : List ℕ). get_or xs k 0) has ∙ get_or-take (length bytes) (drop start text) k 0 within ∙ get_or-drop start text k 0)

-- some of them
pub bytes_in : (text : List ℕ) (start : ℕ) (bytes : List ℕ) (k n : ℕ) → Has text start bytes → k + n ≤ length bytes → take n (drop k bytes) ≡ take n (drop (start + k) text)
bytes_in text start bytes k n has within =
    let rest = length bytes - k in
    let whole : length bytes ≡ k + rest = omega arith in
    ap (λ (xs : List ℕ). take n (drop k xs)) has ∙ ap (λ (m : ℕ). take n (drop k (take m (drop start text)))) whole ∙ ap (take n) (drop-take k rest (drop start text))
    ∙ take-take n rest (drop k (drop start text)) (omega arith) ∙ ap (take n) (drop-drop k start text)

-- a word with a byte after it that ends it
pub word_here :
    (text : List ℕ) (start : ℕ) (word : List ℕ) (kind : ItemKind) (after : ℕ) (t : Token) → Has text start word → get_or text (start + length word) 0 ≡ after → is_run_byte after ≡ false → IsWord word kind →
    (kind_of t.kind ≡ kind) × (t.start ≡ start) × (t.end ≡ start + length word) → IsLoneAt text start t
word_here text start word kind after t has ends no_run is at =
    word_begins text start (drop start text) word kind t refl has (ap run_len (drop-drop (length word) start text) ∙ no_run_at text (start + length word) after ends no_run) is at

pub same_byte : (a b : ℕ) → (a == b) ≡ true → a ≡ b
same_byte a b h = grind (arith, nat_tests)

-- a word among these bytes, before one of them that ends it
pub word_in :
    (text : List ℕ) (start : ℕ) (bytes : List ℕ) (k : ℕ) (word : List ℕ) (kind : ItemKind) (after : ℕ) (t : Token) → Has text start bytes → k + length word < length bytes → take (length word) (drop k bytes) ≡ word →
    get_or bytes (k + length word) 0 ≡ after → is_run_byte after ≡ false → IsWord word kind → (kind_of t.kind ≡ kind) × (t.start ≡ start + k) × (t.end ≡ start + k + length word) → IsLoneAt text (start + k) t
word_in text start bytes k word kind after t has within is ends no_run a_word at =
    let place : start + k + length word ≡ start + (k + length word) = omega arith in
    word_here text (start + k) word kind after t (sym is ∙ bytes_in text start bytes k (length word) has (omega arith))
    (ap (λ (n : ℕ). get_or text n 0) place ∙ byte_in text start bytes (k + length word) has within ∙ ends) no_run a_word at

-- its bytes
pub word_bytes_in : (text : List ℕ) (start : ℕ) (bytes : List ℕ) (k : ℕ) (word : List ℕ) → Has text start bytes → k + length word ≤ length bytes → take (length word) (drop k bytes) ≡ word → slice_range text (start + k) (start + k + length word) ≡ word
word_bytes_in text start bytes k word has within is =
    let n : start + k + length word - (start + k) ≡ length word = omega arith in
    ap (λ (m : ℕ). take m (drop (start + k) text)) n ∙ sym (bytes_in text start bytes k (length word) has within) ∙ is

-- and at their front
pub word_first :
    (text : List ℕ) (start : ℕ) (bytes word : List ℕ) (kind : ItemKind) (after : ℕ) (t : Token) → Has text start bytes → length word < length bytes → take (length word) bytes ≡ word → get_or bytes (length word) 0 ≡ after →
    is_run_byte after ≡ false → IsWord word kind → (kind_of t.kind ≡ kind) × (t.start ≡ start) × (t.end ≡ start + length word) → IsLoneAt text start t
word_first text start bytes word kind after t has within is ends no_run a_word at =
    let here : Has text start word = sym is ∙ ap (take (length word)) has ∙ take-take (length word) (length bytes) (drop start text) (omega arith) in
    word_here text start word kind after t here (byte_in text start bytes (length word) has within ∙ ends) no_run a_word at

pub word_bytes_first : (text : List ℕ) (start : ℕ) (bytes word : List ℕ) → Has text start bytes → length word ≤ length bytes → take (length word) bytes ≡ word → slice_range text start (start + length word) ≡ word
word_bytes_first text start bytes word has within is =
    let n : start + length word - start ≡ length word = omega arith in
    ap (λ (m : ℕ). take m (drop start text)) n ∙ sym (take-take (length word) (length bytes) (drop start text) within) ∙ ap (take (length word)) (sym has) ∙ is
