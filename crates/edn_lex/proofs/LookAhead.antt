-- Tokens that are found by looking ahead are those that calls give.
use Rattle.std.proofs.Common.{◌≡◌, ℕ, zero, suc, ◌+◌, ◌-◌, ◌<◌, ◌≤◌, List, [], ◌∷◌, length, drop, take, get_or, Bool, true, false, cond, nat_le, Option, Some, None, Ok, refl, sym, ◌∙◌, ap, arith, subst, length-drop, IfSome, MatchOption, lit<, ◌++◌, not, ◌||◌, ◌==◌, nat_lt}
use Rattle.std.specs.Prelude.{bytes_eq, codes, slice_range}
use Rattle.std.specs.Str.{IsAscii}
use Rattle.std.specs.Str.Lossy.{utf8_valid_len}
use Rattle.std.proofs.lemmas.Bool.Decides.{nat_tests}
use Rattle.std.proofs.lemmas.Bool.{and_from, and_parts, lt-ltb, ltb-true}
use Rattle.std.specs.List.{list_all}
use Rattle.std.specs.Char.{is_ascii_digit}
use Rattle.std.proofs.lemmas.List.{get_or-drop, length-append, take-append-drop}
use Rattle.std.proofs.Math.Seq.{take-append_seam}
use Rattle.std.proofs.lemmas.Str.{utf8_valid_len-IsUtf8, IsUtf8-from_ascii}
use Rattle.hist_types.specs.Bytes.{is_blank, is_run_byte, colon, zero_digit, open_square, close_square, open_brace, close_brace}
use Rattle.hist_types.specs.Tokens.{ItemKind, Blank, Opener, Closer, Tag, Nil, True, False, Int, Keyword, Symbol, Other, first_byte, closer_of, front, is_token, is_int, is_keyword, is_symbol, run_of, run_len, run_kind, nesting_refusal, open_after}
use Rattle.hist_types.specs.declared.limits.TheConstants.{MAX_OPEN_COLLECTIONS}
use Rattle.hist_types.specs.declared.types.Refusal.TheVariants.{TooDeep}
use Rattle.edn_lex.specs.declared.types.Token.{Token}
use Rattle.edn_lex.specs.declared.types.TokenKind.TheVariants as kinds
use Rattle.edn_lex.specs.Ahead.{is_lone, going_at, IsGap, IsTokenAt, IsLoneAt, IsWord, GivesAhead, GivesLone, GivesOpener, GivesCloser}
use Rattle.edn_lex.specs.Flags.{is_plain}
use Rattle.edn_lex.specs.Kinds.{kind_of, item_of, is_low}
use Rattle.edn_lex.specs.State.{GivesToken, Passes}
use Rattle.edn_lex.proofs.Flags.{IsAscii_from_low}
use Rattle.edn_lex.proofs.Fronts.{front-run, run_len-cons}
use Rattle.edn_lex.proofs.RunKinds.{digits_are, digits_low, keyword_is}
use Rattle.edn_lex.proofs.Passing.{passes, passes_blank}
use Rattle.edn_lex.proofs.Steps.{Gapped, Gapped-refl, Gapped-more, GivesToken-from}

-- ---- blanks

-- blanks are a gap
gapped_by : (n : ℕ) (text closers : List ℕ) (offset : ℕ) → offset + n ≤ length text → ((k : ℕ) → offset ≤ k → k < offset + n → is_blank (get_or text k 0) ≡ true) → Gapped (going_at text offset closers) (going_at text (offset + n) closers)
gapped_by zero text closers offset fits blanks =
    subst (λ (k : ℕ). Gapped (going_at text offset closers) (going_at text k closers)) (let e : offset ≡ offset + 0 = omega arith in e) (Gapped-refl (going_at text offset closers))
gapped_by (suc n) text closers offset fits blanks =
    let t = going_at text (offset + n) closers in
    let front = gapped_by n text closers offset (omega arith) (λ k low high. blanks k low (omega arith)) in
    subst (λ (k : ℕ). Gapped (going_at text offset closers) (going_at text k closers)) (let e : offset + n + 1 ≡ offset + suc n = omega arith in e)
    (Gapped-more (going_at text offset closers) t (going_at text (offset + n + 1) closers) Blank 1 front (passes_blank t (omega arith) (blanks (offset + n) (omega arith) (omega arith))) refl)

gapped : (text closers : List ℕ) (offset start : ℕ) → offset ≤ start → start ≤ length text → ((k : ℕ) → offset ≤ k → k < start → is_blank (get_or text k 0) ≡ true) → Gapped (going_at text offset closers) (going_at text start closers)
gapped text closers offset start low fits blanks =
    let e : offset + (start - offset) ≡ start = omega arith in
    subst (λ (k : ℕ). Gapped (going_at text offset closers) (going_at text k closers)) e (gapped_by (start - offset) text closers offset (omega arith) (λ k below high. blanks k below (omega arith)))

-- ---- an item behind them

ascii_valid : (bytes : List ℕ) → IsAscii bytes → utf8_valid_len bytes ≡ length bytes
ascii_valid bytes ascii = utf8_valid_len-IsUtf8 bytes (IsUtf8-from_ascii bytes ascii)

-- the item at `start` is this token, where these collections are open before and after it
given_at :
    (text : List ℕ) (offset start : ℕ) (xs : List ℕ) (kind : ItemKind) (len : ℕ) (t : Token) (closers after : List ℕ) →
    Gapped (going_at text offset closers) (going_at text start closers) → xs ≡ drop start text → start ≤ length text → 0 < len → len ≤ length xs →
    front (first_byte xs) (drop 1 xs) ≡ (kind, Some len) → utf8_valid_len (take len xs) ≡ length (take len xs) → None ≡ nesting_refusal kind (take len xs) closers → after ≡ open_after kind (take len xs) closers →
    (kind_of t.kind ≡ kind) × (t.start ≡ start) × (t.end ≡ start + len) → GivesToken (going_at text offset closers) t (going_at text t.end after)
given_at text offset start xs kind len t closers after gap same within some fits found valid fine opens is =
    let s = going_at text start closers in
    let passed : Passes s (Ok (Some t)) (going_at text (start + len) after) = passes s xs kind len same (omega arith) fits found after (Some t) within some valid fine opens is in
    GivesToken-from (going_at text offset closers) s (going_at text t.end after) t gap refl (subst (λ (k : ℕ). Passes s (Ok (Some t)) (going_at text k after)) (sym is.2) passed)

-- the item at `start` is this token, wherever it may be
pub token_given :
    (text : List ℕ) (offset start : ℕ) (xs : List ℕ) (kind : ItemKind) (len : ℕ) (t : Token) → IsGap text offset start → xs ≡ drop start text → 0 < len → len ≤ length xs →
    front (first_byte xs) (drop 1 xs) ≡ (kind, Some len) → utf8_valid_len (take len xs) ≡ length (take len xs) → (kind_of t.kind ≡ kind) × (t.start ≡ start) × (t.end ≡ start + len) → GivesAhead text offset t
token_given text offset start xs kind len t gap same some fits found valid is =
    let low = gap.low in
    let within = gap.fits in
    let start_is = is.1 in
    let end_is = is.2 in
    let all : length xs ≡ length text - start = ap length same ∙ length-drop start text in
    let n : t.end - t.start ≡ len = omega arith in
    let bytes : slice_range text t.start t.end ≡ take len xs = ap (λ (k : ℕ). take k (drop t.start text)) n ∙ ap (λ (k : ℕ). take len (drop k text)) start_is ∙ ap (take len) (sym same) in
    record {
      low = omega arith;
      some = omega arith;
      fits = omega arith;
      gives = λ closers fine.
          given_at text offset start xs kind len t closers (open_after (kind_of t.kind) (slice_range text t.start t.end) closers) (gapped text closers offset start low within gap.blanks) same within some fits found valid
          (sym fine ∙ ap (λ (k : ItemKind). nesting_refusal k (slice_range text t.start t.end) closers) is.0 ∙ ap (λ (bs : List ℕ). nesting_refusal kind bs closers) bytes)
          (ap (λ (k : ItemKind). open_after k (slice_range text t.start t.end) closers) is.0 ∙ ap (λ (bs : List ℕ). open_after kind bs closers) bytes) is;
    }

pub token_found :
    (o : Option Token) (text : List ℕ) (start : ℕ) (xs : List ℕ) (kind : ItemKind) (len : ℕ) → xs ≡ drop start text → 0 < len → len ≤ length xs →
    front (first_byte xs) (drop 1 xs) ≡ (kind, Some len) → utf8_valid_len (take len xs) ≡ length (take len xs) →
    MatchOption o (is_token kind ≡ false) (λ t. (kind_of t.kind ≡ kind) × (t.start ≡ start) × (t.end ≡ start + len)) → IfSome o (IsTokenAt text start)
token_found None text start xs kind len same some fits found valid is = tt
token_found (Some t) text start xs kind len same some fits found valid is = λ offset gap. token_given text offset start xs kind len t gap same some fits found valid is

-- ---- forms by themselves

run_by : (nil yes_word no_word int key name : Bool) → is_lone (cond nil Nil (cond yes_word True (cond no_word False (cond int Int (cond key Keyword (cond name Symbol Other)))))) ≡ true
run_by true yes_word no_word int key name = refl
run_by false true no_word int key name = refl
run_by false false true int key name = refl
run_by false false false true key name = refl
run_by false false false false true name = refl
run_by false false false false false true = refl
run_by false false false false false false = refl

-- a run is a form by itself
lone_run : (run : List ℕ) → is_lone (run_kind run) ≡ true
lone_run run = run_by (bytes_eq run (codes "nil")) (bytes_eq run (codes "true")) (bytes_eq run (codes "false")) (is_int run) (is_keyword run) (is_symbol run)

-- such a token may be anywhere, and leaves open what was
lone_nests : (kind : ItemKind) (bytes closers : List ℕ) → is_lone kind ≡ true → (None ≡ nesting_refusal kind bytes closers) × (closers ≡ open_after kind bytes closers)
lone_nests kind bytes closers = elim kind as (λ k. is_lone k ≡ true → (None ≡ nesting_refusal k bytes closers) × (closers ≡ open_after k bytes closers)) [
  | Opener ↦ λ h. cc
  | Closer ↦ λ h. cc
  | _ ↦ λ h. (refl, refl)
]

pub lone_ahead : (text : List ℕ) (offset : ℕ) (t : Token) → is_lone (kind_of t.kind) ≡ true → GivesAhead text offset t → GivesLone text offset t
lone_ahead text offset t lone g =
    record {
      lone = lone;
      gives = λ closers.
          let nests = lone_nests (kind_of t.kind) (item_of text t).bytes closers lone in
          subst (λ (cs : List ℕ). GivesToken (going_at text offset closers) t (going_at text t.end cs)) (sym nests.1) (g.gives closers (sym nests.0));
    }

-- such a token may be anywhere
pub ahead_lone : (text : List ℕ) (offset : ℕ) (t : Token) → GivesLone text offset t → GivesAhead text offset t
ahead_lone text offset t g =
    let first = g.gives [] in
    record {
      low = first.low;
      some = first.some;
      fits = first.fits;
      gives = λ closers fine.
          let nests = lone_nests (kind_of t.kind) (item_of text t).bytes closers g.lone in
          subst (λ (cs : List ℕ). GivesToken (going_at text offset closers) t (going_at text t.end cs)) nests.1 (g.gives closers);
    }

run_given :
    (text : List ℕ) (offset start : ℕ) (xs run : List ℕ) (len : ℕ) (t : Token) → IsGap text offset start → xs ≡ drop start text → 0 < len → len ≤ length xs →
    front (first_byte xs) (drop 1 xs) ≡ (run_kind run, Some len) → IsAscii (take len xs) → (kind_of t.kind ≡ run_kind run) × (t.start ≡ start) × (t.end ≡ start + len) → GivesLone text offset t
run_given text offset start xs run len t gap same some fits found ascii is =
    lone_ahead text offset t (ap is_lone is.0 ∙ lone_run run) (token_given text offset start xs (run_kind run) len t gap same some fits found (ascii_valid (take len xs) ascii) is)

-- a token is found behind blanks
pub token_behind : (o : Option Token) (text : List ℕ) (offset start : ℕ) → IsGap text offset start → IfSome o (IsTokenAt text start) → IfSome o (GivesAhead text offset)
token_behind None text offset start gap h = tt
token_behind (Some t) text offset start gap h = h offset gap

-- and a form by itself is
pub lone_behind : (o : Option Token) (text : List ℕ) (offset start : ℕ) → IsGap text offset start → IfSome o (IsLoneAt text start) → IfSome o (GivesLone text offset)
lone_behind None text offset start gap h = tt
lone_behind (Some t) text offset start gap h = h offset gap

-- ---- words

-- a run ends where its bytes do and no other follows
run_ends : (run rest : List ℕ) → list_all is_run_byte run ≡ true → run_len rest ≡ 0 → run_len (run ++ rest) ≡ length run
run_ends [] rest runs none = none
run_ends (b ∷ run) rest runs none =
    let parts = and_parts (is_run_byte b) (list_all is_run_byte run) runs in
    run_len-cons b (run ++ rest) parts.0 ∙ ap suc (run_ends run rest parts.1 none)

other_byte : (b c : ℕ) → (b == c) ≡ false → ¬ (b ≡ c)
other_byte b c h e = grind (arith, nat_tests)

first_of : (run rest : List ℕ) → 0 < length run → first_byte (run ++ rest) ≡ first_byte run
first_of [] rest some = absurd (omega arith)
first_of (b ∷ run) rest some = refl

-- the text begins with a word, and no run goes on behind it
pub word_found :
    (text : List ℕ) (start : ℕ) (xs word rest : List ℕ) (kind : ItemKind) (t : Token) → xs ≡ drop start text → xs ≡ word ++ rest → run_len rest ≡ 0 → IsWord word kind →
    (kind_of t.kind ≡ kind) × (t.start ≡ start) × (t.end ≡ start + length word) → IsLoneAt text start t
word_found text start xs word rest kind t same split none is at = λ offset gap.
    let some : 0 < length word = ltb-true 0 (length word) is.0 in
    let len : run_len xs ≡ length word = ap run_len split ∙ run_ends word rest is.1 none in
    let run : run_of xs ≡ word = ap (λ (n : ℕ). take n xs) len ∙ ap (take (length word)) split ∙ take-append_seam word rest in
    let first : first_byte xs ≡ first_byte word = ap first_byte split ∙ first_of word rest some in
    let found : front (first_byte xs) (drop 1 xs) ≡ (run_kind word, Some (length word)) =
    front-run xs (omega arith) (λ e. other_byte (first_byte word) 92 is.4 (sym first ∙ e)) (λ e. other_byte (first_byte word) 35 is.3 (sym first ∙ e))
    ∙ ap (λ (r : List ℕ). (run_kind r, Some (run_len xs))) run ∙ ap (λ (n : ℕ). (run_kind word, Some n)) len in
    let bytes : take (length word) xs ≡ word = ap (take (length word)) split ∙ take-append_seam word rest in
    run_given text offset start xs word (length word) t gap same some (let n = ap length split in omega (arith, length-append word rest)) found
    (subst IsAscii (sym bytes) (IsAscii_from_low word is.2)) (at.0 ∙ sym is.5, at.1, at.2)

-- what is left of a text begins with it
pub word_begins :
    (text : List ℕ) (start : ℕ) (xs word : List ℕ) (kind : ItemKind) (t : Token) → xs ≡ drop start text → word ≡ take (length word) xs → run_len (drop (length word) xs) ≡ 0 → IsWord word kind →
    (kind_of t.kind ≡ kind) × (t.start ≡ start) × (t.end ≡ start + length word) → IsLoneAt text start t
word_begins text start xs word kind t same begins none is at =
    word_found text start xs word (drop (length word) xs) kind t same (sym (take-append-drop (length word) xs) ∙ ap (λ (ws : List ℕ). ws ++ drop (length word) xs) (sym begins)) none is at

pub word_bytes : (text : List ℕ) (start : ℕ) (xs word : List ℕ) → xs ≡ drop start text → word ≡ take (length word) xs → slice_range text start (start + length word) ≡ word
word_bytes text start xs word same begins =
    let n : start + length word - start ≡ length word = omega arith in
    ap (λ (k : ℕ). take k (drop start text)) n ∙ ap (take (length word)) (sym same) ∙ sym begins

pub first_at : (text : List ℕ) (start b : ℕ) → get_or text start 0 ≡ b → first_byte (drop start text) ≡ b
first_at text start b e = get_or-drop start text 0 0 ∙ ap (λ n. get_or text n 0) (omega arith) ∙ e

no_run : (xs : List ℕ) (b : ℕ) → first_byte xs ≡ b → is_run_byte b ≡ false → run_len xs ≡ 0
no_run [] b first ends = refl
no_run (x ∷ xs) b first ends = let stops : is_run_byte x ≡ false = ap is_run_byte first ∙ ends in rw stops refl

-- no run goes on where a byte is that ends it
pub no_run_at : (text : List ℕ) (at b : ℕ) → get_or text at 0 ≡ b → is_run_byte b ≡ false → run_len (drop at text) ≡ 0
no_run_at text at b is ends = no_run (drop at text) b (first_at text at b is) ends

-- ---- a space

-- the text begins with a space
pub record BeginsWithSpace (xs : List ℕ) : Type 0 where
  pub some : 0 < length xs
  pub first : first_byte xs ≡ 32
  pub no_run : run_len xs ≡ 0

pub space_first : (xs : List ℕ) → codes " " ≡ take 1 xs → BeginsWithSpace xs
space_first [] e = absurd (let n = ap length e in omega arith)
space_first (x ∷ xs) e =
    let is : 32 ≡ x = ap first_byte e in
    subst (λ (b : ℕ). BeginsWithSpace (b ∷ xs)) is (record { some = omega arith; first = refl; no_run = refl })

pub space_gap : (text : List ℕ) (at : ℕ) → BeginsWithSpace (drop at text) → IsGap text at (at + 1)
space_gap text at space =
    let some = space.some in
    let here : get_or text at 0 ≡ 32 = ap (λ (n : ℕ). get_or text n 0) (let e : at ≡ at + 0 = omega arith in e) ∙ sym (get_or-drop at text 0 0) ∙ space.first in
    record {
      low = omega arith;
      fits = omega (arith, length-drop at text);
      blanks = λ k low high. let same : k ≡ at = omega arith in ap is_blank (ap (λ (n : ℕ). get_or text n 0) same ∙ here);
    }

-- a text that begins with the tag of a record, where no run goes on behind it
pub record_begins :
    (text : List ℕ) (start : ℕ) (xs : List ℕ) (t : Token) → xs ≡ drop start text → codes "#jepsen.history.Op" ≡ take 18 xs → run_len (drop 18 xs) ≡ 0 →
    (kind_of t.kind ≡ Tag) × (t.start ≡ start) × (t.end ≡ start + 18) → IsTokenAt text start t
record_begins text start xs t same begins none is = λ offset gap.
    let rest = drop 18 xs in
    let split : xs ≡ codes "#jepsen.history.Op" ++ rest = sym (take-append-drop 18 xs) ∙ ap (λ (ws : List ℕ). ws ++ rest) (sym begins) in
    let len : run_len (codes "jepsen.history.Op" ++ rest) ≡ 17 = run_ends (codes "jepsen.history.Op") rest refl none in
    let found : front (first_byte xs) (drop 1 xs) ≡ (Tag, Some 18) = ap (λ (ys : List ℕ). front (first_byte ys) (drop 1 ys)) split ∙ ap (λ (n : ℕ). (Tag, Some (suc n))) len in
    token_given text offset start xs Tag 18 t gap same (omega arith) (let n = ap length split in omega (arith, length-append (codes "#jepsen.history.Op") rest)) found
    (ascii_valid (take 18 xs) (subst IsAscii begins (IsAscii_from_low (codes "#jepsen.history.Op") refl))) is

-- digits are a word
digit_runs : (b : ℕ) → is_ascii_digit b ≡ true → is_run_byte b ≡ true
digit_runs b h = grind (arith, nat_tests)

digits_run : (ds : List ℕ) → list_all is_ascii_digit ds ≡ true → list_all is_run_byte ds ≡ true
digits_run [] h = refl
digits_run (b ∷ ds) h =
    let parts = and_parts (is_ascii_digit b) (list_all is_ascii_digit ds) h in
    and_from (is_run_byte b) (list_all is_run_byte ds) (digit_runs b parts.0) (digits_run ds parts.1)

digit_is_no : (b c : ℕ) → is_ascii_digit b ≡ true → nat_lt c 48 || nat_lt 57 c ≡ true → (b == c) ≡ false
digit_is_no b c h k = grind (arith, nat_tests)

digits_first : (ds : List ℕ) → 0 < length ds → list_all is_ascii_digit ds ≡ true → is_ascii_digit (first_byte ds) ≡ true
digits_first [] some h = absurd (omega arith)
digits_first (b ∷ ds) some h = (and_parts (is_ascii_digit b) (list_all is_ascii_digit ds) h).0

pub number_word : (ds : List ℕ) → 0 < length ds → list_all is_ascii_digit ds ≡ true → (not (first_byte ds == zero_digit) || (length ds == 1)) ≡ true → IsWord ds Int
number_word ds some digits leading =
    let first = digits_first ds some digits in (
      lt-ltb 0 (length ds) some,
      digits_run ds digits,
      digits_low ds digits,
      digit_is_no (first_byte ds) 35 first refl,
      digit_is_no (first_byte ds) 92 first refl,
      digits_are ds some digits leading,
    )

-- ---- square brackets

-- a text that begins with this byte
opens_square : (xs : List ℕ) → 0 < length xs → first_byte xs ≡ open_square → (front (first_byte xs) (drop 1 xs) ≡ (Opener, Some 1)) × (take 1 xs ≡ open_square ∷ [])
opens_square [] some e = absurd (omega arith)
opens_square (b ∷ rest) some e = (ap (λ x. front x rest) e, ap (λ x. x ∷ []) e)

closes_square : (xs : List ℕ) → 0 < length xs → first_byte xs ≡ close_square → (front (first_byte xs) (drop 1 xs) ≡ (Closer, Some 1)) × (take 1 xs ≡ close_square ∷ [])
closes_square [] some e = absurd (omega arith)
closes_square (b ∷ rest) some e = (ap (λ x. front x rest) e, ap (λ x. x ∷ []) e)

room_is : (n : ℕ) → n < MAX_OPEN_COLLECTIONS → nat_le MAX_OPEN_COLLECTIONS n ≡ false
room_is n h = grind (arith, nat_tests)

ascii_byte : (b : ℕ) → b < 128 → IsAscii (b ∷ [])
ascii_byte b low = IsAscii_from_low (b ∷ []) (and_from (is_low b) true (grind (arith, nat_tests)) refl)

-- the token of one byte that opens what waits for the closer
opens_by :
    (text : List ℕ) (offset start byte closer : ℕ) → offset ≤ start → start < length text → ((k : ℕ) → offset ≤ k → k < start → is_blank (get_or text k 0) ≡ true) → byte < 128 →
    (front (first_byte (drop start text)) (drop 1 (drop start text)) ≡ (Opener, Some 1)) × (take 1 (drop start text) ≡ byte ∷ []) → closer_of (byte ∷ []) ≡ closer →
    GivesOpener text offset byte closer (record { kind = kinds.Open; start = start; end = start + 1 })
opens_by text offset start byte closer low within blanks ascii found waits =
    let t : Token = record { kind = kinds.Open; start = start; end = start + 1 } in
    let xs = drop start text in
    let one : start + 1 - start ≡ 1 = omega arith in
    record {
      kind = refl;
      bytes = ap (λ n. take n xs) one ∙ found.1;
      gives = λ closers room.
          given_at text offset start xs Opener 1 t closers (closer ∷ closers) (gapped text closers offset start low (omega arith) blanks) refl (omega arith) (omega arith) (omega (arith, length-drop start text)) found.0
          (ascii_valid (take 1 xs) (subst IsAscii (sym found.1) (ascii_byte byte ascii)))
          (sym (ap (λ b. cond b (Some TooDeep) None) (room_is (length closers) room))) (sym (ap (λ bytes. closer_of bytes ∷ closers) found.1 ∙ ap (λ c. c ∷ closers) waits)) (refl, refl, refl);
    }

pub opener_given :
    (text : List ℕ) (offset start : ℕ) → offset ≤ start → start < length text → ((k : ℕ) → offset ≤ k → k < start → is_blank (get_or text k 0) ≡ true) →
    get_or text start 0 ≡ open_square → GivesOpener text offset open_square close_square (record { kind = kinds.Open; start = start; end = start + 1 })
opener_given text offset start low within blanks e =
    let some : 0 < length (drop start text) = omega (arith, length-drop start text) in
    opens_by text offset start open_square close_square low within blanks (lit< tt) (opens_square (drop start text) some (first_at text start open_square e)) refl

opens_brace : (xs : List ℕ) → 0 < length xs → first_byte xs ≡ open_brace → (front (first_byte xs) (drop 1 xs) ≡ (Opener, Some 1)) × (take 1 xs ≡ open_brace ∷ [])
opens_brace [] some e = absurd (omega arith)
opens_brace (b ∷ rest) some e = (ap (λ x. front x rest) e, ap (λ x. x ∷ []) e)

pub map_opener_given :
    (text : List ℕ) (offset start : ℕ) → offset ≤ start → start < length text → ((k : ℕ) → offset ≤ k → k < start → is_blank (get_or text k 0) ≡ true) →
    get_or text start 0 ≡ open_brace → GivesOpener text offset open_brace close_brace (record { kind = kinds.Open; start = start; end = start + 1 })
map_opener_given text offset start low within blanks e =
    let some : 0 < length (drop start text) = omega (arith, length-drop start text) in
    opens_by text offset start open_brace close_brace low within blanks (lit< tt) (opens_brace (drop start text) some (first_at text start open_brace e)) refl

-- the token of one byte that closes what waits for it
closes_by :
    (text : List ℕ) (offset start byte : ℕ) → offset ≤ start → start < length text → ((k : ℕ) → offset ≤ k → k < start → is_blank (get_or text k 0) ≡ true) → byte < 128 →
    (front (first_byte (drop start text)) (drop 1 (drop start text)) ≡ (Closer, Some 1)) × (take 1 (drop start text) ≡ byte ∷ []) →
    ((closers : List ℕ) → None ≡ nesting_refusal Closer (byte ∷ []) (byte ∷ closers)) → GivesCloser text offset byte (record { kind = kinds.Close; start = start; end = start + 1 })
closes_by text offset start byte low within blanks ascii found fits =
    let t : Token = record { kind = kinds.Close; start = start; end = start + 1 } in
    let xs = drop start text in
    record {
      kind = refl;
      gives = λ closers.
          given_at text offset start xs Closer 1 t (byte ∷ closers) closers (gapped text (byte ∷ closers) offset start low (omega arith) blanks) refl (omega arith) (omega arith) (omega (arith, length-drop start text)) found.0
          (ascii_valid (take 1 xs) (subst IsAscii (sym found.1) (ascii_byte byte ascii)))
          (fits closers ∙ sym (ap (λ bytes. nesting_refusal Closer bytes (byte ∷ closers)) found.1)) refl (refl, refl, refl);
    }

pub closer_given :
    (text : List ℕ) (offset start : ℕ) → offset ≤ start → start < length text → ((k : ℕ) → offset ≤ k → k < start → is_blank (get_or text k 0) ≡ true) →
    get_or text start 0 ≡ close_square → GivesCloser text offset close_square (record { kind = kinds.Close; start = start; end = start + 1 })
closer_given text offset start low within blanks e =
    let some : 0 < length (drop start text) = omega (arith, length-drop start text) in
    closes_by text offset start close_square low within blanks (lit< tt) (closes_square (drop start text) some (first_at text start close_square e)) (λ closers. refl)

closes_brace : (xs : List ℕ) → 0 < length xs → first_byte xs ≡ close_brace → (front (first_byte xs) (drop 1 xs) ≡ (Closer, Some 1)) × (take 1 xs ≡ close_brace ∷ [])
closes_brace [] some e = absurd (omega arith)
closes_brace (b ∷ rest) some e = (ap (λ x. front x rest) e, ap (λ x. x ∷ []) e)

pub map_closer_given :
    (text : List ℕ) (offset start : ℕ) → offset ≤ start → start < length text → ((k : ℕ) → offset ≤ k → k < start → is_blank (get_or text k 0) ≡ true) →
    get_or text start 0 ≡ close_brace → GivesCloser text offset close_brace (record { kind = kinds.Close; start = start; end = start + 1 })
map_closer_given text offset start low within blanks e =
    let some : 0 < length (drop start text) = omega (arith, length-drop start text) in
    closes_by text offset start close_brace low within blanks (lit< tt) (closes_brace (drop start text) some (first_at text start close_brace e)) (λ closers. refl)

-- plain bytes that begin with a colon are a word
plain_runs : (b : ℕ) → is_plain b ≡ true → is_run_byte b ≡ true
plain_runs b h = grind (arith, nat_tests)

plain_low : (b : ℕ) → is_plain b ≡ true → is_low b ≡ true
plain_low b h = grind (arith, nat_tests)

plains_run : (bs : List ℕ) → list_all is_plain bs ≡ true → (list_all is_run_byte bs ≡ true) × (list_all is_low bs ≡ true)
plains_run [] h = (refl, refl)
plains_run (b ∷ bs) h =
    let parts = and_parts (is_plain b) (list_all is_plain bs) h in
    let rest = plains_run bs parts.1 in
    (and_from (is_run_byte b) (list_all is_run_byte bs) (plain_runs b parts.0) rest.0, and_from (is_low b) (list_all is_low bs) (plain_low b parts.0) rest.1)

pub keyword_word : (bs : List ℕ) → 1 < length bs → list_all is_plain bs ≡ true → first_byte bs ≡ colon → IsWord bs Keyword
keyword_word bs some plain first =
    let runs = plains_run bs plain in
    let is : is_keyword bs ≡ true = and_from (first_byte bs == colon) (nat_lt 1 (length bs)) (rw first refl) (lt-ltb 1 (length bs) some) in
    (lt-ltb 0 (length bs) (omega arith), runs.0, runs.1, rw first refl, rw first refl, keyword_is bs is)
