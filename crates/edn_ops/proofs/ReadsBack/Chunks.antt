-- Texts made of chunks: blanks and tokens of which each is what begins at its place.
use Rattle.std.proofs.Common.{◌≡◌, ℕ, suc, ◌+◌, ◌<◌, List, [], ◌∷◌, ◌++◌, length, true, false, Some, None, refl, sym, ap, subst, arith}
use Rattle.std.specs.Prelude.{nat_lt}
use Rattle.std.specs.Str.{IsUtf8, IsAscii}
use Rattle.std.specs.List.{list_all}
use Rattle.std.specs.Str.Lossy.{utf8_valid_len}
use Rattle.std.proofs.lemmas.Str.{utf8_valid_len-IsUtf8, IsUtf8-from_ascii}
use Rattle.std.proofs.lemmas.Str.Ascii.{IsAscii-cons, IsAscii-nil}
use Rattle.std.proofs.lemmas.Bool.{le-ltb, ltb-true, and_parts}
use Rattle.std.proofs.lemmas.List.{take_at, drop_at}
use Rattle.hist_types.specs.Bytes.{is_blank}
use Rattle.hist_types.specs.Tokens.{Item, ItemKind, Blank, front, BeginsWith, IsCut, HasTokens, item_fault, nesting_refusal, open_after, is_token, tokens_of}

-- a blank, or a token with its kind
pub data Chunk : Type 0 where
  gap : ℕ → Chunk
  token : ItemKind → List ℕ → Chunk

-- the text that chunks have
abbrev pub text_of : List Chunk → List ℕ
text_of [] = []
text_of (gap b ∷ more) = b ∷ text_of more
text_of (token kind bytes ∷ more) = bytes ++ text_of more

-- an item of this kind and with these bytes begins where they stand before the rest
abbrev pub Fits : ItemKind → List ℕ → List ℕ → Type 0
Fits kind [] rest = ⊥
Fits kind (b ∷ bs) rest = front b (bs ++ rest) ≡ (kind, Some (suc (length bs)))

-- a token that may stand before the rest, where collections wait for these closers
pub record TokenFits (kind : ItemKind) (bytes rest closers : List ℕ) : Type 0 where
  pub fits : Fits kind bytes rest
  pub utf8 : IsUtf8 bytes
  pub nests : nesting_refusal kind bytes closers ≡ None
  pub counts : is_token kind ≡ true

-- chunks that may stand where collections wait for these closers
abbrev pub WellCut : List Chunk → List ℕ → Type 0
WellCut [] closers = Unit {0}
WellCut (gap b ∷ more) closers = (is_blank b ≡ true) × (b < 128) × WellCut more closers
WellCut (token kind bytes ∷ more) closers = TokenFits kind bytes (text_of more) closers × WellCut more (open_after kind bytes closers)

-- the item of this kind and with these bytes at the offset
abbrev pub item_at : ℕ → ItemKind → List ℕ → Item
item_at at kind bytes = record { kind = kind; start = at; bytes = bytes }

-- the items of chunks that begin at the offset
abbrev pub items_at : ℕ → List Chunk → List Item
items_at at [] = []
items_at at (gap b ∷ more) = item_at at Blank (b ∷ []) ∷ items_at (at + 1) more
items_at at (token kind bytes ∷ more) = item_at at kind bytes ∷ items_at (at + length bytes) more

-- and their tokens
abbrev pub tokens_at : ℕ → List Chunk → List Item
tokens_at at [] = []
tokens_at at (gap b ∷ more) = tokens_at (at + 1) more
tokens_at at (token kind bytes ∷ more) = item_at at kind bytes ∷ tokens_at (at + length bytes) more

-- bytes below 128 are ASCII
ascii : (bs : List ℕ) → list_all (λ b. nat_lt b 128) bs ≡ true → IsAscii bs
ascii [] h = IsAscii-nil
ascii (b ∷ bs) h =
    let both = and_parts (nat_lt b 128) (list_all (λ (b : ℕ). nat_lt b 128) bs) h in
    IsAscii-cons b bs (ltb-true b 128 both.0) (ascii bs both.1)

-- and so UTF-8
pub ascii_utf8 : (bs : List ℕ) → list_all (λ b. nat_lt b 128) bs ≡ true → IsUtf8 bs
ascii_utf8 bs h = IsUtf8-from_ascii bs (ascii bs h)

-- an item of well-formed UTF-8 has no fault but its place
no_fault : (kind : ItemKind) (at : ℕ) (bytes closers : List ℕ) → IsUtf8 bytes → nesting_refusal kind bytes closers ≡ None → item_fault kind at bytes closers ≡ None
no_fault kind at bytes closers u n =
    let e : nat_lt (utf8_valid_len bytes) (length bytes) ≡ false = rw (utf8_valid_len-IsUtf8 bytes u) (le-ltb (length bytes) (length bytes) (omega arith)) in
    rw (e, n) refl

-- a token that fits begins the text
begins : (kind : ItemKind) (bytes rest : List ℕ) → Fits kind bytes rest → BeginsWith (bytes ++ rest) kind bytes
begins kind [] rest f = absurd f
begins kind (b ∷ bs) rest f = (f, sym (take_at (b ∷ bs) rest (suc (length bs)) refl))

-- a blank begins the text
begins_blank : (b : ℕ) (rest : List ℕ) → is_blank b ≡ true → BeginsWith (b ∷ rest) Blank (b ∷ [])
begins_blank b rest e = (rw e refl, refl)

-- chunks that may stand there are what the text is cut into
pub cut_into : (at : ℕ) (closers : List ℕ) (chunks : List Chunk) → WellCut chunks closers → IsCut (text_of chunks) at closers (items_at at chunks) None
cut_into at closers [] h = refl
cut_into at closers (gap b ∷ more) h = (
  begins_blank b (text_of more) h.0,
  refl,
  no_fault Blank at (b ∷ []) closers (IsUtf8-from_ascii (b ∷ []) (IsAscii-cons b [] h.1 IsAscii-nil)) refl,
  cut_into (at + 1) closers more h.2,
)
cut_into at closers (token kind bytes ∷ more) h =
    let t = h.0 in (
      begins kind bytes (text_of more) t.fits,
      refl,
      no_fault kind at bytes closers t.utf8 t.nests,
      subst (λ (text : List ℕ). IsCut text (at + length bytes) (open_after kind bytes closers) (items_at (at + length bytes) more) None)
          (sym (drop_at bytes (text_of more) (length bytes) refl))
          (cut_into (at + length bytes) (open_after kind bytes closers) more h.1),
    )

-- the tokens are what is left of the items without blanks
tokens_among : (at : ℕ) (closers : List ℕ) (chunks : List Chunk) → WellCut chunks closers → tokens_at at chunks ≡ tokens_of (items_at at chunks)
tokens_among at closers [] h = refl
tokens_among at closers (gap b ∷ more) h = tokens_among (at + 1) closers more h.2
tokens_among at closers (token kind bytes ∷ more) h =
    let t = h.0 in
    rw t.counts (ap (λ (ts : List Item). item_at at kind bytes ∷ ts) (tokens_among (at + length bytes) (open_after kind bytes closers) more h.1))

-- the text of such chunks has their tokens, and ends
pub has_tokens : (chunks : List Chunk) → WellCut chunks [] → HasTokens (text_of chunks) (tokens_at 0 chunks) None
has_tokens chunks h = (items_at 0 chunks, cut_into 0 [] chunks h, tokens_among 0 [] chunks h)
