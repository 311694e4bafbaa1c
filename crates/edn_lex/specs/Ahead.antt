-- Tokens that are found by looking ahead.
use Rattle.std.specs.Prelude.{◌≡◌, ℕ, ◌<◌, ◌+◌, ◌≤◌, ◌==◌, List, [], ◌∷◌, length, get_or, Bool, true, false, nat_lt, None}
use Rattle.std.specs.List.{list_all}
use Rattle.hist_types.specs.Bytes.{open_square, close_square, backslash, hash, is_blank, is_run_byte}
use Rattle.hist_types.specs.Tokens.{ItemKind, Blank, Comment, Opener, Closer, Drop, Tag, first_byte, run_kind, nesting_refusal, open_after}
use Rattle.hist_types.specs.declared.limits.TheConstants.{MAX_OPEN_COLLECTIONS}
use Rattle.edn_lex.specs.declared.ahead.TheConstants.{LEVELS_AHEAD}
use Rattle.edn_lex.specs.declared.ahead.Triple.{Triple}
use Rattle.edn_lex.specs.declared.types.Token.{Token}
use Rattle.edn_lex.specs.Kinds.{kind_of, item_of, is_low}
use Rattle.edn_lex.specs.State.{State, GivesToken}

-- a token that is a form by itself
abbrev pub is_lone : ItemKind → Bool
is_lone Blank = false
is_lone Comment = false
is_lone Opener = false
is_lone Closer = false
is_lone Drop = false
is_lone Tag = false
is_lone kind = true

-- a lexer that goes on at the offset, where collections wait for these closers
abbrev pub going_at : List ℕ → ℕ → List ℕ → State
going_at text offset closers =
    record { text = text; offset = offset; closers = closers; ended = false }

-- the token that is given from the offset on, wherever it may be
pub record GivesAhead (text : List ℕ) (offset : ℕ) (token : Token) : Type 0 where
  pub low : offset ≤ token.start
  pub some : token.start < token.end
  pub fits : token.end ≤ length text
  pub gives :
      (closers : List ℕ) →
      nesting_refusal (kind_of token.kind) (item_of text token).bytes closers ≡ None →
      GivesToken (going_at text offset closers) token
      (going_at text token.end (open_after (kind_of token.kind) (item_of text token).bytes closers))

-- the token that is given from the offset on is a form by itself
pub record GivesLone (text : List ℕ) (offset : ℕ) (token : Token) : Type 0 where
  pub lone : is_lone (kind_of token.kind) ≡ true
  pub gives :
      (closers : List ℕ) →
      GivesToken (going_at text offset closers) token (going_at text token.end closers)

-- only blanks are from the offset up to here
pub record IsGap (text : List ℕ) (offset start : ℕ) : Type 0 where
  pub low : offset ≤ start
  pub fits : start ≤ length text
  pub blanks : (k : ℕ) → offset ≤ k → k < start → is_blank (get_or text k 0) ≡ true

-- the token begins here
abbrev pub IsTokenAt : List ℕ → ℕ → Token → Type 0
IsTokenAt text start token = (offset : ℕ) → IsGap text offset start → GivesAhead text offset token

-- the token begins here, and is a form by itself
abbrev pub IsLoneAt : List ℕ → ℕ → Token → Type 0
IsLoneAt text start token = (offset : ℕ) → IsGap text offset start → GivesLone text offset token

-- a run of ASCII of this kind, which begins neither as a tag nor as a character
abbrev pub IsWord : List ℕ → ItemKind → Type 0
IsWord word kind =
    (nat_lt 0 (length word) ≡ true) × (list_all is_run_byte word ≡ true)
    × (list_all is_low word ≡ true) × ((first_byte word == hash) ≡ false)
    × ((first_byte word == backslash) ≡ false) × (run_kind word ≡ kind)

-- the token that is given from the offset on is this one byte, and opens a collection that waits
-- for the closer
pub record GivesOpener (text : List ℕ) (offset : ℕ) (byte closer : ℕ) (token : Token) : Type 0 where
  pub kind : kind_of token.kind ≡ Opener
  pub bytes : (item_of text token).bytes ≡ byte ∷ []
  pub gives :
      (closers : List ℕ) → length closers < MAX_OPEN_COLLECTIONS →
      GivesToken (going_at text offset closers) token (going_at text token.end (closer ∷ closers))

-- the token that is given from the offset on closes a collection that waits for this byte
pub record GivesCloser (text : List ℕ) (offset : ℕ) (byte : ℕ) (token : Token) : Type 0 where
  pub kind : kind_of token.kind ≡ Closer
  pub gives :
      (closers : List ℕ) →
      GivesToken (going_at text offset (byte ∷ closers)) token (going_at text token.end closers)

-- the five tokens that are given from the offset on are a vector of three forms by themselves
pub record GivesTriple (text : List ℕ) (offset : ℕ) (triple : Triple) : Type 0 where
  pub opener : GivesOpener text offset open_square close_square triple.opener
  pub first : GivesLone text triple.opener.end triple.first
  pub second : GivesLone text triple.first.end triple.second
  pub third : GivesLone text triple.second.end triple.third
  pub closer : GivesCloser text triple.third.end close_square triple.closer

-- a lexer goes on from the offset, and so many more collections may be opened
pub record LooksAhead (s : State) (offset : ℕ) : Type 0 where
  pub going : s ≡ going_at s.text offset s.closers
  pub room : length s.closers + LEVELS_AHEAD ≤ MAX_OPEN_COLLECTIONS
  pub within : offset ≤ length s.text
