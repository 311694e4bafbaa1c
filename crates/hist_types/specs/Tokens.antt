-- Tokens (EDN; what is wider than EDN is said to be this project's own).
--
-- A text is cut into items: single blanks, comments and tokens, one after the other, so that the
-- spans of tokens rise and only blanks and comments lie between two of them. Which item begins at a
-- place is decided in this order:
--     a blank
--     `;`      a comment, up to a byte 10 or the text's end
--     `"`      a string, up to the next quote that no backslash takes; a backslash takes the byte
--              after it
--     `\`      a character: the next byte, whatever it is, and the longest run that follows, which
--              may be empty; a lone `\` at the text's end is one too (wider than EDN)
--     ( [ {    an opener, and ) ] } a closer
--     `#{`     an opener of two bytes, which `}` closes; `#_` leaves the next form out
--     `#`      not followed by another `#`: a tag, with the longest run that follows, which may be
--              empty (own)
--     else     the longest run of bytes that are no blank, no bracket, no quote and no semicolon.
-- A run is nil, true, false, an integer, a keyword, a symbol, or something other, whichever fits
-- first.
--
-- The items are cut up to the text's end, or up to the first item with a fault:
--     20 BadUtf8          the item's bytes are not UTF-8, reported at the first byte that begins no
--                         well-formed sequence
--     21 UnclosedString   a string without its closing quote, reported at its opening one
--     22 StrayCloser      a closer where no collection is open or the innermost is of another kind
--     23 TooDeep          an opener where 64 collections are open
use Rattle.std.specs.Prelude.{◌≡◌, ◌⊎◌, ℕ, suc, ◌+◌, ◌-◌, List, [], ◌∷◌, length, take, drop, get_or, Bool, true, false, not, ◌&&◌, ◌||◌, ◌==◌, nat_eq, nat_lt, nat_le, if◌then◌else◌, bytes_eq, codes, Option, Some, None, option_map, take_while, filter}
use Rattle.std.specs.List.{list_all, prefix_len, ends_with}
use Rattle.std.specs.Char.{is_ascii_digit}
use Rattle.std.specs.Str.Lossy.{utf8_valid_len}
use Rattle.hist_types.specs.Bytes.{line_feed, quote, backslash, semicolon, colon, hash, underscore, plus, minus, dot, zero_digit, letter_n, open_round, close_round, open_square, close_square, open_brace, close_brace, is_blank, is_opener, is_closer, is_run_byte}
use Rattle.hist_types.specs.declared.limits.TheConstants.{MAX_OPEN_COLLECTIONS}
use Rattle.hist_types.specs.declared.types.Fault.{Fault}
use Rattle.hist_types.specs.declared.types.At.TheVariants.{Byte}
use Rattle.hist_types.specs.declared.types.Refusal.{Refusal}
use Rattle.hist_types.specs.declared.types.Refusal.TheVariants.{BadUtf8, UnclosedString, StrayCloser, TooDeep}

pub data ItemKind : Type 0 where
  Blank Comment : ItemKind
  Opener Closer Str Char Drop Tag Nil True False Int Keyword Symbol Other : ItemKind

-- an item of a text: its kind, the offset of its first byte, and its bytes
pub record Item : Type 0 where
  pub kind : ItemKind
  pub start : ℕ
  pub bytes : List ℕ

-- ---- runs

-- the longest run at the front
abbrev pub run_of : List ℕ → List ℕ
run_of text = take_while is_run_byte text

abbrev pub run_len : List ℕ → ℕ
run_len text = prefix_len is_run_byte text

-- the first byte, or 0 where there is none
abbrev pub first_byte : List ℕ → ℕ
first_byte text = get_or text 0 0

abbrev pub second_byte : List ℕ → ℕ
second_byte text = get_or text 1 0

abbrev pub is_sign : ℕ → Bool
is_sign b = (b == plus) || (b == minus)

-- a digit, or a sign and a digit
abbrev pub begins_with_number : List ℕ → Bool
begins_with_number text =
    is_ascii_digit (first_byte text)
    || (is_sign (first_byte text) && is_ascii_digit (second_byte text))

abbrev pub without_sign : List ℕ → List ℕ
without_sign run = if is_sign (first_byte run) then drop 1 run else run

-- an integer may end with `N`
abbrev pub without_n : List ℕ → List ℕ
without_n run = if ends_with nat_eq run (letter_n ∷ []) then take (length run - 1) run else run

-- `0`, or digits that don't begin with 0
abbrev pub is_whole : List ℕ → Bool
is_whole digits =
    list_all is_ascii_digit digits
    && nat_lt 0 (length digits)
    && (not (first_byte digits == zero_digit) || (length digits == 1))

-- `+` or `-` or neither, then digits, then `N` or nothing
abbrev pub is_int : List ℕ → Bool
is_int run = is_whole (without_n (without_sign run))

-- `:` and one byte more (wider than EDN)
abbrev pub is_keyword : List ℕ → Bool
is_keyword run = (first_byte run == colon) && nat_lt 1 (length run)

-- begins with `+`, `-` or `.`, and has a digit after that
abbrev pub has_digit_second : List ℕ → Bool
has_digit_second run =
    (is_sign (first_byte run) || (first_byte run == dot)) && is_ascii_digit (second_byte run)

-- begins with no digit, `:` or `#`, and has no digit after a first `+`, `-` or `.` (own)
abbrev pub is_symbol : List ℕ → Bool
is_symbol run =
    not (is_ascii_digit (first_byte run) || (first_byte run == colon) || (first_byte run == hash))
    && not (has_digit_second run)

-- the first of the kinds that fits
abbrev pub run_kind : List ℕ → ItemKind
run_kind run =
    if bytes_eq run (codes "nil") then Nil
    else (if bytes_eq run (codes "true") then True
    else (if bytes_eq run (codes "false") then False
    else (if is_int run then Int
    else (if is_keyword run then Keyword
    else (if is_symbol run then Symbol
    else Other)))))

-- ---- the other items

-- How many bytes stand before the quote that closes a string, if one does. `taken` says that a
-- backslash takes the first byte.
abbrev pub content_len : (taken : Bool) → List ℕ → Option ℕ
content_len taken [] = None
content_len taken (b ∷ rest) =
    if (b == quote) && not taken then Some 0
    else option_map suc (content_len ((b == backslash) && not taken) rest)

-- what follows a backslash in a character
abbrev pub character_len : List ℕ → ℕ
character_len [] = 0
character_len (b ∷ rest) = suc (run_len rest)

-- What begins with a `#`: the item's kind, and how many bytes it has.
abbrev pub hash_front : List ℕ → ItemKind × Option ℕ
hash_front rest =
    if first_byte rest == open_brace then (Opener, Some 2)
    else (if first_byte rest == underscore then (Drop, Some 2)
    else (if first_byte rest == hash then (run_kind (hash ∷ run_of rest), Some (suc (run_len rest)))
    else (Tag, Some (suc (run_len rest)))))

-- The item of which b is the first byte: its kind, and how many bytes it has. A string that nothing
-- closes has no end.
abbrev pub front : ℕ → List ℕ → ItemKind × Option ℕ
front b rest =
    if is_blank b then (Blank, Some 1)
    else (if b == semicolon then (Comment, Some (suc (prefix_len (λ c. not (c == line_feed)) rest)))
    else (if b == quote then (Str, option_map (λ n. n + 2) (content_len false rest))
    else (if b == backslash then (Char, Some (suc (character_len rest)))
    else (if is_opener b then (Opener, Some 1)
    else (if is_closer b then (Closer, Some 1)
    else (if b == hash then hash_front rest
    else (run_kind (b ∷ run_of rest), Some (suc (run_len rest)))))))))

-- ---- collections that are open

-- the closer that a collection with this opener waits for
abbrev pub closer_of : List ℕ → ℕ
closer_of opener =
    if bytes_eq opener (open_round ∷ []) then close_round
    else (if bytes_eq opener (open_square ∷ []) then close_square else close_brace)

-- the closers that the open collections wait for, the innermost first, once the item has been
-- passed
abbrev pub open_after : ItemKind → List ℕ → List ℕ → List ℕ
open_after Opener bytes closers = closer_of bytes ∷ closers
open_after Closer bytes closers = drop 1 closers
open_after kind bytes closers = closers

-- an item that may not stand where these collections are open
abbrev pub nesting_refusal : ItemKind → List ℕ → List ℕ → Option Refusal
nesting_refusal Opener bytes closers =
    if nat_le MAX_OPEN_COLLECTIONS (length closers) then Some TooDeep else None
nesting_refusal Closer bytes closers =
    if bytes_eq bytes (take 1 closers) then None else Some StrayCloser
nesting_refusal kind bytes closers = None

-- ---- faults

abbrev pub byte_fault : Refusal → ℕ → Fault
byte_fault refusal offset = record { refusal = refusal; at = Byte offset }

-- the fault of an item at this offset with these bytes, if it has one
abbrev pub item_fault : ItemKind → ℕ → List ℕ → List ℕ → Option Fault
item_fault kind offset bytes closers =
    if nat_lt (utf8_valid_len bytes) (length bytes)
    then Some (byte_fault BadUtf8 (offset + utf8_valid_len bytes))
    else option_map (λ refusal. byte_fault refusal offset) (nesting_refusal kind bytes closers)

-- ---- a whole text

-- an item of this kind and with these bytes is at the front of the text
abbrev pub BeginsWith : List ℕ → ItemKind → List ℕ → Type 0
BeginsWith [] kind bytes = ⊥
BeginsWith (b ∷ rest) kind bytes =
    (front b rest ≡ (kind, Some (length bytes))) × (bytes ≡ take (length bytes) (b ∷ rest))

-- the item at the front of the text has this fault
abbrev pub BeginsWithFaulty : List ℕ → ℕ → List ℕ → Fault → Type 0
BeginsWithFaulty text offset closers fault =
    (kind : ItemKind)
    × (bytes : List ℕ)
    × BeginsWith text kind bytes
    × (item_fault kind offset bytes closers ≡ Some fault)

-- this fault is at the front of the text, which begins at the offset
abbrev pub BeginsWithFault : List ℕ → ℕ → List ℕ → Fault → Type 0
BeginsWithFault [] offset closers fault = ⊥
BeginsWithFault (b ∷ rest) offset closers fault =
    ((front b rest ≡ (Str, None)) × (fault ≡ byte_fault UnclosedString offset))
    ⊎ BeginsWithFaulty (b ∷ rest) offset closers fault

-- The text from an offset on, inside collections that wait for these closers, is cut into the
-- items, and then it ends or there is a fault.
abbrev pub IsCut : List ℕ → ℕ → List ℕ → List Item → Option Fault → Type 0
IsCut text offset closers [] None = text ≡ []
IsCut text offset closers [] (Some fault) = BeginsWithFault text offset closers fault
IsCut text offset closers (item ∷ items) ending =
    let len = length item.bytes in
    BeginsWith text item.kind item.bytes
    × (item.start ≡ offset)
    × (item_fault item.kind offset item.bytes closers ≡ None)
    × IsCut (drop len text) (offset + len) (open_after item.kind item.bytes closers) items ending

abbrev pub is_token : ItemKind → Bool
is_token Blank = false
is_token Comment = false
is_token kind = true

-- the items without blanks and comments
abbrev pub tokens_of : List Item → List Item
tokens_of items = filter (λ item. is_token item.kind) items

-- The text has these tokens, and then it ends or there is a fault.
abbrev pub HasTokens : List ℕ → List Item → Option Fault → Type 0
HasTokens text tokens ending =
    (items : List Item) × IsCut text 0 [] items ending × (tokens ≡ tokens_of items)

-- From the offset on, where nothing is open, the text has these tokens, and then it ends or there
-- is a fault.
abbrev pub HasTokensFrom : ℕ → List ℕ → List Item → Option Fault → Type 0
HasTokensFrom offset text tokens ending =
    (items : List Item)
    × IsCut (drop offset text) offset [] items ending
    × (tokens ≡ tokens_of items)
