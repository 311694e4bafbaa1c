-- Sessions (this project's own): what a client writes, line by line, and what it reads in reply.
--
-- A line ends with a byte 10. Bytes after the last byte 10 are no line: they are not carried out and
-- get no reply. A line of more than 1,048,576 bytes, its byte 10 not counted, is overlong, and what
-- it says is not looked at. Of every other line one byte 13 at its end is taken off. Then it says
-- one of these, with the words alone on it and single blanks between them:
--     quit             end the session
--     verdict          the verdict of the events
--     read A B         the events with the indexes from A up to but not with B; A and B have at
--                      least one digit, and no more than 1,048,576 has
--     anything else    a text to be imported
-- Each line has one reply, up to and with the first line that says quit. An overlong line and one
-- that says quit have always the same; any other line asks the journal, and the reply is the text
-- of a legal answer to the session's seat:
--     quit             `bye`
--     an overlong line the line of the refusal 37 BlockFull
--     a verdict        its text
--     events           `events K`, and the canonical text of each of the K events on its own line
--     an index         `event I`
--     a refusal        its line, except for 38 EmptyImport: that is `skipped`
use Rattle.std.specs.Prelude.{◌≡◌, ℕ, List, [], ◌∷◌, ◌++◌, length, take, flat_map, Bool, true, false, ◌&&◌, ◌==◌, nat_lt, nat_le, if◌then◌else◌, bytes_eq, codes, Option, Some, None, option_map, option_and_then, Result}
use Rattle.std.specs.Char.{is_ascii_digit}
use Rattle.std.specs.List.{list_all, list_any, slice_split}
use Rattle.std.specs.Option.{option_map_or}
use Rattle.std.specs.Str.Parse.{digits_value}
use Rattle.hist_types.specs.Bytes.{line_feed}
use Rattle.hist_types.specs.CanonicalText.{operation_text}
use Rattle.hist_types.specs.Handed.{HandsOver}
use Rattle.hist_types.specs.Refusals.{without_place}
use Rattle.hist_types.specs.LegalAnswers as journal
use Rattle.hist_types.specs.LegalAnswers.{View, Request, Answer, IsLegal, IsLegalAt}
use Rattle.hist_types.specs.Operations.{Operation}
use Rattle.hist_types.specs.Texts.{line, number_line, refusal_line, verdict_text}
use Rattle.hist_types.specs.declared.limits.TheConstants.{INDEX_DIGITS, MAX_LINE_BYTES}
use Rattle.hist_types.specs.declared.types.Fault.{Fault}
use Rattle.hist_types.specs.declared.types.Refusal.{Refusal}
use Rattle.hist_types.specs.declared.types.Refusal.TheVariants.{BlockFull, EmptyImport}
use Rattle.hist_types.specs.declared.types.KeyOrder.{KeyOrder}

-- ---- lines

-- the lines with a byte before the first of them; where there is none, the byte is part of no line
abbrev pub with_first_byte : ℕ → List (List ℕ) → List (List ℕ)
with_first_byte b [] = []
with_first_byte b (l ∷ lines) = (b ∷ l) ∷ lines

-- the lines of some bytes, without their bytes 10
abbrev pub lines_of : List ℕ → List (List ℕ)
lines_of [] = []
lines_of (b ∷ bytes) =
    if b == line_feed then [] ∷ lines_of bytes else with_first_byte b (lines_of bytes)

-- ---- what a line says

pub data Saying : Type 0 where
  overlong : Saying
  quit : Saying
  verdict : Saying
  read : (from to : ℕ) → Saying
  import : (text : List ℕ) → Saying

abbrev pub carriage_return : ℕ
carriage_return = 13

-- without the byte 13 at the end, if there is one
abbrev pub without_return : List ℕ → List ℕ
without_return [] = []
without_return (b ∷ []) = if b == carriage_return then [] else b ∷ []
without_return (b ∷ c ∷ rest) = b ∷ without_return (c ∷ rest)

abbrev pub space : ℕ
space = 32

-- what is between single spaces, before the first and after the last
abbrev pub words_of : List ℕ → List (List ℕ)
words_of text = slice_split (λ b. b == space) text

-- the number that digits write, one at least and no more than an index may have
abbrev pub index_of : List ℕ → Option ℕ
index_of word =
    if list_all is_ascii_digit word && nat_lt 0 (length word) && nat_le (length word) INDEX_DIGITS
    then Some (digits_value 10 word)
    else None

-- the indexes of three words of which the first is `read`
abbrev pub range_of : List (List ℕ) → Option (ℕ × ℕ)
range_of (word ∷ from ∷ to ∷ []) =
    if bytes_eq word (codes "read")
    then option_and_then (λ a. option_map (λ b. (a, b)) (index_of to)) (index_of from)
    else None
range_of words = None

-- what a line says that is not overlong, without its byte 13
abbrev pub saying_of_text : List ℕ → Saying
saying_of_text text =
    if bytes_eq text (codes "quit") then quit
    else (if bytes_eq text (codes "verdict") then verdict
    else option_map_or (λ range. read range.0 range.1) (range_of (words_of text)) (import text))

abbrev pub saying_of : List ℕ → Saying
saying_of l =
    if nat_lt MAX_LINE_BYTES (length l) then overlong else saying_of_text (without_return l)

abbrev pub is_quit : Saying → Bool
is_quit quit = true
is_quit saying = false

abbrev pub says_quit : List ℕ → Bool
says_quit l = is_quit (saying_of l)

-- the lines up to the first one that says quit, and with that one
abbrev pub up_to_quit : List (List ℕ) → List (List ℕ)
up_to_quit [] = []
up_to_quit (l ∷ lines) = if says_quit l then l ∷ [] else l ∷ up_to_quit lines

-- the lines of some bytes that have replies
abbrev pub served_lines : List ℕ → List (List ℕ)
served_lines bytes = up_to_quit (lines_of bytes)

-- one of the lines says quit
abbrev pub say_quit : List ℕ → Bool
say_quit bytes = list_any says_quit (lines_of bytes)

-- ---- texts of answers

abbrev pub is_empty_import : Refusal → Bool
is_empty_import EmptyImport = true
is_empty_import refusal = false

abbrev pub refusal_reply : Fault → List ℕ
refusal_reply fault =
    if is_empty_import fault.refusal then line (codes "skipped") else refusal_line fault

abbrev pub events_reply : List Operation → List ℕ
events_reply events =
    number_line (codes "events") (length events)
    ++ flat_map (λ (o : Operation). line (operation_text o)) events

-- the text of an answer to a line; no line asks for a snapshot or to learn
abbrev pub reply_of : Answer → List ℕ
reply_of (journal.accepted index) = number_line (codes "event") index
reply_of (journal.returned events) = events_reply events
reply_of (journal.reported report) = verdict_text report
reply_of (journal.refused fault) = refusal_reply fault
reply_of answer = []

-- ---- replies

-- which answers a seat gets to its requests, and what it has seen before and after each
abbrev pub Answering : Type 1
Answering = Request → Answer → (old new : View) → Type 0

-- the reply is the text of an answer to the request
abbrev pub IsReplyTo : Answering → Request → List ℕ → (old new : View) → Type 0
IsReplyTo answers request reply old new =
    (answer : Answer) × answers request answer old new × (reply ≡ reply_of answer)

-- the reply is this text, and the journal is not asked
abbrev pub IsFixedReply : (text reply : List ℕ) → (old new : View) → Type 0
IsFixedReply text reply old new = (reply ≡ text) × (new ≡ old)

-- the reply is one to a line that says this
abbrev pub IsReply : Answering → Saying → List ℕ → (old new : View) → Type 0
IsReply answers overlong reply old new =
    IsFixedReply (refusal_line (without_place BlockFull)) reply old new
IsReply answers quit reply old new = IsFixedReply (line (codes "bye")) reply old new
IsReply answers verdict reply old new = IsReplyTo answers journal.verdict reply old new
IsReply answers (read from to) reply old new =
    IsReplyTo answers (journal.read from to) reply old new
IsReply answers (import text) reply old new =
    (handed : Result (List Operation) Fault)
    × HandsOver text handed
    × IsReplyTo answers (journal.write handed) reply old new

-- each of the lines has one of the replies, one after the other
abbrev pub AreReplies : Answering → (lines replies : List (List ℕ)) → (old new : View) → Type 0
AreReplies answers [] [] old new = new ≡ old
AreReplies answers (l ∷ lines) (reply ∷ replies) old new =
    (next : View)
    × IsReply answers (saying_of l) reply old next
    × AreReplies answers lines replies next new
AreReplies answers lines replies old new = ⊥

-- ---- sessions

-- A session of the seat, in a row of n cells, that reads these bytes gives these replies, and its
-- seat has the old view at first and the new one at last.
abbrev pub IsSession :
    (keys : KeyOrder) (cells seat : ℕ) → (bytes : List ℕ) → (replies : List (List ℕ))
    → (old new : View) → Type 0
IsSession keys cells seat bytes replies old new =
    AreReplies (IsLegal keys cells seat) (served_lines bytes) replies old new

-- Such a session gives these replies at first, and perhaps more after them.
abbrev pub IsSessionSoFar :
    (keys : KeyOrder) (cells seat : ℕ) → (bytes : List ℕ) → (replies : List (List ℕ))
    → (old new : View) → Type 0
IsSessionSoFar keys cells seat bytes replies old new =
    AreReplies (IsLegal keys cells seat) (take (length replies) (served_lines bytes)) replies old new

-- Such a session gives these replies where its seat sees no blocks but its own.
abbrev pub IsSessionAlone :
    (keys : KeyOrder) (cells seat : ℕ) → (bytes : List ℕ) → (replies : List (List ℕ))
    → (old new : View) → Type 0
IsSessionAlone keys cells seat bytes replies old new =
    AreReplies (IsLegalAt keys cells seat) (served_lines bytes) replies old new
