-- Sessions: how bytes are cut into lines, what lines say, the texts of answers, and whole sessions with near misses.
use Rattle.std.proofs.Common.{◌≡◌, inl, inr, ℕ, ◌≤◌, List, [], ◌∷◌, ◌++◌, length, Ok, Err, codes, true, false, refl, ap, ◌∙◌, arith}
use Rattle.std.proofs.lemmas.Bool.{lt-ltb, le-ltb}
use Rattle.std.specs.Fmt.{digits}
use Rattle.hist_types.specs.Handed.{HandsOver}
use Rattle.hist_types.specs.LegalAnswers.{View, accepted, returned, refused}
use Rattle.hist_types.specs.Refusals.{without_place, memory_fault}
use Rattle.hist_types.specs.Sessions.{lines_of, overlong, quit, verdict, read, import, without_return, saying_of, saying_of_text, served_lines, say_quit, reply_of, Answering, IsReply, IsSession, IsSessionSoFar, IsSessionAlone}
use Rattle.hist_types.specs.Tokens.{byte_fault}
use Rattle.hist_types.specs.declared.limits.TheConstants.{MAX_LINE_BYTES}
use Rattle.hist_types.specs.declared.types.Refusal.TheVariants.{Busy, BadRange, NotAMap, BlockFull, EmptyImport}
use Rattle.hist_types.specs.declared.types.KeyOrder.TheVariants.{Basic}
use Rattle.hist_types.proofs.Rows.Cutting.{reading_at, cutting_texts}
use Rattle.hist_types.proofs.Rows.Handed.{by_reading, reading_in}
use Rattle.hist_types.proofs.Rows.History.{invoke}
use Rattle.hist_types.proofs.Rows.LegalAnswers.{begin_x, end_x, block, view, at_event}

-- ---- lines

-- A byte 10 ends each line, an empty one too, and what has none after it is no line.
cut_lines :
    (lines_of (codes "quit\n\nread 0 1\r\nverdict") ≡ codes "quit" ∷ [] ∷ codes "read 0 1\r" ∷ [])
    × (lines_of (codes "quit") ≡ [])
    × (lines_of (codes "\n") ≡ [] ∷ [])
    × (lines_of [] ≡ [])
cut_lines = (refl, refl, refl, refl)

-- A byte 13 ends no line.
no_other_ends : lines_of (codes "a\rb\n") ≡ codes "a\rb" ∷ []
no_other_ends = refl

-- ---- what lines say

-- One byte 13 at the end is taken off, and none elsewhere.
byte_13 :
    (saying_of (codes "quit\r") ≡ quit)
    × (saying_of (codes "verdict\r") ≡ verdict)
    × (saying_of (codes "read 1 3\r") ≡ read 1 3)
    × (saying_of (codes "quit\r\r") ≡ import (codes "quit\r"))
    × (saying_of (codes "\rquit") ≡ import (codes "\rquit"))
    × (saying_of (codes "\r") ≡ import [])
byte_13 = (refl, refl, refl, refl, refl, refl)

-- The words are alone on their line, and written small.
words_alone :
    (saying_of (codes "quit") ≡ quit)
    × (saying_of (codes "quit ") ≡ import (codes "quit "))
    × (saying_of (codes " quit") ≡ import (codes " quit"))
    × (saying_of (codes "Quit") ≡ import (codes "Quit"))
    × (saying_of (codes "quit now") ≡ import (codes "quit now"))
    × (saying_of (codes "verdict") ≡ verdict)
    × (saying_of (codes "verdict 1") ≡ import (codes "verdict 1"))
    × (saying_of [] ≡ import [])
words_alone = (refl, refl, refl, refl, refl, refl, refl, refl)

-- Indexes have one to seven digits, which may begin with 0, and single blanks are between the words.
ranges :
    (saying_of (codes "read 0 2") ≡ read 0 2)
    × (saying_of (codes "read 0002 2") ≡ read 2 2)
    × (saying_of (codes "read 9999999 0000000") ≡ read 9999999 0)
    × (saying_of (codes "read 0 12345678") ≡ import (codes "read 0 12345678"))
    × (saying_of (codes "read 00000000 1") ≡ import (codes "read 00000000 1"))
ranges = (refl, refl, refl, refl, refl)

no_ranges :
    (saying_of (codes "read x") ≡ import (codes "read x"))
    × (saying_of (codes "read 0") ≡ import (codes "read 0"))
    × (saying_of (codes "read 0 ") ≡ import (codes "read 0 "))
    × (saying_of (codes "read  0 2") ≡ import (codes "read  0 2"))
    × (saying_of (codes "read 0 2 ") ≡ import (codes "read 0 2 "))
    × (saying_of (codes "read\t0 2") ≡ import (codes "read\t0 2"))
    × (saying_of (codes "read +1 2") ≡ import (codes "read +1 2"))
    × (saying_of (codes "read 1 2N") ≡ import (codes "read 1 2N"))
    × (saying_of (codes "read 0 1 2") ≡ import (codes "read 0 1 2"))
no_ranges = (refl, refl, refl, refl, refl, refl, refl, refl, refl)

-- A line of more than 1,048,576 bytes is overlong, of which the last one may be a byte 13.
too_long : (l : List ℕ) → length l ≡ 1048577 → saying_of l ≡ overlong
too_long l e =
    rw (lt-ltb MAX_LINE_BYTES (length l) (omega arith)) refl

-- One of so many bytes is not.
not-too_long : (l : List ℕ) → length l ≡ 1048576 → saying_of l ≡ saying_of_text (without_return l)
not-too_long l e =
    rw (le-ltb MAX_LINE_BYTES (length l) (omega arith)) refl

-- An overlong line is refused, and the journal is not asked.
too_long-reply : (answers : Answering) (l : List ℕ) (v : View) → length l ≡ 1048577 → IsReply answers (saying_of l) (codes "refused 37 BlockFull\n") v v
unfolding digits
too_long-reply answers l v e = rw (too_long l e) (refl, refl)

-- ---- which lines have replies

-- None after the first that says quit.
up_to_first_quit :
    (served_lines (codes "a\nquit\r\nquit\nb\n") ≡ codes "a" ∷ codes "quit\r" ∷ [])
    × (say_quit (codes "a\nquit\r\nquit\nb\n") ≡ true)
    × (served_lines (codes "a\nb\nquit") ≡ codes "a" ∷ codes "b" ∷ [])
    × (say_quit (codes "a\nb\nquit") ≡ false)
up_to_first_quit = (refl, refl, refl, refl)

-- ---- texts of answers

-- An index, events, and refusals, of which one is `skipped`.
answer_texts :
    (reply_of (accepted 17) ≡ codes "event 17\n")
    × (reply_of (returned []) ≡ codes "events 0\n")
    × (reply_of (returned (begin_x ++ end_x)) ≡ codes "events 2\n{:type :invoke, :process 0, :value [[:w :x 1]]}\n{:type :ok, :process 0, :value [[:w :x 1]]}\n")
    × (reply_of (refused (at_event Busy 1)) ≡ codes "refused 1 Busy event 1\n")
    × (reply_of (refused (byte_fault NotAMap 0)) ≡ codes "refused 27 NotAMap byte 0\n")
    × (reply_of (refused (without_place BlockFull)) ≡ codes "refused 37 BlockFull\n")
    × (reply_of (refused memory_fault) ≡ codes "refused 10 Memory\n")
    × (reply_of (refused (without_place EmptyImport)) ≡ codes "skipped\n")
unfolding digits
answer_texts = (refl, refl, refl, refl, refl, refl, refl, refl)

-- ---- a whole session

-- what a client writes
abbrev written : List ℕ
written = codes "{:type :invoke, :process 0, :value [[:w :x 1]]}\n{:type :invoke, :process 0, :value []}\n{:type :ok, :process 0, :value [[:w :x +1]]}\n; nothing\nread 0 2\nread 1 3\nquit\n"

-- what it reads
abbrev replies : List (List ℕ)
replies =
    codes "event 0\n"
    ∷ codes "refused 1 Busy event 1\n"
    ∷ codes "event 1\n"
    ∷ codes "skipped\n"
    ∷ codes "events 2\n{:type :invoke, :process 0, :value [[:w :x 1]]}\n{:type :ok, :process 0, :value [[:w :x 1]]}\n"
    ∷ codes "refused 9 BadRange\n"
    ∷ codes "bye\n"
    ∷ []

-- what its seat has seen at last: both blocks of a row of two cells, which it filled itself
abbrev filled : View
filled = view (block 0 0 begin_x ∷ block 0 1 end_x ∷ []) (0 ∷ 1 ∷ [])

-- what its seat had seen after the first line
abbrev begun : View
begun = view (block 0 0 begin_x ∷ []) (0 ∷ [])

-- what the text of a line hands over
begins : HandsOver (codes "{:type :invoke, :process 0, :value [[:w :x 1]]}") (Ok begin_x)
unfolding cutting_texts
begins = by_reading 99 _ (reading_in (reading_at 99 (codes "{:type :invoke, :process 0, :value [[:w :x 1]]}"))) refl

begins_again : HandsOver (codes "{:type :invoke, :process 0, :value []}") (Ok (invoke 0 [] ∷ []))
unfolding cutting_texts
begins_again = by_reading 99 _ (reading_in (reading_at 99 (codes "{:type :invoke, :process 0, :value []}"))) refl

ends : HandsOver (codes "{:type :ok, :process 0, :value [[:w :x +1]]}") (Ok end_x)
unfolding cutting_texts
ends = by_reading 99 _ (reading_in (reading_at 99 (codes "{:type :ok, :process 0, :value [[:w :x +1]]}"))) refl

comments : HandsOver (codes "; nothing") (Err (without_place EmptyImport))
unfolding cutting_texts
comments = by_reading 99 _ (reading_in (reading_at 99 (codes "; nothing"))) refl

-- The session of a seat that sees no blocks but its own,
whole_session : IsSessionAlone Basic 2 0 written replies (view [] []) filled
unfolding digits
whole_session = (
  begun,
  (Ok begin_x, begins, (accepted 0, (refl, refl, refl), refl)),
  (
    begun,
    (Ok (invoke 0 [] ∷ []), begins_again, (refused (at_event Busy 1), (inr (inl refl), refl), refl)),
    (
      filled,
      (Ok end_x, ends, (accepted 1, (refl, refl, refl), refl)),
      (
        filled,
        (Err (without_place EmptyImport), comments, (refused (without_place EmptyImport), (inr refl, refl), refl)),
        (
          filled,
          (returned (begin_x ++ end_x), (((omega arith, omega arith), refl), refl), refl),
          (
            filled,
            (refused (without_place BadRange), (inr ((λ r. absurd (let within : 3 ≤ 2 = r.1 in omega arith)), refl), refl), refl),
            (
              filled,
              (refl, refl),
              refl,
            ),
          ),
        ),
      ),
    ),
  ),
)

-- and its beginning, as it stands after the first line.
first_reply : IsSessionSoFar Basic 2 0 written (codes "event 0\n" ∷ []) (view [] []) begun
unfolding digits
first_reply = (begun, (Ok begin_x, begins, (accepted 0, ([], (refl, refl, refl)), refl)), refl)

-- Another seat's session finds these blocks, and nothing is answered after its quit.
later_session :
    IsSession Basic 2 1 (codes "read 0002 2\r\nread 0 1\nquit\nread 0 1\n")
    (codes "events 0\n" ∷ codes "events 1\n{:type :invoke, :process 0, :value [[:w :x 1]]}\n" ∷ codes "bye\n" ∷ [])
    (view [] [])
    (view (block 0 0 begin_x ∷ block 0 1 end_x ∷ []) [])
unfolding digits
later_session =
    let seen : View = view (block 0 0 begin_x ∷ block 0 1 end_x ∷ []) [] in (
      seen,
      (returned [], (block 0 0 begin_x ∷ block 0 1 end_x ∷ [], (((omega arith, omega arith), refl), refl)), refl),
      (
        seen,
        (returned begin_x, ([], (((omega arith, omega arith), refl), refl)), refl),
        (
          seen,
          (refl, refl),
          refl,
        ),
      ),
    )

-- Each line may be refused for memory.
no_memory : IsSession Basic 2 0 (codes "verdict\nread 0 0\n") (codes "refused 10 Memory\n" ∷ codes "refused 10 Memory\n" ∷ []) (view [] []) (view [] [])
unfolding digits
no_memory = (
  view [] [],
  (refused memory_fault, ([], (inl refl, refl)), refl),
  (
    view [] [],
    (refused memory_fault, ([], (inl refl, refl)), refl),
    refl,
  ),
)

-- Not with one reply more than lines or one less, not with a reply to what no byte 10 ends, and not with one after quit.
not-sessions :
    (¬ IsSession Basic 2 0 (codes "quit\n") [] (view [] []) (view [] []))
    × (¬ IsSession Basic 2 0 [] (codes "bye\n" ∷ []) (view [] []) (view [] []))
    × (¬ IsSession Basic 2 0 (codes "quit") (codes "bye\n" ∷ []) (view [] []) (view [] []))
    × (¬ IsSession Basic 2 0 (codes "quit\nquit\n") (codes "bye\n" ∷ codes "bye\n" ∷ []) (view [] []) (view [] []))
not-sessions = ((λ h. h), (λ h. h), (λ h. h), (λ h. h.2))

-- Not with another text, and not where the seat has seen more after a line that asks the journal nothing.
not-replies :
    (¬ IsSession Basic 2 0 (codes "quit\n") (codes "bye" ∷ []) (view [] []) (view [] []))
    × (¬ IsSession Basic 2 0 (codes "quit\n") (codes "bye\n" ∷ []) (view [] []) begun)
not-replies = (
  (λ h. absurd (cc h.1.0)),
  (λ h. absurd (cc (ap (λ (v : View). v.seen) (h.2 ∙ h.1.1)))),
)
