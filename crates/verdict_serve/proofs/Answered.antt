-- Texts of replies.
use Rattle.std.proofs.Common.{◌≡◌, inl, List, [], ◌∷◌, ◌++◌, Result, Ok, Err, refl, sym, ap, subst}
use Rattle.std.specs.Prelude.{ℕ, OnOk, OnErr, codes, flat_map, if◌then◌else◌}
use Rattle.edn_ops.specs.SourceTexts.{IsMopText, AreMopTexts}
use Rattle.edn_ops.specs.declared.write.MopText.{MopText}
use Rattle.hist_types.specs.CanonicalText.{operation_text}
use Rattle.hist_types.specs.LegalAnswers as journal
use Rattle.hist_types.specs.LegalAnswers.{Answer}
use Rattle.hist_types.specs.Operations.{Mop, Operation}
use Rattle.hist_types.specs.Refusals.{without_place, memory_fault}
use Rattle.hist_types.specs.Sessions.{overlong, quit, verdict, read, import, is_empty_import, refusal_reply, reply_of}
use Rattle.hist_types.specs.Texts.{line, refusal_line}
use Rattle.hist_types.specs.declared.types.Fault.{Fault}
use Rattle.hist_types.specs.declared.types.Refusal.{Refusal}
use Rattle.hist_types.specs.declared.types.Refusal.TheVariants.{BlockFull, EmptyImport}
use Rattle.hist_types.specs.declared.device.Failed.{Failed}
use Rattle.hist_types.specs.declared.device.Sink.{Ghosts as Sink}
use Rattle.live_journal.specs.Seats.{Seat, IsLegalCall, IsLegalImport}
use Rattle.hist_types.specs.Pieces.{HasTaken, HasTakenInPart}
use Rattle.verdict_serve.specs.Steps.{IsLegalReply, IsPrinted}

pub one_more_text : (texts : List MopText) (ms : List Mop) (t : MopText) (m : Mop) → AreMopTexts texts ms → IsMopText t m → AreMopTexts (texts ++ t ∷ []) (ms ++ m ∷ [])
one_more_text [] [] t m all one = (one, tt)
one_more_text [] (k ∷ ms) t m all one = absurd all
one_more_text (s ∷ texts) [] t m all one = absurd all
one_more_text (s ∷ texts) (k ∷ ms) t m all one = (all.0, one_more_text texts ms t m all.1 one)

-- the lines of operations
abbrev pub lines_of_operations : List Operation → List ℕ
lines_of_operations os = flat_map (λ (o : Operation). line (operation_text o)) os

-- ---- replies to lines

abbrev reply_by : Fault → Refusal → List ℕ
reply_by fault refusal = if is_empty_import refusal then line (codes "skipped") else refusal_line fault

pub skipped_reply : (fault : Fault) → fault.refusal ≡ EmptyImport → codes "skipped\n" ≡ refusal_reply fault
skipped_reply fault is = ap (reply_by fault) (sym is)

pub other_reply : (fault : Fault) → (fault.refusal ≡ EmptyImport → ⊥) → refusal_line fault ≡ refusal_reply fault
other_reply fault other = by fault.refusal other
  where
    by : (refusal : Refusal) → (refusal ≡ EmptyImport → ⊥) → refusal_line fault ≡ reply_by fault refusal
    by EmptyImport other = absurd (other refl)
    by refusal other = refl

module _ {T : Type 0} (prints : Sink T) where
  -- these bytes, which are the reply, were written as far as the sink took them
  pub printed :
      (r : Result (Unit {0}) Failed) (sink sink' : T) (bytes reply : List ℕ)
      → bytes ≡ reply
      → OnOk r (HasTaken prints sink sink' bytes)
      → OnErr r (HasTakenInPart prints sink sink' bytes)
      → IsPrinted prints r sink sink' reply
  printed (Ok done) sink sink' bytes reply e ok err = subst (λ t. HasTaken prints sink sink' t) e ok
  printed (Err failed) sink sink' bytes reply e ok err =
      subst (λ t. HasTakenInPart prints sink sink' t) e err

pub import_reply : (old new : Seat) (text : List ℕ) (answer : Answer) → IsLegalImport old new text answer → IsLegalReply (import text) (reply_of answer) old new
import_reply old new text answer legal = (legal.handed, legal.hands_over, (answer, legal.legal, refl))

pub verdict_reply : (old new : Seat) (answer : Answer) → IsLegalCall old new journal.verdict answer → IsLegalReply verdict (reply_of answer) old new
verdict_reply old new answer legal = (answer, legal, refl)

pub read_reply : (old new : Seat) (from to : ℕ) (answer : Answer) → IsLegalCall old new (journal.read from to) answer → IsLegalReply (read from to) (reply_of answer) old new
read_reply old new from to answer legal = (answer, legal, refl)

-- events for whose text memory is wanting
pub read_without_memory :
    (old new : Seat) (from to : ℕ) (events : List Operation)
    → IsLegalCall old new (journal.read from to) (journal.returned events)
    → IsLegalReply (read from to) (reply_of (journal.refused memory_fault)) old new
read_without_memory old new from to events legal = (journal.refused memory_fault, (legal.0, (inl refl, legal.1.1)), refl)

-- what is always written for an overlong line and for one that says quit
pub overlong_reply : (seat : Seat) → IsLegalReply overlong (refusal_line (without_place BlockFull)) seat seat
overlong_reply seat = (refl, refl)

pub quit_reply : (seat : Seat) → IsLegalReply quit (line (codes "bye")) seat seat
quit_reply seat = (refl, refl)
