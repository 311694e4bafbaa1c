-- One line of a session. No public clause cites this module.
use Rattle.std.specs.Prelude.{◌≡◌, ◌⊎◌, ℕ, List, ◌++◌, length, Bool, true, false, Result, MatchResult}
use Rattle.std.specs.Io.KnownBytes.{IsAtEnd}
use Rattle.hist_types.specs.LegalAnswers.{IsLegal}
use Rattle.hist_types.specs.Sessions.{Saying as ASaying, overlong, quit, IsReply, saying_of, says_quit}
use Rattle.hist_types.specs.declared.device.Failed.{Failed}
use Rattle.hist_types.specs.declared.device.Sink.{Ghosts as Sink}
use Rattle.hist_types.specs.declared.device.Source.{Ghosts as Source}
use Rattle.live_journal.specs.Seats.{Seat}
use Rattle.hist_types.specs.Pieces.{HasTaken, HasTakenInPart}
use Rattle.verdict_serve.specs.Cuts.{BeginsWithLine, IsUnbroken}
use Rattle.verdict_serve.specs.Sources.{HasGiven, HasFailed}
use Rattle.verdict_serve.specs.declared.lines.Next.{Next}
use Rattle.verdict_serve.specs.declared.lines.Next.TheVariants.{Line, Overlong, End}
use Rattle.verdict_serve.specs.declared.session.Step.{Step}
use Rattle.verdict_serve.specs.declared.session.Step.TheVariants as steps

-- ---- replies

-- the sink took all of the reply, or failed and took a beginning of it
abbrev pub IsPrinted :
    {T : Type 0} → Sink T → Result (Unit {0}) Failed → (sink sink' : T) → (reply : List ℕ) → Type 0
IsPrinted prints result sink sink' reply =
    MatchResult result (λ _. HasTaken prints sink sink' reply)
    (λ _. HasTakenInPart prints sink sink' reply)

-- the reply is one to a line that says this, by a legal answer to the seat
abbrev pub IsLegalReply : ASaying → (reply : List ℕ) → (old new : Seat) → Type 0
IsLegalReply saying reply old new =
    IsReply (IsLegal old.keys (length old.row) old.number) saying reply old.view new.view

-- the seat answered a line that says this, and the reply was printed
pub record HasAnswered {T : Type 0} (prints : Sink T) (saying : ASaying)
    (result : Result (Unit {0}) Failed) (old new : Seat) (sink sink' : T) : Type 0 where
  pub reply : List ℕ
  pub legal : IsLegalReply saying reply old new
  pub printed : IsPrinted prints result sink sink' reply

-- ---- lines

-- a line that came so says this
abbrev pub IsSaidBy : Next → (l : List ℕ) → ASaying → Type 0
IsSaidBy Line l saying = saying ≡ saying_of l
IsSaidBy Overlong l saying = saying ≡ overlong
IsSaidBy End l saying = ⊥

-- with the bytes before, the source gives this line, and these bytes after it
pub record GivesLine {S : Type 0} (reads : Source S) (before : List ℕ) (source source' : S)
    (l rest : List ℕ) : Type 0 where
  pub bytes : List ℕ
  pub given : HasGiven reads source source' bytes
  pub begins : BeginsWithLine (before ++ bytes) l rest

-- a line was read and answered, and it said quit or it didn't
pub record HasAnsweredLine {S T : Type 0} (reads : Source S) (prints : Sink T) (quits : Bool)
    (before rest : List ℕ) (old new : Seat) (source source' : S) (sink sink' : T) : Type 0 where
  pub line : List ℕ
  pub reply : List ℕ
  pub given : GivesLine reads before source source' line rest
  pub says : says_quit line ≡ quits
  pub legal : IsLegalReply (saying_of line) reply old new
  pub printed : HasTaken prints sink sink' reply

-- the source ended, and no line was left
pub record HasFoundEnd {S T : Type 0} (reads : Source S) (before : List ℕ)
    (old new : Seat) (source source' : S) (sink sink' : T) : Type 0 where
  pub bytes : List ℕ
  pub given : HasGiven reads source source' bytes
  pub unbroken : IsUnbroken (before ++ bytes)
  pub at_end : IsAtEnd (reads.remaining source')
  pub same_seat : new ≡ old
  pub same_sink : sink' ≡ sink

abbrev pub HasStepped :
    {S T : Type 0} → Source S → Sink T → Step → (before rest : List ℕ) → (old new : Seat)
    → (source source' : S) → (sink sink' : T) → Type 0
HasStepped reads prints steps.Answered before rest old new source source' sink sink' =
    HasAnsweredLine reads prints false before rest old new source source' sink sink'
HasStepped reads prints steps.Quit before rest old new source source' sink sink' =
    HasAnsweredLine reads prints true before rest old new source source' sink sink'
HasStepped reads prints steps.End before rest old new source source' sink sink' =
    HasFoundEnd reads before old new source source' sink sink'

-- what becomes of an answered line that says this
abbrev pub step_for : ASaying → Step
step_for quit = steps.Quit
step_for saying = steps.Answered

-- ---- failures

-- the source failed before it gave a whole line, and nothing else happened
pub record HasLostNext {S T : Type 0} (reads : Source S) (before : List ℕ) (old new : Seat)
    (source source' : S) (sink sink' : T) : Type 0 where
  pub failed : HasFailed reads before source source'
  pub same_seat : new ≡ old
  pub same_sink : sink' ≡ sink

-- a line was read, and the sink failed at its reply
pub record HasLostReply {S T : Type 0} (reads : Source S) (prints : Sink T) (before : List ℕ)
    (old new : Seat) (source source' : S) (sink sink' : T) : Type 0 where
  pub line : List ℕ
  pub rest : List ℕ
  pub reply : List ℕ
  pub given : GivesLine reads before source source' line rest
  pub legal : IsLegalReply (saying_of line) reply old new
  pub failed : HasTakenInPart prints sink sink' reply

abbrev pub HasStopped :
    {S T : Type 0} → Source S → Sink T → (before : List ℕ) → (old new : Seat)
    → (source source' : S) → (sink sink' : T) → Type 0
HasStopped reads prints before old new source source' sink sink' =
    HasLostNext reads before old new source source' sink sink'
    ⊎ HasLostReply reads prints before old new source source' sink sink'
