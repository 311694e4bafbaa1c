-- What a session has done: which bytes its source gave, and which replies its sink took.
use Rattle.std.specs.Prelude.{◌≡◌, ◌⊎◌, ℕ, suc, List, [], ◌∷◌, ◌++◌, length, min, take, flat_map, ⊤, true, false, Option, Result, Ok, Err}
use Rattle.std.specs.Io.KnownBytes.{Appends, IsAtEnd}
use Rattle.hist_types.specs.Devices.{CountsFailure, most_failures}
use Rattle.hist_types.specs.Sessions.{IsSession, IsSessionSoFar, say_quit}
use Rattle.hist_types.specs.declared.device.Sink.{Ghosts as Sink}
use Rattle.hist_types.specs.declared.device.Source.{Ghosts as Source}
use Rattle.live_journal.specs.Callers.{new_seat}
use Rattle.live_journal.specs.Seats.{Journal, Seat, IsSameSeat}
use Rattle.hist_types.specs.Pieces.{HasTaken}
use Rattle.verdict_serve.specs.Sources.{HasGiven, HasFailedAfter}
use Rattle.verdict_serve.specs.declared.clients.Client.{Client}
use Rattle.verdict_serve.specs.declared.session.Ended.{Ended}
use Rattle.verdict_serve.specs.declared.session.Ended.TheVariants.{Quit, Eof}
use Rattle.verdict_serve.specs.declared.session.SessionFault.{SessionFault}
use Rattle.verdict_serve.specs.declared.session.SessionFault.TheVariants.{Device, Memory}

-- the replies, one after the other
abbrev pub joined : List (List ℕ) → List ℕ
joined replies = flat_map (λ reply. reply) replies

-- how many replies there are, as far as they are counted
abbrev pub counted : List (List ℕ) → ℕ
counted replies = min (length replies) most_failures

-- it ended so: by a line that says quit, or at the source's end without one
abbrev pub HasEnded : Ended → (bytes : List ℕ) → (remaining : Option (List ℕ)) → Type 0
HasEnded Quit bytes remaining = say_quit bytes ≡ true
HasEnded Eof bytes remaining = (say_quit bytes ≡ false) × IsAtEnd remaining

-- A session ended so: the lines of the bytes that the source gave have these replies by legal
-- answers to the seat, each line one up to and with the first that says quit, and the sink took
-- them whole and nothing else.
pub record HasServed {S T : Type 0} (reads : Source S) (prints : Sink T) (ended : Ended)
    (old new : Seat) (source source' : S) (sink sink' : T) : Type 0 where
  pub bytes : List ℕ
  pub replies : List (List ℕ)
  pub given : HasGiven reads source source' bytes
  pub session : IsSession old.keys (length old.row) old.number bytes replies old.view new.view
  pub printed : HasTaken prints sink sink' (joined replies)
  pub ended_so : HasEnded ended bytes (reads.remaining source')

-- The source failed after it gave these bytes. All their lines, none of which says quit, have these
-- replies; the sink took them whole and nothing else.
pub record HasLostSource {S T : Type 0} (reads : Source S) (prints : Sink T) (answered : ℕ)
    (old new : Seat) (source source' : S) (sink sink' : T) : Type 0 where
  pub bytes : List ℕ
  pub replies : List (List ℕ)
  pub failed : HasFailedAfter reads source source' bytes
  pub session : IsSession old.keys (length old.row) old.number bytes replies old.view new.view
  pub no_quit : say_quit bytes ≡ false
  pub printed : HasTaken prints sink sink' (joined replies)
  pub answered_are : answered ≡ counted replies

-- The sink failed: it took these replies to the first lines whole, and a beginning of the next.
pub record HasLostSink {S T : Type 0} (reads : Source S) (prints : Sink T) (answered : ℕ)
    (old new : Seat) (source source' : S) (sink sink' : T) : Type 0 where
  pub bytes : List ℕ
  pub replies : List (List ℕ)
  pub next : List ℕ
  pub count : ℕ
  pub given : HasGiven reads source source' bytes
  pub session :
      IsSessionSoFar old.keys (length old.row) old.number bytes
      (replies ++ next ∷ []) old.view new.view
  pub printed :
      Appends (prints.contents sink) (prints.contents sink') (joined replies ++ take count next)
  pub failed : CountsFailure (prints.failures sink) (prints.failures sink')
  pub answered_are : answered ≡ counted replies

-- one of the devices failed, once so many lines had been answered
abbrev pub HasLostDevice :
    {S T : Type 0} → Source S → Sink T → (answered : ℕ) → (old new : Seat)
    → (source source' : S) → (sink sink' : T) → Type 0
HasLostDevice reads prints answered old new source source' sink sink' =
    HasLostSource reads prints answered old new source source' sink sink'
    ⊎ HasLostSink reads prints answered old new source source' sink sink'

-- ---- sessions of clients

-- A session came to this end: it served each line, it lost a device, or memory ran out before
-- anything was read.
abbrev pub HasComeTo :
    {S T : Type 0} → Source S → Sink T → Result Ended SessionFault → (old new : Seat)
    → (source source' : S) → (sink sink' : T) → Type 0
HasComeTo reads prints (Ok ended) old new source source' sink sink' =
    HasServed reads prints ended old new source source' sink sink'
HasComeTo reads prints (Err (Device answered)) old new source source' sink sink' =
    HasLostDevice reads prints answered old new source source' sink sink'
HasComeTo reads prints (Err Memory) old new source source' sink sink' =
    (new ≡ old) × (source' ≡ source) × (sink' ≡ sink)

-- The client's session, by this seat and with the source and the sink that the client had, came to
-- this end.
pub record WasServed {S T : Type 0} (reads : Source S) (prints : Sink T) (seat : Seat)
    (client : Client S T) (end : Result Ended SessionFault) : Type 0 where
  -- as they are at last
  pub new : Seat
  pub source : S
  pub sink : T
  pub same : IsSameSeat seat new
  pub came_to : HasComeTo reads prints end seat new client.source source client.sink sink

-- There are as many ends as clients. Each client was served to its end by a new seat of the
-- journal: the first one by the seat with this number, and each other one by that with the next.
abbrev pub WereServed :
    {S T : Type 0} → Source S → Sink T → Journal → (number : ℕ) → List (Client S T)
    → List (Result Ended SessionFault) → Type 0
WereServed reads prints journal number [] [] = ⊤
WereServed reads prints journal number (c ∷ clients) (e ∷ ends) =
    WasServed reads prints (new_seat journal number) c e
    × WereServed reads prints journal (suc number) clients ends
WereServed reads prints journal number clients ends = ⊥
