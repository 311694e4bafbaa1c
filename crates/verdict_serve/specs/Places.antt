-- Clients with their seats, and the threads that serve them. No public clause cites this module.
use Rattle.std.specs.Prelude.{ℕ, suc, List, [], ◌∷◌, Result}
use Rattle.std.specs.declared.thread.PromisedHandle.{PromisedHandle}
use Rattle.hist_types.specs.declared.device.Sink.{Ghosts as Sink}
use Rattle.hist_types.specs.declared.device.Source.{Ghosts as Source}
use Rattle.live_journal.specs.Callers.{new_seat}
use Rattle.live_journal.specs.Seats.{Journal}
use Rattle.verdict_serve.specs.Served.{WasServed}
use Rattle.verdict_serve.specs.declared.clients.Client.{Client}
use Rattle.verdict_serve.specs.declared.clients.EndOf.{EndOf}
use Rattle.verdict_serve.specs.declared.clients.Place.{Place}
use Rattle.verdict_serve.specs.declared.session.Ended.{Ended}
use Rattle.verdict_serve.specs.declared.session.SessionFault.{SessionFault}

-- the clients with new seats of the journal, the first with this number
abbrev pub seated_from :
    {S T : Type 0} → Journal → (number : ℕ) → List (Client S T) → List (Place S T)
seated_from journal number [] = []
seated_from journal number (c ∷ clients) =
    record { seat = new_seat journal number; client = c } ∷ seated_from journal (suc number) clients

-- the place's client was served by its seat to this end
abbrev pub HasEnd :
    {S T : Type 0} → Source S → Sink T → Place S T → Result Ended SessionFault → Type 0
HasEnd reads prints place end = WasServed reads prints place.seat place.client end

-- a thread that serves the client of a place
abbrev pub Serving : (S T : Type 0) → Type 0
Serving S T = PromisedHandle (Result Ended SessionFault) (EndOf S T)

-- the place whose client it serves
abbrev pub place_of : {S T : Type 0} → Serving S T → Place S T
place_of thread = thread.promise.place.value

-- the client of the thread's place was served to this end
abbrev pub IsEndAt :
    {S T : Type 0} → Source S → Sink T → Serving S T → Result Ended SessionFault → Type 0
IsEndAt reads prints thread end = HasEnd reads prints (place_of thread) end
