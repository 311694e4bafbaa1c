use Rattle.std.proofs.Common.{◌≡◌}
use Rattle.std.proofs.lemmas.List.Elements.{All-push, All-same}
use Rattle.live_journal.specs.Seats.{Seat}
use Rattle.seat_calls.proofs.journals.seats_of.Goals as goal

pub loop-worker-preserved : goal.loop-worker-preserved
loop-worker-preserved g c =
    let P : Seat → Type 0 = λ seat. seat.row ≡ g.N.Naming.cells in
    All-same P _ _ c.in_ok-push.ensures.items
    (All-push P _ _ c.loop-worker.invariant c.into_seat.ensures)
