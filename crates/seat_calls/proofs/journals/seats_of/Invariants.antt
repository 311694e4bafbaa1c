use Rattle.std.proofs.Common.{◌≡◌, All}
use Rattle.live_journal.specs.Seats.{Seat}
use Rattle.seat_calls.proofs.journals.seats_of.Given as goal

abbrev pub invariant-loop-worker : goal.invariant-loop-worker
invariant-loop-worker g l = All (λ (seat : Seat). seat.row ≡ g.N.Naming.cells) l.seats.items
