-- The clients so far have their seats.
use Rattle.std.proofs.Common.{◌≡◌, ◌++◌}
use Rattle.std.specs.Vec.Iter.{into_iter_items}
use Rattle.verdict_serve.specs.Places.{seated_from}
use Rattle.verdict_serve.proofs.clients.seated.Given as goal

abbrev pub invariant-loop-client : goal.invariant-loop-client
invariant-loop-client g l =
    (l.yielded ++ into_iter_items l.client-iterator ≡ into_iter_items l.initial.client-iterator)
    × (l.places.items ≡ seated_from l.journal 0 l.yielded)
