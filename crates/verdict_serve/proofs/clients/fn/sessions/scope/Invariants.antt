-- The places so far are promised ends.
use Rattle.std.proofs.Common.{◌≡◌, ◌++◌, map}
use Rattle.std.specs.Vec.Iter.{into_iter_items}
use Rattle.verdict_serve.specs.Places.{place_of}
use Rattle.verdict_serve.proofs.clients.fn.sessions.scope.Given as goal

abbrev pub invariant-loop-place : goal.invariant-loop-place
invariant-loop-place g l =
    (l.yielded ++ into_iter_items l.place-iterator ≡ into_iter_items l.initial.place-iterator)
    × (map place_of l.started.items ≡ l.yielded)
