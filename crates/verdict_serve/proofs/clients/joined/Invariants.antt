-- The threads joined so far have kept their promises.
use Rattle.std.proofs.Common.{◌≡◌, ◌++◌}
use Rattle.std.specs.List.{AllZip}
use Rattle.std.specs.Vec.Iter.{into_iter_items}
use Rattle.verdict_serve.specs.Places.{IsEndAt}
use Rattle.verdict_serve.proofs.clients.joined.Given as goal

abbrev pub invariant-loop-thread : goal.invariant-loop-thread
invariant-loop-thread g l =
    (l.yielded ++ into_iter_items l.thread-iterator ≡ into_iter_items l.initial.thread-iterator)
    × AllZip (IsEndAt g.S.Source g.T.Sink) l.yielded l.ends.items
