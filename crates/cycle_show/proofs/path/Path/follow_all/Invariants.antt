-- The path so far follows the walk so far.
use Rattle.std.proofs.Common.{◌≡◌, take}
use Rattle.cycle_show.specs.Paths.{walked, KnowsPlaces}
use Rattle.cycle_show.proofs.path.Path.follow_all.Given as goal

abbrev pub invariant-loop-next : goal.invariant-loop-next
invariant-loop-next l =
    (l.self.edges.items ≡ walked l.fn.self.edges.items (take l.next-index l.walk))
    × KnowsPlaces l.self.places l.self.edges.items
