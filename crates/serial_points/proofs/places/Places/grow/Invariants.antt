-- What is listed stays the same.
use Rattle.std.proofs.Common.{◌-◌, length, map}
use Rattle.serial_points.specs.Users.{StayListed}
use Rattle.serial_points.proofs.places.Places.grow.Given as goal

abbrev pub invariant-loop-self : goal.invariant-loop-self
invariant-loop-self l =
    let before = map (λ (list : _). list.items) l.initial.self-inside.lists.items in
    let after = map (λ (list : _). list.items) l.self-inside.lists.items in
    StayListed before after × StayListed after before

abbrev pub decreases-loop-self : goal.decreases-loop-self
decreases-loop-self l = l.numbers - length l.self-inside.lists.items
