use Rattle.std.proofs.Common.{rules, ◌≤◌, take, slice_index}
use Rattle.std.proofs.lemmas.List.Elements.{All-more}
use Rattle.serial_points.proofs.Bounded.{at_least_more}
use Rattle.serial_points.proofs.Listed.{all_gone}
use Rattle.serial_points.proofs.bounds.least_at.Goals as goal

pub loop-place-preserved : goal.loop-place-preserved
loop-place-preserved c =
    let i = c.loop-place.place-index in
    let places = c.args.places.now in
    let low = c.min-least.result in
    All-more (λ place. low ≤ slice_index c.args.points.now place) places i 0 c.loop-place-test.true
    (at_least_more c.args.points.now (take i places) low c.loop-place.least (search rules) c.loop-place.invariant)
    (search rules)

pub returns : goal.returns
returns c = all_gone (λ place. c.loop-place.least ≤ slice_index c.args.points.now place) c.args.places.now c.loop-place.place-index c.loop-place-test.false c.loop-place.invariant
