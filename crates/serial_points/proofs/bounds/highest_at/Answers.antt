use Rattle.std.proofs.Common.{rules, ◌≤◌, take, slice_index}
use Rattle.std.proofs.lemmas.List.Elements.{All-more}
use Rattle.serial_points.proofs.Bounded.{at_most_more}
use Rattle.serial_points.proofs.Listed.{all_gone}
use Rattle.serial_points.proofs.bounds.highest_at.Goals as goal

pub loop-place-preserved : goal.loop-place-preserved
loop-place-preserved c =
    let i = c.loop-place.place-index in
    let places = c.args.places.now in
    let high = c.max-highest.result in
    All-more (λ place. slice_index c.args.points.now place ≤ high) places i 0 c.loop-place-test.true
    (at_most_more c.args.points.now (take i places) c.loop-place.highest high (search rules) c.loop-place.invariant)
    (search rules)

pub returns : goal.returns
returns c = all_gone (λ place. slice_index c.args.points.now place ≤ c.loop-place.highest) c.args.places.now c.loop-place.place-index c.loop-place-test.false c.loop-place.invariant
