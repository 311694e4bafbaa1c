use Rattle.std.proofs.Common.{arith}
use Rattle.std.proofs.lemmas.Result.{err_from_is_err_and}
use Rattle.edn_ops.proofs.FlatMaps.{field_goes_on, field_reached, map_read}
use Rattle.edn_ops.proofs.flat.flat_map.Goals as goal

pub loop-at-init : goal.loop-at-init
loop-at-init c = (c.requires, λ offset pairs front. (pairs, front))

pub returns-in_err-at : goal.returns-in_err-at
returns-in_err-at c offset pairs front =
    let p = err_from_is_err_and c.from_residual.result c.from_residual.ensures.1 in
    rw (p.1, p.2) (c.in_err-at.ensures.reads offset c.loop-at.fields (c.loop-at.invariant.1 offset pairs front))

pub loop-at-smaller : goal.loop-at-smaller
loop-at-smaller c =
    let low = rw c.in-Some.is at c.in_ok-at.ensures.further in
    let further = c.in-Some-flat_field.further in
    let goes_on = field_goes_on c.args.text.now c.in-Some.at c.behind_comma-next.result c.loop-at.fields c.flat_field.new.fields further c.behind_comma-next.ensures c.in-Some-flat_field.ensures in
    omega (arith, low, goes_on.0, goes_on.1)

pub loop-at-preserved : goal.loop-at-preserved
loop-at-preserved c =
    let text = c.args.text.now in
    let further = c.in-Some-flat_field.further in
    let next = c.behind_comma-next in (
      (field_goes_on text c.in-Some.at next.result c.loop-at.fields c.flat_field.new.fields further next.ensures c.in-Some-flat_field.ensures).0,
      λ offset pairs front.
          let read = rw c.in-Some.is at (c.in_ok-at.ensures.reads offset c.loop-at.fields (c.loop-at.invariant.1 offset pairs front)) in
          field_reached text offset c.in-Some.at next.result read.0 c.loop-at.fields c.flat_field.new.fields c.end_of.new.mops.items further read.1 next.ensures c.in-Some-flat_field.ensures,
    )

pub returns-in-Some-map_closer : goal.returns-in-Some-map_closer
returns-in-Some-map_closer c offset pairs front =
    let read = rw c.in-Some.is at (c.in_ok-at.ensures.reads offset c.loop-at.fields (c.loop-at.invariant.1 offset pairs front)) in
    let closer = c.in-Some-map_closer in
    map_read c.args.text.now offset read.0 c.loop-at.fields c.end_of.new.mops.items c.in-Some.at closer.closer read.1 (closer.ensures.gives c.in-Some.at c.behind_comma-next.ensures) closer.ensures.fits
