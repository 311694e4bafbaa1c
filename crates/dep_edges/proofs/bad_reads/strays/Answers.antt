use Rattle.std.proofs.Common.{◌<◌, ◌≤◌, List, length, map, subst, ap, ◌∙◌, arith}
use Rattle.hist_types.specs.Transactions.{Transaction}
use Rattle.dep_edges.specs.Tables.{IsPlace, version_at}
use Rattle.dep_edges.proofs.Shown.{strays_more, strays_counted}
use Rattle.dep_edges.proofs.Ruled.{none_stray}
use Rattle.dep_edges.proofs.bad_reads.strays.Goals as goal

pub loop-place-preserved : goal.loop-place-preserved
loop-place-preserved c =
    let h = c.args.history.now in
    let below : IsPlace h.txns c.loop-place.place = subst (λ (us : List Transaction). c.loop-place.place < length us) c.txns-place-end.ensures.value c.loop-place-test.true in
    strays_more h.txns c.loop-place.place (map (version_at h.table) c.loop-place.strays.items) (map (version_at h.table) c.add_strays.new.strays.items) below c.loop-place.invariant c.in_ok-add_strays.ensures

pub returns : goal.returns
returns c =
    let h = c.args.history.now in
    let over : length h.txns ≤ c.loop-place.place = omega (arith, c.loop-place-test.false, ap (λ (us : List Transaction). length us) c.txns-place-end.ensures.value) in
    omega (arith, strays_counted h.txns h.table c.loop-place.place c.loop-place.strays.items over c.loop-place.invariant, c.loop-place.strays.ok)

pub returns-then-not-possible : goal.returns-then-not-possible
returns-then-not-possible c =
    c.new-strays.ensures.len ∙ none_stray c.args.history.now.txns c.args.possible c.requires c.if-not-possible.true
