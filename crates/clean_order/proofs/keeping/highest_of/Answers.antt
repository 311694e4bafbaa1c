use Rattle.std.proofs.Common.{ℕ, List, slice_index, subst, take}
use Rattle.std.proofs.lemmas.List.{take_all}
use Rattle.std.proofs.lemmas.List.Elements.{All-more, All-weaker}
use Rattle.clean_order.specs.Highest.{IsCounted, AreCounted}
use Rattle.clean_order.specs.declared.keeping.Highest.{Highest}
use Rattle.clean_order.proofs.keeping.highest_of.Goals as goal

abbrev Counts : Highest → (numbers : List ℕ) → ℕ → Type 0
Counts highest numbers place = IsCounted highest place (slice_index numbers place)

pub loop-place-preserved : goal.loop-place-preserved
loop-place-preserved c =
    let places = c.args.places.now in
    let numbers = c.args.numbers.now in
    let index = c.loop-place.place-index in
    let old = c.loop-place.highest in
    let new = c.with-highest.result in
    let before = take index places in
    All-more (Counts new numbers) places index 0 c.loop-place-test.true
    (All-weaker (Counts old numbers) (Counts new numbers) (λ place h. c.with-highest.ensures.others place (slice_index numbers place) h) before c.loop-place.invariant)
    (subst (IsCounted new (slice_index places index)) c.number_at.ensures c.with-highest.ensures.one)

pub returns : goal.returns
returns c =
    subst (AreCounted c.loop-place.highest c.args.numbers.now) (take_all c.loop-place.place-index c.args.places.now c.loop-place-test.false) c.loop-place.invariant
