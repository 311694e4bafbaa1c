use Rattle.std.proofs.Common.{inl, inr, ◌≤◌, slice_index, arith, below_more}
use Rattle.std.proofs.lemmas.Bool.{cases_lt}
use Rattle.std.proofs.lemmas.List.{get_or_past}
use Rattle.clean_order.proofs.keeping.start_first.Goals as goal

pub loop-place-preserved : goal.loop-place-preserved
loop-place-preserved c =
    below_more (λ k. slice_index c.args.starts.now k ≤ slice_index c.args.commits.now k) c.loop-place.place c.loop-place.invariant
    (omega (arith, c.number_at.ensures))

pub returns : goal.returns
returns c = λ k. elim (cases_lt k c.loop-place.place) [
  | inl low ↦ c.loop-place.invariant k low
  | inr up ↦ (
      let none = get_or_past c.args.starts.now k 0 (omega (arith, up, c.loop-place-test.false)) in
      omega (arith, none)
      )
]
