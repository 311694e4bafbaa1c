use Rattle.std.proofs.Common.{inl, inr, take}
use Rattle.std.proofs.lemmas.List.Elements.{All-more, All-weaker}
use Rattle.serial_points.specs.Steps.{HasStep}
use Rattle.serial_points.proofs.Listed.{all_gone}
use Rattle.serial_points.proofs.steps.StepLists.add_all.Goals as goal

pub loop-step-preserved : goal.loop-step-preserved
loop-step-preserved c =
    let steps = c.args.steps.now in
    let i = c.loop-step.step-index in
    let so_far = c.loop-step.invariant in
    let one = c.in_ok-add.ensures in
    record {
      stay_earlier = λ n m listed. one.stay_earlier n m (so_far.stay_earlier n m listed);
      stay_later = λ n m listed. one.stay_later n m (so_far.stay_later n m listed);
      there =
          All-more (HasStep c.add.new.self) steps i (0, 0) c.loop-step-test.true
          (All-weaker (HasStep c.loop-step.self) (HasStep c.add.new.self) (λ s has. one.stay_earlier s.0 s.1 has) (take i steps) so_far.there)
          one.there;
      only = λ s has. elim (one.only s has) [
        | inl was ↦ elim (so_far.only s was) [
          | inl before ↦ inl before
          | inr (fresh, listed) ↦ inr (one.stay_fresh s fresh, one.stay_later s.1 s.0 listed)
        ]
        | inr now ↦ inr now
      ];
    }

pub returns : goal.returns
returns c =
    let so_far = c.loop-step.invariant in
    record {
      stay_earlier = so_far.stay_earlier;
      stay_later = so_far.stay_later;
      there = all_gone (HasStep c.loop-step.self) c.args.steps.now c.loop-step.step-index c.loop-step-test.false so_far.there;
      only = so_far.only;
    }
