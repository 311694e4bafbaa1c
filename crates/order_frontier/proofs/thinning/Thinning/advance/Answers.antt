use Rattle.std.proofs.Common.{◌≡◌, ◌∙◌, ◌<◌, subst, take, length, arith, get_or}
use Rattle.process_map.specs.Values.{value_of}
use Rattle.std.proofs.lemmas.List.{get_or_default}
use Rattle.std.proofs.lemmas.List.Elements.{All-from_recursion}
use Rattle.hist_types.proofs.Members.{In}
use Rattle.order_frontier.specs.declared.types.Completed.{Completed}
use Rattle.order_frontier.proofs.Advancing.{advance-kept, below_more, all_from}
use Rattle.order_frontier.proofs.thinning.Thinning.advance.Goals as goal

pub returns-then-from-index-clause-before : goal.returns-then-from-index-clause-before
returns-then-from-index-clause-before c =
    let done = take c.loop-count.count c.args.done.now in
    All-from_recursion (λ (d : Completed). d.completion < c.args.index) done (all_from (λ (d : Completed). d.completion < c.args.index) done c.loop-count.invariant.before)

pub returns-clause-before : goal.returns-clause-before
returns-clause-before c =
    let all : length c.args.done.now ≡ c.loop-count.count = omega (arith, c.loop-count-test.false, c.loop-count.auto.count-end) in
    let done = take (length c.args.done.now) c.args.done.now in
    All-from_recursion (λ (d : Completed). d.completion < c.args.index) done
    (all_from (λ (d : Completed). d.completion < c.args.index) done (λ d i. c.loop-count.invariant.before d (subst (λ n. In d (take n c.args.done.now)) all i)))

pub loop-count-preserved : goal.loop-count-preserved
loop-count-preserved c =
    let k = c.loop-count.count in
    let d : Completed = get_or c.args.done.now k (record { completion = 0; invocation = 0; process = 0 }) in
    let is : get_or c.args.done.now k d ≡ d = get_or_default c.args.done.now k d (record { completion = 0; invocation = 0; process = 0 }) c.loop-count-test.true in
    record {
      kept = λ earlier timely kept.
          advance-kept earlier c.args.done.now k d c.loop-count.self.recent c.pass.new.self.recent (value_of c.loop-count.self.last) (value_of c.pass.new.self.last)
          c.loop-count-test.true is timely (c.loop-count.invariant.kept earlier timely kept) c.in_ok-pass.ensures.recent c.in_ok-pass.ensures.last;
      before = below_more c.args.done.now k d c.args.index c.loop-count-test.true is (subst (λ n. n < c.args.index) c.from.ensures c.if-from-index.false) c.loop-count.invariant.before;
      order = c.pass.ensures.order ∙ c.loop-count.invariant.order;
    }
