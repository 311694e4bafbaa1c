use Rattle.std.proofs.Common.{◌≡◌, length, sym, arith, ◌∙◌, rules}
use Rattle.std.proofs.lemmas.Result.{IfOk-weaker}
use Rattle.graph_search.proofs.Searching.{close, ends, ends_freely, ends_paid, next, started, stuck}
use Rattle.graph_search.proofs.breadth_first.Reached.search.Goals as goal

pub loop-cost-init : goal.loop-cost-init
loop-cost-init g c = record {
  count = c.in_ok-start.ensures.count;
  layered = started c.requires.from c.in_ok-start.ensures.marks c.in_ok-start.ensures.queue;
}

pub returns-then-branch : goal.returns-then-branch
returns-then-branch g c =
    let e = c.in_ok-open_all.ensures in
    let is = ends_freely c.loop-cost.invariant.layered (omega (arith, c.loop-cost-test.true)) e.goes_on c.if-branch.true in
    record {
      count = e.count ∙ c.loop-cost.invariant.count;
      reached = is.reached;
      first = is.first;
      cheap = is.cheap;
      found = is.found;
      unfound = tt;
    }

pub returns-then-branch-2 : goal.returns-then-branch-2
returns-then-branch-2 g c =
    let e = c.in_ok-open_all.ensures in
    let e' = c.in_ok-open_layer.ensures in
    let is = ends_paid (close c.loop-cost.invariant.layered e.goes_on c.if-branch.false e.opened) c.loop-cost-test.true e'.goes_on c.if-branch-2.true in
    record {
      count = e'.count ∙ e.count ∙ c.loop-cost.invariant.count;
      reached = is.reached;
      first = is.first;
      cheap = is.cheap;
      found = is.found;
      unfound = tt;
    }

pub returns-then-len-next_layer : goal.returns-then-len-next_layer
returns-then-len-next_layer g c =
    let e = c.in_ok-open_all.ensures in
    let e' = c.in_ok-open_layer.ensures in
    let next_layer : c.len-next_layer.result ≡ length c.open_all.new.self.queue.items = search rules in
    let len : c.len.result ≡ length c.open_layer.new.self.queue.items = search rules in
    let is =
    stuck (next (close c.loop-cost.invariant.layered e.goes_on c.if-branch.false e.opened) c.loop-cost-test.true e'.goes_on c.if-branch-2.false e'.opened)
    (sym len ∙ c.if-len-next_layer.true ∙ next_layer) (omega (arith, c.loop-cost-test.true)) in
    record {
      count = e'.count ∙ e.count ∙ c.loop-cost.invariant.count;
      reached = is.reached;
      first = is.first;
      cheap = is.cheap;
      found = tt;
      unfound = is.unfound;
    }

pub loop-cost-preserved : goal.loop-cost-preserved
loop-cost-preserved g c =
    let e = c.in_ok-open_all.ensures in
    let e' = c.in_ok-open_layer.ensures in
    let next_layer : c.len-next_layer.result ≡ length c.open_all.new.self.queue.items = search rules in
    record {
      count = e'.count ∙ e.count ∙ c.loop-cost.invariant.count;
      layered =
          rw next_layer
          (next (close c.loop-cost.invariant.layered e.goes_on c.if-branch.false e.opened) c.loop-cost-test.true e'.goes_on c.if-branch-2.false e'.opened);
    }

pub returns : goal.returns
returns g c =
    let r = c.open_all-2.result in
    let e = c.open_all-2.ensures in
    let last : c.loop-cost._cost ≡ c.args.most = omega (arith, c.loop-cost.auto._cost-end, c.loop-cost-test.false) in
    let is = ends c.open_all-2.new.self.marks c.open_all-2.new.self.queue.items r c.loop-cost.invariant.layered last e.goes_on e.opened in
    record {
      count = e.count ∙ c.loop-cost.invariant.count;
      reached = IfOk-weaker r _ _ (λ found is. is.reached) is;
      first = IfOk-weaker r _ _ (λ found is. is.first) is;
      cheap = IfOk-weaker r _ _ (λ found is. is.cheap) is;
      found = IfOk-weaker r _ _ (λ found is. is.found) is;
      unfound = IfOk-weaker r _ _ (λ found is. is.unfound) is;
    }
