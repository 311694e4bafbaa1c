use Rattle.std.proofs.Common.{◌≡◌, ◌∙◌, ◌<◌, ℕ, [], ◌∷◌, ◌++◌, length, get_or, All, Contains, refl, arith, below_more, sym, ap, subst}
use Rattle.std.proofs.lemmas.List.Elements.{All-push, Contains-append_left, Contains-append_right}
use Rattle.edge_graph.specs.Vertices.{graph_by}
use Rattle.flat_groups.specs.Groups.{IsNumbered}
use Rattle.graph_search.specs.Graphs.{HasArc, Leaving}
use Rattle.cycle_find.specs.Fewest.{IsTurnedArc}
use Rattle.cycle_find.proofs.Turned.{arc_of, each_successor}
use Rattle.cycle_find.proofs.leading.add_arcs.Goals as goal

pub loop-index-preserved : goal.loop-index-preserved
loop-index-preserved c =
    let lists = c.args.arcs.now in
    let from = c.args.from in
    let index = c.loop-index.index in
    let before = c.loop-index.pairs.items in
    let inv = c.loop-index.invariant in
    let row = c.successors-successors.result.to in
    let all : row ≡ get_or lists from [] = ap (λ (s : Leaving). s.to) c.successors-successors.ensures in
    let count : c.successors-successors.result.count ≡ length lists = ap (λ (s : Leaving). s.count) c.successors-successors.ensures in
    let number : c.in_ok-number.field-0 ≡ c.at.result = c.in_ok-number.ensures in
    let here : c.in_ok-number.field-0 ≡ get_or row index 0 = number ∙ c.at.ensures.successor in
    let own : c.in_ok-number-2.field-0 ≡ from = c.in_ok-number-2.ensures in
    let pair : ℕ × ℕ = (c.in_ok-number.field-0, c.in_ok-number-2.field-0) in
    let items : c.push.new.self.items ≡ before ++ pair ∷ [] = c.in_ok-push.ensures.items in
    let at : index < length (get_or lists from []) = omega (arith, c.loop-index-test.true, c.len-index-end.ensures, ap length all) in
    let arc : HasArc (graph_by lists) from (get_or row index 0) =
    subst (λ xs. HasArc (graph_by lists) from (get_or xs index 0)) (sym all) (arc_of lists from index c.requires.from at) in
    let turned : IsTurnedArc lists pair = subst (λ v. HasArc (graph_by lists) v c.in_ok-number.field-0) (sym own) (subst (HasArc (graph_by lists) from) (sym here) arc) in
    let within : c.at.result < c.successors-successors.result.count = c.at.ensures.within in
    let low : IsNumbered (length lists) pair = omega (arith, within, count, number) in
    let named : pair ≡ (get_or row index 0, from) = ap (λ w. (w, c.in_ok-number-2.field-0)) here ∙ ap (λ v. (get_or row index 0, v)) own in
    let last : Contains (before ++ pair ∷ []) pair = Contains-append_right before (pair ∷ []) pair (0, omega arith, refl) in
    record {
      numbered = subst (All (IsNumbered (length lists))) (sym items) (All-push (IsNumbered (length lists)) before pair inv.numbered low);
      arcs = subst (All (IsTurnedArc lists)) (sym items) (All-push (IsTurnedArc lists) before pair inv.arcs turned);
      kept = λ p is. subst (λ xs. Contains xs p) (sym items) (Contains-append_left before (pair ∷ []) p (inv.kept p is));
      added =
          below_more (λ k. Contains c.push.new.self.items (get_or row k 0, from)) index
          (λ k h. subst (λ xs. Contains xs (get_or row k 0, from)) (sym items) (Contains-append_left before (pair ∷ []) (get_or row k 0, from) (inv.added k h)))
          (subst (Contains c.push.new.self.items) named (subst (λ xs. Contains xs pair) (sym items) last));
    }

pub returns-clause-added : goal.returns-clause-added
returns-clause-added c =
    let lists = c.args.arcs.now in
    let from = c.args.from in
    let all : c.successors-successors.result.to ≡ get_or lists from [] = ap (λ (s : Leaving). s.to) c.successors-successors.ensures in
    let added = λ (v : ℕ). Contains c.loop-index.pairs.items (v, from) in
    each_successor lists from added (λ k h.
    subst (λ to. added (get_or to k 0)) all (c.loop-index.invariant.added k (omega (arith, h, c.loop-index-test.false, c.len-index-end.ensures, ap length all))))
