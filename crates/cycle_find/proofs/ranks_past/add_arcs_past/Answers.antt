use Rattle.std.proofs.Common.{◌≡◌, ◌<◌, ◌≤◌, ℕ, [], length, get_or, All, Contains, arith, below_more, sym, ap, subst}
use Rattle.graph_search.specs.Graphs.{Leaving}
use Rattle.cycle_find.specs.Past.{IsPairWithin}
use Rattle.cycle_find.proofs.Turned.{each_successor}
use Rattle.cycle_find.proofs.ranks_past.add_arcs_past.Goals as goal

pub add_arc_past-requires-clause-to : goal.add_arc_past-requires-clause-to
add_arc_past-requires-clause-to c =
    let count : c.successors-successors.result.count ≡ length c.args.arcs.now = ap (λ (s : Leaving). s.count) c.successors-successors.ensures in
    let within : c.at.result < c.successors-successors.result.count = c.at.ensures.within in
    omega (arith, within, count, c.vertices.ensures)

pub add_arc_past-requires-clause-within : goal.add_arc_past-requires-clause-within
add_arc_past-requires-clause-within c =
    subst (λ n. All (IsPairWithin n) c.loop-index.pairs.items) (sym c.vertices.ensures) c.loop-index.invariant.within

pub loop-index-preserved : goal.loop-index-preserved
loop-index-preserved c =
    let cut = c.args.cut in
    let from = c.args.from in
    let index = c.loop-index.index in
    let inv = c.loop-index.invariant in
    let row = c.successors-successors.result.to in
    let after = c.add_arc_past.new.pairs.items in
    let done = c.in_ok-add_arc_past.ensures in
    let Added : ℕ → Type 0 = λ to. cut ≤ to → Contains after (from, to) in
    record {
      within = subst (λ n. All (IsPairWithin n) after) c.vertices.ensures done.within;
      kept = λ p is. done.kept p (inv.kept p is);
      added =
          below_more (λ k. Added (get_or row k 0)) index (λ k h high. done.kept (from, get_or row k 0) (inv.added k h high))
          (subst Added c.at.ensures.successor done.added);
    }

pub returns-clause-added : goal.returns-clause-added
returns-clause-added c =
    let lists = c.args.arcs.now in
    let from = c.args.from in
    let all : c.successors-successors.result.to ≡ get_or lists from [] = ap (λ (s : Leaving). s.to) c.successors-successors.ensures in
    let Added : ℕ → Type 0 = λ to. c.args.cut ≤ to → Contains c.loop-index.pairs.items (from, to) in
    each_successor lists from Added (λ k h.
    subst (λ to. Added (get_or to k 0)) all (c.loop-index.invariant.added k (omega (arith, h, c.loop-index-test.false, c.len-index-end.ensures, ap length all))))
