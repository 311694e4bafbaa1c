use Rattle.std.proofs.Common.{◌∙◌, ℕ, ◌-◌, ◌<◌, ◌≤◌, List, length, slice_index, subst, sym, ap}
use Rattle.hist_types.specs.Edges.{Edge}
use Rattle.hist_types.specs.Transactions.{transactions_of}
use Rattle.hist_types.specs.Witness.{IsWitness, stations, dependencies_in}
use Rattle.cycle_show.specs.Paths.{short_round}
use Rattle.cycle_show.proofs.Fewer.{fewer_turned}
use Rattle.cycle_show.proofs.Tightening.{tightened}
use Rattle.cycle_show.proofs.types.Witness.of.Goals as goal

pub returns-clause-witness : goal.returns-clause-witness
returns-clause-witness c keys phenomenon level events shows =
    let path : List Edge = c.in_ok-edges.edges.items in
    let least : ℕ = c.least_place.result in
    let IsLeast : List Edge → Type 0 = λ es. (k : ℕ) → k < length (stations es) → slice_index (stations es) least ≤ slice_index (stations es) k in
    subst (IsWitness keys phenomenon level (transactions_of events)) (sym (c.new.ensures ∙ c.rotate_left.ensures.items))
    (tightened keys phenomenon level events c.args.walk.now path least
    (c.in_ok-edges.ensures ∙ ap short_round c.edges.ensures)
    (subst (λ (es : List Edge). least ≤ length es - 1) c.deref.ensures.value c.least_place.ensures.within)
    (subst IsLeast c.deref.ensures.value c.least_place.ensures.least)
    shows)

pub returns-clause-dependencies : goal.returns-clause-dependencies
returns-clause-dependencies c =
    let is = c.in_ok-edges.ensures ∙ ap short_round c.edges.ensures in
    subst (λ es. dependencies_in es ≤ dependencies_in c.args.walk.now) (sym (c.new.ensures ∙ c.rotate_left.ensures.items))
    (fewer_turned c.args.walk.now c.in_ok-edges.edges.items c.least_place.result is)
