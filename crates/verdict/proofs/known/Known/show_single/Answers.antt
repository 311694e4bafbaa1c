use Rattle.std.proofs.Common.{◌≡◌, ◌∙◌, ◌≤◌, List, sym, subst, arith}
use Rattle.hist_types.specs.Edges.{Edge, edges_at}
use Rattle.hist_types.specs.Phenomena.{height}
use Rattle.hist_types.specs.Witness.{dependencies_in}
use Rattle.hist_types.specs.declared.types.Phenomenon.TheVariants.{GSingle, G2Item}
use Rattle.cycle_find.specs.Found.{ShowsByFewest}
use Rattle.verdict.proofs.Knowing.{seen_at, shown_at, item_by_single}
use Rattle.verdict.proofs.known.Known.show_single.Goals as goal

pub returns-in_ok-walk-clause-right : goal.returns-in_ok-walk-clause-right
returns-in_ok-walk-clause-right c = λ keys ts item single.
    let about = c.args.self.now in
    let seen = c.in-Some.seen in
    let shows = shown_at keys GSingle ts c.args.single.now seen single c.in-Some.is in
    let same : height seen.level ≡ about.none_below = sym c.height.ensures ∙ c.if-height-self.true in
    let few : dependencies_in seen.walk ≤ about.needs = omega (arith, c.dependency_edges.ensures, c.if-dependency_edges-self.true) in
    seen_at keys G2Item ts about seen.level c.in_ok-walk.walk item
    (subst (λ (walk : List Edge). ShowsByFewest G2Item (edges_at keys seen.level ts) walk) (sym c.in_ok-walk.ensures) (item_by_single keys ts about seen.level seen.walk item same few shows))
