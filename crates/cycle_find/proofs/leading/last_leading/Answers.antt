use Rattle.std.proofs.Common.{◌≡◌, ◌∙◌, ◌<◌, ◌≤◌, length, get_or, inl, inr, rules, arith, sym, ap, subst}
use Rattle.std.proofs.lemmas.Bool.{cases_lt}
use Rattle.std.proofs.lemmas.List.{get_or_default}
use Rattle.edge_graph.specs.Vertices.{graph_by}
use Rattle.graph_search.specs.Graphs.{HasArc}
use Rattle.cycle_find.specs.Fewest.{AreRaised, HaveAtLeast}
use Rattle.cycle_find.proofs.Turned.{written}
use Rattle.cycle_find.proofs.leading.last_leading.Goals as goal
use Rattle.cycle_find.proofs.leading.last_leading.Goals.{then-from-places, else-from-places}

pub loop-from-preserved : goal.loop-from-preserved
loop-from-preserved c =
    let lists = c.args.arcs.now in
    let places = c.args.places in
    let v = c.loop-from.from in
    let inv = c.loop-from.invariant in
    let number = c.if-from-places.number in
    let before = c.loop-from.last.items in
    let after = c.raise.new.last in
    let seen : c.deref_mut.result.now ≡ before = c.deref_mut.ensures.value in
    let room : length before ≡ c.loop-from.last.len = search rules in
    let size : length after ≡ c.loop-from.last.len = c.raise.ensures.length ∙ ap length seen ∙ room in
    let filled = written c.loop-from.last.len after before size in
    let risen : AreRaised before after = subst (λ xs. AreRaised xs after) seen c.raise.ensures.kept in
    let raised : HaveAtLeast lists v number after = c.raise.ensures.raised in
    let there : v < length before = omega (arith, inv.one_each, c.loop-from-test.true, c.vertices-from-end.ensures) in
    let own : v < places → v ≤ number = elim c.if-from-places.branch [
      | then-from-places w ↦ λ h. omega (arith, w.number-is)
      | else-from-places w ↦ λ h. omega (arith, h, w.if-from-places.false)
    ] in
    let other : ¬ (v < places) → get_or before v 0 ≤ number = elim c.if-from-places.branch [
      | then-from-places w ↦ λ out. absurd (out w.if-from-places.true)
      | else-from-places w ↦ λ out.
          omega (arith, w.number-is, w.index.ensures, get_or_default before v 0 w.index.result.now there)
    ] in
    record {
      one_each = ap length filled ∙ size ∙ sym room ∙ inv.one_each;
      direct = λ from to h place arc.
          subst (λ xs. from ≤ get_or xs to 0) (sym filled) (elim (cases_lt from v) [
            | inl below ↦ let old = inv.direct from to below place arc in omega (arith, old, risen to)
            | inr up ↦
                let same : from ≡ v = omega (arith, h, up) in
                let high : number ≤ get_or after to 0 = raised to (subst (λ u. HasArc (graph_by lists) u to) same arc) in
                let low : v ≤ number = own (omega (arith, same, place)) in
                omega (arith, same, high, low)
          ]);
      by_version = λ from version to h place out reads follows.
          subst (λ xs. from ≤ get_or xs to 0) (sym filled) (elim (cases_lt version v) [
            | inl below ↦ let old = inv.by_version from version to below place out reads follows in omega (arith, old, risen to)
            | inr up ↦
                let same : version ≡ v = omega (arith, h, up) in
                let past : ¬ (v < places) = λ under. out (omega (arith, same, under)) in
                let far : places ≤ version = elim (cases_lt version places) [ inl under ↦ absurd (out under) | inr over ↦ over ] in
                let high : number ≤ get_or after to 0 = raised to (subst (λ u. HasArc (graph_by lists) u to) same follows) in
                let old : from ≤ get_or before v 0 = inv.direct from v (omega (arith, place, far, same)) place (subst (HasArc (graph_by lists) from) same reads) in
                let low : get_or before v 0 ≤ number = other past in
                omega (arith, old, high, low)
          ]);
    }

pub returns : goal.returns
returns c =
    let inv = c.loop-from.invariant in
    record {
      one_each = inv.one_each;
      direct = λ from to place arc. inv.direct from to (let h = arc.0 in omega (arith, h, c.loop-from-test.false, c.vertices-from-end.ensures)) place arc;
      by_version = λ from version to place out reads follows.
          inv.by_version from version to (let h = follows.0 in omega (arith, h, c.loop-from-test.false, c.vertices-from-end.ensures)) place out reads follows;
    }
