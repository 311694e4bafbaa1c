use Rattle.std.proofs.Common.{ℕ, ◌≡◌, ◌∙◌, ◌+◌, ◌-◌, ◌<◌, ◌≤◌, length, slice_index, arith, ap, sym, subst}
use Rattle.hist_types.specs.Edges.{Edge}
use Rattle.hist_types.specs.Witness.{stations}
use Rattle.cycle_show.proofs.Places.{station_at, least_next, least_still}
use Rattle.cycle_show.proofs.path.least_place.Goals as goal
use Rattle.cycle_show.proofs.path.least_place.Goals.{then-from, else-from}

pub loop-place-preserved : goal.loop-place-preserved
loop-place-preserved c =
    let ns = stations c.args.edges.now in
    let place : ℕ = c.loop-place.place in
    let least : ℕ = c.loop-place.least in
    let below : place < length c.args.edges.now = c.loop-place-test.true in
    let within : least ≤ place - 1 = c.loop-place.invariant.0 in
    let so_far : least < length c.args.edges.now = omega (arith, within, below) in
    let here : slice_index ns place ≡ c.from.result =
    station_at c.args.edges.now place c.index-edges-place.result below ∙ ap (λ (e : Edge). e.from) (sym c.index-edges-place.is) ∙ sym c.from.ensures in
    let there : slice_index ns least ≡ c.from-in-loop-place.result =
    station_at c.args.edges.now least c.index-edges-least.result so_far ∙ ap (λ (e : Edge). e.from) (sym c.index-edges-least.is) ∙ sym c.from-in-loop-place.ensures in
    let Holds : ℕ → Type 0 = λ n. (n ≤ place + 1 - 1) × ((k : ℕ) → k < place + 1 → slice_index ns n ≤ slice_index ns k) in
    elim c.if-from.branch [
      | then-from w ↦
          subst Holds (sym w.least-is) (omega arith, least_next ns least place c.loop-place.invariant.1 (let less = w.if-from.true in omega (arith, less, here, there)))
      | else-from w ↦
          subst Holds (sym w.least-is) (omega (arith, within), least_still ns least place c.loop-place.invariant.1 (let other = w.if-from.false in omega (arith, other, here, there)))
    ]
