use Rattle.std.proofs.Common.{◌≡◌, ◌+◌, ◌∙◌, ℕ, Option, Some, None, length, get_or, refl, sym, ap, cond, arith}
use Rattle.std.proofs.lemmas.List.{get_or_default}
use Rattle.std.proofs.lemmas.Option.{slice_get_read}
use Rattle.indexmap.specs.IndexMap.{get}
use Rattle.atom_index.specs.Numbers.{number_in, pair_eq}
use Rattle.atom_index.specs.Slots.{slot_of_pair}
use Rattle.atom_index.proofs.LeftOut.{moved_past, moved_on, numbers_stay, others_stay, no_place, without_place}
use Rattle.atom_index.proofs.pairs.add_left_out.Goals.{then-is_some+then-is_none+in_ok-reserve, else-is_some, else-is_some-via-then-is_some+else-is_none, else-is_some-via-else-is_some}
use Rattle.atom_index.proofs.pairs.add_left_out.Goals as goal

pub loop-pair-preserved : goal.loop-pair-preserved
loop-pair-preserved g c =
    let pairs = c.args.pairs.now in
    let old = c.args.old.now in
    let new = c.args.new.now in
    let others = c.loop-pair.others in
    let i = c.loop-pair.pair-index in
    let nothing : ℕ × Option ℕ = (0, None) in
    let pair = get_or pairs i nothing in
    let is : pair ≡ get_or pairs i pair = get_or_default pairs i nothing pair c.loop-pair-test.true in
    let number : number_in pair_eq pair pairs ≡ Some c.loop-pair.number =
    c.requires.numbered i pair (slice_get_read pairs (length pairs) i pair refl c.loop-pair-test.true is) ∙ ap Some (sym c.loop-pair.invariant.0) in
    let moved = c.loop-pair.invariant.3 in
    let nth = c.loop-pair.invariant.0 in
    elim c.if-is_some.branch [
      | then-is_some+then-is_none+in_ok-reserve w ↦ (
          let after = w.add_other.new.others in
          let updated : (p : ℕ × Option ℕ) → get pair_eq after p ≡ cond (pair_eq pair p) (Some c.loop-pair.number) (get pair_eq others p) =
          λ p. w.add_other.ensures.adds p ∙ ap (λ (o : Option ℕ). cond (pair_eq pair p) (Some c.loop-pair.number) o) (rw w.reserve.ensures.entries refl) in
          rw w.others-is (
            ap (λ (n : ℕ). n + 1) nth,
            numbers_stay pairs others after pair c.loop-pair.number number updated c.loop-pair.invariant.1,
            others_stay pairs others after pair c.loop-pair.number number updated old.width (length old.numbers) c.loop-pair.invariant.2,
            moved_on pairs others after pair c.loop-pair.number number updated new.width (length new.numbers) i c.loop-pair-test.true is moved,
            c.loop-pair.invariant.4,
            omega (arith, w.add_other.ensures.room, w.in_ok-reserve.ensures.ok, c.loop-pair.invariant.4),
          ))
      | else-is_some w ↦ (
          let right : slot_of_pair new.width pair (length new.numbers) ≡ None → get pair_eq others pair ≡ number_in pair_eq pair pairs =
          elim w.else-is_some.branch [
            | else-is_some-via-then-is_some+else-is_none v ↦ (λ none. absurd (no_place v.slot_of-then-is_some.result v.if-is_none.ensures (v.slot_of-then-is_some.ensures ∙ none)))
            | else-is_some-via-else-is_some v ↦ (λ none. c.loop-pair.invariant.2 pair (sym c.slot_of.ensures ∙ without_place c.slot_of.result (sym v.if-is_some.ensures)))
          ] in
          rw w.others-is (
            ap (λ (n : ℕ). n + 1) nth,
            c.loop-pair.invariant.1,
            c.loop-pair.invariant.2,
            moved_past pairs new.width (length new.numbers) others i pair c.loop-pair-test.true is right moved,
            c.loop-pair.invariant.4,
            c.loop-pair.invariant.5,
          ))
    ]
