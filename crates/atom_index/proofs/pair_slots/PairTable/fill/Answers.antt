use Rattle.std.proofs.Common.{◌≡◌, ◌<◌, ℕ, Option, None, get_or, length, refl, sym, subst}
use Rattle.std.proofs.lemmas.List.{get_or_default}
use Rattle.atom_index.proofs.Tables.{pair_slots, seen_without, seen_taken, seen_set}
use Rattle.atom_index.proofs.pair_slots.PairTable.fill.Goals.{in-Some+then-is_none, in-Some+else-is_none, in_default}
use Rattle.atom_index.proofs.pair_slots.PairTable.fill.Goals as goal

pub loop-pair-preserved : goal.loop-pair-preserved
loop-pair-preserved c =
    let pairs = c.args.pairs.now in
    let i = c.loop-pair.pair-index in
    let nothing : ℕ × Option ℕ = (0, None) in
    let pair = get_or pairs i nothing in
    let is : pair ≡ get_or pairs i pair = get_or_default pairs i nothing pair c.loop-pair-test.true in
    let number = c.loop-pair.number in
    let table = c.loop-pair.self.numbers in
    let invariant = c.loop-pair.invariant in
    let wide : 0 < c.loop-pair.self.width = subst (λ (w : ℕ). 0 < w) (sym invariant.1) c.requires.width in
    let slots = pair_slots c.loop-pair.self.width wide in
    elim c.match-slot_of.branch [
      | in-Some+then-is_none w ↦ (
          let seen = seen_set slots number i (length table) table pairs pair w.in-Some.slot w.get.result
          (invariant.0, refl, invariant.2) c.loop-pair-test.true is w.in-Some.ensures w.get.ensures w.if-is_none.ensures in
          rw (w.self-is, w.set.ensures) (seen.0, invariant.1, seen.2))
      | in-Some+else-is_none w ↦ (
          let seen = seen_taken slots number i (length table) table pairs pair w.in-Some.slot w.get.result
          (invariant.0, refl, invariant.2) c.loop-pair-test.true is w.in-Some.ensures w.get.ensures w.if-is_none.ensures in
          rw w.self-is (seen.0, invariant.1, seen.2))
      | in_default w ↦ (
          let seen = seen_without slots number i (length table) table pairs pair
          (invariant.0, refl, invariant.2) c.loop-pair-test.true is w.in_default.ensures in
          rw w.self-is (seen.0, invariant.1, seen.2))
    ]
