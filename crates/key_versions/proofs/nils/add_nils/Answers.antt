use Rattle.std.proofs.Common.{◌∙◌, ◌+◌, ℕ, List, Option, sym, subst}
use Rattle.key_versions.proofs.NilNumbers.{AreLooked, one_looked}
use Rattle.key_versions.proofs.nils.add_nils.Goals as goal

pub loop-number-preserved : goal.loop-number-preserved
loop-number-preserved g c =
    let (looked, nils, count, last) = c.loop-number.invariant in
    let p = c.pair-key.result in (
      subst (λ (ps : List (ℕ × Option ℕ)). AreLooked c.args.pairs.now.items (c.loop-number.number + 1) ps) (sym c.in_ok-nil_number.ensures.pairs)
          (one_looked c.args.pairs.now.items c.loop-number.number c.loop-number.pairs.items p looked c.pair-key.ensures.item c.pair-key.ensures.number),
      c.in_ok-nil_number.ensures.nils,
      c.in_ok-nil_number.ensures.len ∙ count,
      last,
    )
