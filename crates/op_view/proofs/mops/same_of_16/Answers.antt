use Rattle.std.proofs.Common.{◌≡◌, ◌∙◌, ◌<◌, take, sym, subst, arith}
use Rattle.std.specs.Simd.Lanes.{mask_l, zip2}
use Rattle.op_view.specs.Mops.{is_other}
use Rattle.op_view.proofs.SameFronts.{none_other, first_other}
use lib.Count.{count_trailing_zeros}
use Rattle.op_view.proofs.mops.same_of_16.Goals as goal

pub returns-then-bits-eq0 : goal.returns-then-bits-eq0
returns-then-bits-eq0 c = none_other c.args.a.now c.args.b.now c.requires.first c.requires.second (sym c.other_of_16-bits.ensures ∙ c.if-bits-eq0.true)

pub returns-else-bits-eq0 : goal.returns-else-bits-eq0
returns-else-bits-eq0 c =
    let a = c.args.a.now in
    let b = c.args.b.now in
    let bits = c.other_of_16-bits.ensures in
    let other = c.if-bits-eq0.false in
    let some : 0 < mask_l (zip2 is_other (take 16 a) (take 16 b)) = omega (arith, bits) in
    subst (λ n. take (count_trailing_zeros 64 n) a ≡ take (count_trailing_zeros 64 n) b) (sym bits) (first_other a b c.requires.first c.requires.second some)
