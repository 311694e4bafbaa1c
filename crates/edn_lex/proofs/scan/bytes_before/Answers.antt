use Rattle.std.proofs.Common.{◌<◌, map, sym, ap, ◌∙◌, arith}
use Rattle.std.specs.Simd.Lanes.{mask_l}
use Rattle.std.proofs.lemmas.Simd.{leading_from_mask_l, trailing_mask_l}
use lib.Count.{count_trailing_zeros}
use Rattle.edn_lex.proofs.scan.bytes_before.Goals as goal

pub returns-then-bits-eq0 : goal.returns-then-bits-eq0
returns-then-bits-eq0 c has_bit xs long is =
    sym long ∙ sym (leading_from_mask_l has_bit xs (sym is ∙ c.if-bits-eq0.true))

pub returns-else-bits-eq0 : goal.returns-else-bits-eq0
returns-else-bits-eq0 c has_bit xs long is =
    let other = c.if-bits-eq0.false in
    let some : 0 < mask_l (map has_bit xs) = omega (arith, is) in
    ap (count_trailing_zeros 64) is ∙ trailing_mask_l has_bit 64 xs (omega (arith, long)) some
