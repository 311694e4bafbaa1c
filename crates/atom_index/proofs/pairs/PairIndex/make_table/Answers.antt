use Rattle.std.proofs.Common.{refl}
use Rattle.atom_index.proofs.Lengthened.{still_indexed}
use Rattle.atom_index.proofs.pairs.PairIndex.make_table.Goals as goal

pub invariant_of-self : goal.invariant_of-self
invariant_of-self g c =
    let s = c.self.inside in (
      still_indexed c.lengthen.result s.pairs.items s.small.width c.lengthen.new.self.width s.small.numbers c.lengthen.new.self.numbers s.others c.of-size.result.slots
          c.self.invariant.0 (c.if-is_empty.ensures.0 refl) (c.if-is_begun_by.ensures refl)
          c.lengthen.ensures.width c.lengthen.ensures.ok c.lengthen.ensures.err,
      c.self.invariant.1,
    )
