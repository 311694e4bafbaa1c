use Rattle.std.proofs.Common.{inl, inr, ap}
use Rattle.hist_types.specs.declared.types.Fault.{Fault}
use Rattle.block_reader.proofs.round.read_at_once.Goals as goal

pub returns-else-may_pass : goal.returns-else-may_pass
returns-else-may_pass c = λ text behind offset has.
    elim c.in-Err.ensures.err [
      | inl memory ↦ absurd (c.may_pass.ensures.memory c.if-may_pass.false (ap (λ (f : Fault). f.refusal) memory))
      | inr gives ↦
          c.parts_read_alone.ensures.fault text c.args.lines.now behind offset c.in-Err.fault has c.requires
          (c.may_pass.ensures.end c.if-may_pass.false) gives
    ]
