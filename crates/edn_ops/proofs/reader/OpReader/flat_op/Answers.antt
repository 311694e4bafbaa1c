use Rattle.std.proofs.Common.{sym, subst, ◌∙◌}
use Rattle.edn_ops.specs.Flat.{result_with}
use Rattle.edn_ops.specs.Reader.{Reader, FlatNext}
use Rattle.edn_ops.proofs.FlatPlaces.{reader_of, none_failed, flat_up_to, flat_next}
use Rattle.edn_ops.proofs.reader.OpReader.flat_op.Goals as goal

pub invariant_of-self : goal.invariant_of-self
invariant_of-self c =
    let a = c.self.inside in
    flat_up_to a.place c.flat_op.new.self a.ended (result_with c.flat_op.new.mops c.flat_op.result) c.flat_op.ensures c.if-self.false c.self.invariant.0 c.self.invariant.1

pub returns : goal.returns
returns c =
    let a = c.self.inside in
    let new = c.flat_op.new.self in
    let none = none_failed a.failed (sym c.is_some.ensures ∙ c.if-is_some.false) in
    let result = result_with c.flat_op.new.mops c.flat_op.result in
    subst (λ (r : Reader). FlatNext r result (reader_of new a.failed)) c.self.view_is (flat_next a.place new a.failed result c.flat_op.ensures none (c.self.invariant.1.reached c.if-self.false))
