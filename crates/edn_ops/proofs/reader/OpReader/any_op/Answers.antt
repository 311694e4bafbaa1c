use Rattle.std.proofs.Common.{◌≡◌, [], None, Ok, IfSome, sym, ◌∙◌, ap, subst}
use Rattle.edn_lex.specs.State.{State, Rest}
use Rattle.edn_ops.specs.declared.reader.Place.{Place}
use Rattle.edn_ops.specs.Places.{NextOp}
use Rattle.edn_ops.specs.Reader.{Reader, NextOf}
use Rattle.edn_ops.specs.Shapes.{IsShapeIn}
use Rattle.edn_ops.proofs.Reached.{next-text, next-shape, next-found, next-up_to, has_ended}
use Rattle.edn_ops.proofs.reader.OpReader.any_op.Goals as goal

pub returns-then-self-clause-next : goal.returns-then-self-clause-next
returns-then-self-clause-next c =
    λ going.
    let place = c.self.invariant.1 in
    has_ended c.args.self.now going
    (sym (ap (λ (r : Reader). r.list) c.self.view_is) ∙ place.closed c.if-self.true)
    (subst (λ (s : State). Rest s [] None) (ap (λ (r : Reader). r.state) c.self.view_is) (place.nothing_left c.if-self.true))

pub invariant_of-self : goal.invariant_of-self
invariant_of-self c =
    let new = c.next_op.new.self in
    let read : NextOp c.self.inside.place (Ok c.in-Ok.found) new = subst (λ (p : Place). NextOp p (Ok c.in-Ok.found) new) c.copy-place.ensures c.in-Ok.ensures.next in (
      c.in-Ok.ensures.few,
      next-up_to c.self.inside.place new c.in-Ok.found c.is_none-self-inside.result (c.self.invariant.1.reached c.if-self.false) read
          c.is_none-self-inside.ensures,
    )

pub returns-in-Ok-clause-next : goal.returns-in-Ok-clause-next
returns-in-Ok-clause-next c =
    let new = c.next_op.new.self in
    let failed = c.self.inside.failed in
    let read : NextOp c.self.inside.place (Ok c.in-Ok.found) new = subst (λ (p : Place). NextOp p (Ok c.in-Ok.found) new) c.copy-place.ensures c.in-Ok.ensures.next in
    let after : Reader = record { state = new.lexer; list = new.list; failed = failed; skipped = new.skipped } in
    subst (λ (r : Reader). r.failed ≡ None → NextOf r (Ok c.in-Ok.found) after) c.self.view_is
    (next-found c.self.inside.place new failed c.in-Ok.found read)

pub returns-in-Ok-clause-shape : goal.returns-in-Ok-clause-shape
returns-in-Ok-clause-shape c =
    let new = c.next_op.new.self in
    let read : NextOp c.self.inside.place (Ok c.in-Ok.found) new = subst (λ (p : Place). NextOp p (Ok c.in-Ok.found) new) c.copy-place.ensures c.in-Ok.ensures.next in
    subst (λ (r : Reader). IfSome c.in-Ok.found (IsShapeIn r.state.text)) c.self.view_is
    (next-shape c.self.inside.place new c.in-Ok.found (c.self.invariant.1.reached c.if-self.false) read)

pub returns-in-Ok-clause-text : goal.returns-in-Ok-clause-text
returns-in-Ok-clause-text c =
    let new = c.next_op.new.self in
    let read : NextOp c.self.inside.place (Ok c.in-Ok.found) new = subst (λ (p : Place). NextOp p (Ok c.in-Ok.found) new) c.copy-place.ensures c.in-Ok.ensures.next in
    next-text c.self.inside.place new c.in-Ok.found (c.self.invariant.1.reached c.if-self.false) read
    ∙ ap (λ (r : Reader). r.state.text) c.self.view_is
