use Rattle.std.proofs.Common.{◌≡◌, ◌≤◌, ℕ, List, length, Option, refl, sym, ◌∙◌, ap, subst}
use Rattle.std.proofs.lemmas.Result.{err_from_is_err_and}
use Rattle.edn_ops.specs.declared.reader.Place.{Place}
use Rattle.edn_lex.specs.State.{State}
use Rattle.edn_lex.specs.declared.types.Token.{Token}
use Rattle.edn_ops.specs.Places.{ReadsOp}
use Rattle.edn_ops.specs.Flat.{shape_with}
use Rattle.edn_ops.proofs.FlatPlaces.{PassedTo, passed_none, passed_more, passed_op}
use Rattle.edn_ops.proofs.reader.Place.flat_op.Goals as goal

pub loop-opener-init : goal.loop-opener-init
loop-opener-init c = (passed_none c.args.self.now c.text-text.result.now c.in-Some.start c.text-text.ensures c.in-Some.ensures c.requires.skipped, refl, c.requires.empty)

pub returns-in_err-operation : goal.returns-in_err-operation
returns-in_err-operation c =
    let p = err_from_is_err_and c.from_residual.result c.from_residual.ensures.1 in
    rw (p.1, p.2) (c.in_err-operation.ensures, c.loop-opener.invariant.1)

pub jump-requires : goal.jump-requires
jump-requires c =
    let flat = rw (c.in-Some-Operation.is, c.in-Some-Operation.field-0-is) at c.in_ok-operation.ensures in
    let text : c.text-text.result.now ≡ c.loop-opener.self.lexer.text = c.text-text.ensures ∙ sym (ap (λ (x : Place). x.lexer.text) c.loop-opener.invariant.1) in
    subst (λ (xs : List ℕ). c.in-Some-Operation.operation.span.end ≤ length xs) text flat.within

pub returns-in-Some-Operation : goal.returns-in-Some-Operation
returns-in-Some-Operation c =
    let old = c.args.self.now in
    let text = c.text-text.result.now in
    let opener = c.in-Some-operation_opener.opener in
    let operation = c.in-Some-Operation.operation in
    let shape = shape_with c.flat_entry.new.mops operation in
    let flat = rw (c.in-Some-Operation.is, c.in-Some-Operation.field-0-is) at c.in_ok-operation.ensures in
    let same = c.loop-opener.invariant.1 in
    let after = c.jump.ensures ∙ ap (λ (x : Place). let s : State = record x.lexer { offset = operation.span.end } in s) same in
    let Read : Option Token → Type 0 = λ list. let new : Place = record { lexer = c.jump.new.self; list = list; skipped = c.loop-opener.skipped } in ReadsOp old shape new × (c.loop-opener.skipped ≤ c.jump.new.self.offset) in
    subst Read (sym (ap (λ (x : Place). x.list) same))
    (passed_op old c.jump.new.self text c.in-Some.start c.loop-opener.offset c.loop-opener.skipped opener shape operation.span.end c.text-text.ensures c.in-Some.ensures c.in-Some-operation_opener.ensures.opens flat c.loop-opener.invariant.0 after)

pub loop-opener-preserved : goal.loop-opener-preserved
loop-opener-preserved c =
    let found = c.in-Some-Skipped in
    let text = c.text-text.result.now in
    let flat = rw (found.is, found.field-0-is) at c.in_ok-operation.ensures in
    let passed = passed_more c.args.self.now text c.in-Some.start c.loop-opener.offset c.loop-opener.skipped c.in-Some-operation_opener.opener found.end c.in-Some.ensures c.in-Some-operation_opener.ensures.opens flat c.loop-opener.invariant.0 in
    (subst (PassedTo c.args.self.now text found.end) (sym c.with_one_more-skipped.ensures) passed, c.loop-opener.invariant.1, c.clear.ensures.items)

pub returns-in-None : goal.returns-in-None
returns-in-None c = c.loop-opener.invariant.1

pub returns : goal.returns
returns c = c.loop-opener.invariant.1
