use Rattle.std.proofs.Common.{◌≡◌, ◌+◌, ◌<◌, ◌≤◌, length, get_or, true, refl, sym, ◌∙◌, ap, subst, Ok, Option}
use Rattle.hist_types.specs.Bytes.{is_blank}
use Rattle.hist_types.specs.Tokens.{Blank}
use Rattle.edn_lex.specs.declared.types.Token.{Token}
use Rattle.edn_lex.specs.State.{State, Passes}
use Rattle.edn_lex.proofs.Passing.{passes_blank}
use Rattle.edn_lex.proofs.Steps.{Gapped, Gapped-more, GivesToken-from, GivesFault-from, GivesEnd-at_end}
use Rattle.edn_lex.proofs.lexer.LexerIterator.next.Goals as goal

pub returns-in-Ok-Some-clause-steps : goal.returns-in-Ok-Some-clause-steps
returns-in-Ok-Some-clause-steps c =
    let P : Option Token → Type 0 = λ o. Passes c.loop-self.self (Ok o) c.pass.new.self in
    GivesToken-from c.args.self.now c.loop-self.self c.pass.new.self c.in-Ok-Some.token c.loop-self.invariant
    (sym (ap (λ (x : State). x.ended) c.self.view_is) ∙ c.loop-self-test.true)
    (subst P c.in-Ok-Some.field-0-is c.in-Ok-Some.ensures)

pub loop-self-preserved-then-is_blank : goal.loop-self-preserved-then-is_blank
loop-self-preserved-then-is_blank c =
    let P : State → Type 0 = λ x. Gapped c.args.self.now (record x { offset = x.offset + 1 }) in
    let Q : State → Type 0 = λ x. is_blank (get_or x.text x.offset 0) ≡ true in
    let within = subst (λ (x : State). x.offset < length x.text) c.self.view_is c.if-self.true in
    let blank = subst Q c.self.view_is (sym c.is_blank.ensures ∙ c.if-is_blank.true) in
    subst P (sym c.self.view_is)
    (Gapped-more c.args.self.now c.loop-self.self _ Blank 1 c.loop-self.invariant (passes_blank c.loop-self.self within blank) refl)

pub loop-self-preserved : goal.loop-self-preserved
loop-self-preserved c =
    let P : Option Token → Type 0 = λ o. Passes c.loop-self.self (Ok o) c.pass.new.self in
    let passed = subst P c.in-Ok-None.field-0-is c.in-Ok-None.ensures in
    Gapped-more c.args.self.now c.loop-self.self c.pass.new.self passed.0 passed.1 c.loop-self.invariant passed.3 passed.2

pub returns-in-Err-clause-steps : goal.returns-in-Err-clause-steps
returns-in-Err-clause-steps c =
    GivesFault-from c.args.self.now c.loop-self.self c.pass.new.self c.in-Err.fault c.loop-self.invariant
    (sym (ap (λ (x : State). x.ended) c.self.view_is) ∙ c.loop-self-test.true) c.in-Err.ensures _
    (ap (λ (x : State). x.text) c.self-in-loop-self.view_is) refl

pub returns-else-self-clause-steps : goal.returns-else-self-clause-steps
returns-else-self-clause-steps c =
    GivesEnd-at_end c.args.self.now c.loop-self.self c.loop-self.invariant
    (sym (ap (λ (x : State). x.ended) c.self.view_is) ∙ c.loop-self-test.true)
    (subst (λ (x : State). length x.text ≤ x.offset) c.self.view_is c.if-self.false)
