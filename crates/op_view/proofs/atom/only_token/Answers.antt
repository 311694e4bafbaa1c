use Rattle.std.proofs.Common.{inl, inr}
use Rattle.op_view.proofs.OnlyToken.{whole_from_token, token_from_whole, no_token_at_end, no_token_at_error, gives_token}
use Rattle.op_view.proofs.atom.only_token.Goals as goal

pub returns-in_err-first : goal.returns-in_err-first
returns-in_err-first c =
    rw c.from_residual.ensures
    (λ kind whole.
    no_token_at_end c.args.text.now c.new.result c.next.new.self kind
    (record { start = c.new.ensures.start; rest = c.new.ensures.rest; all = c.new.ensures.all }) c.in_err-first.ensures.steps whole)

pub returns-in_err-token : goal.returns-in_err-token
returns-in_err-token c =
    rw c.from_residual-in_err-token.ensures
    (λ kind whole.
    no_token_at_error c.args.text.now c.new.result c.next.new.self c.in_ok-first.first kind
    (record { start = c.new.ensures.start; rest = c.new.ensures.rest; all = c.new.ensures.all }) c.in_ok-first.ensures.steps c.in_err-token.ensures.value whole)

pub returns-then-token-text : goal.returns-then-token-text
returns-then-token-text c =
    let given = gives_token c.new.result c.next.new.self c.in_ok-first.first c.in_ok-token.token c.in_ok-first.ensures.steps c.in_ok-token.ensures.value in
    whole_from_token c.args.text.now c.new.result c.next.new.self c.in_ok-token.token
    (record { start = c.new.ensures.start; rest = c.new.ensures.rest; all = c.new.ensures.all }) given c.if-token-eq0.true c.if-token-text.true

pub returns-else-token-eq0 : goal.returns-else-token-eq0
returns-else-token-eq0 c kind whole =
    let given = gives_token c.new.result c.next.new.self c.in_ok-first.first c.in_ok-token.token c.in_ok-first.ensures.steps c.in_ok-token.ensures.value in
    let is =
    token_from_whole c.args.text.now c.new.result c.next.new.self c.in_ok-token.token kind
    (record { start = c.new.ensures.start; rest = c.new.ensures.rest; all = c.new.ensures.all }) given whole in
    elim c.else-token-eq0.either [ inl h ↦ h.1 is.end | inr h ↦ h is.start ]
