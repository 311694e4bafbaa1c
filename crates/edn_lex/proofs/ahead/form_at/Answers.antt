use Rattle.std.proofs.Common.{sym, ◌∙◌}
use Rattle.edn_lex.proofs.LookAhead.{lone_ahead}
use Rattle.edn_lex.proofs.ahead.form_at.Goals as goal

pub returns-then-is_form-clause-lone : goal.returns-then-is_form-clause-lone
returns-then-is_form-clause-lone c offset gap =
    lone_ahead c.args.text.now offset c.in_ok-token.token (sym c.is_form.ensures ∙ c.if-is_form.true) (c.in_ok-token.ensures.gives offset gap)
