use Rattle.std.proofs.Common.{◌≡◌, ◌∙◌, IfOk, List, ap, subst}
use Rattle.hist_types.specs.Operations.{Operation}
use Rattle.hist_types.specs.declared.types.KeyOrder.{KeyOrder}
use Rattle.command_line.specs.declared.types.Command.TheVariants.{Reads, Edges}
use Rattle.command_run.specs.Answers.{Reports, IsVerdict, keys_of}
use Rattle.command_run.proofs.run.report_on.Goals as goal

pub returns-in-Reads-clause-ok : goal.returns-in-Reads-clause-ok
returns-in-Reads-clause-ok g c =
    let events : c.as_events-events.result.now ≡ c.args.judged.core.events = c.as_events-events.ensures ∙ c.in_ok-prefix.ensures.ok in
    rw c.in-Reads.is
    (subst (λ (es : List Operation). IfOk c.report.result (λ answer. Reports Reads es answer.status answer.printed.items)) events c.report.ensures.ok)

pub returns-in-Edges-clause-ok : goal.returns-in-Edges-clause-ok
returns-in-Edges-clause-ok g c =
    let events : c.as_events-events.result.now ≡ c.args.judged.core.events = c.as_events-events.ensures ∙ c.in_ok-prefix.ensures.ok in
    let keys : c.in_ok-kept.kept.keys ≡ c.in-Edges.field-0 = c.in_ok-kept.ensures.keys ∙ (c.keys_of.ensures ∙ ap keys_of c.in-Edges.is) in
    rw c.in-Edges.is
    (subst (λ (k : KeyOrder). IfOk c.report-in-Edges.result (λ answer. Reports (Edges k) c.args.judged.core.events answer.status answer.printed.items)) keys
    (subst (λ (es : List Operation). IfOk c.report-in-Edges.result (λ answer. Reports (Edges c.in_ok-kept.kept.keys) es answer.status answer.printed.items)) events
    c.report-in-Edges.ensures.ok))

pub returns-clause-ok : goal.returns-clause-ok
returns-clause-ok g c =
    let events : c.as_events-events.result.now ≡ c.args.judged.core.events = c.as_events-events.ensures ∙ c.in_ok-prefix.ensures.ok in
    let keys : c.in_ok-kept.kept.keys ≡ c.in-Check.keys = c.in_ok-kept.ensures.keys ∙ (c.keys_of.ensures ∙ ap keys_of c.in-Check.is) in
    rw c.in-Check.is
    (subst (λ (k : KeyOrder). IfOk c.report-in-Check.result (λ answer. IsVerdict k c.args.judged.core.events answer.status answer.printed.items)) keys
    (subst (λ (es : List Operation). IfOk c.report-in-Check.result (λ answer. IsVerdict c.in_ok-kept.kept.keys es answer.status answer.printed.items)) events
    c.report-in-Check.ensures.ok))
