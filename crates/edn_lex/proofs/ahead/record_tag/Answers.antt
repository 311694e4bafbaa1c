use Rattle.std.proofs.Common.{◌+◌, ◌-◌, length, drop, take, ap, ◌∙◌, sym, refl}
use Rattle.std.proofs.lemmas.List.{take_rest}
use Rattle.hist_types.specs.Tokens.{run_len}
use Rattle.edn_lex.specs.declared.types.TokenKind.TheVariants as kinds
use Rattle.edn_lex.proofs.LookAhead.{record_begins}
use Rattle.edn_lex.proofs.ahead.record_tag.Goals as goal

pub returns-clause-gives : goal.returns-clause-gives
returns-clause-gives c =
    let text = c.args.text.now in
    let start = c.args.start in
    let xs = take (length text - start) (drop start text) in
    record_begins text start xs (record { kind = kinds.Tag; start = start; end = start + 18 }) (take_rest text start) (c.begins_with.ensures c.if-not-begins_with.false)
    (ap run_len (sym (take_rest xs 18)) ∙ c.ends_run.ensures c.if-not-ends_run.false) (refl, refl, refl)
