use Rattle.std.proofs.Common.{◌+◌, ◌-◌, length, drop, take, ap, ◌∙◌, sym, refl}
use Rattle.std.proofs.lemmas.List.{take_rest}
use Rattle.hist_types.specs.Tokens.{run_len}
use Rattle.edn_lex.specs.Kinds.{kind_of}
use Rattle.edn_lex.proofs.LookAhead.{word_begins, word_bytes}
use Rattle.edn_lex.proofs.ahead.word_at.Goals as goal

pub returns-clause-lone : goal.returns-clause-lone
returns-clause-lone c =
    let text = c.args.text.now in
    let start = c.args.start in
    let word = c.args.word.now in
    let xs = take (length text - start) (drop start text) in
    word_begins text start xs word (kind_of c.args.kind) (record { kind = c.args.kind; start = start; end = start + length word }) (take_rest text start) (c.begins_with.ensures c.if-not-begins_with.false)
    (ap run_len (sym (take_rest xs (length word))) ∙ c.ends_run.ensures c.if-not-ends_run.false) c.requires.word (refl, refl, refl)

pub returns-clause-is : goal.returns-clause-is
returns-clause-is c =
    word_bytes c.args.text.now c.args.start (let text = c.args.text.now in take (length text - c.args.start) (drop c.args.start text)) c.args.word.now (take_rest c.args.text.now c.args.start) (c.begins_with.ensures c.if-not-begins_with.false)
