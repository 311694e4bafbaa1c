use Rattle.std.proofs.Common.{◌==◌, ◌+◌, length, drop, get_or, refl}
use Rattle.std.proofs.lemmas.Bool.{and_parts}
use Rattle.edn_lex.specs.Kinds.{kind_of}
use Rattle.edn_lex.proofs.LookAhead.{word_bytes}
use Rattle.edn_lex.proofs.Phrases.{word_here, same_byte}
use Rattle.edn_lex.proofs.ahead.word_before.Goals as goal

pub returns-then-has_here-text-clause-lone : goal.returns-then-has_here-text-clause-lone
returns-then-has_here-text-clause-lone c =
    let text = c.args.text.now in
    let start = c.args.start in
    let word = c.args.word.now in
    let parts = and_parts c.has_here.result (get_or text (start + length word) 0 == c.args.after) c.if-has_here-text.true in
    word_here text start word (kind_of c.args.kind) c.args.after (record { kind = c.args.kind; start = start; end = start + length word }) (c.has_here.ensures parts.0)
    (same_byte (get_or text (start + length word) 0) c.args.after parts.1) c.requires.after c.requires.word (refl, refl, refl)

pub returns-then-has_here-text-clause-is : goal.returns-then-has_here-text-clause-is
returns-then-has_here-text-clause-is c =
    let text = c.args.text.now in
    let start = c.args.start in
    let word = c.args.word.now in
    let parts = and_parts c.has_here.result (get_or text (start + length word) 0 == c.args.after) c.if-has_here-text.true in
    word_bytes text start (drop start text) word refl (c.has_here.ensures parts.0)
