use Rattle.std.proofs.Common.{◌≡◌, ◌+◌, ◌-◌, length, drop, take, ap, ◌∙◌, refl, subst}
use Rattle.std.proofs.lemmas.List.{take_rest, drop-drop}
use Rattle.edn_lex.specs.Kinds.{kind_of}
use Rattle.edn_lex.proofs.LookAhead.{BeginsWithSpace, word_begins, word_bytes, space_first, space_gap}
use Rattle.edn_lex.proofs.ahead.spaced_word_at.Goals as goal

pub returns-clause-lone : goal.returns-clause-lone
returns-clause-lone c =
    let text = c.args.text.now in
    let start = c.args.start in
    let word = c.args.word.now in
    let xs = take (length text - start) (drop start text) in
    let space = subst BeginsWithSpace (take_rest xs (length word)) (space_first _ (c.begins_with-else-not-begins_with.ensures c.if-not-begins_with-2.false)) in
    word_begins text start xs word (kind_of c.args.kind) (record { kind = c.args.kind; start = start; end = start + length word }) (take_rest text start) (c.begins_with.ensures c.if-not-begins_with.false)
    space.no_run c.requires.word (refl, refl, refl)

pub returns-clause-is : goal.returns-clause-is
returns-clause-is c =
    let text = c.args.text.now in
    let xs = take (length text - c.args.start) (drop c.args.start text) in
    word_bytes text c.args.start xs c.args.word.now (take_rest text c.args.start) (c.begins_with.ensures c.if-not-begins_with.false)

pub returns-clause-space : goal.returns-clause-space
returns-clause-space c =
    let text = c.args.text.now in
    let start = c.args.start in
    let len = length c.args.word.now in
    let xs = take (length text - start) (drop start text) in
    let behind : drop len xs ≡ drop (start + len) text = ap (drop len) (take_rest text start) ∙ drop-drop len start text in
    space_gap text (start + len) (subst BeginsWithSpace (take_rest xs len ∙ behind) (space_first _ (c.begins_with-else-not-begins_with.ensures c.if-not-begins_with-2.false)))
