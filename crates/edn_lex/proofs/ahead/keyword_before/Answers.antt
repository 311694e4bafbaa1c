use Rattle.std.proofs.Common.{◌≡◌, ◌+◌, ◌<◌, ℕ, length, length-take-le, length-drop, drop, take, ap, ◌∙◌, sym, refl, arith, true}
use Rattle.std.specs.List.{list_all}
use Rattle.std.proofs.lemmas.List.{get_or-take, drop-drop}
use Rattle.hist_types.specs.Bytes.{colon}
use Rattle.hist_types.specs.Tokens.{first_byte, run_len, Keyword}
use Rattle.edn_lex.specs.Flags.{is_plain}
use Rattle.edn_lex.specs.declared.types.TokenKind.TheVariants as kinds
use Rattle.edn_lex.proofs.Digits.{counted_pass}
use Rattle.edn_lex.proofs.LookAhead.{word_begins, keyword_word, no_run_at, first_at}
use Rattle.edn_lex.proofs.ahead.keyword_before.Goals as goal

pub returns-clause-lone : goal.returns-clause-lone
returns-clause-lone c =
    let text = c.args.text.now in
    let start = c.args.start in
    let n = c.plain_of_16-len.result in
    let xs = drop start text in
    let word = take n xs in
    let all : list_all is_plain word ≡ true = ap (λ (k : ℕ). list_all is_plain (take k xs)) c.plain_of_16-len.ensures.len ∙ counted_pass is_plain 16 xs in
    let len : length word ≡ n = length-take-le n xs (let e = length-drop start text in omega arith) in
    let some : 1 < length word = omega arith in
    let first : first_byte word ≡ colon = get_or-take n xs 0 0 (omega arith) ∙ first_at text start 58 c.if-text-start-ne58.false in
    word_begins text start xs word Keyword (record { kind = kinds.Keyword; start = start; end = start + n }) refl (ap (λ (k : ℕ). take k xs) (sym len))
    (ap (λ (k : ℕ). run_len (drop k xs)) len ∙ ap run_len (drop-drop n start text) ∙ no_run_at text (start + n) c.args.after c.if-text-start.false c.requires.after)
    (keyword_word word some all first) (refl, refl, ap (λ (k : ℕ). start + k) (sym len))
