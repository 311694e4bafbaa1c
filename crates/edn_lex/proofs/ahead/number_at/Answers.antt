use Rattle.std.proofs.Common.{◌≡◌, ◌+◌, ◌-◌, ◌<◌, ℕ, length, length-take-le, drop, take, ap, ◌∙◌, sym, refl, arith}
use Rattle.std.proofs.lemmas.List.{take_rest}
use Rattle.hist_types.specs.Tokens.{run_len, Int}
use Rattle.edn_lex.specs.declared.types.TokenKind.TheVariants as kinds
use Rattle.edn_lex.proofs.LookAhead.{word_begins, number_word}
use Rattle.edn_lex.proofs.ahead.number_at.Goals as goal

pub returns-clause-lone : goal.returns-clause-lone
returns-clause-lone c =
    let text = c.args.text.now in
    let start = c.args.start in
    let found = c.in_ok-len in
    let xs = take (length text - start) (drop start text) in
    let n = found.len in
    let digits = take n xs in
    let len : length digits ≡ n = length-take-le n xs found.ensures.fits in
    let nonzero = c.if-len-eq0.false in
    let some : 0 < length digits = omega arith in
    let leading = sym c.has_no_leading_zero.ensures ∙ c.if-not-has_no_leading_zero.false in
    word_begins text start xs digits Int (record { kind = kinds.Int; start = start; end = start + n }) (take_rest text start) (ap (λ (k : ℕ). take k xs) (sym len))
    (ap (λ (k : ℕ). run_len (drop k xs)) len ∙ found.ensures.alone)
    (number_word digits some found.ensures.digits leading) (refl, refl, ap (λ (k : ℕ). start + k) (sym len))
