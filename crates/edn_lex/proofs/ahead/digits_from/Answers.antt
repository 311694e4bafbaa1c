use Rattle.std.proofs.Common.{◌≡◌, ◌+◌, ◌<◌, ◌==◌, ◌||◌, not, ℕ, length, length-take-le, length-drop, drop, take, ap, ◌∙◌, sym, refl, arith, true}
use Rattle.std.proofs.lemmas.Bool.Decides.{nat_tests}
use Rattle.std.proofs.lemmas.List.{get_or-take, drop-drop}
use Rattle.hist_types.specs.Bytes.{zero_digit}
use Rattle.hist_types.specs.Tokens.{first_byte, run_len, Int}
use Rattle.edn_lex.specs.declared.types.TokenKind.TheVariants as kinds
use Rattle.edn_lex.proofs.LookAhead.{word_begins, number_word, no_run_at, first_at}
use Rattle.edn_lex.proofs.ahead.digits_from.Goals as goal
use Rattle.edn_lex.proofs.ahead.digits_from.Goals.{else-first-eq48-via-then-first-eq48+else-len-ne1, else-first-eq48-via-else-first-eq48}

pub returns-clause-lone : goal.returns-clause-lone
returns-clause-lone c =
    let text = c.args.text.now in
    let start = c.args.start in
    let n = c.args.len in
    let xs = drop start text in
    let digits = take n xs in
    let room = c.requires.room in
    let len : length digits ≡ n = length-take-le n xs (omega (arith, length-drop start text)) in
    let nonzero = c.if-len-eq0.false in
    let some : 0 < length digits = omega arith in
    let first : first_byte digits ≡ c.args.first = get_or-take n xs 0 0 (omega arith) ∙ first_at text start c.args.first c.requires.first in
    let leading : (not (first_byte digits == zero_digit) || (length digits == 1)) ≡ true =
    elim c.else-first-eq48.branch [
      | else-first-eq48-via-then-first-eq48+else-len-ne1 w ↦ let one = w.if-len-ne1.false in grind (arith, nat_tests)
      | else-first-eq48-via-else-first-eq48 w ↦ let other = w.if-first-eq48.false in grind (arith, nat_tests)
    ] in
    word_begins text start xs digits Int (record { kind = kinds.Int; start = start; end = start + n }) refl (ap (λ (k : ℕ). take k xs) (sym len))
    (ap (λ (k : ℕ). run_len (drop k xs)) len ∙ ap run_len (drop-drop n start text) ∙ no_run_at text (start + n) c.args.after c.if-text-start.false c.requires.after)
    (number_word digits some c.requires.digits leading) (refl, refl, ap (λ (k : ℕ). start + k) (sym len))
