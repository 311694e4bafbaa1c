use Rattle.std.proofs.Common.{◌+◌, ◌-◌, List, ℕ, length, drop, take, false, sym, ◌∙◌, ap, arith, length-drop}
use Rattle.std.proofs.lemmas.List.{take_rest}
use Rattle.hist_types.specs.Tokens.{content_len}
use Rattle.edn_lex.proofs.Strings.{later, content_len-none, content_len-quote, content_len-cut, content_len-taken, content_len-after, content_len-never, content_len-on, is_backslash}
use Rattle.edn_lex.proofs.scan.content_len.Goals as goal

-- the slice from a place on
abbrev slice_from : List ℕ → ℕ → List ℕ
slice_from text at = take (length text - at) (drop at text)

pub returns-in_err-found-clause-len : goal.returns-in_err-found-clause-len
returns-in_err-found-clause-len c =
    let text = c.args.text.now in
    let never = content_len-none (slice_from text c.loop-at.at) c.in_err-found.ensures in
    c.from_residual.ensures
    ∙ sym (content_len-never text c.loop-at.at c.loop-at.invariant.1 (ap (content_len false) (sym (take_rest text c.loop-at.at)) ∙ never))

pub returns-then-rest-found-eq34-clause-len : goal.returns-then-rest-found-eq34-clause-len
returns-then-rest-found-eq34-clause-len c =
    let text = c.args.text.now in
    let found = content_len-quote (slice_from text c.loop-at.at) c.in_ok-found.found c.in_ok-found.ensures.0 c.if-rest-found-eq34.true in
    sym (content_len-after text c.loop-at.at c.in_ok-found.found c.loop-at.invariant.1 (ap (content_len false) (sym (take_rest text c.loop-at.at)) ∙ found))

-- the byte that was found is a quote or a backslash
pub returns-then-rest-found-lt2-clause-len : goal.returns-then-rest-found-lt2-clause-len
returns-then-rest-found-lt2-clause-len c =
    let text = c.args.text.now in
    let found = content_len-cut (slice_from text c.loop-at.at) c.in_ok-found.found c.in_ok-found.ensures.0 (is_backslash _ c.in_ok-found.ensures.1 c.if-rest-found-eq34.false) c.if-rest-found-lt2.true in
    sym (content_len-never text c.loop-at.at c.loop-at.invariant.1 (ap (content_len false) (sym (take_rest text c.loop-at.at)) ∙ found))

pub loop-at-preserved : goal.loop-at-preserved
loop-at-preserved c =
    let text = c.args.text.now in
    let found = content_len-taken (slice_from text c.loop-at.at) c.in_ok-found.found c.in_ok-found.ensures.0 (is_backslash _ c.in_ok-found.ensures.1 c.if-rest-found-eq34.false) c.if-rest-found-lt2.false in
    let more = rw (take_rest text c.loop-at.at) at c.if-rest-found-lt2.false in (
      omega (arith, length-drop c.loop-at.at text),
      content_len-on text c.loop-at.at (c.in_ok-found.found + 2) c.loop-at.invariant.1
          (ap (content_len false) (sym (take_rest text c.loop-at.at)) ∙ found ∙ ap (λ rest. later (c.in_ok-found.found + 2) (content_len false (drop (c.in_ok-found.found + 2) rest))) (take_rest text c.loop-at.at)),
    )

pub returns-then-rest-found-eq34-clause-fits : goal.returns-then-rest-found-eq34-clause-fits
returns-then-rest-found-eq34-clause-fits c =
    let high = rw (take_rest c.args.text.now c.loop-at.at) at c.in_ok-found.ensures.0.high in
    omega (arith, length-drop c.loop-at.at c.args.text.now)
