use Rattle.std.proofs.Common.{sym, ◌∙◌, subst, arith}
use Rattle.edn_lex.specs.Kinds.{item_of}
use Rattle.edn_ops.proofs.LastMark.{Walk, Walk-start, Walk-opener, Walk-closer, Walk-closed, Walk-inside, Walk-here, Walk-closer_ends, Walk-ends}
use Rattle.edn_ops.proofs.marks.last_waiting.Goals as goal

pub loop-given-init : goal.loop-given-init
loop-given-init c =
    (tt, tt, Walk-start c.args.lexer c.args.first c.by-last.result c.requires.behind (c.by-last.ensures.waits c.args.lexer.text) c.by-last.ensures.few, c.by-last.ensures.drops)

pub loop-given-preserved-in-Open : goal.loop-given-preserved-in-Open
loop-given-preserved-in-Open c =
    let g = rw c.in-Ok.is at c.in-Some.ensures.steps in
    (tt, tt, Walk-opener _ _ _ _ c.in-Ok.token _ _ c.loop-given.invariant.2 g c.in-Open.is, c.loop-given.invariant.3)

pub loop-given-preserved-then-depth-eq0-2 : goal.loop-given-preserved-then-depth-eq0-2
loop-given-preserved-then-depth-eq0-2 c =
    let g = rw c.in-Ok.is at c.in-Some.ensures.steps in
    let zero = c.if-depth-eq0-2.true in
    let some = c.if-depth-eq0.false in
    let w : Walk c.args.lexer (item_of c.args.lexer.text c.args.first) c.next.new.self c.settled-last.result 0 =
    Walk-closed _ _ _ _ c.in-Ok.token c.loop-given.last c.settled-last.result c.loop-given.depth c.loop-given.invariant.2 g c.in-Close.is (omega arith)
    c.settled-last.ensures.waits c.settled-last.ensures.few in (
      tt,
      tt,
      subst (λ n. Walk c.args.lexer (item_of c.args.lexer.text c.args.first) c.next.new.self c.settled-last.result n) (sym zero) w,
      c.settled-last.ensures.drops ∙ c.loop-given.invariant.3,
    )

pub loop-given-preserved-else-depth-eq0-2 : goal.loop-given-preserved-else-depth-eq0-2
loop-given-preserved-else-depth-eq0-2 c =
    let g = rw c.in-Ok.is at c.in-Some.ensures.steps in
    let some = c.if-depth-eq0-2.false in
    (tt, tt, Walk-closer _ _ _ _ c.in-Ok.token _ _ c.loop-given.invariant.2 g c.in-Close.is (omega arith), c.loop-given.invariant.3)

pub loop-given-preserved-then-depth-eq0-3 : goal.loop-given-preserved-then-depth-eq0-3
loop-given-preserved-then-depth-eq0-3 c =
    let g = rw c.in-Ok.is at c.in-Some.ensures.steps in (
      tt,
      tt,
      Walk-here _ _ _ _ c.in-Ok.token c.loop-given.last c.and-last.result _ c.loop-given.invariant.2 g c.in_default-kind.not-Open c.in_default-kind.not-Close
          c.if-depth-eq0-3.true c.and-last.ensures.mark c.and-last.ensures.form c.and-last.ensures.few,
      c.and-last.ensures.drops ∙ c.loop-given.invariant.3,
    )

pub loop-given-preserved : goal.loop-given-preserved
loop-given-preserved c =
    let g = rw c.in-Ok.is at c.in-Some.ensures.steps in
    let some = c.if-depth-eq0-3.false in (
      tt,
      tt,
      Walk-inside _ _ _ _ c.in-Ok.token _ _ c.loop-given.invariant.2 g c.in_default-kind.not-Open c.in_default-kind.not-Close
          (omega arith),
      c.loop-given.invariant.3,
    )

pub returns-then-depth-eq0 : goal.returns-then-depth-eq0
returns-then-depth-eq0 c =
    let g = rw c.in-Ok.is at c.in-Some.ensures.steps in
    λ mark marks count wait.
    Walk-closer_ends _ _ _ _ c.in-Ok.token _ _ c.loop-given.invariant.2 g c.in-Close.is c.if-depth-eq0.true mark marks
    (count ∙ sym c.loop-given.invariant.3) wait

pub returns-in_default-given : goal.returns-in_default-given
returns-in_default-given c =
    let g = rw c.in_default-given.is at c.in-Some.ensures.steps in
    λ mark marks count wait.
    Walk-ends _ _ _ _ _ c.loop-given.invariant.2 (λ tokens ending rest. (g.only tokens ending rest).0) mark marks (count ∙ sym c.loop-given.invariant.3) wait

pub returns-in_default : goal.returns-in_default
returns-in_default c =
    let g = rw c.in_default.is at c.next.ensures.steps in
    λ mark marks count wait.
    Walk-ends _ _ _ _ _ c.loop-given.invariant.2 (λ tokens ending rest. (g.only tokens ending rest).0) mark marks (count ∙ sym c.loop-given.invariant.3) wait
