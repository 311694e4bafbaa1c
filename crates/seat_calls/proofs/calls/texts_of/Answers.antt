use Rattle.std.proofs.Common.{◌≡◌, ◌∙◌, List, [], ◌∷◌, ◌++◌, ap, sym}
use Rattle.std.proofs.lemmas.List.{append_assoc}
use Rattle.hist_types.specs.Operations.{Mop}
use Rattle.seat_calls.proofs.Texts.{one_more_text}
use Rattle.seat_calls.proofs.calls.texts_of.Goals as goal

pub loop-mop-preserved : goal.loop-mop-preserved
loop-mop-preserved c =
    let mops = c.loop-mop.yielded in
    let mop = c.in-Some.mop in
    let left : (mops ++ mop ∷ []) ++ c.next.new.self ≡ c.args.op.now.mops =
    append_assoc mops (mop ∷ []) c.next.new.self
    ∙ ap (λ (ms : List Mop). mops ++ ms) (sym c.in-Some.ensures.steps)
    ∙ c.loop-mop.invariant.0 in
    let texts = one_more_text c.loop-mop.texts.items mops c.text.result mop in
    (left, rw c.in_ok-push.ensures.items (texts c.loop-mop.invariant.1 c.text.ensures))
