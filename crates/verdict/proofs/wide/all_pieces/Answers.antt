use Rattle.std.proofs.Common.{◌≡◌, ◌∙◌, ◌++◌, [], sym, ap, arith, append-nil}
use Rattle.std.proofs.lemmas.List.{nil_from_length}
use Rattle.std.specs.Vec.Iter.{into_iter_items}
use Rattle.verdict.proofs.Parted.{all_keys}
use Rattle.verdict.proofs.wide.all_pieces.Goals as goal

pub returns-clause-ok : goal.returns-clause-ok
returns-clause-ok g c =
    let p = c.args.pieces.now in
    let rest = into_iter_items c.loop-piece.piece-iterator in
    let (whole, made) = c.loop-piece.invariant in
    let none : rest ≡ [] = nil_from_length rest (omega (arith, c.in-None.ensures.steps.0, c.loop-piece.piece-iterator.rest.ok)) in
    let all = sym (append-nil c.loop-piece.yielded) ∙ ap (λ is. c.loop-piece.yielded ++ is) (sym none) ∙ whole ∙ c.into_iter-piece-iterator.ensures.into_iter_gives.0 in
    all_keys p.tables.now p.keys p.workers c.in_ok-found.found.items c.loop-piece.all.items c.requires.workers c.requires.history
    (omega (arith, c.in_ok-found.ensures.count, c.in_ok-found.found.ok)) c.in_ok-found.ensures.each (made ∙ all)
