use Rattle.std.proofs.Common.{◌∙◌, List, ℕ, subst}
use Rattle.std.proofs.KnownBytes.{Appends-trans}
use Rattle.std.specs.Io.KnownBytes.{Appends}
use Rattle.hist_types.proofs.Pieces.{piece_within, front_more}
use Rattle.hist_types.proofs.whole.write_all.Goals as goal

pub loop-done-preserved : goal.loop-done-preserved
loop-done-preserved g c =
    let bytes = c.args.bytes.now in
    let done = c.loop-done.done in
    let count = c.in_ok-done.field-0 in
    let TakenNow : List ℕ → Type 0 = Appends (g.T.Sink.contents c.args.sink.now) (g.T.Sink.contents c.write.new.self) in
    record {
      within = piece_within bytes done count c.loop-done.invariant.within c.in_ok-done.ensures.within;
      taken = subst TakenNow (front_more bytes done count) (Appends-trans _ _ _ _ _ c.loop-done.invariant.taken c.in_ok-done.ensures.bytes);
      counted = c.in_ok-done.ensures.no_failure ∙ c.loop-done.invariant.counted;
    }
