use Rattle.std.proofs.Common.{refl}
use Rattle.block_reader.proofs.StartsMore.{one_more_start, last_start}
use Rattle.block_reader.proofs.starts.starts_of.Goals as goal
use Rattle.block_reader.proofs.starts.starts_of.Goals.{then-offset-last+in-Some+then-text-start-ge2+in_ok-push-2, then-offset-last+in-Some+else-text-start-ge2, then-offset-last+in_default, else-offset-last}

pub loop-part-preserved : goal.loop-part-preserved
loop-part-preserved c = elim c.if-offset-last.branch [
  | then-offset-last+in-Some+then-text-start-ge2+in_ok-push-2 w ↦
      rw (w.starts-is, w.last-is, w.in_ok-push-2.ensures.items) (
        one_more_start c.args.text.now c.loop-part.starts.items c.loop-part.last _ w.in-Some.start c.requires c.loop-part.invariant.0 c.loop-part.invariant.1 w.if-offset-last.true w.in-Some.ensures w.if-text-start-ge2.true,
        last_start c.loop-part.starts.items w.in-Some.start _ refl,
      )
  | then-offset-last+in-Some+else-text-start-ge2 w ↦ rw (w.starts-is, w.last-is) c.loop-part.invariant
  | then-offset-last+in_default w ↦ rw (w.starts-is, w.last-is) c.loop-part.invariant
  | else-offset-last w ↦ rw (w.starts-is, w.last-is) c.loop-part.invariant
]
