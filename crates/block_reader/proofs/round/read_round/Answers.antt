use Rattle.std.proofs.Common.{refl, sym, subst}
use Rattle.block_reader.specs.Parts.{AreStarts}
use Rattle.block_reader.proofs.round.read_round.Goals as goal

pub read_parts-parts-requires-sync-R : goal.read_parts-parts-requires-sync-R
read_parts-parts-requires-sync-R g c κs within = (c.type_bounds.sync-R, ((refl, tt), subst (AreStarts c.args.lines.now) (sym c.deref.ensures.value) c.in-Ok.ensures))
