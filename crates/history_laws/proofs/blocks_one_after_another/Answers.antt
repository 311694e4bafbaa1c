use Rattle.history_laws.proofs.Blocks.{events_of-push, events_of-kept, kept_by_both}
use Rattle.history_laws.proofs.blocks_one_after_another.Goals as goal

pub returns : goal.returns
returns c = record {
  push = events_of-push;
  parts = kept_by_both;
  kept = events_of-kept;
}
