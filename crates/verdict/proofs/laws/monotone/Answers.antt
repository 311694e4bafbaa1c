use Rattle.std.proofs.Common.{◌++◌}
use Rattle.hist_types.specs.Journal.{events_of}
use Rattle.report_laws.proofs.GrowingPhenomena.{stay_after_more, stay_after_blocks}
use Rattle.verdict.proofs.Staying.{stays}
use Rattle.verdict.proofs.laws.monotone.Goals as goal

pub returns-clause-prefix : goal.returns-clause-prefix
returns-clause-prefix c = stay_after_more

pub returns-clause-run : goal.returns-clause-run
returns-clause-run c = stay_after_blocks

pub returns-clause-refuted : goal.returns-clause-refuted
returns-clause-refuted c keys events more kept = stays keys events (events ++ more) (stay_after_more keys events more kept)

pub returns-clause-refuted_run : goal.returns-clause-refuted_run
returns-clause-refuted_run c keys blocks more = stays keys (events_of blocks) (events_of (blocks ++ more)) (stay_after_blocks keys blocks more)
