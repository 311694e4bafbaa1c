use Rattle.live_journal.proofs.Counting.{all_events, counting_all_count}
use Rattle.live_journal.proofs.laws.counting_blocks_have_all_events.Goals as goal

pub returns-clause-events : goal.returns-clause-events
returns-clause-events c = all_events

pub returns-clause-count : goal.returns-clause-count
returns-clause-count c = counting_all_count
