use Rattle.history_laws.proofs.Processes.{completion_in-next, last_event-last}
use Rattle.history_laws.proofs.events_of_a_process.Goals as goal

pub returns : goal.returns
returns c = record {
  completion = completion_in-next;
  last = last_event-last;
}
