use Rattle.std.proofs.Common.{ℕ, List, [], refl}
use Rattle.hist_types.specs.Interleavings.{World, at_first, Step, IsOutcomeOf, AreJudged, by_point}
use Rattle.hist_types.specs.declared.types.KeyOrder.{KeyOrder}
use Rattle.live_journal.proofs.Agreed.{outcome_agreed, at_first_agreed}
use Rattle.live_journal.proofs.Positions.{at_first_positions}
use Rattle.live_journal.proofs.Runs.{HasRun, outcome_run, untimed, all_count}
use Rattle.live_journal.proofs.Ordered.{outcome_ordered, at_first_ordered}
use Rattle.live_journal.proofs.Stamps.{outcome_stamped, at_first_stamped}
use Rattle.live_journal.proofs.laws.interleavings.Goals as goal

pub returns-clause-agreed : goal.returns-clause-agreed
returns-clause-agreed c keys cells steps w h = outcome_agreed keys cells at_first steps w h at_first_agreed

pub returns-clause-room : goal.returns-clause-room
returns-clause-room c keys cells steps w h = (outcome_stamped keys cells at_first steps w h (at_first_stamped cells)).room

pub returns-clause-stamps : goal.returns-clause-stamps
returns-clause-stamps c keys cells steps w h = (outcome_stamped keys cells at_first steps w h (at_first_stamped cells)).rising

run : (keys : KeyOrder) (cells : ℕ) (steps : List Step) (w : World) → IsOutcomeOf keys cells at_first steps w → AreJudged keys cells at_first steps → HasRun keys cells w
run keys cells steps w h j = outcome_run keys cells at_first steps w h j at_first_agreed at_first_positions refl

pub returns-clause-history : goal.returns-clause-history
returns-clause-history c keys cells steps w h j = record {
  count = all_count keys cells (by_point w.answers) w.row (run keys cells steps w h j);
  run = untimed keys cells [] (by_point w.answers) w.row (run keys cells steps w h j);
  order = (outcome_ordered keys cells at_first steps w h j at_first_agreed at_first_positions refl at_first_ordered).order;
}
