use Rattle.hist_types.specs.Interleavings.{at_first}
use Rattle.live_journal.proofs.Agreed.{outcome_agreed, at_first_agreed, others_after_seen, finds_no_own_block}
use Rattle.live_journal.proofs.laws.found_blocks_are_anothers.Goals as goal

pub returns-clause-others : goal.returns-clause-others
returns-clause-others c keys cells steps w h = others_after_seen w (outcome_agreed keys cells at_first steps w h at_first_agreed)

pub returns-clause-next : goal.returns-clause-next
returns-clause-next c keys cells steps w h = finds_no_own_block w (outcome_agreed keys cells at_first steps w h at_first_agreed)
