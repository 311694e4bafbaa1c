use Rattle.std.proofs.Common.{◌∙◌, sym}
use Rattle.cycle_find.proofs.Noted.{noted}
use Rattle.cycle_find.proofs.completions.note.Goals as goal

pub returns-in_ok-insert-clause-noted : goal.returns-in_ok-insert-clause-noted
returns-in_ok-insert-clause-noted c =
    noted c.args.level c.args.version c.args.follower.now c.args.earliest.now c.insert.new.self c.lane-lane.result c.in-Some.completion c.lane-lane.ensures (sym c.ok_completion.ensures ∙ c.in-Some.is) (c.in_ok-insert.ensures.ok)
