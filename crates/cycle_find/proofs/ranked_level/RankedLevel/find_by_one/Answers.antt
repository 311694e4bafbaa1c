use Rattle.std.proofs.Common.{IfOk, subst}
use Rattle.cycle_find.specs.Found.{IsFoundByFewest}
use Rattle.cycle_find.specs.Tasks.{Site, Task, task_of}
use Rattle.cycle_find.proofs.ranked_level.RankedLevel.find_by_one.Goals as goal

pub returns : goal.returns
returns c =
    subst (λ (site : Site). IfOk c.find.result (IsFoundByFewest 1 (task_of site.graph c.args.phenomenon site.level))) c.self.view_is
    (subst (λ (task : Task). IfOk c.find.result (IsFoundByFewest 1 task)) c.new.ensures c.find.ensures)
