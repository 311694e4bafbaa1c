use Rattle.std.proofs.Common.{◌≡◌, ◌∙◌, length, sym, subst, arith}
use Rattle.std.proofs.lemmas.Bool.{eqb-true}
use Rattle.cycle_find.specs.Tasks.{Task}
use Rattle.cycle_find.proofs.Scanning.{AreReaders, none_by}
use Rattle.cycle_find.proofs.one_dependency.OneDependency.is_read_before.Goals as goal

pub returns-then-is_empty : goal.returns-then-is_empty
returns-then-is_empty c =
    let task : Task = c.args.self.now in
    let places = c.readers-readers.result.now in
    let readers : AreReaders task.graph c.args.version places = subst (λ (task : Task). AreReaders task.graph c.args.version places) c.self.view_is c.readers-readers.ensures.readers in
    let empty : length places ≡ 0 = eqb-true (length places) 0 (sym c.is_empty.ensures ∙ c.if-is_empty.true) in
    λ same. none_by task c.args.version places c.requires.rw readers (λ k h. absurd (omega (arith, h, empty)))
