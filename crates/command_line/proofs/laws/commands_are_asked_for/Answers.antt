use Rattle.command_line.proofs.Parses.{commands_are_asked}
use Rattle.command_line.proofs.laws.commands_are_asked_for.Goals as goal

pub returns-clause-reads : goal.returns-clause-reads
returns-clause-reads c = λ name. (commands_are_asked name).0

pub returns-clause-edges : goal.returns-clause-edges
returns-clause-edges c = λ name. (commands_are_asked name).1

pub returns-clause-check : goal.returns-clause-check
returns-clause-check c = λ name. (commands_are_asked name).2
