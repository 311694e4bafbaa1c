use Rattle.command_line.proofs.Parses.{help_is_asked, help_with_a_command}
use Rattle.command_line.proofs.laws.help_is_asked_for.Goals as goal

pub returns-clause-alone : goal.returns-clause-alone
returns-clause-alone c = help_is_asked

pub returns-clause-command : goal.returns-clause-command
returns-clause-command c = help_with_a_command
