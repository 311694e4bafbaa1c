use Rattle.command_line.proofs.Parses.{sessions_are_asked, sessions_with_keys, sessions_with_keys_after, sessions_with_keys_joined}
use Rattle.command_line.proofs.laws.sessions_are_asked_for.Goals as goal

pub returns-clause-alone : goal.returns-clause-alone
returns-clause-alone c = λ name. (sessions_are_asked name).0

pub returns-clause-cells : goal.returns-clause-cells
returns-clause-cells c = λ name. (sessions_are_asked name).1

pub returns-clause-keys : goal.returns-clause-keys
returns-clause-keys c = sessions_with_keys

pub returns-clause-keys_after : goal.returns-clause-keys_after
returns-clause-keys_after c = sessions_with_keys_after

pub returns-clause-keys_joined : goal.returns-clause-keys_joined
returns-clause-keys_joined c = sessions_with_keys_joined

pub returns-clause-pairs : goal.returns-clause-pairs
returns-clause-pairs c = λ name. (sessions_are_asked name).2
