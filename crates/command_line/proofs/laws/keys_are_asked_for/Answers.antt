use Rattle.command_line.proofs.Parses.{edges_with_keys, edges_with_keys_joined, check_with_keys, check_with_keys_joined}
use Rattle.command_line.proofs.laws.keys_are_asked_for.Goals as goal

pub returns-clause-edges : goal.returns-clause-edges
returns-clause-edges c = edges_with_keys

pub returns-clause-edges_joined : goal.returns-clause-edges_joined
returns-clause-edges_joined c = edges_with_keys_joined

pub returns-clause-check : goal.returns-clause-check
returns-clause-check c = check_with_keys

pub returns-clause-check_joined : goal.returns-clause-check_joined
returns-clause-check_joined c = check_with_keys_joined
