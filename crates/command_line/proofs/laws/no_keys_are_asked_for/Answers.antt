use Rattle.command_line.proofs.Refused.{edges_other_keys, edges_no_keys, check_other_keys, check_no_keys, reads_with_keys}
use Rattle.command_line.proofs.laws.no_keys_are_asked_for.Goals as goal

pub returns-clause-edges : goal.returns-clause-edges
returns-clause-edges c = edges_other_keys

pub returns-clause-edges_alone : goal.returns-clause-edges_alone
returns-clause-edges_alone c = edges_no_keys

pub returns-clause-check : goal.returns-clause-check
returns-clause-check c = check_other_keys

pub returns-clause-check_alone : goal.returns-clause-check_alone
returns-clause-check_alone c = check_no_keys

pub returns-clause-reads : goal.returns-clause-reads
returns-clause-reads c = reads_with_keys
