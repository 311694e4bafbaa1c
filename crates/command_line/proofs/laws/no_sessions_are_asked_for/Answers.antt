use Rattle.command_line.proofs.Refused.{zero_cells, too_many_cells, signed_cells, three_paths, one_path, serve_other_keys, serve_no_keys}
use Rattle.command_line.proofs.laws.no_sessions_are_asked_for.Goals as goal

pub returns-clause-one : goal.returns-clause-one
returns-clause-one c = one_path

pub returns-clause-three : goal.returns-clause-three
returns-clause-three c = three_paths

pub returns-clause-zero : goal.returns-clause-zero
returns-clause-zero c = zero_cells

pub returns-clause-many : goal.returns-clause-many
returns-clause-many c = too_many_cells

pub returns-clause-sign : goal.returns-clause-sign
returns-clause-sign c = signed_cells

pub returns-clause-keys : goal.returns-clause-keys
returns-clause-keys c = serve_other_keys

pub returns-clause-keys_alone : goal.returns-clause-keys_alone
returns-clause-keys_alone c = serve_no_keys
