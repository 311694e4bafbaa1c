use Rattle.schedules.proofs.Phenomena.{cycles_pivot, none_there}
use Rattle.schedules.proofs.laws.schedules_rule_out_cycles.Goals as goal

pub returns-clause-cycles : goal.returns-clause-cycles
returns-clause-cycles c = cycles_pivot

pub returns-clause-phenomena : goal.returns-clause-phenomena
returns-clause-phenomena c keys kinds serial ts s keeps one phenomenon level rules reach = none_there keys kinds ts s keeps level reach serial one phenomenon rules
