use Rattle.clean_order.proofs.Dependencies.{joined, rises_into, rises_out_of, all_rise}
use Rattle.clean_order.proofs.laws.dependencies_by_version.Goals as goal

pub returns-clause-joined : goal.returns-clause-joined
returns-clause-joined c = joined

pub returns-clause-into : goal.returns-clause-into
returns-clause-into c = rises_into

pub returns-clause-out : goal.returns-clause-out
returns-clause-out c = rises_out_of

pub returns-clause-all : goal.returns-clause-all
returns-clause-all c = all_rise
