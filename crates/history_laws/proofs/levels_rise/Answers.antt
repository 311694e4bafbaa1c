use Rattle.history_laws.proofs.ThinningCycles.{carried_up, has_above}
use Rattle.history_laws.proofs.levels_rise.Goals as goal

pub returns : goal.returns
returns c = record {
  walks = λ lower higher up ns others. carried_up lower higher ns others up;
  phenomena = λ keys lower higher up phenomenon ts. has_above keys phenomenon lower higher ts up;
}
