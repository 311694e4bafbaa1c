use Rattle.hist_types.proofs.Titles.{same_number, same_name}
use Rattle.hist_types.proofs.laws.no_two_refusals_alike.Goals as goal

pub returns : goal.returns
returns c = record {
  numbers = same_number;
  names = same_name;
}
