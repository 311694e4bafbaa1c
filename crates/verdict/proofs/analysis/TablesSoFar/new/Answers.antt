use Rattle.std.proofs.Common.{List, refl, sym, subst}
use Rattle.hist_types.specs.Transactions.{Transaction}
use Rattle.key_versions.specs.Kept.{AreKept}
use Rattle.verdict.proofs.analysis.TablesSoFar.new.Goals as goal

pub returns-clause-tables : goal.returns-clause-tables
returns-clause-tables g c = record {
  rules = refl;
  number = refl;
  txns = c.new.ensures;
  versions = subst (λ (ts : List Transaction). AreKept ts c.new-2.result) (sym c.new.ensures) c.new-2.ensures.kept;
  order = c.new-3.ensures;
  points = c.first_points.ensures c.new-2.result c.new-2.ensures.kept;
}
