use Rattle.key_versions.proofs.Pairs.{pairs_by_followers, pairs_by_table, basic_pairs}
use Rattle.key_versions.proofs.laws.version_pairs_by_followers.Goals as goal

pub returns-clause-history : goal.returns-clause-history
returns-clause-history c = pairs_by_followers

pub returns-clause-table : goal.returns-clause-table
returns-clause-table c = pairs_by_table

pub returns-clause-basic : goal.returns-clause-basic
returns-clause-basic c = basic_pairs
