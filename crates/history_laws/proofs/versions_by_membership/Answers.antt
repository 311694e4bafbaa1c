use Rattle.history_laws.proofs.VersionMembers.{pairs_by_membership}
use Rattle.history_laws.proofs.versions_by_membership.Goals as goal

pub returns : goal.returns
returns c = pairs_by_membership
