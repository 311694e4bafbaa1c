use Rattle.key_versions.specs.Numbering.{versions_of}
use Rattle.key_versions.proofs.Keeping.{beside_none}
use Rattle.key_versions.proofs.kept.KeptVersions.with_capacity.Goals as goal

pub returns-clause-kept : goal.returns-clause-kept
returns-clause-kept g c = rw c.in_ok-with_capacity.ensures (beside_none c.args.keys (versions_of c.args.numbering) c.requires)
