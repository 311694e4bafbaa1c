use Rattle.std.proofs.Common.{◌≡◌, ◌++◌, [], map, true, cond}
use Rattle.hist_types.specs.Versions.{version_in}
use Rattle.key_versions.specs.Numbering.{versions_of, AreAccesses}
use Rattle.key_versions.specs.Steps.{AreOfSameKeys}
use Rattle.key_versions.proofs.Accessing.{AreTaken}
use Rattle.key_versions.proofs.numbering.Numbering.take.Given as goal

abbrev pub invariant-loop-mop : goal.invariant-loop-mop
invariant-loop-mop g l =
    (l.yielded ++ l.mop-iterator ≡ l.fn.txn.mops)
    × AreTaken (versions_of l.fn.self) l.is_ok l.yielded (versions_of l.self) l.accessed.writes.items l.accessed.reads.items
    × AreAccesses (versions_of l.self) (cond l.keeps_seen (map version_in l.yielded) []) l.accessed.seen.items
    × (l.keeps_seen ≡ true → AreOfSameKeys l.accessed.seen.items (l.accessed.reads.items ++ l.accessed.writes.items))
