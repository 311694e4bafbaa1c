use Rattle.std.proofs.Common.{ap}
use Rattle.key_versions.specs.Kept.{KeptVersions}
use Rattle.key_versions.specs.Numbering.{versions_of}
use Rattle.key_versions.proofs.Finished.{IsKnown, are_versions, is_table}
use Rattle.key_versions.proofs.kept.KeptVersions.into_table.Given.{Over}
use Rattle.key_versions.proofs.kept.KeptVersions.into_table.Goals.{In_ok-known}
use Rattle.key_versions.proofs.kept.KeptVersions.into_table.Goals as goal

known : (g : Over) (c : In_ok-known g)
    → IsKnown c.finish-numbered.result.keys.items c.finish-numbered.result.values.items c.finish-numbered.result.pairs.items (versions_of c.self.inside.numbering) c.in_ok-rows.rows.rows c.in_ok-known.known.writers.items c.in_ok-known.known.readers c.in_ok-known.known.followers
known g c = record {
  versions = c.finish-numbered.ensures.versions;
  writers = c.in_ok-known.ensures.writers;
  readers = c.in_ok-known.ensures.readers;
  followers = c.in_ok-known.ensures.followers;
}

pub new-requires : goal.new-requires
new-requires g c =
    are_versions (known g (goal.at.new-requires g c).In_ok-known) c.args.self (ap (λ (k : KeptVersions). k.versions) c.self.view_is) c.as_slice.result.now c.in_ok-rows.rows.accesses c.in_ok-rows.ensures
    c.finish-numbered.ensures.keys c.finish-numbered.ensures.in_range

pub returns-clause-ok : goal.returns-clause-ok
returns-clause-ok g c =
    is_table (known g (goal.at.returns-clause-ok g c).In_ok-known) c.args.self (ap (λ (k : KeptVersions). k.versions) c.self.view_is) c.as_slice.result.now c.in_ok-rows.rows.accesses c.in_ok-rows.ensures
    c.as_slice.ensures c.new.ensures
