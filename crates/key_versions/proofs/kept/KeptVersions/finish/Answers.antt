use Rattle.std.proofs.Common.{ap}
use Rattle.key_versions.specs.Kept.{KeptVersions}
use Rattle.key_versions.specs.Numbering.{versions_of}
use Rattle.key_versions.proofs.Finished.{IsKnown, are_versions, is_table}
use Rattle.key_versions.proofs.kept.KeptVersions.finish.Given.{Over}
use Rattle.key_versions.proofs.kept.KeptVersions.finish.Goals.{In_ok-known}
use Rattle.key_versions.proofs.kept.KeptVersions.finish.Goals as goal

known : (g : Over) (c : In_ok-known g)
    → IsKnown c.in_ok-numbered.numbered.keys.items c.in_ok-numbered.numbered.values.items c.in_ok-numbered.numbered.pairs.items (versions_of c.self.inside.numbering) c.in_ok-rows.rows.rows c.in_ok-known.known.writers.items c.in_ok-known.known.readers c.in_ok-known.known.followers
known g c = record {
  versions = c.in_ok-numbered.ensures.versions;
  writers = c.in_ok-known.ensures.writers;
  readers = c.in_ok-known.ensures.readers;
  followers = c.in_ok-known.ensures.followers;
}

pub new-requires : goal.new-requires
new-requires g c =
    are_versions (known g (goal.at.new-requires g c).In_ok-known) c.args.self.now (ap (λ (k : KeptVersions). k.versions) c.self.view_is) c.as_slice.result.now c.in_ok-rows.rows.accesses c.in_ok-rows.ensures
    c.in_ok-numbered.ensures.keys c.in_ok-numbered.ensures.in_range

pub returns-clause-ok : goal.returns-clause-ok
returns-clause-ok g c =
    is_table (known g (goal.at.returns-clause-ok g c).In_ok-known) c.args.self.now (ap (λ (k : KeptVersions). k.versions) c.self.view_is) c.as_slice.result.now c.in_ok-rows.rows.accesses c.in_ok-rows.ensures
    c.as_slice.ensures c.new.ensures
