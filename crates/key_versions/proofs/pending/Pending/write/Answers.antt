use Rattle.std.proofs.Common.{rules, ◌<◌, ◌∙◌, Some, length, ap}
use Rattle.std.specs.Option.{option_or}
use Rattle.key_versions.specs.Pending.{writer_in}
use Rattle.key_versions.specs.Rows.{change, with_writer}
use Rattle.key_versions.proofs.Gathered.{known_place, known_written}
use Rattle.key_versions.proofs.pending.Pending.write.Goals as goal

pub index-requires : goal.index-requires
index-requires c =
    let below : c.args.version < length c.self.inside.writers.items = known_place _ c.self.inside.readers.items c.self.inside.followers.items c.self.view_is c.requires in
    let len = c.self.inside.writers.ok.0 in
    search rules

pub index_mut-requires : goal.index_mut-requires
index_mut-requires c =
    let below : c.args.version < length c.self.inside.writers.items = known_place _ c.self.inside.readers.items c.self.inside.followers.items c.self.view_is c.requires in
    let len = c.self.inside.writers.ok.0 in
    search rules

pub returns : goal.returns
returns c =
    let ws = c.self.inside.writers.items in
    let rs = c.self.inside.readers.items in
    let fs = c.self.inside.followers.items in
    known_written 0 c.args.version ws rs fs c.args.writer c.index.result.now c.or.result (known_place ws rs fs c.self.view_is c.requires)
    (c.or.ensures ∙ ap (λ x. option_or (writer_in x) (Some c.args.writer)) c.index.ensures)
    ∙ ap (change (with_writer c.args.writer) c.args.version) c.self.view_is
