use Rattle.std.proofs.Common.{◌∙◌, ap, map, rules}
use Rattle.atom_index.specs.Slots.{number_of_entry}
use Rattle.atom_index.proofs.Tables.{map-replicate}
use Rattle.atom_index.proofs.table.Table.with_slots.Goals as goal

pub returns : goal.returns
returns c =
    let entries = c.in_ok-entries.ensures.items_if_clones_equal (λ y is. search rules) in
    ap (map number_of_entry) entries ∙ map-replicate number_of_entry c.args.slots 0
