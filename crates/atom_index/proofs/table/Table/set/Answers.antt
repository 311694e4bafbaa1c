use Rattle.std.proofs.Common.{◌∙◌, ℕ, ◌+◌, List, Some, Option, ap, map}
use Rattle.std.proofs.Math.ListN.{set}
use Rattle.std.proofs.lemmas.List.{map-set}
use Rattle.atom_index.specs.Slots.{number_of_entry}
use Rattle.atom_index.proofs.Tables.{entry_of}
use Rattle.atom_index.proofs.table.Table.set.Goals as goal

pub returns : goal.returns
returns c =
    map-set number_of_entry c.self.inside.entries.items c.args.slot (c.args.number + 1)
    ∙ ap (set (map number_of_entry c.self.inside.entries.items) c.args.slot) (entry_of c.args.number)
    ∙ ap (λ (t : List (Option ℕ)). set t c.args.slot (Some c.args.number)) c.self.view_is
