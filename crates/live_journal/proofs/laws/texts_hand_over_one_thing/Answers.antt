use Rattle.std.proofs.Common.{List, Option, refl, sym, ap, ◌∙◌}
use Rattle.hist_types.specs.Entries.{Entry}
use Rattle.hist_types.specs.Handed.{handed_by}
use Rattle.hist_types.specs.declared.types.Fault.{Fault}
use Rattle.reading_laws.proofs.OneReading.{HasOne-reading, same_reading}
use Rattle.live_journal.proofs.laws.texts_hand_over_one_thing.Goals as goal

pub returns-clause-some : goal.returns-clause-some
returns-clause-some c text =
    let one = (HasOne-reading text).0 in
    (handed_by one.0 one.1, (one.0, one.1, one.2, refl))

pub returns-clause-one : goal.returns-clause-one
returns-clause-one c text handed other h o =
    let same = same_reading text h.0 o.0 h.1 o.1 h.2 o.2 in
    h.3
    ∙ ap (λ (entries : List Entry). handed_by entries h.1) same.0
    ∙ ap (λ (fault : Option Fault). handed_by o.0 fault) same.1
    ∙ sym o.3
