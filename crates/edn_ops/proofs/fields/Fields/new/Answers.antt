use Rattle.std.proofs.Common.{refl}
use Rattle.edn_ops.proofs.Gathering.{nothing_gathered}
use Rattle.edn_ops.proofs.fields.Fields.new.Goals as goal

pub returns-clause-fields : goal.returns-clause-fields
returns-clause-fields c text = nothing_gathered text _ refl (c.new.ensures.field text) (c.new-2.ensures.field text) (c.new-3.ensures.field text)

pub returns-clause-within : goal.returns-clause-within
returns-clause-within c text = record { key = tt; kind = c.new.ensures.within text; process = c.new-2.ensures.within text; value = c.new-3.ensures.within text }
