use Rattle.reading_laws.proofs.SpelledParts.{parts_spelled, parts_spelled_in, limits_kept}
use Rattle.reading_laws.proofs.operations_spell_their_parts.Goals as goal

pub returns-clause-mops : goal.returns-clause-mops
returns-clause-mops c = parts_spelled

pub returns-clause-limits : goal.returns-clause-limits
returns-clause-limits c = limits_kept

pub returns-clause-anywhere : goal.returns-clause-anywhere
returns-clause-anywhere c text o (entries, fault, reads, has) = parts_spelled_in text entries fault o reads has
