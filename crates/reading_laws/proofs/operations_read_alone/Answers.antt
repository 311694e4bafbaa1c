use Rattle.reading_laws.proofs.MapAlone.{read_alone_from}
use Rattle.reading_laws.proofs.operations_read_alone.Goals as goal

pub returns : goal.returns
returns c text o (offset, entries, fault, within, reads, has) =
    read_alone_from text offset entries fault o within reads has
