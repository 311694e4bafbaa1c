use Rattle.std.proofs.Common.{subst}
use Rattle.key_versions.specs.Kept.{AreKept}
use Rattle.key_versions.specs.Tables.{IsTableOf}
use Rattle.key_versions.proofs.versions.Goals as goal

pub into_table-requires : goal.into_table-requires
into_table-requires g c = subst (λ ts. AreKept ts c.in_ok-kept.kept) c.as_slice-2.ensures c.in_ok-kept.ensures.kept

pub returns-clause-ok : goal.returns-clause-ok
returns-clause-ok g c =
    subst (λ keys. IsTableOf keys c.args.txns.now c.in_ok-table.table) c.in_ok-kept.ensures.keys c.in_ok-table.ensures.ok
