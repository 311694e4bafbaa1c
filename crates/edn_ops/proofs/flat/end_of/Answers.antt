use Rattle.std.proofs.Common.{refl}
use Rattle.edn_ops.proofs.FlatMaps.{transaction_reached}
use Rattle.edn_ops.proofs.flat.end_of.Goals as goal

pub returns-in-Opener-clause-reads : goal.returns-in-Opener-clause-reads
returns-in-Opener-clause-reads c =
    λ offset fields has.
    transaction_reached c.args.text.now offset fields c.args.mops.now.items c.flat_members.new.mops.items c.in-Opener.opener c.flat_members.result (rw c.in-Opener.is at has)
    (λ empty at opens. c.flat_members.ensures.reads empty at c.in-Opener.opener refl opens)
