use Rattle.std.proofs.Common.{codes, refl}
use Rattle.edn_ops.specs.Outlines.{outline_of}
use Rattle.edn_ops.proofs.Gathering.{awaited, first_grown, transaction_gathered, not_grown, value_type, value_process}
use Rattle.edn_ops.proofs.fields.Fields.add_transaction.Goals as goal

pub returns-clause-fields : goal.returns-clause-fields
returns-clause-fields c text members form g waits e is =
    let old = c.args.self.now in
    let key = awaited text old.key old.value waits in
    transaction_gathered text old _ members key.0 form g key.1
    (record {
      done = refl;
      kind = not_grown text (codes ":type") old.kind key.0 form (value_type (outline_of text key.0) key.2);
      process = not_grown text (codes ":process") old.process key.0 form (value_process (outline_of text key.0) key.2);
      value = first_grown text (codes ":value") old.value key.0 c.args.value form key.2 key.3 e;
    }) key.2 key.3 is
