use Rattle.std.proofs.Common.{◌<◌, ℕ, List, length, subst}
use Rattle.edn_ops.specs.declared.atoms.TheConstants.{LONG_INTEGER}
use Rattle.edn_ops.proofs.FlatMaps.{lone_token_in, short_number}
use Rattle.edn_ops.proofs.flat_mops.short_number_at.Goals as goal

pub bytes_of-requires : goal.bytes_of-requires
bytes_of-requires c = lone_token_in c.args.text.now c.args.start c.in_ok-number.number c.requires c.in_ok-number.ensures.lone

pub returns-then-bytes_of-lt-LONG_INTEGER-clause-atom : goal.returns-then-bytes_of-lt-LONG_INTEGER-clause-atom
returns-then-bytes_of-lt-LONG_INTEGER-clause-atom c =
    let number = c.in_ok-number in
    let short = subst (λ (bytes : List ℕ). length bytes < LONG_INTEGER) c.bytes_of.ensures c.if-bytes_of-lt-LONG_INTEGER.true in
    short_number c.args.text.now number.number number.ensures.kind (lone_token_in c.args.text.now c.args.start number.number c.requires number.ensures.lone) short
