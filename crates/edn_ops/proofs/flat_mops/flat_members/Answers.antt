use Rattle.std.proofs.Common.{[], ◌≡◌, ◌≤◌, ℕ, List, length, subst, arith}
use Rattle.edn_lex.specs.declared.types.Token.{Token}
use Rattle.edn_ops.specs.Flat.{ReadsInside}
use Rattle.edn_ops.specs.declared.types.MopShape.{MopShape}
use Rattle.edn_ops.proofs.FlatMaps.{nothing_inside, transaction_ahead}
use Rattle.edn_ops.proofs.flat_mops.flat_members.Goals as goal

-- behind its opener nothing of a transaction was read
at_first : (text : List ℕ) (opener : Token) (offset : ℕ) (shapes : List MopShape) → opener.end ≡ offset → offset ≤ length text → shapes ≡ [] → ReadsInside text opener [] shapes offset
at_first text opener offset shapes same within empty = subst (ReadsInside text opener [] shapes) same (nothing_inside text opener shapes (omega arith) empty)

pub returns-in-Some-clause-reads : goal.returns-in-Some-clause-reads
returns-in-Some-clause-reads c empty at opener same opens =
    let text = c.args.text.now in
    let closer = c.in-Some in
    let so_far = c.in_ok-at.ensures.reads opener [] (at_first text opener c.args.offset c.args.mops.now.items same c.requires empty) in
    transaction_ahead text at opener closer.closer so_far.0 c.printed_mops.new.mops.items c.in_ok-at.at opens so_far.1 closer.ensures.gives

pub returns-clause-reads : goal.returns-clause-reads
returns-clause-reads c empty at opener same opens =
    let text = c.args.text.now in
    let so_far = c.in_ok-at.ensures.reads opener [] (at_first text opener c.args.offset c.args.mops.now.items same c.requires empty) in
    c.other_members.ensures.reads at opener so_far.0 opens so_far.1
