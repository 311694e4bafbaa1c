use Rattle.std.proofs.Common.{arith}
use Rattle.edn_ops.specs.declared.flat.Front.{Front}
use Rattle.edn_ops.proofs.PrintedFields.{front_printed}
use Rattle.edn_ops.proofs.flat.front_here.Goals as goal

pub returns : goal.returns
returns c =
    let text = c.args.text.now in
    let room = c.if-text-start-lt-FRONT_LOOK.false in
    let kind = c.in_ok-kind in
    let kind_near = kind.ensures.near in
    let owner = c.in_ok-process in
    let owner_near = owner.ensures.near in
    let txn_near = c.behind_txn.ensures.near in
    let members = c.in_ok-members in
    let members_near = members.ensures.near in
    let front : Front = record { kind = kind.kind; process = owner.process; members = members.members } in
    front_printed text c.args.start kind.kind_end owner.owner_end c.behind_txn.result front kind.ensures.kind owner.ensures.owner c.behind_txn.ensures.passes members.ensures.value (omega arith)
