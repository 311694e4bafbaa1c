use Rattle.std.proofs.Common.{◌∙◌, [], ◌∷◌, ◌++◌, map, arith}
use Rattle.std.proofs.lemmas.Result.{err_from_is_err_and}
use Rattle.hist_types.specs.Entries.{operation_of}
use Rattle.edn_ops.specs.Reader.{HasRead, HasEnded}
use Rattle.op_block.specs.Contents.{HasRoomFor, length_of}
use Rattle.block_reader.proofs.OneBlock.{none_in, no_room, one_pushed}
use Rattle.block_reader.proofs.Readings.{is_read, none_placed, one_placed, all_placed, fault_placed}
use Rattle.block_reader.proofs.one_block.fill.Goals as goal

pub loop-init : goal.loop-init
loop-init c = rw (c.requires.start, c.requires.empty) ([], none_placed c.args.text.now, none_in)

pub returns-in_err-shape : goal.returns-in_err-shape
returns-in_err-shape c =
    let h = c.loop.invariant.1 in
    let given = fault_placed c.args.text.now c.loop.reader c.next_op.new.self c.loop.invariant.0 c.in_err-shape.field-0.0 h (c.in_err-shape.ensures.next h.0.going) in
    let left = err_from_is_err_and c.from_residual.result c.from_residual.ensures.1 in
    rw left.1 (rw left.2 given)

pub returns-in_default : goal.returns-in_default
returns-in_default c =
    let h = c.loop.invariant.1 in
    let ended : HasEnded c.loop.reader c.next_op.new.self = rw c.in_default.is at (c.in_ok-shape.ensures.next h.0.going) in
    (c.loop.invariant.0, all_placed c.args.text.now c.loop.reader c.next_op.new.self c.loop.invariant.0 h ended, c.loop.invariant.2)

pub returns-then-not-has_room_for : goal.returns-then-not-has_room_for
returns-then-not-has_room_for c =
    let old = c.loop.reader in
    let new = c.next_op.new.self in
    let shape = c.in-Some.shape in
    let os = c.loop.invariant.0 in
    let h = c.loop.invariant.1 in
    let read : HasRead old shape new = rw c.in-Some.is at (c.in_ok-shape.ensures.next h.0.going) in
    let full : HasRoomFor (length_of shape) c.loop.builder → ⊥ = λ room. let yes = c.has_room_for.ensures.1 room in cc in (
      os ++ read.read ∷ [],
      one_placed c.args.text.now old new shape os h read (c.in_ok-shape.ensures.text ∙ h.0.same),
      no_room os c.loop.builder read.read shape c.loop.invariant.2 read.shape_of full,
    )

pub loop-preserved : goal.loop-preserved
loop-preserved c =
    let text = c.args.text.now in
    let old = c.loop.reader in
    let new = c.next_op.new.self in
    let shape = c.in-Some.shape in
    let os = c.loop.invariant.0 in
    let h = c.loop.invariant.1 in
    let read : HasRead old shape new = rw c.in-Some.is at (c.in_ok-shape.ensures.next h.0.going) in
    let same = c.in_ok-shape.ensures.text ∙ h.0.same in
    let is_in = is_read text 0 old new shape (map operation_of os) h.0 read same (omega arith) c.operations_read_alone.ensures in
    let room : HasRoomFor (length_of shape) c.loop.builder = c.has_room_for.ensures.0 cc in (
      os ++ read.read ∷ [],
      one_placed text old new shape os h read same,
      one_pushed text os c.loop.builder c.push.new.self read.read shape c.loop.invariant.2 room is_in read.shape_of c.in_ok-push.ensures.added,
    )
