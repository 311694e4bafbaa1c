use Rattle.std.proofs.Common.{◌≡◌, ◌++◌, ◌∙◌}
use Rattle.block_reader.specs.Blocks.{operations_in, operations_pushed}
use Rattle.block_reader.proofs.OneBlock.{pushed_ok}
use Rattle.block_reader.proofs.Readings.{append-nil-right}
use Rattle.block_reader.proofs.blocks.Blocks.push.Goals as goal
use Rattle.block_reader.proofs.blocks.Blocks.push.Goals.{then-not-has_room_for+in_ok-close, else-not-has_room_for}

-- whether the last block was closed or not, the operations are still the same
still_same : (c : goal.After-push) → operations_in c.if-not-has_room_for.self-inside.full.items ++ operations_pushed c.if-not-has_room_for.self-inside.last.operations ≡ c.args.self.now
still_same c = elim c.if-not-has_room_for.branch [
  | then-not-has_room_for+in_ok-close w ↦
      rw (w.self-inside-is, w.in_ok-close.ensures.last) (append-nil-right (operations_in w.close.new.full.items) ∙ (w.in_ok-close.ensures.full ∙ c.self.view_is))
  | else-not-has_room_for w ↦ rw w.self-inside-is c.self.view_is
]

pub returns-clause-ok : goal.returns-clause-ok
returns-clause-ok c = λ o is_in is_shape.
    let inside = c.if-not-has_room_for.self-inside in
    pushed_ok c.push.result (operations_in inside.full.items) inside.last c.push.new.self c.args.self.now c.args.text.now c.args.shape.now o (still_same c) c.push.ensures.added is_in is_shape

pub returns-clause-err : goal.returns-clause-err
returns-clause-err c = elim c.if-not-has_room_for.branch [
  | then-not-has_room_for+in_ok-close w ↦ c.push.ensures.first (rw w.self-inside-is w.in_ok-close.ensures.last)
  | else-not-has_room_for w ↦ c.push.ensures.memory (rw w.self-inside-is (c.has_room_for.ensures.0 w.if-not-has_room_for.false))
]
