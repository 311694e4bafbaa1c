use Rattle.std.proofs.Common.{◌≡◌, ◌⊎◌, ◌∙◌, [], ◌∷◌, ◌++◌, append_assoc, subst}
use Rattle.std.proofs.lemmas.Result.{err_from_is_err_and}
use Rattle.hist_types.specs.Refusals.{memory_fault}
use Rattle.hist_types.specs.Entries.{operation_of}
use Rattle.hist_types.specs.Reading.{FailsFrom}
use Rattle.edn_ops.specs.Reader.{HasRead, HasEnded}
use Rattle.block_reader.specs.Reading.{HasReadFrom}
use Rattle.block_reader.proofs.Readings.{one_more, is_read, all_given, next_refused}
use Rattle.block_reader.proofs.alone.read_op.Goals as goal

pub returns-in_err-next_into-clause-on : goal.returns-in_err-next_into-clause-on
returns-in_err-next_into-clause-on c =
    λ offset before low h.
    let text = c.args.text.now in
    let fault = c.in_err-next_into.field-0.0 in
    let given : (fault ≡ memory_fault) ⊎ FailsFrom text offset fault =
    next_refused text offset c.args.reader.now c.next_into.new.self (before ++ c.args.blocks.now) fault h (c.in_err-next_into.ensures.next h.going) in
    let left = err_from_is_err_and c.from_residual.result c.from_residual.ensures.1 in
    rw left.1 (rw left.2 given)

pub returns-then-not-branch-clause-on : goal.returns-then-not-branch-clause-on
returns-then-not-branch-clause-on c =
    λ offset before low h.
    let ended : HasEnded c.args.reader.now c.next_into.new.self = rw c.if-not-branch.true at (c.in_ok-next_into.ensures.next h.going) in
    all_given c.args.text.now offset c.args.reader.now c.next_into.new.self (before ++ c.args.blocks.now) h ended

pub returns-clause-on : goal.returns-clause-on
returns-clause-on c =
    λ offset before low h.
    let text = c.args.text.now in
    let operations = c.args.blocks.now in
    let old = c.args.reader.now in
    let new = c.next_into.new.self in
    let shape = c.next_into.new.shape in
    let read : HasRead old shape new = rw c.if-not-branch.false at (c.in_ok-next_into.ensures.next h.going) in
    let same = c.in_ok-next_into.ensures.text ∙ c.requires in
    let is_in = is_read text offset old new shape (before ++ operations) h read same low c.operations_read_alone.ensures in
    let more = one_more text offset old new shape (before ++ operations) h read same in
    rw (c.in_ok-push.ensures.ok read.read is_in read.shape_of)
    (subst (λ os. HasReadFrom text offset new os) (append_assoc before operations (operation_of read.read ∷ [])) more)
