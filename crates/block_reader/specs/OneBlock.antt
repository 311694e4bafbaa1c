-- Reading a whole text into one block, and the text of a call's operation.
use Rattle.std.specs.Prelude.{◌≡◌, ◌⊎◌, ℕ, List, ◌∷◌, [], Bool, true, false, map, Result, Ok, Err, ◌≤◌, length}
use Rattle.hist_types.specs.CanonicalText.{operation_text}
use Rattle.hist_types.specs.Entries.{PlacedOperation, operation_of, placed_operations}
use Rattle.hist_types.specs.Handed.{HandsOver, bytes_of, fit_in_a_block, one_block, operation_of_call, transaction_handed}
use Rattle.hist_types.specs.Operations.{Mop}
use Rattle.hist_types.specs.Refusals.{memory_fault}
use Rattle.hist_types.specs.declared.types.Fault.{Fault}
use Rattle.hist_types.specs.declared.types.OpKind.{OpKind}
use Rattle.edn_ops.specs.Canonical.{OperationCanBeRead}
use Rattle.edn_ops.specs.Reader.{Reader}
use Rattle.hist_types.specs.declared.limits.TheConstants.{MAX_BLOCK_OPERATIONS, MAX_BLOCK_BYTES}
use Rattle.op_block.specs.Contents.{Gathered}
use Rattle.block_reader.specs.Blocks.{operations_pushed}
use Rattle.block_reader.specs.Reading.{HasReadTo}

-- ---- a text

-- these operations were read from the text's start up to where the reader is, at these places
abbrev pub HasReadPlaced : List ℕ → Reader → List PlacedOperation → Type 0
HasReadPlaced text r os =
    (read : HasReadTo text r (map operation_of os)) × (placed_operations read.before ≡ os)

-- The block that is being built has these operations, in as many bytes as their maps have.
pub record AreIn (os : List PlacedOperation) (pushed : Gathered) : Type 0 where
  pub same : operations_pushed pushed.operations ≡ map operation_of os
  pub bytes : pushed.bytes ≡ bytes_of os
  pub few : length os ≤ MAX_BLOCK_OPERATIONS
  pub short : bytes_of os ≤ MAX_BLOCK_BYTES

-- the operations that were read fit in no block
abbrev pub HasReadTooMany : List ℕ → Reader → Type 0
HasReadTooMany text r =
    (os : List PlacedOperation) × HasReadPlaced text r os × (fit_in_a_block os ≡ false)

-- What filling a block does: it comes to the text's end, or to an operation that doesn't fit, or to
-- a fault.
abbrev pub HasFilled : List ℕ → Result Bool Fault → Reader → Gathered → Type 0
HasFilled text (Ok true) r pushed =
    (os : List PlacedOperation) × HandsOver text (one_block os) × AreIn os pushed
HasFilled text (Ok false) r pushed = HasReadTooMany text r
HasFilled text (Err fault) r pushed = (fault ≡ memory_fault) ⊎ HandsOver text (Err fault)

-- ---- a call

-- The text is the canonical text of the call's operation, which is what the call hands over.
pub record IsTextOfCall (kind : OpKind) (process : ℕ) (mops : List Mop) (text : List ℕ)
    : Type 0 where
  pub text_of : text ≡ operation_text (operation_of_call kind process mops)
  pub can_be_read : OperationCanBeRead (operation_of_call kind process mops)
  pub handed :
      transaction_handed kind process mops ≡ Ok (operation_of_call kind process mops ∷ [])
