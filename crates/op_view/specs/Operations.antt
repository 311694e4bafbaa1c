-- The operations of a block by their index.
use Rattle.std.specs.Prelude.{◌≡◌, ℕ, ◌<◌, List, [], length}
use Rattle.std.specs.List.{slice_get}
use Rattle.std.specs.Option.{option_map_or}
use Rattle.hist_types.specs.Operations.{Operation}
use Rattle.hist_types.specs.declared.types.OpKind.TheVariants.{Invoke}
use Rattle.op_block.specs.Contents.{BlockOperation, operation_meant}

-- what stands for an operation where there is none
abbrev pub no_operation : Operation
no_operation = record { kind = Invoke; process = 0; mops = [] }

-- the operation at an index
abbrev pub operation_in : List BlockOperation → ℕ → Operation
operation_in os index = option_map_or operation_meant (slice_get os index) no_operation

-- the operation is the one at the index
pub record IsPlaceOf (os : List BlockOperation) (index : ℕ) (operation : Operation) : Type 0 where
  pub within : index < length os
  pub there : operation ≡ operation_in os index
