-- The micro-operations of a block's operation.
use Rattle.std.proofs.Common.{◌≡◌, inl, inr, ℕ, ◌<◌, List, length, Option, Some, None, refl, sym, ◌∙◌, ap, subst, arith}
use Rattle.std.specs.List.{slice_get}
use Rattle.std.specs.Option.{option_map_or, IfSome}
use Rattle.std.proofs.lemmas.Option.{none-some, slice_get_cases}
use Rattle.op_block.specs.Contents.{BlockOperation, operation_meant, IsShapeOf}
use Rattle.op_block.specs.MopTexts.{mops_at, AreMopsAt}
use Rattle.op_block.specs.declared.shapes.ShapeRef.{ShapeRef}
use Rattle.op_view.specs.Operations.{no_operation, operation_in}

is_there : (os : List BlockOperation) (i : ℕ) → i < length os → slice_get os i ≡ None → ⊥
is_there os i below none = elim (slice_get_cases os i).1 [
  | inl found ↦ none-some found.0 (sym none ∙ found.2)
  | inr past ↦ omega (arith, past.0)
]

found_mops :
    (found : Option BlockOperation) (text : List ℕ) (shape : ShapeRef)
    → IfSome found (λ o. mops_at text o.mops ≡ mops_at o.text o.mops) → IfSome found (λ o. AreMopsAt text o.mops) → IfSome found (IsShapeOf shape)
    → (found ≡ None → ⊥)
    → AreMopsAt text shape.mops.now × (mops_at text shape.mops.now ≡ (option_map_or operation_meant found no_operation).mops)
found_mops None text shape same atoms is there = absurd (there refl)
found_mops (Some o) text shape same atoms is there = (subst (AreMopsAt text) (sym is.mops) atoms, ap (mops_at text) is.mops ∙ same)

pub operation_mops :
    (os : List BlockOperation) (i : ℕ) (text : List ℕ) (shape : ShapeRef)
    → i < length os
    → IfSome (slice_get os i) (λ o. mops_at text o.mops ≡ mops_at o.text o.mops) → IfSome (slice_get os i) (λ o. AreMopsAt text o.mops) → IfSome (slice_get os i) (IsShapeOf shape)
    → AreMopsAt text shape.mops.now × (mops_at text shape.mops.now ≡ (operation_in os i).mops)
operation_mops os i text shape below same atoms is = found_mops (slice_get os i) text shape same atoms is (is_there os i below)
