-- A text that is read into one block.
use Rattle.std.proofs.Common.{◌≡◌, inl, inr, Err, ℕ, ◌+◌, ◌-◌, ◌≤◌, length, List, [], ◌∷◌, ◌++◌, map, true, false, ◌&&◌, refl, sym, ◌∙◌, ap, subst, append_assoc, arith, Ok, Result, OnOk}
use Rattle.std.specs.Prelude.{nat_le}
use Rattle.std.proofs.lemmas.Bool.Decides.{leb_tells}
use Rattle.std.proofs.lemmas.List.{map-append, length-map, length_push}
use Rattle.std.proofs.lemmas.List.Sums.{sum_by_push}
use Rattle.hist_types.specs.Entries.{PlacedOperation, operation_of}
use Rattle.hist_types.specs.Handed.{HandsOver, bytes_of, fit_in_a_block, one_block}
use Rattle.hist_types.specs.Refusals.{without_place}
use Rattle.hist_types.specs.Operations.{Operation}
use Rattle.reading_laws.specs.Placed.{IsIn}
use Rattle.hist_types.specs.declared.limits.TheConstants.{MAX_BLOCK_OPERATIONS, MAX_BLOCK_BYTES}
use Rattle.hist_types.specs.declared.types.Refusal.TheVariants.{BlockFull}
use Rattle.hist_types.specs.declared.types.Fault.{Fault}
use Rattle.edn_ops.specs.Reader.{Reader, HasEnded}
use Rattle.edn_ops.specs.Shapes.{IsShapeOf}
use Rattle.edn_ops.specs.declared.types.OpShape.{OpShape}
use Rattle.op_block.specs.Contents.{BlockOperation, Gathered, HasRoomFor, length_of, operation_meant, taken_out}
use Rattle.op_block.specs.Pushes.{with_one_more}
use Rattle.op_block.proofs.Taken.{taken_meant}
use Rattle.block_reader.specs.Blocks.{operations_pushed}
use Rattle.block_reader.specs.OneBlock.{HasReadPlaced, AreIn}
use Rattle.block_reader.proofs.Readings.{all_placed}

-- ---- whether they fit

both : (a b c d : ℕ) → a ≤ b → c ≤ d → (nat_le a b && nat_le c d) ≡ true
both a b c d first second = elim (leb_tells a b) [
  | inl x ↦ elim (leb_tells c d) [ inl y ↦ rw (x.0, y.0) refl | inr y ↦ absurd (omega arith) ]
  | inr x ↦ absurd (omega arith)
]

not_both : (a b c d : ℕ) → (a ≤ b → c ≤ d → ⊥) → (nat_le a b && nat_le c d) ≡ false
not_both a b c d never = elim (leb_tells a b) [
  | inl x ↦ elim (leb_tells c d) [ inl y ↦ absurd (never x.1 y.1) | inr y ↦ rw (x.0, y.0) refl ]
  | inr x ↦ rw x.0 refl
]

pub they_fit : (os : List PlacedOperation) → length os ≤ MAX_BLOCK_OPERATIONS → bytes_of os ≤ MAX_BLOCK_BYTES → fit_in_a_block os ≡ true
they_fit os few short = both (length os) MAX_BLOCK_OPERATIONS (bytes_of os) MAX_BLOCK_BYTES few short

they_dont_fit : (os : List PlacedOperation) → (length os ≤ MAX_BLOCK_OPERATIONS → bytes_of os ≤ MAX_BLOCK_BYTES → ⊥) → fit_in_a_block os ≡ false
they_dont_fit os never = not_both (length os) MAX_BLOCK_OPERATIONS (bytes_of os) MAX_BLOCK_BYTES never

bytes_push : (os : List PlacedOperation) (o : PlacedOperation) → bytes_of (os ++ o ∷ []) ≡ bytes_of os + (o.end - o.start)
bytes_push os o = sum_by_push (λ (o : PlacedOperation). o.end - o.start) os o

-- what doesn't fit doesn't fit with more either
pub still_too_many : (os : List PlacedOperation) (o : PlacedOperation) → fit_in_a_block os ≡ false → fit_in_a_block (os ++ o ∷ []) ≡ false
still_too_many os o many =
    they_dont_fit (os ++ o ∷ [])
    (λ few short. let yes : fit_in_a_block os ≡ true = they_fit os (omega (arith, length_push os o)) (omega (arith, bytes_push os o)) in cc)

-- a text with too many operations, of which nothing is left
pub too_many_placed : (text : List ℕ) (old new : Reader) (os : List PlacedOperation) → HasReadPlaced text old os → fit_in_a_block os ≡ false →
    HasEnded old new → HandsOver text (Err (without_place BlockFull))
too_many_placed text old new os h many ended =
    let all = all_placed text old new os h ended in
    let full : one_block os ≡ Err (without_place BlockFull) = rw many refl in
    (all.0, all.1, all.2, sym full ∙ all.3)

-- ---- the block that is being built

length_pushed : (os : List PlacedOperation) (pushed : Gathered) → AreIn os pushed → length pushed.operations ≡ length os
length_pushed os pushed are_in =
    sym (length-map pushed.operations operation_meant) ∙ (ap (λ (all : List Operation). length all) are_in.same ∙ length-map os operation_of)

pub none_in : AreIn [] (record { operations = []; bytes = 0 })
none_in = record { same = refl; bytes = refl; few = omega arith; short = omega arith }

-- where there is no room for one more, all together don't fit
pub no_room : (os : List PlacedOperation) (pushed : Gathered) (o : PlacedOperation) (shape : OpShape) →
    AreIn os pushed → IsShapeOf shape o → (HasRoomFor (length_of shape) pushed → ⊥) → fit_in_a_block (os ++ o ∷ []) ≡ false
no_room os pushed o shape are_in is_shape full =
    let span : length_of shape ≡ o.end - o.start = rw is_shape.span refl in
    let count = length_pushed os pushed are_in in
    let same = are_in.bytes in
    let more = length_push os o in
    let longer = bytes_push os o in
    they_dont_fit (os ++ o ∷ []) (λ few short. full (record { operations = omega arith; bytes = omega arith }))

-- one operation more behind those of a block that is being built
pub pushed_behind : (full : List Operation) (last : List BlockOperation) (all : List Operation) (text : List ℕ) (shape : OpShape) (o : PlacedOperation)
    → full ++ operations_pushed last ≡ all → IsIn text o → IsShapeOf shape o → full ++ operations_pushed (last ++ taken_out text shape ∷ []) ≡ all ++ operation_of o ∷ []
pushed_behind full last all text shape o same here of =
    let pushed : operations_pushed (last ++ taken_out text shape ∷ []) ≡ operations_pushed last ++ operation_of o ∷ [] =
    map-append operation_meant last (taken_out text shape ∷ [])
    ∙ ap (λ (meant : Operation). operations_pushed last ++ meant ∷ []) (taken_meant text shape o here of) in
    ap (λ (os : List Operation). full ++ os) pushed
    ∙ (sym (append_assoc full (operations_pushed last) (operation_of o ∷ [])) ∙ ap (λ (os : List Operation). os ++ operation_of o ∷ []) same)

pub pushed_ok : (answer : Result (Unit {0}) Fault) (full : List Operation) (last more : Gathered) (all : List Operation) (text : List ℕ) (shape : OpShape) (o : PlacedOperation)
    → full ++ operations_pushed last.operations ≡ all → OnOk answer (more ≡ with_one_more text shape last) → IsIn text o → IsShapeOf shape o
    → OnOk answer (full ++ operations_pushed more.operations ≡ all ++ operation_of o ∷ [])
pushed_ok (Ok done) full last more all text shape o same added here of =
    ap (λ (g : Gathered). full ++ operations_pushed g.operations) added ∙ pushed_behind full last.operations all text shape o same here of
pushed_ok (Err fault) full last more all text shape o same added here of = tt

pub one_pushed : (text : List ℕ) (os : List PlacedOperation) (pushed more : Gathered) (o : PlacedOperation) (shape : OpShape) →
    AreIn os pushed → HasRoomFor (length_of shape) pushed → IsIn text o → IsShapeOf shape o → more ≡ with_one_more text shape pushed → AreIn (os ++ o ∷ []) more
one_pushed text os pushed more o shape are_in room is_in is_shape added =
    let span : length_of shape ≡ o.end - o.start = rw is_shape.span refl in
    let count = length_pushed os pushed are_in in
    let room_for = room.operations in
    let room_in = room.bytes in
    let was = are_in.bytes in
    let is : AreIn (os ++ o ∷ []) (with_one_more text shape pushed) =
    record {
      same = pushed_behind [] pushed.operations (map operation_of os) text shape o are_in.same is_in is_shape ∙ sym (map-append operation_of os (o ∷ []));
      bytes = omega (arith, bytes_push os o);
      few = omega (arith, length_push os o);
      short = omega (arith, bytes_push os o);
    } in
    subst (AreIn (os ++ o ∷ [])) (sym added) is
