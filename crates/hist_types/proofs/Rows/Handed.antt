-- What texts and transactions hand over to a write, and what they are refused with.
use Rattle.std.proofs.Common.{◌≡◌, ℕ, List, [], ◌∷◌, length, replicate, nat_lt, true, false, Option, Some, None, Ok, Err, codes, refl}
use Rattle.std.specs.Fmt.{digits}
use Rattle.hist_types.specs.Entries.{PlacedOperation, operation, skipped}
use Rattle.hist_types.specs.Handed.{one_block, handed_by, HandsOver, within_limits, transaction_handed}
use Rattle.hist_types.specs.Refusals.{without_place}
use Rattle.hist_types.specs.Operations.{Operation}
use Rattle.hist_types.specs.Reading.{Reading}
use Rattle.hist_types.specs.CanonicalText.{operation_text}
use Rattle.hist_types.specs.Tokens.{byte_fault}
use Rattle.hist_types.specs.declared.types.OpKind.TheVariants as kinds
use Rattle.hist_types.specs.declared.types.Refusal.TheVariants.{NotAMap, TooLong, TooManyMicroOps, BlockFull, EmptyImport}
use Rattle.hist_types.proofs.Rows.History.{x, sets, finds_nil, invoke, ok, fail, info}
use Rattle.hist_types.proofs.Rows.Cutting.{reading_at, reads, cutting_texts}

-- a text hands over what its reading does
pub by_reading :
    (n : ℕ) (text : List ℕ) (r : Reading)
    → reading_at n text ≡ Some r
    → HandsOver text (handed_by r.entries r.fault)
by_reading n text r e = (r.entries, r.fault, reads n text r.entries r.fault e, refl)

-- the reading of the text
abbrev pub reading_in : Option Reading → Reading
reading_in None = record { entries = []; fault = None }
reading_in (Some r) = r

-- ---- imports

-- All operations of a text are handed over, as one block.
two_operations :
    HandsOver (codes "{:type :invoke, :process 0, :value []} {:type :ok, :process 1, :value []}")
    (Ok (invoke 0 [] ∷ ok 1 [] ∷ []))
unfolding cutting_texts
two_operations = by_reading 99 _ (reading_in (reading_at 99 (codes "{:type :invoke, :process 0, :value []} {:type :ok, :process 1, :value []}"))) refl

-- Those that are skipped are not among them.
one_operation :
    HandsOver (codes "{:type :info, :process :nemesis} {:type :info, :process 0}") (Ok (info 0 ∷ []))
unfolding cutting_texts
one_operation = by_reading 99 _ (reading_in (reading_at 99 (codes "{:type :info, :process :nemesis} {:type :info, :process 0}"))) refl

-- Where there are no others, or none at all, there is no import.
no_operation :
    HandsOver (codes "{:type :info, :process :nemesis}") (Err (without_place EmptyImport))
    × HandsOver [] (Err (without_place EmptyImport))
unfolding cutting_texts
no_operation = (
  by_reading 99 _ (reading_in (reading_at 99 (codes "{:type :info, :process :nemesis}"))) refl,
  by_reading 99 _ (reading_in (reading_at 99 [])) refl,
)

-- The fault of a text is handed over, and none of its operations.
faulty_text : HandsOver (codes "{:type :info, :process 0} 5") (Err (byte_fault NotAMap 26))
unfolding cutting_texts
faulty_text = by_reading 99 _ (reading_in (reading_at 99 (codes "{:type :info, :process 0} 5"))) refl

-- an operation with a map of n bytes
abbrev of_length : ℕ → PlacedOperation
of_length n = record { kind = kinds.Info; process = 0; mops = []; start = 0; end = n }

-- 1,024 operations fit in a block, and 1,025 do not.
many_operations :
    (one_block (replicate 1024 (of_length 25)) ≡ Ok (replicate 1024 (info 0)))
    × (one_block (replicate 1025 (of_length 25)) ≡ Err (without_place BlockFull))
many_operations = (refl, refl)

-- 16 maps of 65,536 bytes fit in a block, and not with one byte more.
many_bytes :
    (one_block (replicate 16 (of_length 65536)) ≡ Ok (replicate 16 (info 0)))
    × (one_block (of_length 1 ∷ replicate 16 (of_length 65536)) ≡ Err (without_place BlockFull))
many_bytes = (refl, refl)

-- Skipped maps take no room, and a fault of reading comes before the want of room.
room_for_operations :
    (handed_by (operation (of_length 25) ∷ replicate 1024 skipped) None ≡ Ok (info 0 ∷ []))
    × (handed_by (replicate 1025 (operation (of_length 25))) (Some (byte_fault NotAMap 25625)) ≡ Err (byte_fault NotAMap 25625))
room_for_operations = (refl, refl)

-- ---- invocations and completions

-- A transaction is one operation.
one_transaction :
    (transaction_handed kinds.Invoke 3 (sets x 1 ∷ []) ≡ Ok (invoke 3 (sets x 1 ∷ []) ∷ []))
    × (transaction_handed kinds.Ok 3 (sets x 1 ∷ []) ≡ Ok (ok 3 (sets x 1 ∷ []) ∷ []))
unfolding digits
one_transaction = (refl, refl)

-- It has at most 256 micro-operations.
many_micro_ops :
    (transaction_handed kinds.Ok 3 (replicate 256 (finds_nil x)) ≡ Ok (ok 3 (replicate 256 (finds_nil x)) ∷ []))
    × (transaction_handed kinds.Ok 3 (replicate 257 (finds_nil x)) ≡ Err (without_place TooManyMicroOps))
unfolding digits
many_micro_ops = (refl, refl)

-- With a fail and an info the list is not looked at.
no_micro_ops :
    (transaction_handed kinds.Fail 3 (replicate 257 (finds_nil x)) ≡ Ok (fail 3 ∷ []))
    × (transaction_handed kinds.Info 3 (replicate 257 (finds_nil x)) ≡ Ok (info 3 ∷ []))
unfolding digits
no_micro_ops = (refl, refl)

-- A text of more than 65,536 bytes is too long, unless there are also too many micro-operations.
long_text :
    (o : Operation)
    → nat_lt 65536 (length (operation_text o)) ≡ true
    → (nat_lt 256 (length o.mops) ≡ false → within_limits o ≡ Err (without_place TooLong))
    × (nat_lt 256 (length o.mops) ≡ true → within_limits o ≡ Err (without_place TooManyMicroOps))
long_text o long = ((λ few. rw (few, long) refl), (λ many. rw many refl))
