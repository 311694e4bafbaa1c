-- The text of a call's operation, and what it reads as.
use Rattle.std.proofs.Common.{◌≡◌, Ok, ℕ, ◌≤◌, List, [], ◌∷◌, ◌++◌, map, Option, refl, sym, ◌∙◌, ap, subst, arith}
use Rattle.std.specs.Prelude.{Result, Contains}
use Rattle.hist_types.specs.CanonicalText.{operation_text}
use Rattle.hist_types.specs.Entries.{Entry, operation, PlacedOperation, operation_of, placed_operations}
use Rattle.hist_types.specs.Handed.{HandsOver, handed_by, one_block, operation_of_call, transaction_handed}
use Rattle.hist_types.specs.Operations.{Mop, Operation}
use Rattle.hist_types.specs.Reading.{Reads}
use Rattle.hist_types.specs.declared.limits.TheConstants.{MAX_OPERATION_BYTES}
use Rattle.hist_types.specs.declared.types.Fault.{Fault}
use Rattle.hist_types.specs.declared.types.OpKind.{OpKind}
use Rattle.edn_ops.specs.Canonical.{OperationCanBeRead, ReadsOnlyAs}
use Rattle.edn_ops.specs.SourceTexts.{AreMopTexts, IsMopText}
use Rattle.edn_ops.specs.declared.write.MopText.{MopText}
use Rattle.block_reader.specs.OneBlock.{IsTextOfCall}
use Rattle.block_reader.proofs.OneBlock.{they_fit}
use Rattle.block_reader.proofs.Readings.{ReadAlone}

-- ---- source texts

pub one_more_text : (texts : List MopText) (mops : List Mop) (text : MopText) (mop : Mop) → AreMopTexts texts mops → IsMopText text mop →
    AreMopTexts (texts ++ text ∷ []) (mops ++ mop ∷ [])
one_more_text [] [] text mop are is = (is, tt)
one_more_text [] (m ∷ mops) text mop are is = absurd are
one_more_text (t ∷ texts) [] text mop are is = absurd are
one_more_text (t ∷ texts) (m ∷ mops) text mop are is = (are.0, one_more_text texts mops text mop are.1 is)

-- ---- what canonical text hands over

placed-operations : (os : List PlacedOperation) → placed_operations (map operation os) ≡ os
placed-operations [] = refl
placed-operations (o ∷ os) = ap (λ (rest : List PlacedOperation). o ∷ rest) (placed-operations os)

-- one short operation fits in a block
one_fits : (placed : List PlacedOperation) (o : Operation) → map operation_of placed ≡ o ∷ [] →
    ((p : PlacedOperation) → placed ≡ p ∷ [] → p.end ≤ MAX_OPERATION_BYTES) → one_block placed ≡ Ok (o ∷ [])
one_fits [] o is short = cc
one_fits (p ∷ []) o is short =
    let bytes : p.end ≤ MAX_OPERATION_BYTES = short p refl in
    rw (they_fit (p ∷ []) (omega arith) (omega arith)) (ap Ok is)
one_fits (p ∷ q ∷ more) o is short = cc

-- canonical text reads as nothing else
abbrev pub ReadBack : Type 0
ReadBack = (o : Operation) → OperationCanBeRead o → ReadsOnlyAs (operation_text o) (o ∷ [])

-- canonical text hands over its operation, and nothing else
only_it : (o : Operation) (text : List ℕ) (handed : Result (List Operation) Fault) → ReadAlone → ReadBack →
    OperationCanBeRead o → text ≡ operation_text o → HandsOver text handed → handed ≡ Ok (o ∷ [])
only_it o text handed alone only can is hands =
    let entries = hands.0 in
    let fault = hands.1 in
    let reads : Reads (operation_text o) entries fault = subst (λ (t : List ℕ). Reads t entries fault) is hands.2 in
    let read = only o can entries fault reads in
    let placed = read.0.0 in
    let short : (p : PlacedOperation) → placed ≡ p ∷ [] → p.end ≤ MAX_OPERATION_BYTES =
    λ p one.
    let has : entries ≡ operation p ∷ [] = read.0.1 ∙ ap (λ (os : List PlacedOperation). map operation os) one in
    let contains : Contains entries (operation p) = subst (λ (es : List Entry). Contains es (operation p)) (sym has) (0, omega arith, refl) in
    let within = alone (operation_text o) p (0, entries, fault, omega arith, reads, contains) in
    omega (arith, within.1, can.bytes) in
    hands.3
    ∙ (ap (λ (f : Option Fault). handed_by entries f) read.1
    ∙ (ap (λ (es : List Entry). one_block (placed_operations es)) read.0.1 ∙ (ap one_block (placed-operations placed) ∙ one_fits placed o read.0.2 short)))

-- what the text of a call hands over is what the call does
pub handed_by_call : (kind : OpKind) (process : ℕ) (mops : List Mop) (text : List ℕ) (handed : Result (List Operation) Fault) → ReadAlone → ReadBack →
    IsTextOfCall kind process mops text → HandsOver text handed → transaction_handed kind process mops ≡ handed
handed_by_call kind process mops text handed alone only is hands =
    is.handed ∙ sym (only_it (operation_of_call kind process mops) text handed alone only is.can_be_read is.text_of hands)
