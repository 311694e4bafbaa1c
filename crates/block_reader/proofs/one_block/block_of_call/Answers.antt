use Rattle.std.proofs.Common.{◌≡◌, ◌⊎◌, inl, inr, Ok, Err, ℕ, List, subst}
use Rattle.std.specs.Prelude.{Result}
use Rattle.std.proofs.lemmas.Result.{IfOk-weaker, IfErr-weaker}
use Rattle.hist_types.specs.Handed.{HandsOver, transaction_handed}
use Rattle.hist_types.specs.Operations.{Operation}
use Rattle.hist_types.specs.Refusals.{memory_fault}
use Rattle.hist_types.specs.declared.types.Fault.{Fault}
use Rattle.op_block.specs.Contents.{Contents, operations_of}
use Rattle.block_reader.proofs.CallTexts.{handed_by_call}
use Rattle.block_reader.proofs.one_block.block_of_call.Goals as goal

-- what the text hands over, the call does
as_the_call : (c : goal.After-drop-text) (handed : Result (List Operation) Fault) → HandsOver c.deref.result.now handed
    → transaction_handed c.args.kind c.args.process c.args.mops.now ≡ handed
as_the_call c handed hands =
    handed_by_call c.args.kind c.args.process c.args.mops.now c.in_ok-text.text.items handed c.operations_read_alone.ensures
    c.canonical_text_reads_back.ensures.nothing_else c.in_ok-text.ensures.ok (subst (λ (text : List ℕ). HandsOver text handed) c.deref.ensures.value hands)

pub returns-clause-ok : goal.returns-clause-ok
returns-clause-ok c =
    IfOk-weaker c.block_of_text.result (λ (block : Contents). HandsOver c.deref.result.now (Ok (operations_of block)))
    (λ (block : Contents). transaction_handed c.args.kind c.args.process c.args.mops.now ≡ Ok (operations_of block))
    (λ block hands. as_the_call c (Ok (operations_of block)) hands) c.block_of_text.ensures.ok

pub returns-clause-err : goal.returns-clause-err
returns-clause-err c =
    IfErr-weaker c.block_of_text.result (λ (fault : Fault). (fault ≡ memory_fault) ⊎ HandsOver c.deref.result.now (Err fault))
    (λ (fault : Fault). (fault ≡ memory_fault) ⊎ (transaction_handed c.args.kind c.args.process c.args.mops.now ≡ Err fault))
    (λ fault either. elim either [ inl memory ↦ inl memory | inr hands ↦ inr (as_the_call c (Err fault) hands) ]) c.block_of_text.ensures.err
