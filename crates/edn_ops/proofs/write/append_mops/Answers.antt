use Rattle.std.proofs.Common.{◌∙◌, ◌++◌, take, [], false, sym, ap}
use Rattle.std.specs.Prelude.{codes}
use Rattle.std.specs.List.{join_by}
use Rattle.std.proofs.lemmas.List.{append_assoc}
use Rattle.hist_types.specs.CanonicalText.{mop_text}
use Rattle.edn_ops.proofs.Appended.{then_extended}
use Rattle.edn_ops.proofs.MopTexts.{mop_at, all_taken, gap_next, appended_one_more, gap_before}
use Rattle.edn_ops.proofs.write.append_mops.Goals as goal

pub append_mop-requires : goal.append_mop-requires
append_mop-requires c =
    let at = mop_at c.args.mops.now c.requires.0 c.loop-mop.mop-index (record { is_write = false; key = record { ref_ptr = (0, 0); now = [] }; value = record { ref_ptr = (0, 0); now = [] } }) c.requires.1 c.loop-mop-test.true in
    (at.mop, at.text)

pub loop-mop-preserved : goal.loop-mop-preserved
loop-mop-preserved c = (
  gap_next c.loop-mop.mop-index,
  λ ms h.
      let at = mop_at c.args.mops.now ms c.loop-mop.mop-index (record { is_write = false; key = record { ref_ptr = (0, 0); now = [] }; value = record { ref_ptr = (0, 0); now = [] } }) h c.loop-mop-test.true in
      appended_one_more c.args.out.now.items (codes "[") (join_by mop_text (codes " ") (take c.loop-mop.mop-index ms)) c.loop-mop.gap.now (gap_before c.loop-mop.mop-index) (mop_text at.mop)
      _ _ _ (c.loop-mop.invariant.1 ms h) c.in_ok-extend_from_slice-2.ensures.items c.loop-mop.invariant.0 (c.in_ok-append_mop.ensures.ok at.mop at.text)
      ∙ ap (λ xs. c.args.out.now.items ++ (codes "[" ++ xs)) (sym at.joined),
)

pub returns-clause-ok : goal.returns-clause-ok
returns-clause-ok c ms h =
    then_extended c.extend_from_slice-2.result _ c.loop-mop.out.items (codes "]") c.extend_from_slice-2.ensures.items
    (λ last.
    last ∙ ap (λ xs. xs ++ codes "]") (c.loop-mop.invariant.1 ms h ∙ ap (λ xs. c.args.out.now.items ++ (codes "[" ++ join_by mop_text (codes " ") xs)) (all_taken c.args.mops.now ms c.loop-mop.mop-index h c.loop-mop-test.false))
    ∙ append_assoc c.args.out.now.items (codes "[" ++ join_by mop_text (codes " ") ms) (codes "]"))
