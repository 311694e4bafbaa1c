-- Only a read has nil for its value.
use Rattle.std.proofs.Common.{◌≡◌, ℕ, List, true, Some, None, refl, sym, ◌∙◌}
use Rattle.std.proofs.lemmas.Bool.{true≢false}
use Rattle.hist_types.specs.Atoms.{Atom}
use Rattle.hist_types.specs.Operations.{Mop, read, write}
use Rattle.edn_ops.specs.SourceTexts.{IsAtomText, IsMopText}
use Rattle.edn_ops.specs.declared.write.MopText.{MopText}
use Rattle.op_block.specs.MopTexts.{is_nil}
use Rattle.op_block.proofs.NilTokens.{atom_no_nil}
use Rattle.op_view.specs.Mops.{value_of}

value_no_nil : (text : List ℕ) (atom : Atom) → is_nil text ≡ true → IsAtomText text atom → ⊥
value_no_nil text atom is h = true≢false (sym is ∙ atom_no_nil text atom h)

pub nil_read : (t : MopText) (mop : Mop) → IsMopText t mop → is_nil t.value.now ≡ true → value_of mop ≡ None
nil_read t (read key None) h is = refl
nil_read t (read key (Some value)) h is = absurd (value_no_nil t.value.now value is h.2)
nil_read t (write key value) h is = absurd (value_no_nil t.value.now value is h.2)
