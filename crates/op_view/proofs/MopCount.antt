-- How many micro-operations a text has.
use Rattle.std.proofs.Common.{◌≡◌, ℕ, suc, List, [], ◌∷◌, length, false, refl, sym, ◌∙◌, ap}
use Rattle.std.specs.Cmp.Lexicographic.{pointwise, unequal}
use Rattle.hist_types.specs.Journal.{same_mop}
use Rattle.hist_types.specs.Operations.{Mop}
use Rattle.op_block.specs.MopTexts.{behind, mops_at}
use Rattle.op_block.specs.declared.shapes.ShortMop.{ShortMop}

as_many : (text : List ℕ) (ms : List ShortMop) → length (mops_at text ms) ≡ length ms
as_many text [] = refl
as_many text (m ∷ ms) = ap suc (as_many (behind text m) ms)

-- as many are left as are seen
pub as_many_left : (text : List ℕ) (ms : List ShortMop) (mops : List Mop) → mops_at text ms ≡ mops → length ms ≡ length mops
as_many_left text ms mops is = sym (as_many text ms) ∙ ap length is

-- of texts that have other numbers of micro-operations, these aren't the same
pub other_count : (text other_text : List ℕ) (ms others : List ShortMop) (left right : List Mop) → mops_at text ms ≡ left → mops_at other_text others ≡ right
    → (length ms ≡ length others → ⊥) → false ≡ pointwise same_mop left right
other_count text other_text ms others left right is other_is differ =
    sym (unequal same_mop left right (λ same. differ (as_many_left text ms left is ∙ (same ∙ sym (as_many_left other_text others right other_is)))))
