-- Lists of micro-operations that are the same but for what reads returned.
use Rattle.std.proofs.Common.{◌≡◌, ℕ, List}
use Rattle.std.specs.Cmp.Lexicographic.{pointwise}
use Rattle.hist_types.specs.Journal.{same_mop}
use Rattle.hist_types.specs.Operations.{Mop}
use Rattle.op_block.specs.declared.shapes.ShortMop.{ShortMop}
use Rattle.op_block.specs.MopTexts.{mops_at, AreMopsAt}

-- What is left of two operations' places has micro-operations, which match where those of the operations do.
pub record Matches (text other_text : List ℕ) (left right : List ShortMop) (mops others : List Mop) : Type 0 where
  pub first : AreMopsAt text left
  pub second : AreMopsAt other_text right
  pub same : pointwise same_mop (mops_at text left) (mops_at other_text right) ≡ pointwise same_mop mops others
