-- Operations in their texts, by their places.
use Rattle.std.proofs.Common.{[], ◌∷◌, None, codes, refl, arith}
use Rattle.hist_types.specs.Tokens.{Keyword, Int}
use Rattle.hist_types.specs.Entries.{PlacedOperation, operation}
use Rattle.hist_types.specs.declared.types.OpKind.TheVariants as kinds
use Rattle.hist_types.proofs.Rows.History.{sets, x}
use Rattle.hist_types.proofs.Rows.Cutting.{has_tokens, reads, cutting_texts}
use Rattle.hist_types.proofs.Rows.Texts.{token, plain_line, tagged_line, tagged_operation}
use Rattle.reading_laws.specs.Placed.{IsTextOf, IsIn, IsMopIn, IsTokenAlone}

-- The invocation with its places: the map has all 47 bytes, the key is at 40 and the value at 43.
abbrev plain_operation : PlacedOperation
plain_operation = record {
  kind = kinds.Invoke;
  process = 0;
  mops = record { mop = sets x 1; key = token Keyword 40 (codes ":x"); value = token Int 43 (codes "1") } ∷ [];
  start = 0;
  end = 47;
}

plain_line-places : IsTextOf plain_line plain_operation
unfolding cutting_texts
plain_line-places = (refl, refl, reads 47 plain_line (operation plain_operation ∷ []) None refl)

-- Its key and its value are tokens of the line, which spell `:x` and 1, and the key alone is a text of one token.
plain_line-parts :
    IsMopIn plain_line (record { mop = sets x 1; key = token Keyword 40 (codes ":x"); value = token Int 43 (codes "1") })
    × IsTokenAlone Keyword (codes ":x")
unfolding cutting_texts
plain_line-parts = (((omega arith, refl), (omega arith, refl), (refl, refl)), has_tokens 1 (codes ":x") _ None refl)

-- The map of the tagged line is an operation of that line.
tagged_operation-in : IsIn tagged_line tagged_operation
unfolding cutting_texts
tagged_operation-in = (omega arith, omega arith, (refl, refl, reads 86 _ _ None refl))
