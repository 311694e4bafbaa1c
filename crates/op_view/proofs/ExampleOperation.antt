-- A text with an operation, whose first micro-operation reads nil and whose second writes.
use Rattle.std.proofs.Common.{ℕ, List, [], ◌∷◌, None, pos, codes, true, false, refl, arith}
use Rattle.hist_types.specs.Atoms.{integer, keyword, string}
use Rattle.hist_types.specs.Entries.{PlacedMop, PlacedOperation}
use Rattle.hist_types.specs.Operations.{Mop, read, write}
use Rattle.reading_laws.specs.Placed.{IsIn}
use Rattle.hist_types.specs.Tokens.{Item, ItemKind, Keyword, Nil, Str, Int}
use Rattle.hist_types.specs.declared.types.OpKind.TheVariants as kinds
use Rattle.hist_types.proofs.Rows.Cutting.{reads, cutting_texts}
use Rattle.edn_ops.specs.declared.types.MopShape.{MopShape}

abbrev token : ItemKind → ℕ → List ℕ → Item
token kind start bytes = record { kind = kind; start = start; bytes = bytes }

abbrev placed : Mop → Item → Item → PlacedMop
placed mop key value = record { mop = mop; key = key; value = value }

abbrev pub example_text : List ℕ
example_text = codes "{:type :ok, :process 3, :value [[:r :x nil] [:w \"y\" 1]]}"

abbrev pub example_operation : PlacedOperation
example_operation = record {
  kind = kinds.Ok;
  process = 3;
  mops =
      placed (read (keyword (codes ":x")) None) (token Keyword 36 (codes ":x")) (token Nil 39 (codes "nil"))
      ∷ placed (write (string (codes "y")) (integer (pos 1))) (token Str 48 (codes "\"y\"")) (token Int 52 (codes "1"))
      ∷ [];
  start = 0;
  end = 56;
}

pub example-in : IsIn example_text example_operation
unfolding cutting_texts
example-in = (omega arith, omega arith, (refl, refl, reads 56 _ _ None refl))

-- the shapes of its micro-operations
abbrev pub read_shape : MopShape
read_shape = record { is_write = false; key = record { start = 36; end = 38 }; value = record { start = 39; end = 42 } }

abbrev pub write_shape : MopShape
write_shape = record { is_write = true; key = record { start = 48; end = 51 }; value = record { start = 52; end = 53 } }
