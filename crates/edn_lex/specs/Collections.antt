-- What the open collections stand for.
use Rattle.std.specs.Prelude.{◌≡◌, ℕ, List, Option, map, reverse}
use Rattle.hist_types.specs.Bytes.{close_round, close_square, close_brace}
use Rattle.hist_types.specs.Tokens.{nesting_refusal, open_after}
use Rattle.hist_types.specs.declared.types.Refusal.{Refusal}
use Rattle.edn_lex.specs.declared.lexer.Collection.{Collection}
use Rattle.edn_lex.specs.declared.lexer.Collection.TheVariants.{Round, Square, Brace}
use Rattle.edn_lex.specs.declared.pieces.PieceKind.{PieceKind}
use Rattle.edn_lex.specs.Pieces.{kind_of_piece}

-- the byte that closes a collection of this kind
abbrev pub closer_byte : Collection → ℕ
closer_byte Round = close_round
closer_byte Square = close_square
closer_byte Brace = close_brace

-- the closers that these open collections, the outermost first, wait for, the innermost first
abbrev pub closers_of : List Collection → List ℕ
closers_of open_ones = reverse (map closer_byte open_ones)

-- the refusal of an item within these open collections, if it is not allowed there
abbrev pub refusal_within : PieceKind → List ℕ → List Collection → Option Refusal
refusal_within kind bytes open_ones =
    nesting_refusal (kind_of_piece kind) bytes (closers_of open_ones)

-- where the old ones are open, the new ones are open after the item
abbrev pub Nests : PieceKind → List ℕ → List Collection → List Collection → Type 0
Nests kind bytes old new =
    closers_of new ≡ open_after (kind_of_piece kind) bytes (closers_of old)
