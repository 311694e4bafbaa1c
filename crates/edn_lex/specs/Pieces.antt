-- What the items that are found at the front of a text stand for.
use Rattle.std.specs.Prelude.{◌≡◌, ℕ, List, Option, Some, None, false, MatchOption}
use Rattle.hist_types.specs.Tokens.{ItemKind, Comment, Str, is_token, run_kind, run_of, run_len}
use Rattle.edn_lex.specs.declared.pieces.PieceKind.{PieceKind}
use Rattle.edn_lex.specs.declared.pieces.PieceKind.TheVariants as pieces
use Rattle.edn_lex.specs.declared.pieces.Piece.{Piece}
use Rattle.edn_lex.specs.declared.types.Token.{Token}
use Rattle.edn_lex.specs.Kinds.{kind_of}

-- the kind of item
abbrev pub kind_of_piece : PieceKind → ItemKind
kind_of_piece pieces.Comment = Comment
kind_of_piece (pieces.Token kind) = kind_of kind

-- an item that is no token, or the token that it is between these offsets
abbrev pub IsTokenBetween : PieceKind → (start end : ℕ) → Option Token → Type 0
IsTokenBetween kind start end found =
    MatchOption found (is_token (kind_of_piece kind) ≡ false)
    (λ t. (kind_of t.kind ≡ kind_of_piece kind) × (t.start ≡ start) × (t.end ≡ end))

-- an item's kind and length
abbrev pub front_of_piece : Piece → ItemKind × Option ℕ
front_of_piece piece = (kind_of_piece piece.kind, Some piece.len)

-- the same; where nothing was found, a string that nothing closes
abbrev pub front_of_found : Option Piece → ItemKind × Option ℕ
front_of_found None = (Str, None)
front_of_found (Some piece) = front_of_piece piece

-- the same of the run at the front of a text
abbrev pub run_front : List ℕ → ItemKind × Option ℕ
run_front text = (run_kind (run_of text), Some (run_len text))
