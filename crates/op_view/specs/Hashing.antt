-- What an atom feeds a hasher.
use Rattle.std.specs.Prelude.{ℕ, List, [], ◌∷◌, ◌++◌}
use Rattle.std.specs.Hash as fed
use Rattle.std.specs.List.{flat_map}
use Rattle.hist_types.specs.Atoms.{Atom, integer, keyword, string, symbol}

-- a string's content byte by byte, and then a byte that no UTF-8 has
abbrev pub content_writes : List ℕ → List (List ℕ)
content_writes content = flat_map fed.u8 content ++ fed.u8 255

-- An integer feeds its number, a keyword and a symbol their spelling, a string its content.
abbrev pub atom_writes : Atom → List (List ℕ)
atom_writes (integer number) = fed.i64 number
atom_writes (keyword spelling) = spelling ∷ []
atom_writes (string content) = content_writes content
atom_writes (symbol spelling) = spelling ∷ []
