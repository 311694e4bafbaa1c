-- Keys and values (EDN's atoms; which of them count, and their order, are this project's own).
-- An atom is an integer of 64 bits, a keyword, a string or a symbol. Integers are equal by number,
-- strings by decoded content, keywords and symbols byte for byte; atoms of different kinds differ.
-- In order come the integers by number, then the keywords, the strings and the symbols, each by its
-- bytes (strings by their decoded bytes). What a read returns is an atom or nil, and nil comes
-- before all atoms.
use Rattle.std.specs.Prelude.{ℕ, ℤ, List, Bool, false, bytes_eq, Option}
use Rattle.std.specs.declared.cmp.Ordering.{Ordering}
use Rattle.std.specs.Ordering.{nat_cmp, int_cmp, int_eq}
use Rattle.std.specs.Cmp.Lexicographic.{slice_cmp}
use Rattle.std.specs.Option.{option_eq, option_cmp}

pub data Atom : Type 0 where
  integer : (number : ℤ) → Atom
  -- with its colon
  keyword : (spelling : List ℕ) → Atom
  -- what is between the quotes, decoded
  string : (content : List ℕ) → Atom
  symbol : (spelling : List ℕ) → Atom

-- an atom, or nil
abbrev pub Value : Type 0
Value = Option Atom

abbrev pub atom_eq : Atom → Atom → Bool
atom_eq (integer i) (integer j) = int_eq i j
atom_eq (keyword a) (keyword b) = bytes_eq a b
atom_eq (string a) (string b) = bytes_eq a b
atom_eq (symbol a) (symbol b) = bytes_eq a b
atom_eq a b = false

abbrev pub value_eq : Value → Value → Bool
value_eq = option_eq atom_eq

-- the kinds of atoms, in their order
abbrev pub rank : Atom → ℕ
rank (integer i) = 0
rank (keyword a) = 1
rank (string a) = 2
rank (symbol a) = 3

abbrev pub atom_cmp : Atom → Atom → Ordering
atom_cmp (integer i) (integer j) = int_cmp i j
atom_cmp (keyword a) (keyword b) = slice_cmp nat_cmp a b
atom_cmp (string a) (string b) = slice_cmp nat_cmp a b
atom_cmp (symbol a) (symbol b) = slice_cmp nat_cmp a b
atom_cmp a b = nat_cmp (rank a) (rank b)

abbrev pub value_cmp : Value → Value → Ordering
value_cmp = option_cmp atom_cmp
