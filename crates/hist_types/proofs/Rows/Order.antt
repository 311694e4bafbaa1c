-- The order of atoms, and their equality.
use Rattle.std.proofs.Common.{◌≡◌, [], ◌∷◌, pos, negsuc, Some, None, true, false, codes, refl}
use Rattle.std.specs.declared.cmp.Ordering.TheVariants.{Less, Equal, Greater}
use Rattle.hist_types.specs.Atoms.{integer, keyword, string, symbol, atom_eq, atom_cmp, value_eq, value_cmp}

-- Integers go by number and not by spelling: -10 < -1 < 0 < 9 < 10.
integers :
    (atom_cmp (integer (negsuc 9)) (integer (negsuc 0)) ≡ Less)
    × (atom_cmp (integer (negsuc 0)) (integer (pos 0)) ≡ Less)
    × (atom_cmp (integer (pos 0)) (integer (pos 9)) ≡ Less)
    × (atom_cmp (integer (pos 9)) (integer (pos 10)) ≡ Less)
integers = (refl, refl, refl, refl)

-- Integers come before keywords, keywords before strings, and strings before symbols.
kinds :
    (atom_cmp (integer (pos 10)) (keyword (codes ":a")) ≡ Less)
    × (atom_cmp (keyword (codes ":z")) (string (codes "a")) ≡ Less)
    × (atom_cmp (string (codes "z")) (symbol (codes "a")) ≡ Less)
    × (atom_cmp (symbol (codes "a")) (integer (pos 10)) ≡ Greater)
kinds = (refl, refl, refl, refl)

-- Strings go by their decoded bytes: the string of the byte 8, which is printed `"\b"`, comes before `"a"`.
strings : (atom_cmp (string (8 ∷ [])) (string (codes "a")) ≡ Less) × (atom_cmp (string []) (string (8 ∷ [])) ≡ Less)
strings = (refl, refl)

-- Bytes go one after the other, and a shorter spelling comes before a longer one that it begins.
bytes :
    (atom_cmp (keyword (codes ":a")) (keyword (codes ":ab")) ≡ Less)
    × (atom_cmp (keyword (codes ":ab")) (keyword (codes ":b")) ≡ Less)
    × (atom_cmp (symbol (codes "a")) (symbol (195 ∷ 169 ∷ [])) ≡ Less)
    × (atom_cmp (symbol (codes "a")) (symbol (codes "a")) ≡ Equal)
bytes = (refl, refl, refl, refl)

-- nil comes before all atoms.
nil_first :
    (value_cmp None (Some (integer (negsuc 0))) ≡ Less)
    × (value_cmp None None ≡ Equal)
    × (value_cmp (Some (integer (pos 9))) (Some (integer (pos 10))) ≡ Less)
nil_first = (refl, refl, refl)

-- The keyword :x, the symbol x and the string "x" are three atoms, and so are 1 and "1".
different :
    (atom_eq (keyword (codes ":x")) (symbol (codes "x")) ≡ false)
    × (atom_eq (symbol (codes "x")) (string (codes "x")) ≡ false)
    × (atom_eq (integer (pos 1)) (string (codes "1")) ≡ false)
    × (atom_eq (symbol (codes "x")) (symbol (codes "x")) ≡ true)
different = (refl, refl, refl, refl)

-- nil is no atom, not even the symbol of that name.
nil_is_no_atom : (value_eq None (Some (symbol (codes "nil"))) ≡ false) × (value_eq None None ≡ true)
nil_is_no_atom = (refl, refl)
