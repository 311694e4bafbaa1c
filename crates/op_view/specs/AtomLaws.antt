-- The laws of the equality and the order of atoms.
use Rattle.std.specs.Prelude.{◌≡◌, true, refl, IsTrue}
use mathlib.Core.Path.{ap, subst}
use Rattle.std.specs.Cmp.{IsEquivalence, both_ways}
use Rattle.std.specs.Cmp.Lexicographic.{texts_ties}
use Rattle.std.specs.Ordering.{eq_by_cmp}
use Rattle.hist_types.specs.Atoms.{Atom, integer, keyword, string, symbol, atom_eq, atom_cmp}
use Rattle.hist_types.proofs.Equality.{atom_eq-same, atom_eq-itself}
use Rattle.op_view.specs.Hashing.{atom_writes}

atom_eq-back : (a b : Atom) → atom_eq a b ≡ true → atom_eq b a ≡ true
atom_eq-back a b e =
    subst (λ (x : Atom). atom_eq x a ≡ true) (atom_eq-same a b e) (atom_eq-itself a)

pub atom_eq_equiv : IsEquivalence atom_eq
atom_eq_equiv = record {
  refl = atom_eq-itself;
  symm = λ a b. both_ways (atom_eq a b) (atom_eq b a) (atom_eq-back a b) (atom_eq-back b a);
  congr = λ a b c e. ap (λ (x : Atom). atom_eq x c) (atom_eq-same a b e);
}

pub same_writes : (a b : Atom) → IsTrue (atom_eq a b) → atom_writes a ≡ atom_writes b
same_writes a b e = ap atom_writes (atom_eq-same a b e)

pub atom_ties : (a b : Atom) → atom_eq a b ≡ eq_by_cmp atom_cmp a b
atom_ties (integer i) (integer j) = refl
atom_ties (keyword s) (keyword t) = texts_ties s t
atom_ties (string s) (string t) = texts_ties s t
atom_ties (symbol s) (symbol t) = texts_ties s t
atom_ties a b = refl
