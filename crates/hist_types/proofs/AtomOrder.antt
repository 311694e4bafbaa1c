-- The order of atoms is total, and so is that of values.
use Rattle.std.proofs.Common.{◌≡◌, ℤ, pos, List, [], ℕ, refl, subst}
use Rattle.std.specs.Cmp.{IsTotalOrder}
use Rattle.std.specs.Cmp.Lexicographic.{slice_cmp, options_total}
use Rattle.std.specs.Ordering.{nat_cmp, int_cmp, on, then_cmp, ordering_then}
use Rattle.std.specs.declared.cmp.Ordering.{Ordering}
use Rattle.std.specs.declared.cmp.Ordering.TheVariants.{Less, Equal, Greater}
use Rattle.std.proofs.lemmas.Cmp.{nat_cmp_total, int_cmp_total, nat_list_cmp_total, on_total, then_total}
use Rattle.hist_types.specs.Atoms.{Atom, integer, keyword, string, symbol, rank, atom_cmp, value_cmp}

then_equal : (o : Ordering) → ordering_then o Equal ≡ o
then_equal Less = refl
then_equal Equal = refl
then_equal Greater = refl

abbrev number_in : Atom → ℤ
number_in (integer n) = n
number_in atom = pos 0

abbrev bytes_in : Atom → List ℕ
bytes_in (integer n) = []
bytes_in (keyword s) = s
bytes_in (string s) = s
bytes_in (symbol s) = s

abbrev atom_parts_cmp : Atom → Atom → Ordering
atom_parts_cmp = then_cmp (on rank nat_cmp) (then_cmp (on number_in int_cmp) (on bytes_in (slice_cmp nat_cmp)))

atom_by_parts : (a b : Atom) → atom_parts_cmp a b ≡ atom_cmp a b
atom_by_parts (integer a) (integer b) = then_equal (int_cmp a b)
atom_by_parts (keyword a) (keyword b) = refl
atom_by_parts (string a) (string b) = refl
atom_by_parts (symbol a) (symbol b) = refl
atom_by_parts a b = refl

pub atom_cmp_total : IsTotalOrder atom_cmp
atom_cmp_total =
    subst IsTotalOrder (λ i a b. atom_by_parts a b i)
    (then_total (on_total rank nat_cmp_total) (then_total (on_total number_in int_cmp_total) (on_total bytes_in nat_list_cmp_total)))

pub value_cmp_total : IsTotalOrder value_cmp
value_cmp_total = options_total atom_cmp_total
