-- The tests of equality decide it: for atoms, for what a read returns, for writes and for versions.
use Rattle.std.proofs.Common.{◌≡◌, ◌↔◌, Bool, true, Some, None, IsTrue, refl, ◌∙◌, ap, subst}
use Rattle.std.specs.Cmp.Lexicographic.{bytes_decides}
use Rattle.std.proofs.lemmas.Bool.{false≢true, and_parts, and_from}
use Rattle.std.proofs.lemmas.Bool.Decides.{Decides-int_eq}
use Rattle.hist_types.specs.Atoms.{Atom, integer, keyword, string, symbol, Value, atom_eq, value_eq}
use Rattle.hist_types.specs.Journal.{Write, write_eq}
use Rattle.hist_types.specs.Transactions.{Version, version_eq}

pub atom_eq-same : (a b : Atom) → atom_eq a b ≡ true → a ≡ b
atom_eq-same (integer i) (integer j) e = ap integer ((Decides-int_eq i j).0 e)
atom_eq-same (keyword a) (keyword b) e = ap keyword ((bytes_decides a b).0 e)
atom_eq-same (string a) (string b) e = ap string ((bytes_decides a b).0 e)
atom_eq-same (symbol a) (symbol b) e = ap symbol ((bytes_decides a b).0 e)
atom_eq-same a b e = elim (false≢true e) [ ]

pub atom_eq-itself : (a : Atom) → atom_eq a a ≡ true
atom_eq-itself (integer i) = (Decides-int_eq i i).1 refl
atom_eq-itself (keyword a) = (bytes_decides a a).1 refl
atom_eq-itself (string a) = (bytes_decides a a).1 refl
atom_eq-itself (symbol a) = (bytes_decides a a).1 refl

pub value_eq-same : (v w : Value) → value_eq v w ≡ true → v ≡ w
value_eq-same None None e = refl
value_eq-same (Some a) (Some b) e = ap Some (atom_eq-same a b e)
value_eq-same v w e = elim (false≢true e) [ ]

pub value_eq-itself : (v : Value) → value_eq v v ≡ true
value_eq-itself None = refl
value_eq-itself (Some a) = atom_eq-itself a

-- A test that passes equal things, and equal things alone, decides equality.
decides :
    {A : Type 0} (eq : A → A → Bool)
    → ((a b : A) → eq a b ≡ true → a ≡ b)
    → ((a : A) → eq a a ≡ true)
    → (a b : A)
    → IsTrue (eq a b) ↔ (a ≡ b)
decides eq same itself a b = (same a b, λ e. subst (λ c. eq a c ≡ true) e (itself a))

pub atom_eq-decides : (a b : Atom) → IsTrue (atom_eq a b) ↔ (a ≡ b)
atom_eq-decides = decides atom_eq atom_eq-same atom_eq-itself

pub value_eq-decides : (v w : Value) → IsTrue (value_eq v w) ↔ (v ≡ w)
value_eq-decides = decides value_eq value_eq-same value_eq-itself

abbrev the_write : Atom → Atom → Write
the_write key value = record { key = key; value = value }

pub same_write : (a b : Write) → a.key ≡ b.key → a.value ≡ b.value → a ≡ b
same_write a b k v = ap (λ key. the_write key a.value) k ∙ ap (the_write b.key) v

pub write_eq-same : (a b : Write) → write_eq a b ≡ true → a ≡ b
write_eq-same a b e =
    let parts = and_parts (atom_eq a.key b.key) (atom_eq a.value b.value) e in
    same_write a b (atom_eq-same a.key b.key parts.0) (atom_eq-same a.value b.value parts.1)

pub write_eq-itself : (a : Write) → write_eq a a ≡ true
write_eq-itself a = and_from (atom_eq a.key a.key) (atom_eq a.value a.value) (atom_eq-itself a.key) (atom_eq-itself a.value)

pub write_eq-decides : (a b : Write) → IsTrue (write_eq a b) ↔ (a ≡ b)
write_eq-decides = decides write_eq write_eq-same write_eq-itself

abbrev the_version : Atom → Value → Version
the_version key value = record { key = key; value = value }

pub same_version : (v w : Version) → v.key ≡ w.key → v.value ≡ w.value → v ≡ w
same_version v w k e = ap (λ key. the_version key v.value) k ∙ ap (the_version w.key) e

pub version_eq-same : (v w : Version) → version_eq v w ≡ true → v ≡ w
version_eq-same v w e =
    let parts = and_parts (atom_eq v.key w.key) (value_eq v.value w.value) e in
    same_version v w (atom_eq-same v.key w.key parts.0) (value_eq-same v.value w.value parts.1)

pub version_eq-itself : (v : Version) → version_eq v v ≡ true
version_eq-itself v = and_from (atom_eq v.key v.key) (value_eq v.value v.value) (atom_eq-itself v.key) (value_eq-itself v.value)

pub version_eq-decides : (v w : Version) → IsTrue (version_eq v w) ↔ (v ≡ w)
version_eq-decides = decides version_eq version_eq-same version_eq-itself
