-- Micro-operations whose texts begin with the same bytes.
use Rattle.std.proofs.Common.{◌≡◌, ℕ, ◌+◌, ◌-◌, ◌≤◌, ◌&&◌, if◌then◌else◌, List, take, drop, slice_range, Bool, true, false, not, refl, sym, ◌∙◌, ap, ap₂, subst, arith, take-take}
use mathlib.Core.Bool.{beq}
use Rattle.std.proofs.lemmas.List.{drop-take}
use Rattle.hist_types.specs.Atoms.{atom_eq}
use Rattle.hist_types.specs.Journal.{same_mop}
use Rattle.hist_types.proofs.Equality.{atom_eq-itself}
use Rattle.op_block.specs.MopTexts.{key_bytes, value_bytes, atom_in, mop_in, mop_at}
use Rattle.op_block.specs.declared.shapes.ShortMop.{ShortMop}
use Rattle.op_view.specs.Mops.{written_len}

-- both write, or both read
pub same_kind : (a b : Bool) → not (beq a b) ≡ false → a ≡ b
same_kind true true is = refl
same_kind true false is = is
same_kind false true is = sym is
same_kind false false is = refl

-- the first bytes of both
fewer : (a b : List ℕ) (k n : ℕ) → k ≤ n → take n a ≡ take n b → take k a ≡ take k b
fewer a b k n few same = sym (take-take k n a few) ∙ (ap (take k) same ∙ take-take k n b few)

-- those between two places
between : (a b : List ℕ) (k v : ℕ) → take (k + v) a ≡ take (k + v) b → slice_range a k (k + v) ≡ slice_range b k (k + v)
between a b k v same =
    let count : (k + v) - k ≡ v = omega arith in
    ap (λ n. take n (drop k a)) count
    ∙ (sym (drop-take k v a) ∙ (ap (drop k) same ∙ (drop-take k v b ∙ sym (ap (λ n. take n (drop k b)) count))))

equal : (xs ys : List ℕ) → xs ≡ ys → atom_eq (atom_in xs) (atom_in ys) ≡ true
equal xs ys same = subst (λ zs. atom_eq (atom_in xs) (atom_in zs) ≡ true) same (atom_eq-itself (atom_in xs))

by_kind : (is_write : Bool) (key key' value value' : List ℕ) → key ≡ key' → (is_write ≡ true → value ≡ value') → same_mop (mop_in is_write key value) (mop_in is_write key' value') ≡ true
by_kind true key key' value value' keys values = ap₂ (λ a b. a && b) (equal key key' keys) (equal value value' (values refl))
by_kind false key key' value value' keys values = equal key key' keys

pub alike :
    (a b : List ℕ) (m n : ShortMop) → m.is_write ≡ n.is_write → m.key_len ≡ n.key_len → written_len m ≡ written_len n
    → take (m.key_len + written_len m) a ≡ take (m.key_len + written_len m) b
    → same_mop (mop_at a m) (mop_at b n) ≡ true
alike a b m n kinds keys lens same =
    let key : key_bytes a m ≡ key_bytes b n = fewer a b m.key_len (m.key_len + written_len m) (omega arith) same ∙ ap (λ k. take k b) keys in
    let value : m.is_write ≡ true → value_bytes a m ≡ value_bytes b n = λ is.
    let mine : written_len m ≡ m.value_len = ap (λ w. if w then m.value_len else 0) is in
    let other : written_len n ≡ n.value_len = ap (λ w. if w then n.value_len else 0) (sym kinds ∙ is) in
    between a b m.key_len m.value_len (subst (λ v. take (m.key_len + v) a ≡ take (m.key_len + v) b) mine same) ∙ ap₂ (λ k v. slice_range b k (k + v)) keys (sym mine ∙ (lens ∙ other)) in
    subst (λ w. same_mop (mop_at a m) (mop_in w (key_bytes b n) (value_bytes b n)) ≡ true) kinds (by_kind m.is_write (key_bytes a m) (key_bytes b n) (value_bytes a m) (value_bytes b n) key value)
