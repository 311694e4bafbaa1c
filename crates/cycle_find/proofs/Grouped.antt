-- Items that are grouped by number are in the group of their number.
use Rattle.std.proofs.Common.{◌≡◌, ◌∙◌, ◌<◌, ◌+◌, inl, inr, ℕ, zero, suc, List, [], ◌∷◌, length, Bool, true, false, if◌then◌else◌, Some, refl, sym, ap, subst, arith}
use Rattle.std.specs.Prelude.{◌==◌, slice_get}
use Rattle.std.proofs.lemmas.Bool.{eq-eqb}
use Rattle.flat_groups.specs.Groups.{group, groups_from}
use Rattle.hist_types.proofs.Members.{In}

pub group_has : (n x : ℕ) (ps : List (ℕ × ℕ)) → In (n, x) ps → In x (group n ps)
group_has n x [] i = i
group_has n x (p ∷ ps) (inl e) =
    let same : (p.0 == n) ≡ true = eq-eqb p.0 n (ap (λ (q : ℕ × ℕ). q.0) e) in
    subst (λ b. In x (if b then p.1 ∷ group n ps else group n ps)) (sym same) (inl (ap (λ (q : ℕ × ℕ). q.1) e))
group_has n x (p ∷ ps) (inr i) = by_test (p.0 == n) (group_has n x ps i)
  where
    by_test : (test : Bool) → In x (group n ps) → In x (if test then p.1 ∷ group n ps else group n ps)
    by_test true j = inr j
    by_test false j = j

pub length-groups : (first n : ℕ) (ps : List (ℕ × ℕ)) → length (groups_from first n ps) ≡ n
length-groups first zero ps = refl
length-groups first (suc n) ps = ap suc (length-groups (first + 1) n ps)

pub group_at : (first n i : ℕ) (ps : List (ℕ × ℕ)) → i < n → slice_get (groups_from first n ps) i ≡ Some (group (first + i) ps)
group_at first zero i ps below = absurd (omega (arith, below))
group_at first (suc n) zero ps below = let at : first ≡ first + 0 = omega arith in ap (λ k. Some (group k ps)) at
group_at first (suc n) (suc i) ps below =
    let at : first + 1 + i ≡ first + suc i = omega arith in
    group_at (first + 1) n i ps (omega (arith, below)) ∙ ap (λ k. Some (group k ps)) at
