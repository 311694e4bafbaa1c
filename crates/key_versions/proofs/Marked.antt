-- Marks of versions that have a follower.
use Rattle.std.proofs.Common.{◌≡◌, inl, inr, ◌<◌, ◌+◌, ℕ, List, [], ◌∷◌, ◌++◌, length, take, set, get_or, Bool, true, false, cond, refl, sym, ◌∙◌, ap, subst, arith}
use Rattle.std.specs.Prelude.{◌||◌, ◌==◌}
use Rattle.std.proofs.lemmas.Bool.{cases_Bool, true≢false, eqb-true, eq-eqb}
use Rattle.std.proofs.lemmas.List.{append_assoc, get_or-set_same, get_or-set_other, length-set, take_more}
use Rattle.std.proofs.lemmas.List.Elements.{All-set}
use Rattle.std.proofs.lemmas.List.Folds.{list_any-append}
use Rattle.std.proofs.lemmas.List.Sums.{fold-append}
use Rattle.key_versions.specs.declared.types.Follower.{Follower}
use Rattle.key_versions.specs.Steps.{has_earlier, behind_once, behind_all, behind_steps, AreMarked, AreFollowers}

or_none : (b : Bool) → (b || false) ≡ b
or_none true = refl
or_none false = refl

or_true : (b : Bool) → (b || true) ≡ true
or_true true = refl
or_true false = refl

pub mark_one :
    (mark : ℕ) (followers : List (ℕ × Follower)) (p : ℕ × Follower) (marks : List ℕ) → AreMarked mark followers marks → p.0 < length marks
    → AreMarked mark (followers ++ p ∷ []) (set marks p.0 mark)
mark_one mark followers p marks are below = record {
  marked = λ n within.
      let more : has_earlier n (followers ++ p ∷ []) ≡ (has_earlier n followers || (p.0 == n)) =
      list_any-append (λ (q : ℕ × Follower). q.0 == n) followers (p ∷ []) ∙ ap (λ b. has_earlier n followers || b) (or_none (p.0 == n)) in
      elim (cases_Bool (p.0 == n)) [
        | inl is ↦ (
            let same : p.0 ≡ n = eqb-true p.0 n is in
            eq-eqb (get_or (set marks p.0 mark) n 0) mark (ap (λ k. get_or (set marks p.0 mark) k 0) (sym same) ∙ get_or-set_same marks p.0 mark 0 below)
            ∙ sym (more ∙ ap (λ b. has_earlier n followers || b) is ∙ or_true (has_earlier n followers)))
        | inr differ ↦ (
            let there : n < length marks = subst (λ k. n < k) (length-set marks p.0 mark) within in
            ap (λ k. k == mark) (get_or-set_other marks p.0 n mark 0 (λ same. true≢false (sym (eq-eqb p.0 n (sym same)) ∙ differ)))
            ∙ are.marked n there ∙ sym (more ∙ ap (λ b. has_earlier n followers || b) differ ∙ or_none (has_earlier n followers)))
      ];
  most = All-set (λ k. k < mark + 1) marks p.0 mark (omega arith) are.most;
}

-- ---- one version more

module _ (mark : ℕ) (f : Follower) (before known followers : List (ℕ × Follower)) (marks : List ℕ) (version : ℕ) (below : version < length marks) where
  pub follow_new :
      (get_or marks version 0 == mark) ≡ false → AreFollowers mark before known followers marks
      → AreFollowers mark before (behind_once f known version) (followers ++ (version, f) ∷ []) (set marks version mark)
  follow_new new are =
      let none : has_earlier version known ≡ false = sym (are.marked.marked version below) ∙ new in
      subst (λ b. AreFollowers mark before (cond b known (known ++ (version, f) ∷ [])) (followers ++ (version, f) ∷ []) (set marks version mark)) (sym none)
      (record {
        all = ap (λ (fs : List (ℕ × Follower)). fs ++ (version, f) ∷ []) are.all ∙ append_assoc before known ((version, f) ∷ []);
        marked = mark_one mark known (version, f) marks are.marked below;
      })

  pub follow_known :
      (get_or marks version 0 == mark) ≡ true → AreFollowers mark before known followers marks
      → AreFollowers mark before (behind_once f known version) followers marks
  follow_known old are =
      let has : has_earlier version known ≡ true = sym (are.marked.marked version below) ∙ old in
      subst (λ b. AreFollowers mark before (cond b known (known ++ (version, f) ∷ [])) followers marks) (sym has) are

pub all_more :
    (f : Follower) (known : List (ℕ × Follower)) (earlier : List ℕ) (i : ℕ) → i < length earlier
    → behind_all f known (take (i + 1) earlier) ≡ behind_once f (behind_all f known (take i earlier)) (get_or earlier i 0)
all_more f known earlier i within =
    ap (behind_all f known) (take_more earlier i 0 within) ∙ fold-append (behind_once f) known (take i earlier) (get_or earlier i 0 ∷ [])

pub steps_more :
    (steps : List (List ℕ)) (place : ℕ) (known : List (ℕ × Follower)) (installs : List ℕ) (i : ℕ) → i < length installs
    → behind_steps steps place known (take (i + 1) installs)
    ≡ behind_all (record { txn = place; version = get_or installs i 0 }) (behind_steps steps place known (take i installs)) (get_or steps (get_or installs i 0) [])
steps_more steps place known installs i within =
    ap (behind_steps steps place known) (take_more installs i 0 within)
    ∙ fold-append (λ (all : List (ℕ × Follower)) version. behind_all (record { txn = place; version = version }) all (get_or steps version [])) known (take i installs) (get_or installs i 0 ∷ [])
