-- The way back from a place in the queue.
use Rattle.std.proofs.Common.{◌≡◌, ℕ, ◌+◌, ◌-◌, ◌<◌, List, [], ◌∷◌, ◌++◌, length, get_or, subst, sym, ap, refl, ◌∙◌, inl, inr, arith}
use mathlib.Core.List.{reverse}
use Rattle.std.proofs.lemmas.List.{length_push, length-reverse, get_or_append_left, get_or_push, get_or-reverse}
use Rattle.std.proofs.lemmas.Bool.{cases_lt}
use Rattle.graph_search.specs.Graphs.{IsWalk}
use Rattle.graph_search.specs.Visits.{vertex_at, parent_at, IsStep}
use Rattle.graph_search.specs.declared.breadth_first.Visit.{Visit}

-- from one place of the queue back to an earlier one
pub record IsWayBack (queue : List Visit) (from to : ℕ) (way : List ℕ) : Type 0 where
  pub some : 0 < length way
  pub begins : get_or way 0 0 ≡ vertex_at queue from
  pub ends : get_or way (length way - 1) 0 ≡ vertex_at queue to
  pub joined : (k : ℕ) → k + 1 < length way → IsStep queue (get_or way (k + 1) 0) (get_or way k 0)

pub alone : (queue : List Visit) (from : ℕ) (way : List ℕ) → way ≡ vertex_at queue from ∷ [] → IsWayBack queue from from way
alone queue from way e =
    let one : IsWayBack queue from from (vertex_at queue from ∷ []) =
    record { some = omega arith; begins = refl; ends = refl; joined = λ k h. absurd (omega (arith, h)) } in
    subst (λ w. IsWayBack queue from from w) (sym e) one

pub back : (queue : List Visit) (from to : ℕ) (way : List ℕ) → 0 < to → to < length queue → IsWayBack queue from to way
    → IsWayBack queue from (parent_at queue to) (way ++ vertex_at queue (parent_at queue to) ∷ [])
back queue from to way pos h is =
    let v = vertex_at queue (parent_at queue to) in
    let longer : length (way ++ v ∷ []) ≡ length way + 1 = length_push way v in
    let same : (k : ℕ) → k < length way → get_or (way ++ v ∷ []) k 0 ≡ get_or way k 0 = λ k l. get_or_append_left way (v ∷ []) 0 k l in
    let last : (k : ℕ) → length way ≡ k → get_or (way ++ v ∷ []) k 0 ≡ v = λ k e. get_or_push way v 0 k e in
    record {
      some = omega (arith, longer);
      begins = same 0 is.some ∙ is.begins;
      ends = last (length (way ++ v ∷ []) - 1) (omega (arith, longer));
      joined = λ k l. elim (cases_lt (k + 1) (length way)) [
        | inl lt ↦
            subst (λ u. IsStep queue u (get_or (way ++ v ∷ []) k 0)) (sym (same (k + 1) lt))
            (subst (λ u. IsStep queue (get_or way (k + 1) 0) u) (sym (same k (omega arith))) (is.joined k lt))
        | inr ge ↦
            let e : length way ≡ k + 1 = omega (arith, longer, l, ge) in
            let e' : length way - 1 ≡ k = omega (arith, e) in
            let before : vertex_at queue to ≡ get_or (way ++ v ∷ []) k 0 = sym (same k (omega (arith, e)) ∙ ap (λ m. get_or way m 0) (sym e') ∙ is.ends) in
            (to, pos, h, sym (last (k + 1) e), before)
      ];
    }

pub forth : (queue : List Visit) (place : ℕ) (way : List ℕ) → IsWayBack queue place 0 way → IsWalk (IsStep queue) (vertex_at queue 0) (vertex_at queue place) (reverse way)
forth queue place way is =
    let n : length (reverse way) ≡ length way = length-reverse way in
    let at : (k : ℕ) → k < length way → get_or (reverse way) k 0 ≡ get_or way (length way - 1 - k) 0 = λ k h. get_or-reverse way k 0 h in
    let first : length way - 1 - 0 ≡ length way - 1 = omega arith in
    let last : length way - 1 - (length (reverse way) - 1) ≡ 0 = omega (arith, n) in
    record {
      some = omega (arith, n, is.some);
      begins = at 0 is.some ∙ ap (λ m. get_or way m 0) first ∙ is.ends;
      ends = at (length (reverse way) - 1) (omega (arith, n, is.some)) ∙ ap (λ m. get_or way m 0) last ∙ is.begins;
      joined = λ k h.
          let j = length way - 1 - (k + 1) in
          let next : j + 1 ≡ length way - 1 - k = omega (arith, n, h) in
          let here : get_or way (j + 1) 0 ≡ get_or (reverse way) k 0 = ap (λ m. get_or way m 0) next ∙ sym (at k (omega (arith, n, h))) in
          let there : get_or way j 0 ≡ get_or (reverse way) (k + 1) 0 = sym (at (k + 1) (omega (arith, n, h))) in
          subst (λ u. IsStep queue u (get_or (reverse way) (k + 1) 0)) here
          (subst (λ u. IsStep queue (get_or way (j + 1) 0) u) there (is.joined j (omega (arith, n, h))));
    }
