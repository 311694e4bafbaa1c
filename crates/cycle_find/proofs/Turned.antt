-- Arcs turned round: what leads to each vertex, and what is marked of it.
use Rattle.std.proofs.Common.{◌≡◌, ◌∙◌, ◌<◌, ◌+◌, ℕ, suc, List, [], ◌∷◌, ◌++◌, length, get_or, take, drop, set, ◌==◌, if◌then◌else◌, inl, inr, All, Contains, sym, ap, subst, arith}
use Rattle.std.proofs.lemmas.Bool.{cases_Bool, cases_lt, eqb-true, eqb-false}
use Rattle.std.proofs.lemmas.Option.{get_or_from_slice_get}
use Rattle.std.proofs.lemmas.List.{get_or_default, get_or_past, get_or-set_same, get_or-set_other, take_all, take-append-le}
use Rattle.std.proofs.lemmas.List.Elements.{All-contains}
use Rattle.edge_graph.specs.Vertices.{graph_by}
use Rattle.flat_groups.specs.Groups.{IsNumbered, group, groups_from}
use Rattle.graph_search.specs.Graphs.{HasArc}
use Rattle.hist_types.proofs.Members.{In, in_from_Contains, Contains_from_in}
use Rattle.cycle_find.specs.Fewest.{IsTurnedArc, HasArcsFrom, AreLeading}
use Rattle.cycle_find.proofs.Grouped.{group_has, group_at, length-groups}

-- what holds at each place of a vertex's list holds of each vertex to which it leads
pub each_successor :
    (lists : List (List ℕ)) (v : ℕ) (P : ℕ → Type 0) → ((k : ℕ) → k < length (get_or lists v []) → P (get_or (get_or lists v []) k 0))
    → (w : ℕ) → HasArc (graph_by lists) v w → P w
each_successor lists v P all w (within, (k, h, is)) = subst P (get_or_default (get_or lists v []) k 0 w h ∙ is) (all k h)

-- the vertex at a place of the list is one to which it leads
pub arc_of : (lists : List (List ℕ)) (v k : ℕ) → v < length lists → k < length (get_or lists v []) → HasArc (graph_by lists) v (get_or (get_or lists v []) k 0)
arc_of lists v k h at = (h, (k, at, get_or_default (get_or lists v []) k (get_or (get_or lists v []) k 0) 0 at))

-- a whole list written over another one of its length
pub written : (n : ℕ) (xs ys : List ℕ) → length xs ≡ n → take n (xs ++ drop (length xs) ys) ≡ xs
written n xs ys same = take-append-le n xs (drop (length xs) ys) (omega (arith, same)) ∙ take_all n xs (omega (arith, same))

-- ---- groups

pub from_group : (n x : ℕ) (ps : List (ℕ × ℕ)) → In x (group n ps) → In (n, x) ps
from_group n x [] i = i
from_group n x ((m, y) ∷ ps) i = elim (cases_Bool (m == n)) [
  | inl same ↦ elim (subst (λ b. In x (if b then y ∷ group n ps else group n ps)) same i) [
    | inl e ↦ inl (ap (λ k. (k, y)) (eqb-true m n same) ∙ ap (λ z. (n, z)) e)
    | inr j ↦ inr (from_group n x ps j)
  ]
  | inr other ↦ inr (from_group n x ps (subst (λ b. In x (if b then y ∷ group n ps else group n ps)) other i))
]

pub group_is : (n to : ℕ) (ps : List (ℕ × ℕ)) → to < n → get_or (groups_from 0 n ps) to [] ≡ group to ps
group_is n to ps h =
    let zero : 0 + to ≡ to = omega arith in
    get_or_from_slice_get (groups_from 0 n ps) to (group (0 + to) ps) [] (group_at 0 n to ps h) ∙ ap (λ k. group k ps) zero

pub leading_of :
    (lists : List (List ℕ)) (n : ℕ) (pairs : List (ℕ × ℕ)) → n ≡ length lists → All (IsNumbered n) pairs → All (IsTurnedArc lists) pairs → ((v : ℕ) → v < n → HasArcsFrom lists v pairs)
    → AreLeading lists (groups_from 0 n pairs)
leading_of lists n pairs same numbered arcs each = record {
  count = length-groups 0 n pairs ∙ same;
  exactly = λ from to. (there from to, back from to);
}
  where
    there : (from to : ℕ) → Contains (get_or (groups_from 0 n pairs) to []) from → HasArc (graph_by lists) from to
    there from to c = elim (cases_lt to n) [
      | inl h ↦
          let i : In (to, from) pairs = from_group to from pairs (in_from_Contains from (group to pairs) (subst (λ xs. Contains xs from) (group_is n to pairs h) c)) in
          All-contains (IsTurnedArc lists) pairs (to, from) arcs (Contains_from_in (to, from) pairs i)
      | inr past ↦
          let none : get_or (groups_from 0 n pairs) to [] ≡ [] = get_or_past (groups_from 0 n pairs) to [] (omega (arith, past, length-groups 0 n pairs)) in
          elim (in_from_Contains from [] (subst (λ xs. Contains xs from) none c)) [ ]
    ]

    back : (from to : ℕ) → HasArc (graph_by lists) from to → Contains (get_or (groups_from 0 n pairs) to []) from
    back from to arc =
        let h : from < length lists = arc.0 in
        let pair : Contains pairs (to, from) = each from (omega (arith, h, same)) to arc in
        let within : to < n = All-contains (IsNumbered n) pairs (to, from) numbered pair in
        subst (λ xs. Contains xs from) (sym (group_is n to pairs within)) (Contains_from_in from (group to pairs) (group_has to from pairs (in_from_Contains (to, from) pairs pair)))

-- what is at a place of a vertex's group leads to it
pub leads_at : (lists leading : List (List ℕ)) (row : List ℕ) (to k : ℕ) → AreLeading lists leading → get_or leading to [] ≡ row → k < length row → HasArc (graph_by lists) (get_or row k 0) to
leads_at lists leading row to k are same h =
    (are.exactly (get_or row k 0) to).0 (subst (λ xs. Contains xs (get_or row k 0)) (sym same) (k, h, get_or_default row k (get_or row k 0) 0 h))

-- ---- marks

-- each mark is still true where one more is
pub still_true :
    (R : ℕ → ℕ → Type 0) (marks : List ℕ) (v to : ℕ) → v < length marks → R v to → ((from other : ℕ) → get_or marks from 0 ≡ suc other → R from other)
    → (from other : ℕ) → get_or (set marks v (to + 1)) from 0 ≡ suc other → R from other
still_true R marks v to within here before from other mark = elim (cases_Bool (from == v)) [
  | inl there ↦
      let same : from ≡ v = eqb-true from v there in
      let new : get_or (set marks v (to + 1)) v 0 ≡ suc other = subst (λ u. get_or (set marks v (to + 1)) u 0 ≡ suc other) same mark in
      let is : to + 1 ≡ suc other = sym (get_or-set_same marks v (to + 1) 0 within) ∙ new in
      let one : to ≡ other = omega (arith, is) in
      subst (λ u. R u other) (sym same) (subst (R v) one here)
  | inr apart ↦ before from other (sym (get_or-set_other marks v from (to + 1) 0 (λ same. eqb-false from v apart same)) ∙ mark)
]

-- and what was marked with the number still is
pub still_marked :
    (marks : List ℕ) (v to u : ℕ) → v < length marks → ((u ≡ v → ⊥) → get_or marks u 0 ≡ suc to) → get_or (set marks v (to + 1)) u 0 ≡ suc to
still_marked marks v to u within before = elim (cases_Bool (u == v)) [
  | inl there ↦
      let same : u ≡ v = eqb-true u v there in
      let one : to + 1 ≡ suc to = omega arith in
      subst (λ w. get_or (set marks v (to + 1)) w 0 ≡ suc to) (sym same) (get_or-set_same marks v (to + 1) 0 within ∙ one)
  | inr apart ↦ get_or-set_other marks v u (to + 1) 0 (λ same. eqb-false u v apart same) ∙ before (λ same. eqb-false u v apart same)
]
