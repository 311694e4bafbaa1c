-- One more vertex reached, and searches that go on from one another.
use Rattle.std.proofs.Common.{◌≡◌, ℕ, ◌+◌, ◌-◌, ◌<◌, ◌≤◌, List, [], ◌∷◌, ◌++◌, length, Bool, true, false, not, cond, get_or, set, replicate, suc, zero, subst, sym, ap, refl, ◌∙◌, inl, inr, ◌⊎◌, arith, IsTrue, get_or-set_same, get_or-set_other}
use Rattle.std.specs.List.{count_by, sum_by}
use Rattle.std.proofs.lemmas.List.{length-set, length-replicate, length_push, get_or_append_left, get_or_push, get_or_default, get_or-replicate, get_or_past}
use Rattle.std.proofs.lemmas.List.Sums.{sum_by-cons, sum_by-set}
use Rattle.std.proofs.lemmas.Bool.{cases_lt, cases_eq, false≢true}
use Rattle.graph_search.specs.Graphs.{Graph, VertexSet, HasArcInto}
use Rattle.graph_search.specs.Visits.{vertex_at, parent_at, IsMarked, AreReached, EndsIn, Extends, HasNoneOf, IsOpened}
use Rattle.graph_search.specs.declared.breadth_first.Visit.{Visit}

abbrev pub visit : ℕ → ℕ → Visit
visit v at = record { vertex = v; parent = at }

abbrev none : Visit
none = visit 0 0

-- marks

pub marked_same : (marks : List Bool) (v : ℕ) → v < length marks → IsMarked (set marks v true) v
marked_same marks v h = get_or-set_same marks v true false h

pub marked_more : (marks : List Bool) (v w : ℕ) → v < length marks → IsMarked marks w → IsMarked (set marks v true) w
marked_more marks v w h is =
    elim (cases_eq w v) [
      | inl e ↦ subst (λ u. IsMarked (set marks v true) u) (sym e) (marked_same marks v h)
      | inr other ↦ get_or-set_other marks v w true false other ∙ is
    ]

pub marked_cases : (marks : List Bool) (v w : ℕ) → IsMarked (set marks v true) w → IsMarked marks w ⊎ (w ≡ v)
marked_cases marks v w is =
    elim (cases_eq w v) [
      | inl e ↦ inr e
      | inr other ↦ inl (sym (get_or-set_other marks v w true false other) ∙ is)
    ]

marked_within : (marks : List Bool) (v : ℕ) → IsMarked marks v → v < length marks
marked_within marks v is =
    elim (cases_lt v (length marks)) [
      | inl h ↦ h
      | inr h ↦ absurd (false≢true (sym (get_or_past marks v false h) ∙ is))
    ]

-- the queue

vertex_before : (queue : List Visit) (x : Visit) (k : ℕ) → k < length queue → vertex_at (queue ++ x ∷ []) k ≡ vertex_at queue k
vertex_before queue x k h = ap (λ (u : Visit). u.vertex) (get_or_append_left queue (x ∷ []) none k h)

parent_before : (queue : List Visit) (x : Visit) (k : ℕ) → k < length queue → parent_at (queue ++ x ∷ []) k ≡ parent_at queue k
parent_before queue x k h = ap (λ (u : Visit). u.parent) (get_or_append_left queue (x ∷ []) none k h)

pub vertex_pushed : (queue : List Visit) (x : Visit) (k : ℕ) → length queue ≡ k → vertex_at (queue ++ x ∷ []) k ≡ x.vertex
vertex_pushed queue x k h = ap (λ (u : Visit). u.vertex) (get_or_push queue x none k h)

parent_pushed : (queue : List Visit) (x : Visit) (k : ℕ) → length queue ≡ k → parent_at (queue ++ x ∷ []) k ≡ x.parent
parent_pushed queue x k h = ap (λ (u : Visit). u.parent) (get_or_push queue x none k h)

pub vertex_read : (queue : List Visit) (k : ℕ) (x : Visit) → k < length queue → x ≡ get_or queue k x → x.vertex ≡ vertex_at queue k
vertex_read queue k x h e = ap (λ (u : Visit). u.vertex) (e ∙ get_or_default queue k x none h)

pub parent_read : (queue : List Visit) (k : ℕ) (x : Visit) → k < length queue → x ≡ get_or queue k x → x.parent ≡ parent_at queue k
parent_read queue k x h e = ap (λ (u : Visit). u.parent) (e ∙ get_or_default queue k x none h)

pub vertex_within : (marks : List Bool) (queue : List Visit) (k : ℕ) → AreReached marks queue → k < length queue → vertex_at queue k < length marks
vertex_within marks queue k are h = marked_within marks (vertex_at queue k) (are.marked k h)

-- one more vertex

last : (queue : List Visit) (x : Visit) (k : ℕ) → k < length (queue ++ x ∷ []) → (k < length queue) ⊎ (length queue ≡ k)
last queue x k h =
    let longer : length (queue ++ x ∷ []) ≡ length queue + 1 = length_push queue x in
    elim (cases_lt k (length queue)) [ inl lt ↦ inl lt | inr ge ↦ inr (omega (arith, longer)) ]

pub reach : (marks : List Bool) (queue : List Visit) (at v : ℕ)
    → AreReached marks queue → at < length queue → v < length marks → get_or marks v false ≡ false
    → AreReached (set marks v true) (queue ++ visit v at ∷ [])
reach marks queue at v are in-queue in-marks new =
    let x = visit v at in
    let size : length (set marks v true) ≡ length marks = length-set marks v true in
    let longer : length (queue ++ x ∷ []) ≡ length queue + 1 = length_push queue x in
    record {
      some = omega (arith, longer);
      earlier = λ k pos h. elim (last queue x k h) [
        | inl lt ↦ subst (λ p. p < k) (sym (parent_before queue x k lt)) (are.earlier k pos lt)
        | inr e ↦ subst (λ p. p < k) (sym (parent_pushed queue x k e)) (subst (λ n. at < n) e in-queue)
      ];
      marked = λ k h. elim (last queue x k h) [
        | inl lt ↦ subst (λ w. IsMarked (set marks v true) w) (sym (vertex_before queue x k lt)) (marked_more marks v (vertex_at queue k) in-marks (are.marked k lt))
        | inr e ↦ subst (λ w. IsMarked (set marks v true) w) (sym (vertex_pushed queue x k e)) (marked_same marks v in-marks)
      ];
      queued = λ w is. elim (marked_cases marks v w is) [
        | inl old ↦
            let (k, h, e) = are.queued w old in
            (k, omega (arith, longer, h), vertex_before queue x k h ∙ e)
        | inr e ↦ (length queue, omega (arith, longer), vertex_pushed queue x (length queue) refl ∙ sym e)
      ];
      unmarked =
          let f : Bool → ℕ = λ b. cond (not b) 1 0 in
          let sums : sum_by f (set marks v true) + f (get_or marks v false) ≡ sum_by f marks + f true = sum_by-set f marks v true false in-marks in
          let one : f (get_or marks v false) ≡ 1 = ap f new in
          let before : sum_by f marks + length queue ≡ length marks = are.unmarked in
          let after : sum_by f (set marks v true) + length (queue ++ x ∷ []) ≡ length (set marks v true) = omega (arith, sums, one, before, size, longer) in
          after;
    }

pub parent_within : (marks : List Bool) (queue : List Visit) (k : ℕ) → AreReached marks queue → 0 < k → k < length queue → parent_at queue k < length queue
parent_within marks queue k are pos h = omega (arith, are.earlier k pos h)

pub extend : (Leads : ℕ → ℕ → Type 0) (limit : ℕ) (marks marks' : List Bool) (queue queue' : List Visit) (at v : ℕ)
    → Extends Leads limit marks queue marks' queue' → AreReached marks' queue' → at < length queue → at < limit → v < length marks'
    → get_or marks' v false ≡ false → Leads (vertex_at queue at) v
    → Extends Leads limit marks queue (set marks' v true) (queue' ++ visit v at ∷ [])
extend Leads limit marks marks' queue queue' at v is are in-queue below h new leads =
    let x = visit v at in
    let grown = queue' ++ visit v at ∷ [] in
    record {
      count = length-set marks' v true ∙ is.count;
      marked = λ w m. marked_more marks' v w h (is.marked w m);
      longer = omega (arith, is.longer, length_push queue' x);
      same = λ k lt. vertex_before queue' x k (omega (arith, lt, is.longer)) ∙ is.same k lt;
      parents = λ k lt. parent_before queue' x k (omega (arith, lt, is.longer)) ∙ is.parents k lt;
      new = λ k ge lt. elim (last queue' x k lt) [
        | inl old ↦ subst (λ w. IsMarked marks w → ⊥) (sym (vertex_before queue' x k old)) (is.new k ge old)
        | inr e ↦ subst (λ w. IsMarked marks w → ⊥) (sym (vertex_pushed queue' x k e)) (λ m. false≢true (sym new ∙ is.marked v m))
      ];
      led = λ k ge lt. elim (last queue' x k lt) [
        | inl old ↦
            let back : parent_at queue' k < length queue' = parent_within marks' queue' k are (omega arith) old in
            subst (λ w. Leads (vertex_at grown (parent_at grown k)) w) (sym (vertex_before queue' x k old))
            (subst (λ w. Leads w (vertex_at queue' k)) (sym (ap (vertex_at grown) (parent_before queue' x k old) ∙ vertex_before queue' x (parent_at queue' k) back))
            (is.led k ge old))
        | inr e ↦
            let here : vertex_at grown at ≡ vertex_at queue at = vertex_before queue' x at (omega (arith, in-queue, is.longer)) ∙ is.same at in-queue in
            subst (λ w. Leads (vertex_at grown (parent_at grown k)) w) (sym (vertex_pushed queue' x k e))
            (subst (λ w. Leads w v) (sym (ap (vertex_at grown) (parent_pushed queue' x k e) ∙ here)) leads)
      ];
      from = λ k ge lt. elim (last queue' x k lt) [
        | inl old ↦ subst (λ p. p < limit) (sym (parent_before queue' x k old)) (is.from k ge old)
        | inr e ↦ subst (λ p. p < limit) (sym (parent_pushed queue' x k e)) below
      ];
    }

pub extend_none : (Leads : ℕ → ℕ → Type 0) (limit : ℕ) (marks : List Bool) (queue : List Visit) → Extends Leads limit marks queue marks queue
extend_none Leads limit marks queue = record {
  count = refl;
  marked = λ w is. is;
  longer = omega arith;
  same = λ k lt. refl;
  parents = λ k lt. refl;
  new = λ k ge lt. absurd (omega (arith, ge, lt));
  led = λ k ge lt. absurd (omega (arith, ge, lt));
  from = λ k ge lt. absurd (omega (arith, ge, lt));
}

pub extend_twice : (Leads : ℕ → ℕ → Type 0) (l l' limit : ℕ) (m m' m'' : List Bool) (q q' q'' : List Visit) → l ≤ limit → l' ≤ limit
    → AreReached m q → AreReached m' q' → Extends Leads l m q m' q' → Extends Leads l' m' q' m'' q'' → Extends Leads limit m q m'' q''
extend_twice Leads l l' limit m m' m'' q q' q'' below below' are are' x y = record {
  count = y.count ∙ x.count;
  marked = λ w is. y.marked w (x.marked w is);
  longer = omega (arith, x.longer, y.longer);
  same = λ k lt. y.same k (omega (arith, lt, x.longer)) ∙ x.same k lt;
  parents = λ k lt. y.parents k (omega (arith, lt, x.longer)) ∙ x.parents k lt;
  new = λ k ge lt. elim (cases_lt k (length q')) [
    | inl old ↦ subst (λ w. IsMarked m w → ⊥) (sym (y.same k old)) (x.new k ge old)
    | inr ge' ↦ λ is. y.new k ge' lt (x.marked (vertex_at q'' k) is)
  ];
  led = λ k ge lt. elim (cases_lt k (length q')) [
    | inl old ↦
        let back : parent_at q' k < length q' = parent_within m' q' k are' (omega (arith, are.some, ge)) old in
        subst (λ w. Leads (vertex_at q'' (parent_at q'' k)) w) (sym (y.same k old))
        (subst (λ w. Leads w (vertex_at q' k)) (sym (ap (vertex_at q'') (y.parents k old) ∙ y.same (parent_at q' k) back))
        (x.led k ge old))
    | inr ge' ↦ y.led k ge' lt
  ];
  from = λ k ge lt. elim (cases_lt k (length q')) [
    | inl old ↦
        let here : parent_at q' k < l = x.from k ge old in
        subst (λ p. p < limit) (sym (y.parents k old)) (omega (arith, here, below))
    | inr ge' ↦
        let here : parent_at q'' k < l' = y.from k ge' lt in
        omega (arith, here, below')
  ];
}

-- the first vertex

count_replicate : (n : ℕ) → count_by not (replicate n false) ≡ n
count_replicate zero = refl
count_replicate (suc n) =
    let one : 1 + n ≡ suc n = omega arith in
    sum_by-cons (λ b. cond (not b) 1 0) false (replicate n false) ∙ ap (λ m. 1 + m) (count_replicate n) ∙ one

start_marked : (n from : ℕ) → from < n → IsMarked (set (replicate n false) from true) from
start_marked n from h = marked_same (replicate n false) from (subst (λ m. from < m) (sym (length-replicate n false)) h)

pub start : (n from : ℕ) → from < n → AreReached (set (replicate n false) from true) (visit from 0 ∷ [])
start n from h =
    let marks = replicate n false in
    let size : length marks ≡ n = length-replicate n false in
    let size' : length (set marks from true) ≡ n = length-set marks from true ∙ size in
    record {
      some = omega arith;
      earlier = λ k pos l. absurd (omega (arith, pos, l));
      marked = λ k l.
          let zero' : k ≡ 0 = omega (arith, l) in
          subst (λ k'. IsMarked (set marks from true) (vertex_at (visit from 0 ∷ []) k')) (sym zero') (start_marked n from h);
      queued = λ w is. elim (marked_cases marks from w is) [
        | inl old ↦ absurd (false≢true (sym (get_or-replicate n w false false (subst (λ m. w < m) size (marked_within marks w old))) ∙ old))
        | inr e ↦ (0, omega arith, sym e)
      ];
      unmarked =
          let f : Bool → ℕ = λ b. cond (not b) 1 0 in
          let sums : sum_by f (set marks from true) + f (get_or marks from false) ≡ sum_by f marks + f true = sum_by-set f marks from true false (subst (λ m. from < m) (sym size) h) in
          let one : f (get_or marks from false) ≡ 1 = ap f (get_or-replicate n from false false h) in
          let before : sum_by f marks ≡ n = count_replicate n in
          let after : sum_by f (set marks from true) + 1 ≡ length (set marks from true) = omega (arith, sums, one, before, size') in
          after;
    }

-- whether targets were reached

pub none_pushed : (set' : VertexSet) (place : ℕ) (queue : List Visit) (v at : ℕ) → HasNoneOf set' place queue → (IsTrue (set'.has v) → ⊥)
    → HasNoneOf set' place (queue ++ visit v at ∷ [])
none_pushed set' place queue v at none other k ge lt = elim (last queue (visit v at) k lt) [
  | inl old ↦ subst (λ w. IsTrue (set'.has w) → ⊥) (sym (vertex_before queue (visit v at) k old)) (none k ge old)
  | inr e ↦ subst (λ w. IsTrue (set'.has w) → ⊥) (sym (vertex_pushed queue (visit v at) k e)) other
]

pub ends_pushed : (set' : VertexSet) (queue queue' : List Visit) (v at : ℕ) → length queue ≤ length queue' → true ≡ set'.has v
    → EndsIn set' queue (queue' ++ visit v at ∷ [])
ends_pushed set' queue queue' v at longer is =
    let size : length (queue' ++ visit v at ∷ []) ≡ length queue' + 1 = length_push queue' (visit v at) in
    let place : length queue' ≡ length (queue' ++ visit v at ∷ []) - 1 = omega (arith, size) in
    (omega (arith, longer, size), subst (λ w. IsTrue (set'.has w)) (sym (vertex_pushed queue' (visit v at) (length (queue' ++ visit v at ∷ []) - 1) place)) (sym is))

-- all arcs of a vertex

pub open_all : (g : Graph) (set' : VertexSet) (marks : List Bool) (v : ℕ)
    → ((k : ℕ) → k < length (g.successors v) → IsTrue (set'.has (get_or (g.successors v) k 0)) → IsMarked marks (get_or (g.successors v) k 0))
    → IsOpened (HasArcInto g set') marks v
open_all g set' marks v all w leads =
    let (k, h, e) = leads.0.1 in
    let is : get_or (g.successors v) k 0 ≡ w = get_or_default (g.successors v) k 0 w h ∙ e in
    subst (λ u. IsMarked marks u) is (all k h (subst (λ u. IsTrue (set'.has u)) (sym is) leads.1))
