-- A whole search, layer by layer.
use Rattle.std.proofs.Common.{◌≡◌, ℕ, ◌+◌, ◌-◌, ◌<◌, ◌≤◌, ◌⊎◌, List, [], ◌∷◌, length, Bool, true, false, cond, get_or, set, replicate, suc, subst, sym, ap, refl, ◌∙◌, inl, inr, arith, IsTrue, Ok, Err, Result}
use Rattle.std.proofs.lemmas.Bool.{OnFalse_at, OnTrue_at, cases_lt, cases_eq, false_from_ne_true}
use Rattle.std.specs.Bool.{OnFalse, OnTrue}
use Rattle.std.specs.Prelude.{None, IfOk}
use Rattle.graph_search.specs.Costs.{LeadsWithin, IsWalkWithin, IsWalkToTargetIfAny}
use Rattle.graph_search.specs.Graphs.{VertexSet, IsWalk}
use Rattle.graph_search.specs.Visits.{vertex_at, parent_at, AreCheap, AreOpened, AreReached, EndsIn, EndsInOther, Extends, GoesOn, HasNoneOf, IsMarked, IsOpened, IsStep}
use Rattle.graph_search.specs.declared.breadth_first.Visit.{Visit}
use Rattle.graph_search.proofs.Costs.{Costs, HasRest, costs, more, rest_of}
use Rattle.graph_search.proofs.Reaching.{visit, start, extend_twice, parent_within}

-- vertices of the queue, one after another

-- what the vertices from one place to before another one lead to is marked
pub record IsOpeningAll (Leads : ℕ → ℕ → Type 0) (targets : VertexSet) (limit : ℕ) (marks : List Bool) (queue : List Visit)
    (from at : ℕ) (marks' : List Bool) (queue' : List Visit) : Type 0 where
  pub reached : AreReached marks' queue'
  pub extends : Extends Leads limit marks queue marks' queue'
  pub unfound : HasNoneOf targets (length queue) queue'
  pub opened : AreOpened Leads marks' queue' from at

none_twice : (Leads : ℕ → ℕ → Type 0) (targets : VertexSet) (limit place : ℕ) (m m' : List Bool) (q q' : List Visit) → Extends Leads limit m q m' q'
    → HasNoneOf targets place q → HasNoneOf targets (length q) q' → HasNoneOf targets place q'
none_twice Leads targets limit place m m' q q' x none none' k ge lt = elim (cases_lt k (length q)) [
  | inl old ↦ subst (λ v. IsTrue (targets.has v) → ⊥) (sym (x.same k old)) (none k ge old)
  | inr ge' ↦ none' k ge' lt
]

-- what was opened stays so
still_opened : (Leads Leads' : ℕ → ℕ → Type 0) (limit from to : ℕ) (m m' : List Bool) (q q' : List Visit) → Extends Leads' limit m q m' q' → to ≤ length q
    → AreOpened Leads m q from to → AreOpened Leads m' q' from to
still_opened Leads Leads' limit from to m m' q q' x within opened k ge lt =
    subst (λ v. IsOpened Leads m' v) (sym (x.same k (omega (arith, lt, within)))) (λ w leads. x.marked w (opened k ge lt w leads))

-- one more was opened, which led to no target
pub further : {Leads : ℕ → ℕ → Type 0} {targets : VertexSet} {limit limit' from at : ℕ} {m m' m'' : List Bool} {q q' q'' : List Visit} {stopped : Bool}
    → AreReached m q → IsOpeningAll Leads targets limit m q from at m' q' → at < length q' → limit ≤ limit' → at + 1 ≤ limit'
    → GoesOn Leads targets (at + 1) m' q' m'' q'' stopped → stopped ≡ false → OnFalse stopped (IsOpened Leads m'' (vertex_at q' at))
    → IsOpeningAll Leads targets limit' m q from (at + 1) m'' q''
further {Leads = Leads} {targets = targets} {limit = limit} {limit' = limit'} {from = from} {at = at} {m = m} {m' = m'} {m'' = m''} {q = q} {q' = q'} {q'' = q''} are is h below below' on e opened = record {
  reached = on.reached;
  extends = extend_twice Leads limit (at + 1) limit' m m' m'' q q' q'' below below' are is.reached is.extends on.extends;
  unfound = none_twice Leads targets (at + 1) (length q) m' m'' q' q'' on.extends is.unfound (OnFalse_at e on.unfound);
  opened = λ k ge lt. elim (cases_lt k at) [
    | inl before ↦ still_opened Leads Leads (at + 1) from at m' m'' q' q'' on.extends (omega (arith, h)) is.opened k ge before
    | inr ge' ↦
        let here : at ≡ k = omega (arith, ge', lt) in
        subst (λ i. IsOpened Leads m'' (vertex_at q'' i)) here (subst (λ v. IsOpened Leads m'' v) (sym (on.extends.same at h)) (OnFalse_at e opened))
  ];
}

-- or led to one, which is new as well
pub found_one : {Leads : ℕ → ℕ → Type 0} {targets : VertexSet} {limit limit' from at : ℕ} {m m' m'' : List Bool} {q q' q'' : List Visit} {stopped : Bool}
    → AreReached m q → IsOpeningAll Leads targets limit m q from at m' q' → limit ≤ limit' → at + 1 ≤ limit'
    → GoesOn Leads targets (at + 1) m' q' m'' q'' stopped → stopped ≡ true → GoesOn Leads targets limit' m q m'' q'' true
found_one {Leads = Leads} {limit = limit} {limit' = limit'} {at = at} {m = m} {m' = m'} {m'' = m''} {q = q} {q' = q'} {q'' = q''} are is below below' on e =
    let ends = OnTrue_at e on.found in
    record {
      reached = on.reached;
      extends = extend_twice Leads limit (at + 1) limit' m m' m'' q q' q'' below below' are is.reached is.extends on.extends;
      found = (omega (arith, is.extends.longer, ends.0), ends.1);
      unfound = tt;
    }

-- or none did
pub found_none : {Leads : ℕ → ℕ → Type 0} {targets : VertexSet} {limit from at : ℕ} {m m' : List Bool} {q q' : List Visit}
    → IsOpeningAll Leads targets limit m q from at m' q' → GoesOn Leads targets limit m q m' q' false
found_none is = record { reached = is.reached; extends = is.extends; found = tt; unfound = is.unfound }

-- costs of the vertices that are new

abbrev cost_or : List Bool → (ℕ → ℕ) → ℕ → ℕ → ℕ
cost_or marks costs new v = cond (get_or marks v false) (costs v) new

cost_of_old : (marks : List Bool) (costs : ℕ → ℕ) (new v : ℕ) → IsMarked marks v → cost_or marks costs new v ≡ costs v
cost_of_old marks costs new v is = ap (λ b. cond b (costs v) new) is

cost_of_new : (marks : List Bool) (costs : ℕ → ℕ) (new v : ℕ) → (IsMarked marks v → ⊥) → cost_or marks costs new v ≡ new
cost_of_new marks costs new v other = ap (λ b. cond b (costs v) new) (false_from_ne_true (get_or marks v false) other)

-- a step from a vertex of the queue that went before
old_step : (Leads : ℕ → ℕ → Type 0) (limit k : ℕ) (m m' : List Bool) (q q' : List Visit) → AreReached m q → Extends Leads limit m q m' q' → 0 < k → k < length q
    → IsStep q (vertex_at q' (parent_at q' k)) (vertex_at q' k)
old_step Leads limit k m m' q q' are x pos old =
    (k, pos, old, sym (ap (vertex_at q') (x.parents k old) ∙ x.same (parent_at q k) (parent_within m q k are pos old)), sym (x.same k old))

cheap : (Free Paid Leads : ℕ → ℕ → Type 0) (limit cost cost' : ℕ) (m m' : List Bool) (q q' : List Visit) → AreReached m q → Extends Leads limit m q m' q'
    → cost ≤ cost' → AreCheap Free Paid cost q
    → ((costs : ℕ → ℕ) → ((k : ℕ) → k < length q → costs (vertex_at q k) ≤ cost) → ((k : ℕ) → k < length q' → costs (vertex_at q' k) ≤ cost')
    → (k : ℕ) → length q ≤ k → k < length q' → costs (vertex_at q' k) ≡ cost'
    → (Free (vertex_at q' (parent_at q' k)) (vertex_at q' k) × (costs (vertex_at q' (parent_at q' k)) ≤ costs (vertex_at q' k)))
    ⊎ (Paid (vertex_at q' (parent_at q' k)) (vertex_at q' k) × (costs (vertex_at q' (parent_at q' k)) < costs (vertex_at q' k))))
    → AreCheap Free Paid cost' q'
cheap Free Paid Leads limit cost cost' m m' q q' are x le is rise =
    let costs : ℕ → ℕ = cost_or m is.costs cost' in
    let old : (k : ℕ) → k < length q → costs (vertex_at q' k) ≡ is.costs (vertex_at q k) =
    λ k h. ap costs (x.same k h) ∙ cost_of_old m is.costs cost' (vertex_at q k) (are.marked k h) in
    let new : (k : ℕ) → length q ≤ k → k < length q' → costs (vertex_at q' k) ≡ cost' = λ k ge lt. cost_of_new m is.costs cost' (vertex_at q' k) (x.new k ge lt) in
    let within : (k : ℕ) → k < length q' → costs (vertex_at q' k) ≤ cost' = λ k lt. elim (cases_lt k (length q)) [
      | inl h ↦ omega (arith, old k h, is.within k h, le)
      | inr ge ↦ omega (arith, new k ge lt)
    ] in
    let within-old : (k : ℕ) → k < length q → costs (vertex_at q k) ≤ cost =
    λ k h. omega (arith, cost_of_old m is.costs cost' (vertex_at q k) (are.marked k h), is.within k h) in
    record {
      costs = costs;
      within = within;
      rising = λ v w step.
          let (k, pos, lt, at-v, at-w) = step in
          let Rises : ℕ → ℕ → Type 0 = λ v w. (Free v w × (costs v ≤ costs w)) ⊎ (Paid v w × (costs v < costs w)) in
          let here : Rises (vertex_at q' (parent_at q' k)) (vertex_at q' k) = elim (cases_lt k (length q)) [
            | inl h ↦
                let back : parent_at q k < length q = parent_within m q k are pos h in
                let before : costs (vertex_at q' (parent_at q' k)) ≡ is.costs (vertex_at q' (parent_at q' k)) =
                cost_of_old m is.costs cost' (vertex_at q' (parent_at q' k))
                (subst (λ u. IsMarked m u) (sym (ap (vertex_at q') (x.parents k h) ∙ x.same (parent_at q k) back)) (are.marked (parent_at q k) back)) in
                let after : costs (vertex_at q' k) ≡ is.costs (vertex_at q' k) =
                cost_of_old m is.costs cost' (vertex_at q' k) (subst (λ u. IsMarked m u) (sym (x.same k h)) (are.marked k h)) in
                elim (is.rising (vertex_at q' (parent_at q' k)) (vertex_at q' k) (old_step Leads limit k m m' q q' are x pos h)) [
                  | inl r ↦ inl (r.0, omega (arith, r.1, before, after))
                  | inr r ↦ inr (r.0, omega (arith, r.1, before, after))
                ]
            | inr ge ↦ rise costs within-old within k ge lt (new k ge lt)
          ] in
          subst (λ u. Rises u w) at-v (subst (λ u. Rises (vertex_at q' (parent_at q' k)) u) at-w here);
    }

cheap_freely : (Free Paid : ℕ → ℕ → Type 0) (limit cost : ℕ) (m m' : List Bool) (q q' : List Visit) → AreReached m q → AreReached m' q'
    → Extends Free limit m q m' q' → AreCheap Free Paid cost q → AreCheap Free Paid cost q'
cheap_freely Free Paid limit cost m m' q q' are are' x is =
    cheap Free Paid Free limit cost cost m m' q q' are x (omega arith) is
    (λ costs old within k ge lt new.
    let back : parent_at q' k < length q' = parent_within m' q' k are' (omega (arith, are.some, ge)) lt in
    inl (x.led k ge lt, omega (arith, new, within (parent_at q' k) back)))

cheap_paid : (Free Paid : ℕ → ℕ → Type 0) (cost : ℕ) (m m' : List Bool) (q q' : List Visit) → AreReached m q
    → Extends Paid (length q) m q m' q' → AreCheap Free Paid cost q → AreCheap Free Paid (cost + 1) q'
cheap_paid Free Paid cost m m' q q' are x is =
    cheap Free Paid Paid (length q) cost (cost + 1) m m' q q' are x (omega arith) is
    (λ costs old within k ge lt new.
    let back : parent_at q' k < length q = x.from k ge lt in
    let cheaper : costs (vertex_at q' (parent_at q' k)) ≤ cost = subst (λ v. costs v ≤ cost) (sym (x.same (parent_at q' k) back)) (old (parent_at q' k) back) in
    inr (x.led k ge lt, omega (arith, new, cheaper)))

cheaper : (Free Paid : ℕ → ℕ → Type 0) (cost cost' : ℕ) (q : List Visit) → cost ≤ cost' → AreCheap Free Paid cost q → AreCheap Free Paid cost' q
cheaper Free Paid cost cost' q le is = record {
  costs = is.costs;
  within = λ k h. omega (arith, is.within k h, le);
  rising = is.rising;
}

pub cheap_walk : (Free Paid : ℕ → ℕ → Type 0) (most from to last : ℕ) (q : List Visit) (walk : List ℕ) → AreCheap Free Paid most q → last < length q
    → vertex_at q last ≡ to → IsWalk (IsStep q) from to walk → IsWalkWithin Free Paid most from to walk
cheap_walk Free Paid most from to last q walk is h ends walks =
    let split : HasRest from walk = rest_of (IsStep q) from to walk walks in
    let found : Costs Free Paid is.costs from to split.rest =
    costs Free Paid (IsStep q) is.costs is.rising from to split.rest (subst (λ w. IsWalk (IsStep q) from to w) split.vertices walks) in
    let at-end : is.costs to ≤ most = subst (λ v. is.costs v ≤ most) ends (is.within last h) in
    record {
      rest = split.rest;
      vertices = split.vertices;
      leads = more Free Paid found.cost most from to split.rest (omega (arith, found.below, at-end)) found.leads;
    }

-- what is still to be reached

-- what a vertex leads to at a cost, a marked one leads to at another cost
abbrev pub Carries : (Free Paid : ℕ → ℕ → Type 0) (targets : VertexSet) (most from left : ℕ) → List Bool → Type 0
Carries Free Paid targets most from left marks =
    (to : ℕ)
    → IsTrue (targets.has to)
    → (from ≡ to → ⊥)
    → (rest : List ℕ)
    → LeadsWithin Free Paid most from rest to
    → (v : ℕ) × (rest' : List ℕ) × IsMarked marks v × LeadsWithin Free Paid left v rest' to

-- layers

-- a layer begins at a place of the queue: all before it was opened
pub record IsLayered (Free Paid : ℕ → ℕ → Type 0) (targets : VertexSet) (most from cost layer : ℕ) (marks : List Bool) (queue : List Visit) : Type 0 where
  pub reached : AreReached marks queue
  pub first : vertex_at queue 0 ≡ from
  pub cheap : AreCheap Free Paid cost queue
  pub none : HasNoneOf targets 1 queue
  pub within : layer ≤ length queue
  pub free : AreOpened Free marks queue 0 layer
  pub paid : AreOpened Paid marks queue 0 layer
  pub carries : Carries Free Paid targets most from (most - cost) marks

-- no target is marked
unreached : (targets : VertexSet) (from to : ℕ) (m : List Bool) (q : List Visit) → AreReached m q → vertex_at q 0 ≡ from → HasNoneOf targets 1 q
    → IsTrue (targets.has to) → (from ≡ to → ⊥) → IsMarked m to → ⊥
unreached targets from to m q are first none target other is =
    let (k, h, e) = are.queued to is in
    elim (cases_eq k 0) [
      | inl zero' ↦ other (sym first ∙ ap (vertex_at q) (sym zero') ∙ e)
      | inr pos ↦ none k (omega (arith, pos)) h (subst (λ v. IsTrue (targets.has v)) (sym e) target)
    ]

-- a marked vertex is opened where all of the queue is
opened_at : (Leads : ℕ → ℕ → Type 0) (m m' : List Bool) (q : List Visit) → AreReached m q → AreOpened Leads m' q 0 (length q) → (v : ℕ) → IsMarked m v → IsOpened Leads m' v
opened_at Leads m m' q are opened v is =
    let (k, h, e) = are.queued v is in
    subst (λ u. IsOpened Leads m' u) e (opened k (omega arith) h)

pub started : {Free Paid : ℕ → ℕ → Type 0} {targets : VertexSet} {n most from : ℕ} {marks : List Bool} {queue : List Visit} → from < n
    → marks ≡ set (replicate n false) from true → queue ≡ visit from 0 ∷ [] → IsLayered Free Paid targets most from 0 0 marks queue
started {Free = Free} {Paid = Paid} {targets = targets} {n = n} {most = most} {from = from} {queue = queue} h ms q =
    let m = set (replicate n false) from true in
    let are : AreReached m (visit from 0 ∷ []) = start n from h in
    let is : IsLayered Free Paid targets most from 0 0 m (visit from 0 ∷ []) = record {
      reached = are;
      first = refl;
      cheap = record {
        costs = λ v. 0;
        within = λ k l. omega arith;
        rising = λ v w step.
            let (k, pos, l, at-v, at-w) = step in
            absurd (omega (arith, pos, l));
      };
      none = λ k ge l. absurd (omega (arith, ge, l));
      within = omega arith;
      free = λ k ge l. absurd (omega (arith, l));
      paid = λ k ge l. absurd (omega (arith, l));
      carries = λ to target other rest leads.
          let all : most ≡ most - 0 = omega arith in
          (from, rest, are.marked 0 (omega arith), subst (λ left. LeadsWithin Free Paid left from rest to) all leads);
    } in
    subst (λ m'. IsLayered Free Paid targets most from 0 0 m' queue) (sym ms) (subst (λ q'. IsLayered Free Paid targets most from 0 0 m q') (sym q) is)

-- all of the queue was opened by free arcs, and all before the layer by paid ones
pub record IsClosed (Free Paid : ℕ → ℕ → Type 0) (targets : VertexSet) (most from cost layer : ℕ) (marks : List Bool) (queue : List Visit) : Type 0 where
  pub reached : AreReached marks queue
  pub first : vertex_at queue 0 ≡ from
  pub cheap : AreCheap Free Paid cost queue
  pub none : HasNoneOf targets 1 queue
  pub within : layer ≤ length queue
  pub free : AreOpened Free marks queue 0 (length queue)
  pub paid : AreOpened Paid marks queue 0 layer
  pub carries : Carries Free Paid targets most from (most - cost) marks

-- what was opened before a place and from it on
opened_from : (Leads : ℕ → ℕ → Type 0) (place to : ℕ) (m : List Bool) (q : List Visit) → AreOpened Leads m q 0 place → AreOpened Leads m q place to → AreOpened Leads m q 0 to
opened_from Leads place to m q before after k ge lt = elim (cases_lt k place) [ inl h ↦ before k ge h | inr h ↦ after k h lt ]

pub close : {Free Paid : ℕ → ℕ → Type 0} {targets : VertexSet} {limit most from cost layer : ℕ} {m m' : List Bool} {q q' : List Visit} {stopped : Bool}
    → IsLayered Free Paid targets most from cost layer m q → GoesOn Free targets limit m q m' q' stopped → stopped ≡ false
    → OnFalse stopped (AreOpened Free m' q' layer (length q')) → IsClosed Free Paid targets most from cost layer m' q'
close {Free = Free} {Paid = Paid} {targets = targets} {limit = limit} {cost = cost} {layer = layer} {m = m} {m' = m'} {q = q} {q' = q'} is on e opened =
    let x : Extends Free limit m q m' q' = on.extends in
    record {
      reached = on.reached;
      first = x.same 0 is.reached.some ∙ is.first;
      cheap = cheap_freely Free Paid limit cost m m' q q' is.reached on.reached x is.cheap;
      none = none_twice Free targets limit 1 m m' q q' x is.none (OnFalse_at e on.unfound);
      within = omega (arith, is.within, x.longer);
      free = opened_from Free layer (length q') m' q' (still_opened Free Free limit 0 layer m m' q q' x is.within is.free) (OnFalse_at e opened);
      paid = still_opened Paid Free limit 0 layer m m' q q' x is.within is.paid;
      carries = λ to target other rest leads.
          let (v, rest', marked, on') = is.carries to target other rest leads in
          (v, rest', x.marked v marked, on');
    }

-- a target is still ahead of a vertex of the next layer
carry : (Free Paid : ℕ → ℕ → Type 0) (targets : VertexSet) (from left left' to : ℕ) (m m' : List Bool) (q : List Visit) → AreReached m q → vertex_at q 0 ≡ from
    → HasNoneOf targets 1 q → AreOpened Free m q 0 (length q) → AreOpened Paid m' q 0 (length q) → left ≡ suc left' → IsTrue (targets.has to) → (from ≡ to → ⊥)
    → (v : ℕ) (rest : List ℕ) → IsMarked m v → LeadsWithin Free Paid left v rest to
    → (v' : ℕ) × (rest' : List ℕ) × IsMarked m' v' × LeadsWithin Free Paid left' v' rest' to
carry Free Paid targets from left left' to m m' q are first none free paid one target other v [] marked leads =
    absurd (unreached targets from to m q are first none target other (subst (λ u. IsMarked m u) leads marked))
carry Free Paid targets from left left' to m m' q are first none free paid one target other v (w ∷ rest) marked leads =
    elim leads [
      | inl h ↦
          carry Free Paid targets from left left' to m m' q are first none free paid one target other w rest (opened_at Free m m q are free v marked w h.0) h.1
      | inr h ↦
          let e : left ≡ suc h.0 = h.1 in
          let same : h.0 ≡ left' = omega (arith, e, one) in
          (w, rest, opened_at Paid m m' q are paid v marked w h.2, subst (λ l. LeadsWithin Free Paid l w rest to) same h.3)
    ]

pub next : {Free Paid : ℕ → ℕ → Type 0} {targets : VertexSet} {most from cost layer : ℕ} {m m' : List Bool} {q q' : List Visit} {stopped : Bool}
    → IsClosed Free Paid targets most from cost layer m q → cost < most → GoesOn Paid targets (length q) m q m' q' stopped → stopped ≡ false
    → OnFalse stopped (AreOpened Paid m' q' layer (length q)) → IsLayered Free Paid targets most from (cost + 1) (length q) m' q'
next {Free = Free} {Paid = Paid} {targets = targets} {most = most} {from = from} {cost = cost} {layer = layer} {m = m} {m' = m'} {q = q} {q' = q'} is below on e opened =
    let x : Extends Paid (length q) m q m' q' = on.extends in
    let paid : AreOpened Paid m' q' 0 (length q) =
    opened_from Paid layer (length q) m' q' (still_opened Paid Paid (length q) 0 layer m m' q q' x is.within is.paid) (OnFalse_at e opened) in
    let paid' : AreOpened Paid m' q 0 (length q) = λ k ge lt. subst (λ v. IsOpened Paid m' v) (x.same k lt) (paid k ge lt) in
    record {
      reached = on.reached;
      first = x.same 0 is.reached.some ∙ is.first;
      cheap = cheap_paid Free Paid cost m m' q q' is.reached x is.cheap;
      none = none_twice Paid targets (length q) 1 m m' q q' x is.none (OnFalse_at e on.unfound);
      within = x.longer;
      free = still_opened Free Paid (length q) 0 (length q) m m' q q' x (omega arith) is.free;
      paid = paid;
      carries = λ to target other rest leads.
          let (v, rest', marked, on') = is.carries to target other rest leads in
          let one : most - cost ≡ suc (most - (cost + 1)) = omega (arith, below) in
          carry Free Paid targets from (most - cost) (most - (cost + 1)) to m m' q is.reached is.first is.none is.free paid' one target other v rest' marked on';
    }

-- where all was opened, whatever a marked vertex leads to is marked
all_marked : (Free Paid : ℕ → ℕ → Type 0) (left to : ℕ) (m : List Bool) → ((v : ℕ) → IsMarked m v → IsOpened Free m v)
    → ((v fewer : ℕ) → left ≡ suc fewer → IsMarked m v → IsOpened Paid m v)
    → (v : ℕ) (rest : List ℕ) → IsMarked m v → LeadsWithin Free Paid left v rest to → IsMarked m to
all_marked Free Paid left to m free paid v [] marked leads = subst (λ u. IsMarked m u) leads marked
all_marked Free Paid left to m free paid v (w ∷ rest) marked leads =
    elim leads [
      | inl h ↦ all_marked Free Paid left to m free paid w rest (free v marked w h.0) h.1
      | inr h ↦
          let e : left ≡ suc h.0 = h.1 in
          all_marked Free Paid h.0 to m free (λ u fewer one. paid u h.0 e) w rest (paid v h.0 e marked w h.2) h.3
    ]

-- a search has ended
pub record IsSearched (Free Paid : ℕ → ℕ → Type 0) (targets : VertexSet) (most from : ℕ) (marks : List Bool) (queue : List Visit) (stopped : Bool) : Type 0 where
  pub reached : AreReached marks queue
  pub first : vertex_at queue 0 ≡ from
  pub cheap : AreCheap Free Paid most queue
  pub found : OnTrue stopped (EndsInOther targets queue)
  pub unfound : OnFalse stopped (IsWalkToTargetIfAny Free Paid targets most from None)

-- all was opened at the last cost
spent : {Free Paid : ℕ → ℕ → Type 0} {targets : VertexSet} {most from cost layer : ℕ} {m : List Bool} {q : List Visit}
    → IsClosed Free Paid targets most from cost layer m q → most ≤ cost → IsWalkToTargetIfAny Free Paid targets most from None
spent {Free = Free} {Paid = Paid} {targets = targets} {most = most} {from = from} {cost = cost} {m = m} {q = q} is all to target other rest leads =
    let (v, rest', marked, on) = is.carries to target other rest leads in
    let none : most - cost ≡ 0 = omega (arith, all) in
    unreached targets from to m q is.reached is.first is.none target other
    (all_marked Free Paid (most - cost) to m (opened_at Free m m q is.reached is.free) (λ u fewer one. absurd (omega (arith, none, one))) v rest' marked on)

-- a layer is empty
pub stuck : {Free Paid : ℕ → ℕ → Type 0} {targets : VertexSet} {most from cost layer : ℕ} {m : List Bool} {q : List Visit}
    → IsLayered Free Paid targets most from cost layer m q → length q ≡ layer → cost ≤ most → IsSearched Free Paid targets most from m q false
stuck {Free = Free} {Paid = Paid} {targets = targets} {most = most} {from = from} {cost = cost} {m = m} {q = q} is all le =
    let free : AreOpened Free m q 0 (length q) = subst (λ n. AreOpened Free m q 0 n) (sym all) is.free in
    let paid : AreOpened Paid m q 0 (length q) = subst (λ n. AreOpened Paid m q 0 n) (sym all) is.paid in
    record {
      reached = is.reached;
      first = is.first;
      cheap = cheaper Free Paid cost most q le is.cheap;
      found = tt;
      unfound = λ to target other rest leads.
          let (v, rest', marked, on) = is.carries to target other rest leads in
          unreached targets from to m q is.reached is.first is.none target other
          (all_marked Free Paid (most - cost) to m (opened_at Free m m q is.reached free) (λ u fewer one. opened_at Paid m m q is.reached paid u) v rest' marked on);
    }

-- a target that is new is not the vertex where the search began
another : (Leads : ℕ → ℕ → Type 0) (targets : VertexSet) (limit : ℕ) (m m' : List Bool) (q q' : List Visit) → AreReached m q → Extends Leads limit m q m' q'
    → EndsIn targets q q' → EndsInOther targets q'
another Leads targets limit m m' q q' are x (longer, target) = (
  target,
  λ same. x.new (length q' - 1) (omega (arith, longer)) (omega (arith, longer))
      (subst (λ v. IsMarked m v) (sym (x.same 0 are.some) ∙ same) (are.marked 0 are.some)),
)

-- a target was found by free arcs
pub ends_freely : {Free Paid : ℕ → ℕ → Type 0} {targets : VertexSet} {limit most from cost layer : ℕ} {m m' : List Bool} {q q' : List Visit} {stopped : Bool}
    → IsLayered Free Paid targets most from cost layer m q → cost ≤ most → GoesOn Free targets limit m q m' q' stopped → stopped ≡ true
    → IsSearched Free Paid targets most from m' q' true
ends_freely {Free = Free} {Paid = Paid} {targets = targets} {limit = limit} {most = most} {cost = cost} {m = m} {m' = m'} {q = q} {q' = q'} is le on e = record {
  reached = on.reached;
  first = on.extends.same 0 is.reached.some ∙ is.first;
  cheap = cheaper Free Paid cost most q' le (cheap_freely Free Paid limit cost m m' q q' is.reached on.reached on.extends is.cheap);
  found = another Free targets limit m m' q q' is.reached on.extends (OnTrue_at e on.found);
  unfound = tt;
}

-- or by paid ones
pub ends_paid : {Free Paid : ℕ → ℕ → Type 0} {targets : VertexSet} {most from cost layer : ℕ} {m m' : List Bool} {q q' : List Visit} {stopped : Bool}
    → IsClosed Free Paid targets most from cost layer m q → cost < most → GoesOn Paid targets (length q) m q m' q' stopped → stopped ≡ true
    → IsSearched Free Paid targets most from m' q' true
ends_paid {Free = Free} {Paid = Paid} {targets = targets} {most = most} {cost = cost} {m = m} {m' = m'} {q = q} {q' = q'} is below on e = record {
  reached = on.reached;
  first = on.extends.same 0 is.reached.some ∙ is.first;
  cheap = cheaper Free Paid (cost + 1) most q' (omega (arith, below)) (cheap_paid Free Paid cost m m' q q' is.reached on.extends is.cheap);
  found = another Paid targets (length q) m m' q q' is.reached on.extends (OnTrue_at e on.found);
  unfound = tt;
}

-- at the last cost all is opened by free arcs, if memory suffices
pub ends : {E : Type 0} {Free Paid : ℕ → ℕ → Type 0} {targets : VertexSet} {most from cost layer : ℕ} {m : List Bool} {q : List Visit} (m' : List Bool) (q' : List Visit)
    (r : Result Bool E) → IsLayered Free Paid targets most from cost layer m q → cost ≡ most → IfOk r (GoesOn Free targets (length q') m q m' q')
    → IfOk r (λ stopped. OnFalse stopped (AreOpened Free m' q' layer (length q'))) → IfOk r (IsSearched Free Paid targets most from m' q')
ends m' q' (Ok true) is last on opened = ends_freely is (omega (arith, last)) on refl
ends {Free = Free} {Paid = Paid} {targets = targets} {most = most} {from = from} {cost = cost} {layer = layer} m' q' (Ok false) is last on opened =
    let all : IsClosed Free Paid targets most from cost layer m' q' = close is on refl opened in
    record {
      reached = all.reached;
      first = all.first;
      cheap = cheaper Free Paid cost most q' (omega (arith, last)) all.cheap;
      found = tt;
      unfound = spent all (omega (arith, last));
    }
ends m' q' (Err e) is last on opened = tt
