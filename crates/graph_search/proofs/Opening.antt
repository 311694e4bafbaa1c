-- The arcs of one vertex, one after another.
use Rattle.std.proofs.Common.{◌≡◌, ℕ, ◌+◌, ◌<◌, List, [], ◌∷◌, ◌++◌, length, Bool, true, false, not, get_or, set, subst, sym, ap, ◌∙◌, arith, IsTrue, below_more, ◌≤◌}
use Rattle.std.proofs.lemmas.List.{get_or_default, set-get_or}
use Rattle.std.proofs.lemmas.Bool.{false≢true, not-true, not-false}
use Rattle.graph_search.specs.Graphs.{Graph, Leaving, VertexSet, HasArcInto}
use Rattle.graph_search.specs.Visits.{vertex_at, IsMarked, AreReached, Extends, GoesOn, HasNoneOf, IsOpened}
use Rattle.graph_search.specs.declared.breadth_first.Visit.{Visit}
use Rattle.graph_search.proofs.Reaching.{visit, marked_same, marked_more, reach, extend, ends_pushed, none_pushed, open_all, vertex_within}

-- what the vertex's first arcs lead to is marked
pub record IsOpening (g : Graph) (allowed targets : VertexSet) (marks : List Bool) (queue : List Visit) (v at i : ℕ) (marks' : List Bool) (queue' : List Visit) : Type 0 where
  pub reached : AreReached marks' queue'
  pub extends : Extends (HasArcInto g allowed) (at + 1) marks queue marks' queue'
  pub opened : (k : ℕ) → k < i → IsTrue (allowed.has (get_or (g.successors v) k 0)) → IsMarked marks' (get_or (g.successors v) k 0)
  pub unfound : HasNoneOf targets (length queue) queue'

-- the next of a vertex's successors
pub record IsNext (g : Graph) (allowed : VertexSet) (queue : List Visit) (v at i : ℕ) (marks : List Bool) (w : ℕ) : Type 0 where
  pub vertex : v ≡ vertex_at queue at
  pub within : w < length marks
  pub successor : w ≡ get_or (g.successors v) i 0
  pub arc : true ≡ allowed.has w → HasArcInto g allowed v w

pub next_successor : {g : Graph} {allowed targets : VertexSet} {marks marks' : List Bool} {queue queue' : List Visit} {v i w at : ℕ} {s : Leaving}
    → IsOpening g allowed targets marks queue v at i marks' queue' → g.count ≡ length marks → AreReached marks queue → at < length queue → v ≡ vertex_at queue at
    → s ≡ record { count = g.count; to = g.successors v } → i < length s.to → w ≡ get_or s.to i 0 → w < s.count → IsNext g allowed queue v at i marks' w
next_successor {g = g} {marks = marks} {queue = queue} {v = v} {i = i} {w = w} {at = at} is count are h vertex leaving more successor within =
    let here : w ≡ get_or (g.successors v) i 0 = successor ∙ ap (λ (t : Leaving). get_or t.to i 0) leaving in
    let more' : i < length (g.successors v) = omega (arith, more, ap (λ (t : Leaving). length t.to) leaving) in
    record {
      vertex = vertex;
      within = omega (arith, within, ap (λ (t : Leaving). t.count) leaving, count, is.extends.count);
      successor = here;
      arc = λ allowed'. ((omega (arith, vertex, count, vertex_within marks queue at are h), (i, more', get_or_default (g.successors v) i w 0 more' ∙ sym here)), sym allowed');
    }

one_more : (allowed : VertexSet) (ws : List ℕ) (marks marks' : List Bool) (w i : ℕ) → w ≡ get_or ws i 0
    → ((k : ℕ) → k < i → IsTrue (allowed.has (get_or ws k 0)) → IsMarked marks (get_or ws k 0))
    → ((u : ℕ) → IsMarked marks u → IsMarked marks' u) → (IsTrue (allowed.has w) → IsMarked marks' w)
    → (k : ℕ) → k < i + 1 → IsTrue (allowed.has (get_or ws k 0)) → IsMarked marks' (get_or ws k 0)
one_more allowed ws marks marks' w i e opened grow here =
    below_more (λ k. IsTrue (allowed.has (get_or ws k 0)) → IsMarked marks' (get_or ws k 0)) i
    (λ k h is. grow (get_or ws k 0) (opened k h is))
    (subst (λ u. IsTrue (allowed.has u) → IsMarked marks' u) e here)

-- a vertex that was not marked
reached_one : {g : Graph} {allowed targets : VertexSet} {marks marks' : List Bool} {queue queue' : List Visit} {v i w at : ℕ}
    → IsOpening g allowed targets marks queue v at i marks' queue' → IsNext g allowed queue v at i marks' w → at < length queue → true ≡ not (get_or marks' w false)
    → AreReached (set marks' w true) (queue' ++ visit w at ∷ [])
reached_one {marks' = marks'} {queue' = queue'} {w = w} {at = at} is one h new =
    reach marks' queue' at w is.reached (omega (arith, h, is.extends.longer)) one.within (not-true (get_or marks' w false) (sym new))

extended_one : {g : Graph} {allowed targets : VertexSet} {marks marks' : List Bool} {queue queue' : List Visit} {v i w at : ℕ}
    → IsOpening g allowed targets marks queue v at i marks' queue' → IsNext g allowed queue v at i marks' w → at < length queue → true ≡ allowed.has w
    → true ≡ not (get_or marks' w false) → Extends (HasArcInto g allowed) (at + 1) marks queue (set marks' w true) (queue' ++ visit w at ∷ [])
extended_one {g = g} {allowed = allowed} {marks = marks} {marks' = marks'} {queue = queue} {queue' = queue'} {w = w} {at = at} is one h allowed' new =
    extend (HasArcInto g allowed) (at + 1) marks marks' queue queue' at w is.extends is.reached h (omega arith) one.within
    (not-true (get_or marks' w false) (sym new)) (subst (λ u. HasArcInto g allowed u w) one.vertex (one.arc allowed'))

pub found_target : {g : Graph} {allowed targets : VertexSet} {marks marks' : List Bool} {queue queue' : List Visit} {v i w at : ℕ}
    → IsOpening g allowed targets marks queue v at i marks' queue' → IsNext g allowed queue v at i marks' w → at < length queue → true ≡ allowed.has w
    → true ≡ not (get_or marks' w false) → true ≡ targets.has w
    → GoesOn (HasArcInto g allowed) targets (at + 1) marks queue (set marks' w true) (queue' ++ visit w at ∷ []) true
found_target {targets = targets} {queue = queue} {queue' = queue'} {w = w} {at = at} is one h allowed' new target = record {
  reached = reached_one is one h new;
  extends = extended_one is one h allowed' new;
  found = ends_pushed targets queue queue' w at is.extends.longer target;
  unfound = tt;
}

pub after_one : {g : Graph} {allowed targets : VertexSet} {marks marks' : List Bool} {queue queue' : List Visit} {v i w at : ℕ}
    → IsOpening g allowed targets marks queue v at i marks' queue' → IsNext g allowed queue v at i marks' w → at < length queue → true ≡ allowed.has w
    → true ≡ not (get_or marks' w false) → false ≡ targets.has w
    → IsOpening g allowed targets marks queue v at (i + 1) (set marks' w true) (queue' ++ visit w at ∷ [])
after_one {g = g} {allowed = allowed} {targets = targets} {marks' = marks'} {queue = queue} {queue' = queue'} {v = v} {i = i} {w = w} {at = at} is one h allowed' new other = record {
  reached = reached_one is one h new;
  extends = extended_one is one h allowed' new;
  opened = one_more allowed (g.successors v) marks' (set marks' w true) w i one.successor is.opened (λ u m. marked_more marks' w u one.within m)
      (λ yes. marked_same marks' w one.within);
  unfound = none_pushed targets (length queue) queue' w at is.unfound (λ yes. false≢true (other ∙ yes));
}

-- a vertex that was marked before
pub after_marked : {g : Graph} {allowed targets : VertexSet} {marks marks' : List Bool} {queue queue' : List Visit} {v i w at : ℕ}
    → IsOpening g allowed targets marks queue v at i marks' queue' → IsNext g allowed queue v at i marks' w → false ≡ not (get_or marks' w false)
    → IsOpening g allowed targets marks queue v at (i + 1) (set marks' w true) queue'
after_marked {g = g} {allowed = allowed} {targets = targets} {marks = marks} {marks' = marks'} {queue = queue} {queue' = queue'} {v = v} {i = i} {w = w} {at = at} is one not-new =
    let old : IsMarked marks' w = not-false (get_or marks' w false) (sym not-new) in
    let same : marks' ≡ set marks' w true = sym (ap (λ b. set marks' w b) (sym old) ∙ set-get_or marks' w false) in
    let next : IsOpening g allowed targets marks queue v at (i + 1) marks' queue' = record {
      reached = is.reached;
      extends = is.extends;
      opened = one_more allowed (g.successors v) marks' marks' w i one.successor is.opened (λ u m. m) (λ yes. old);
      unfound = is.unfound;
    } in
    subst (λ ms. IsOpening g allowed targets marks queue v at (i + 1) ms queue') same next

-- a vertex that isn't allowed
pub after_disallowed : {g : Graph} {allowed targets : VertexSet} {marks marks' : List Bool} {queue queue' : List Visit} {v i w at : ℕ}
    → IsOpening g allowed targets marks queue v at i marks' queue' → IsNext g allowed queue v at i marks' w → false ≡ allowed.has w
    → IsOpening g allowed targets marks queue v at (i + 1) marks' queue'
after_disallowed {g = g} {allowed = allowed} {marks' = marks'} {v = v} {i = i} {w = w} is one not-allowed = record {
  reached = is.reached;
  extends = is.extends;
  opened = one_more allowed (g.successors v) marks' marks' w i one.successor is.opened (λ u m. m) (λ yes. absurd (false≢true (not-allowed ∙ yes)));
  unfound = is.unfound;
}

-- all of its successors
pub all_opened : {g : Graph} {allowed targets : VertexSet} {marks marks' : List Bool} {queue queue' : List Visit} {v i at : ℕ} {s : Leaving}
    → IsOpening g allowed targets marks queue v at i marks' queue' → v ≡ vertex_at queue at → s ≡ record { count = g.count; to = g.successors v } → length s.to ≤ i
    → IsOpened (HasArcInto g allowed) marks' (vertex_at queue at)
all_opened {g = g} {allowed = allowed} {marks' = marks'} {v = v} is vertex leaving all =
    subst (λ u. IsOpened (HasArcInto g allowed) marks' u) vertex
    (open_all g allowed marks' v (λ k h. is.opened k (omega (arith, h, all, ap (λ (t : Leaving). length t.to) leaving))))
