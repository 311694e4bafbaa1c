-- One more transaction of a pass over the transactions of events.
use Rattle.std.proofs.Common.{◌≡◌, inl, inr, ◌↔◌, ℕ, zero, suc, ◌+◌, ◌-◌, ◌<◌, ◌≤◌, Option, List, [], ◌∷◌, ◌++◌, map, length, take, drop, get_or, option_to_list, All, Contains, refl, ap, sym, subst, ◌∙◌, arith, take-append-drop}
use Rattle.std.proofs.Math.Seq.{take-add}
use Rattle.std.proofs.lemmas.List.{take_all, take_more, drop_more, map-append, drop-drop, length-drop}
use Rattle.std.proofs.lemmas.List.Elements.{All-from_recursion, recursion_from_All}
use Rattle.hist_types.proofs.Members.{In, in_back, in_append, in_from_Contains, Contains_from_in, in_each, in_some, in_map, in_mapped}
use Rattle.history_laws.proofs.OrderEdges.{Comes, comes_from}
use Rattle.hist_types.specs.Operations.{Operation}
use Rattle.hist_types.specs.Transactions.{Transaction, transactions_of}
use Rattle.hist_types.specs.Edges.{Edge, edge}
use Rattle.hist_types.specs.ThinnedOrder.{thinned_labels, all_thinned_edges}
use Rattle.order_frontier.specs.declared.types.Predecessor.{Predecessor}
use Rattle.order_frontier.specs.declared.types.Completed.{Completed}
use Rattle.order_frontier.specs.Completions.{all_completed, AreKept, AreRising, AreTimely}
use Rattle.order_frontier.specs.Predecessors.{Before, edges_to, edges_of, HasThinned, HasEdges, NoPredecessorTwice, name_of, names}
use Rattle.order_frontier.specs.Thinnings.{Thinned, IsThinningOf}
use Rattle.process_map.specs.Values.{value_of}
use Rattle.order_frontier.proofs.Kept.{all_in}
use Rattle.order_frontier.proofs.Seen.{AreSeen, has_thinned}
use Rattle.order_frontier.proofs.Timed.{timed}
use Rattle.order_frontier.proofs.Advancing.{completed-to, completed-from, all_from}
use Rattle.order_frontier.proofs.Apart.{Ascend, ascend_from, ascend_drop, Apart, apart_take, none_twice}

-- ---- the ok transactions of events

taken_in : (v : Completed) (k : ℕ) (done : List Completed) → In v (take k done) → In v done
taken_in v zero done i = elim i [ ]
taken_in v (suc k) [] i = elim i [ ]
taken_in v (suc k) (d ∷ done) (inl e) = inl e
taken_in v (suc k) (d ∷ done) (inr i) = inr (taken_in v k done i)

pub rising_take : (k : ℕ) (done : List Completed) → AreRising done → AreRising (take k done)
rising_take zero done rising = tt
rising_take (suc k) [] rising = tt
rising_take (suc k) (d ∷ done) rising = (
  all_from (λ (v : Completed). d.completion ≤ v.completion) (take k done) (λ v i. all_in (λ (v : Completed). d.completion ≤ v.completion) v done rising.0 (taken_in v k done i)),
  rising_take k done rising.1,
)

rising_first : (d : Completed) (done : List Completed) (v : Completed) → AreRising (d ∷ done) → In v (d ∷ done) → d.completion ≤ v.completion
rising_first d done v rising (inl e) = let same : d.completion ≡ v.completion = ap (λ (x : Completed). x.completion) e in omega (arith, same)
rising_first d done v rising (inr i) = all_in (λ (v : Completed). d.completion ≤ v.completion) v done rising.0 i

rising_drop : (k : ℕ) (done : List Completed) → AreRising done → AreRising (drop k done)
rising_drop zero done rising = rising
rising_drop (suc k) [] rising = tt
rising_drop (suc k) (d ∷ done) rising = rising_drop k done rising.1

-- those from a place on complete no earlier than the one at the place
late_from : (done : List Completed) (k index : ℕ) → AreRising done → ((d : Completed) → k < length done → index ≤ (get_or done k d).completion)
    → (v : Completed) → In v (drop k done) → index ≤ v.completion
late_from [] zero index rising next v i = elim i [ ]
late_from [] (suc k) index rising next v i = elim i [ ]
late_from (d ∷ done) zero index rising next v i =
    let up = next d (omega arith) in
    let first = rising_first d done v rising i in
    omega (arith, up, first)
late_from (d ∷ done) (suc k) index rising next v i = late_from done k index rising.1 (λ e below. next e (omega (arith, below))) v i

-- all of the transactions that are ok, in order
pub record AreAll (ts : List Transaction) (done : List Completed) : Type 0 where
  pub all : (d : Completed) → Contains done d ↔ Contains (all_completed ts) d
  pub rising : AreRising done
  pub apart : Apart done

pub timely : (es : List Operation) (done : List Completed) → AreAll (transactions_of es) done → AreTimely done
timely es done are = (
  are.rising,
  λ d c.
      let from = completed-to (transactions_of es) d (in_from_Contains d (all_completed (transactions_of es)) ((are.all d).0 c)) in
      (timed es).spans from.0 d from.1 from.2,
)

-- ---- the pass so far

pub record IsPart (ts : List Transaction) (done : List Completed) (k taken : ℕ) (recent : List Predecessor) (last : ℕ → Option Predecessor) (order : List Before) : Type 0 where
  pub within : taken ≤ length done
  pub kept : AreKept (take taken done) recent last
  pub below : (d : Completed) → In d (take taken done) → (u : Transaction) → In u (drop k ts) → d.completion < u.invocation
  pub thinned : (b : Before) → In b order → HasThinned ts b
  pub once : (b : Before) → In b order → NoPredecessorTwice b
  pub named : names order ≡ map name_of (take k ts)

-- the first ones that are left were taken, and only these completed before the index
pub record Advances (earlier left : List Completed) (index count : ℕ) (recent : List Predecessor) (last : ℕ → Option Predecessor) : Type 0 where
  pub fewer : count ≤ length left
  pub before : All (λ (d : Completed). d.completion < index) (take count left)
  pub next : (d : Completed) → count < length left → index ≤ (get_or left count d).completion
  pub kept : AreKept (earlier ++ take count left) recent last

module _ (es : List Operation) (done : List Completed) (are : AreAll (transactions_of es) done) (k taken count : ℕ) (recent recent' : List Predecessor) (last last' : ℕ → Option Predecessor)
    (order : List Before) (part : IsPart (transactions_of es) done k taken recent last order) (u : Transaction) (within : k < length (transactions_of es)) (is : get_or (transactions_of es) k u ≡ u)
    (advances : Advances (take taken done) (drop taken done) u.invocation count recent' last') where
  before : (d : Completed) → In d (take count (drop taken done)) → d.completion < u.invocation
  before d i = all_in (λ (d : Completed). d.completion < u.invocation) d (take count (drop taken done)) (recursion_from_All (λ (d : Completed). d.completion < u.invocation) (take count (drop taken done)) advances.before) i

  now_taken : take (taken + count) done ≡ take taken done ++ take count (drop taken done)
  now_taken = take-add taken count done

  left : drop k (transactions_of es) ≡ u ∷ drop (k + 1) (transactions_of es)
  left = drop_more (transactions_of es) k u within ∙ ap (λ x. x ∷ drop (k + 1) (transactions_of es)) is

  member : In u (transactions_of es)
  member = subst (In u) (take-append-drop k (transactions_of es)) (in_back u (take k (transactions_of es)) (drop k (transactions_of es)) (subst (In u) (sym left) (inl refl)))

  seen : AreSeen (transactions_of es) u.invocation (take (taken + count) done)
  seen = record {
    sound = λ d i.
        let from = completed-to (transactions_of es) d (in_from_Contains d (all_completed (transactions_of es)) ((are.all d).0 (Contains_from_in d done (taken_in d (taken + count) done i)))) in (
          from.0,
          from.1,
          from.2,
          elim (in_append d (take taken done) (take count (drop taken done)) (subst (In d) now_taken i)) [
            | inl j ↦ part.below d j u (subst (In u) (sym left) (inl refl))
            | inr j ↦ before d j
          ],
        );
    complete = λ t d i ok below.
        let inside = in_from_Contains d done ((are.all d).1 (Contains_from_in d (all_completed (transactions_of es)) (completed-from (transactions_of es) t d i ok))) in
        elim (in_append d (take (taken + count) done) (drop (taken + count) done) (subst (In d) (sym (take-append-drop (taken + count) done)) inside)) [
          | inl j ↦ j
          | inr j ↦
              let late = late_from (drop taken done) count u.invocation (rising_drop taken done are.rising) advances.next d (subst (In d) (sym (drop-drop count taken done)) j) in
              absurd (omega (arith, late, below))
        ];
    rising = rising_take (taken + count) done are.rising;
  }

  pub part-next : (before' : Before) (order' : List Before)
      → before' ≡ record { process = u.process; invocation = u.invocation; in_process = option_to_list (last' u.process); in_realtime = recent' }
      → order' ≡ order ++ before' ∷ []
      → IsPart (transactions_of es) done (k + 1) (taken + count) recent' last' order'
  part-next before' order' made put =
      let kept' : AreKept (take (taken + count) done) recent' last' = subst (λ xs. AreKept xs recent' last') (sym now_taken) advances.kept in
      let ts = transactions_of es in
      record {
        within = (let size = length-drop taken done in let old = part.within in let fewer = advances.fewer in omega (arith, fewer, size, old));
        kept = kept';
        below = λ d i v j. elim (in_append d (take taken done) (take count (drop taken done)) (subst (In d) now_taken i)) [
          | inl old ↦ part.below d old v (subst (In v) (sym left) (inr j))
          | inr new ↦
              let own = before d new in
              let up : u.invocation < v.invocation = all_in (λ (w : Transaction). u.invocation < w.invocation) v (drop (k + 1) ts) (subst Ascend left (ascend_drop k ts (ascend_from 0 es))).0 j in
              omega (arith, own, up)
        ];
        thinned = λ b i. elim (in_append b order (before' ∷ []) (subst (In b) put i)) [
          | inl j ↦ part.thinned b j
          | inr (inl e) ↦ subst (HasThinned ts) e (has_thinned ts u (take (taken + count) done) recent' last' before' (timed es) member seen kept' made)
          | inr (inr none) ↦ elim none [ ]
        ];
        once = λ b i. elim (in_append b order (before' ∷ []) (subst (In b) put i)) [
          | inl j ↦ part.once b j
          | inr (inl e) ↦ subst NoPredecessorTwice e
              (none_twice (take (taken + count) done) before' (last' u.process) (apart_take (taken + count) done are.apart)
              (ap (λ (b : Before). b.in_process) made) (ap (λ (b : Before). b.in_realtime) made ∙ kept'.frontier))
          | inr (inr none) ↦ elim none [ ]
        ];
        named =
            ap names put ∙ map-append (λ (b : Before). (b.process, b.invocation)) order (before' ∷ [])
            ∙ ap (λ ns. ns ++ (before'.process, before'.invocation) ∷ []) part.named
            ∙ ap (λ (b : Before). map name_of (take k ts) ++ (b.process, b.invocation) ∷ []) made
            ∙ sym (ap (map name_of) (take_more ts k u within ∙ ap (λ x. take k ts ++ x ∷ []) is) ∙ map-append name_of (take k ts) (u ∷ []));
      }

-- before the first transaction
pub part-first : (ts : List Transaction) (done : List Completed) (s : Thinned) → IsThinningOf [] s → IsPart ts done 0 0 s.recent (value_of s.last) s.order
part-first ts done s is = record {
  within = omega arith;
  kept = is.kept;
  below = λ d i. elim i [ ];
  thinned = λ b i. elim (none b i) [ ];
  once = λ b i. elim (none b i) [ ];
  named = is.names;
}
  where
    none : (b : Before) → In b s.order → ⊥
    none b i = subst (In (b.process, b.invocation)) is.names (in_mapped (λ (b : Before). (b.process, b.invocation)) b s.order i)

-- the rest of a list, as a slice of it
pub rest-whole : {X : Type 0} (xs ys : List X) (k : ℕ) → xs ≡ ys → take (length xs - k) (drop k xs) ≡ drop k ys
rest-whole xs ys k same = take_all (length xs - k) (drop k xs) (omega (arith, length-drop k xs)) ∙ ap (drop k) same

-- ---- the whole order

named_one : (ts : List Transaction) (order : List Before) (u : Transaction) → names order ≡ map name_of ts → In u ts → (b : Before) × In b order × (b.invocation ≡ u.invocation)
named_one ts order u named i =
    let found = in_map (λ (b : Before). (b.process, b.invocation)) (name_of u) order (subst (In (name_of u)) (sym named) (in_mapped name_of u ts i)) in
    (found.0, found.1, ap (λ (n : ℕ × ℕ). n.1) found.2)

pub has_edges : (ts : List Transaction) (order : List Before) → ((b : Before) → In b order → HasThinned ts b) → names order ≡ map name_of ts
    → HasEdges order (λ level. all_thinned_edges level ts)
has_edges ts order thinned named level e = (
  λ c. (let found = in_some (edges_to level) e order (in_from_Contains e (edges_of level order) c) in
      ((thinned found.0 found.1 level e).0 (Contains_from_in e (edges_to level found.0) found.2)).0),
  λ c. (let from : Comes ts (thinned_labels level ts) e = comes_from ts (thinned_labels level ts) e (in_from_Contains e (all_thinned_edges level ts) c) in
      let u : Transaction = from.1 in
      let to = in_map (edge from.0 u) e (thinned_labels level ts from.0 u) from.5 in
      let one = named_one ts order u named from.3 in
      let b : Before = one.0 in
      let there = (thinned b one.1 level e).1 (c, sym (ap (λ (e : Edge). e.to) to.2) ∙ sym one.2) in
      Contains_from_in e (edges_of level order) (in_each (edges_to level) e b order one.1 (in_from_Contains e (edges_to level b) there))),
)

pub all_thinned : (ts : List Transaction) (order : List Before) → ((b : Before) → In b order → HasThinned ts b) → All (HasThinned ts) order
all_thinned ts order thinned = All-from_recursion (HasThinned ts) order (all_from (HasThinned ts) order thinned)

pub thinned_all : (ts : List Transaction) (order : List Before) → All (HasThinned ts) order → (b : Before) → In b order → HasThinned ts b
thinned_all ts order all b i = all_in (HasThinned ts) b order (recursion_from_All (HasThinned ts) order all) i

pub all_once : (order : List Before) → ((b : Before) → In b order → NoPredecessorTwice b) → All NoPredecessorTwice order
all_once order once = All-from_recursion NoPredecessorTwice order (all_from NoPredecessorTwice order once)

pub once_all : (order : List Before) → All NoPredecessorTwice order → (b : Before) → In b order → NoPredecessorTwice b
once_all order all b i = all_in NoPredecessorTwice b order (recursion_from_All NoPredecessorTwice order all) i
