-- The frontier of events: the ok transactions that none has passed, in the order of their completions.
use Rattle.std.proofs.Common.{◌≡◌, ℕ, ◌<◌, nat_lt, Bool, true, false, cond, not, List, [], ◌∷◌, map, filter, Less, sym, subst}
use Rattle.std.specs.Cmp.{nat_cmp_is}
use Rattle.std.specs.List.{AllByRecursion}
use Rattle.std.specs.List.Sorted.{IsStrictlySortedBy}
use Rattle.std.specs.Ordering.{nat_cmp}
use Rattle.std.proofs.lemmas.Map.Keys.{IsStrictlyIncreasing-from_sorted}
use Rattle.std.proofs.lemmas.Bool.{not-true, not_from_false}
use Rattle.hist_types.proofs.Members.{In, in_from_Contains, Contains_from_in, in_mapped, in_map, in_filter, in_filtered, passes_filter}
use Rattle.hist_types.specs.Operations.{Operation}
use Rattle.hist_types.specs.Transactions.{transactions_of}
use Rattle.order_frontier.specs.declared.types.Predecessor.{Predecessor}
use Rattle.order_frontier.specs.declared.types.Completed.{Completed}
use Rattle.order_frontier.specs.Completions.{all_completed, predecessor_of, is_passed, frontier_of}
use Rattle.order_frontier.specs.Events.{state_of}
use Rattle.order_frontier.specs.Predecessors.{AreCompletedInOrder, AreFrontier}
use Rattle.order_frontier.proofs.Kept.{AreStrict}
use Rattle.order_frontier.proofs.Advancing.{completed-to, completed-from}
use Rattle.order_frontier.proofs.Lists.{none_from, none_to}
use Rattle.order_frontier.proofs.States.{state-good, state-sound, state-complete}

-- ---- their completions rise

abbrev times : List Completed → List ℕ
times done = map (λ (p : Predecessor). p.completion) (map predecessor_of done)

later_one : (n : ℕ) (d : Completed) (passes : Bool) (done : List Completed) → n < d.completion
    → AllByRecursion (λ m. nat_cmp n m ≡ Less) (times done)
    → AllByRecursion (λ m. nat_cmp n m ≡ Less) (times (cond passes (d ∷ done) done))
later_one n d true done up all = (sym (nat_cmp_is n d.completion Less up), all)
later_one n d false done up all = all

later_all : (test : Completed → Bool) (n : ℕ) (done : List Completed) → AllByRecursion (λ (v : Completed). n < v.completion) done
    → AllByRecursion (λ m. nat_cmp n m ≡ Less) (times (filter test done))
later_all test n [] all = tt
later_all test n (d ∷ done) all = later_one n d (test d) (filter test done) all.0 (later_all test n done all.1)

order_one : (d : Completed) (passes : Bool) (done : List Completed)
    → AllByRecursion (λ m. nat_cmp d.completion m ≡ Less) (times done)
    → IsStrictlySortedBy nat_cmp (times done)
    → IsStrictlySortedBy nat_cmp (times (cond passes (d ∷ done) done))
unfolding IsStrictlySortedBy
order_one d true done up all = (up, all)
order_one d false done up all = all

in_order : (test : Completed → Bool) (done : List Completed) → AreStrict done → IsStrictlySortedBy nat_cmp (times (filter test done))
unfolding IsStrictlySortedBy
in_order test [] strict = tt
in_order test (d ∷ done) strict = order_one d (test d) (filter test done) (later_all test d.completion done strict.0) (in_order test done strict.1)

-- ---- what is kept

-- lists with the same members have the same frontier
module _ (xs ys : List Completed) (into : (d : Completed) → In d xs → In d ys) (back : (d : Completed) → In d ys → In d xs) where
  same_front : (p : Predecessor) → In p (frontier_of xs) → In p (frontier_of ys)
  same_front p i =
      let (d, inside, is) = in_map predecessor_of p (filter (λ d. not (is_passed xs d)) xs) i in
      let later : Completed → Bool = λ v. nat_lt d.completion v.invocation in
      let clear : is_passed xs d ≡ false = not-true (is_passed xs d) (passes_filter (λ d. not (is_passed xs d)) d xs inside) in
      let still : is_passed ys d ≡ false = none_from later ys (λ v j. none_to later xs clear v (back v j)) in
      subst (λ p. In p (frontier_of ys)) is
      (in_mapped predecessor_of d (filter (λ d. not (is_passed ys d)) ys)
      (in_filtered (λ d. not (is_passed ys d)) d ys (into d (in_filter (λ d. not (is_passed xs d)) d xs inside)) (not_from_false (is_passed ys d) still)))

module _ (es : List Operation) where
  abbrev all : List Completed
  all = all_completed (transactions_of es)

  in_all : (d : Completed) → In d (state_of es).done → In d all
  in_all d i = let (t, j, is) = state-sound es d i in completed-from (transactions_of es) t d j is

  in_done : (d : Completed) → In d all → In d (state_of es).done
  in_done d i = let (t, j, is) = completed-to (transactions_of es) d i in state-complete es t d j is

  pub are_frontier : (ps : List Predecessor) → ps ≡ frontier_of (state_of es).done → AreFrontier (transactions_of es) ps
  are_frontier ps same =
      let done = (state_of es).done in
      record {
        members = λ p. (
          λ c. Contains_from_in p (frontier_of all) (same_front done all in_all in_done p (subst (In p) same (in_from_Contains p ps c))),
          λ c. Contains_from_in p ps (subst (In p) (sym same) (same_front all done in_done in_all p (in_from_Contains p (frontier_of all) c))),
        );
        order =
            subst AreCompletedInOrder (sym same)
            (IsStrictlyIncreasing-from_sorted (times (filter (λ d. not (is_passed done d)) done))
            (in_order (λ d. not (is_passed done d)) done (state-good es).strict));
      }
