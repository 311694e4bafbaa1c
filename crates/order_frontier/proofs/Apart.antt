-- No transaction is kept twice.
use Rattle.std.proofs.Common.{◌≡◌, inl, inr, ℕ, zero, suc, ◌+◌, ◌<◌, nat_eq, Bool, true, false, cond, not, Option, Some, None, List, [], ◌∷◌, ◌++◌, map, filter, take, drop, if◌then◌else◌, option_to_list, IsPermutation, refl, ap, sym, subst, ◌∙◌, arith}
use Rattle.std.specs.List.{AllByRecursion, IsDistinct}
use Rattle.std.specs.Bool.{⊤}
use Rattle.std.proofs.lemmas.Bool.{ne_eqb, eqb-true, eq-eqb}
use Rattle.std.proofs.lemmas.Map.Keys.{IsDistinct-IsPermutation}
use Rattle.hist_types.proofs.Members.{In}
use Rattle.hist_types.specs.Operations.{Operation}
use Rattle.hist_types.specs.Transactions.{Transaction, completion_in, transaction_by, transactions_from, transactions_of}
use Rattle.hist_types.specs.Journal.{is_invoke}
use Rattle.order_frontier.specs.declared.types.Predecessor.{Predecessor}
use Rattle.order_frontier.specs.declared.types.Completed.{Completed}
use Rattle.order_frontier.specs.Completions.{completed_of, all_completed, predecessor_of, frontier_of, is_passed, AreApart}
use Rattle.order_frontier.specs.Predecessors.{Before, NoPredecessorTwice}
use Rattle.order_frontier.proofs.Kept.{all_in, AreStrict}
use Rattle.order_frontier.proofs.Seen.{done-parts, some_same}
use Rattle.order_frontier.proofs.Timed.{timed, invoked-late, by-invocation}
use Rattle.order_frontier.proofs.Advancing.{completed-to, all_from}

abbrev pub same_invocation : Completed → Completed → Bool
same_invocation x y = nat_eq x.invocation y.invocation

-- their invocations differ
abbrev pub Apart : List Completed → Type 0
Apart [] = ⊤
Apart (d ∷ done) = AllByRecursion (λ (v : Completed). same_invocation d v ≡ false) done × Apart done

pub apart_from : (done : List Completed) → AreApart done → Apart done
unfolding IsDistinct
apart_from [] differ = tt
apart_from (d ∷ done) differ = (differ.0, apart_from done differ.1)

pub apart_to : (done : List Completed) → Apart done → AreApart done
unfolding IsDistinct
apart_to [] apart = tt
apart_to (d ∷ done) apart = (apart.0, apart_to done apart.1)

flipped : (x y : Completed) (here there : Bool) → same_invocation x y ≡ here → same_invocation y x ≡ there → here ≡ there
flipped x y true true is also = refl
flipped x y false false is also = refl
flipped x y true false is also = sym (eq-eqb y.invocation x.invocation (sym (eqb-true x.invocation y.invocation is))) ∙ also
flipped x y false true is also = sym is ∙ eq-eqb x.invocation y.invocation (sym (eqb-true y.invocation x.invocation also))

flips : (x y : Completed) → same_invocation x y ≡ same_invocation y x
flips x y = flipped x y (nat_eq x.invocation y.invocation) (nat_eq y.invocation x.invocation) refl refl

pub apart_permuted : (xs ys : List Completed) → IsPermutation xs ys → Apart xs → Apart ys
apart_permuted xs ys permuted apart = apart_from ys (IsDistinct-IsPermutation same_invocation flips xs ys permuted (apart_to xs apart))

all_take : (P : Completed → Type 0) (k : ℕ) (done : List Completed) → AllByRecursion P done → AllByRecursion P (take k done)
all_take P zero done all = tt
all_take P (suc k) [] all = tt
all_take P (suc k) (d ∷ done) all = (all.0, all_take P k done all.1)

pub apart_take : (k : ℕ) (done : List Completed) → Apart done → Apart (take k done)
apart_take zero done apart = tt
apart_take (suc k) [] apart = tt
apart_take (suc k) (d ∷ done) apart = (all_take (λ (v : Completed). same_invocation d v ≡ false) k done apart.0, apart_take k done apart.1)

-- ---- those that pass are apart

passing_one : (n : ℕ) (x : Completed) (passes : Bool) (xs : List Completed) → nat_eq n x.invocation ≡ false
    → AllByRecursion (λ m. nat_eq n m ≡ false) (map (λ (p : Predecessor). p.invocation) (map predecessor_of xs))
    → AllByRecursion (λ m. nat_eq n m ≡ false) (map (λ (p : Predecessor). p.invocation) (map predecessor_of (cond passes (x ∷ xs) xs)))
passing_one n x true xs here all = (here, all)
passing_one n x false xs here all = all

passing_all : (test : Completed → Bool) (n : ℕ) (xs : List Completed) → AllByRecursion (λ (v : Completed). nat_eq n v.invocation ≡ false) xs
    → AllByRecursion (λ m. nat_eq n m ≡ false) (map (λ (p : Predecessor). p.invocation) (map predecessor_of (filter test xs)))
passing_all test n [] all = tt
passing_all test n (x ∷ xs) all = passing_one n x (test x) (filter test xs) all.0 (passing_all test n xs all.1)

distinct_one : (x : Completed) (passes : Bool) (xs : List Completed)
    → AllByRecursion (λ m. nat_eq x.invocation m ≡ false) (map (λ (p : Predecessor). p.invocation) (map predecessor_of xs))
    → IsDistinct nat_eq (map (λ (p : Predecessor). p.invocation) (map predecessor_of xs))
    → IsDistinct nat_eq (map (λ (p : Predecessor). p.invocation) (map predecessor_of (cond passes (x ∷ xs) xs)))
unfolding IsDistinct
distinct_one x true xs here all = (here, all)
distinct_one x false xs here all = all

pub distinct_passing : (test : Completed → Bool) (xs : List Completed) → Apart xs → IsDistinct nat_eq (map (λ (p : Predecessor). p.invocation) (map predecessor_of (filter test xs)))
unfolding IsDistinct
distinct_passing test [] apart = tt
distinct_passing test (x ∷ xs) apart = distinct_one x (test x) (filter test xs) (passing_all test x.invocation xs apart.0) (distinct_passing test xs apart.1)

pub distinct_option : (o : Option Predecessor) → IsDistinct nat_eq (map (λ (p : Predecessor). p.invocation) (option_to_list o))
unfolding IsDistinct
distinct_option None = tt
distinct_option (Some p) = (tt, tt)

-- what is kept of transactions that are apart
pub none_twice : (done : List Completed) (before : Before) (o : Option Predecessor) → Apart done → before.in_process ≡ option_to_list o → before.in_realtime ≡ frontier_of done → NoPredecessorTwice before
none_twice done before o apart process realtime = (
  subst (λ ps. IsDistinct nat_eq (map (λ (p : Predecessor). p.invocation) ps)) (sym process) (distinct_option o),
  subst (λ ps. IsDistinct nat_eq (map (λ (p : Predecessor). p.invocation) ps)) (sym realtime) (distinct_passing (λ d. not (is_passed done d)) done apart),
)

-- ---- transactions in the order of their invocations

abbrev pub Ascend : List Transaction → Type 0
Ascend [] = Unit {0}
Ascend (t ∷ ts) = AllByRecursion (λ (u : Transaction). t.invocation < u.invocation) ts × Ascend ts

ascend_if : (b : Bool) (t : Transaction) (ts : List Transaction) → AllByRecursion (λ (u : Transaction). t.invocation < u.invocation) ts → Ascend ts → Ascend (if b then t ∷ ts else ts)
ascend_if true t ts first rest = (first, rest)
ascend_if false t ts first rest = rest

pub ascend_from : (index : ℕ) (es : List Operation) → Ascend (transactions_from index es)
ascend_from index [] = tt
ascend_from index (e ∷ es) =
    let t = transaction_by index e (completion_in e.process (index + 1) es) in
    let at : t.invocation ≡ index = by-invocation index e (completion_in e.process (index + 1) es) in
    ascend_if (is_invoke e.kind) t (transactions_from (index + 1) es)
    (all_from (λ (u : Transaction). t.invocation < u.invocation) (transactions_from (index + 1) es) (λ u i.
    let up = invoked-late u (index + 1) es i in omega (arith, at, up)))
    (ascend_from (index + 1) es)

pub ascend_drop : (k : ℕ) (ts : List Transaction) → Ascend ts → Ascend (drop k ts)
ascend_drop zero ts up = up
ascend_drop (suc k) [] up = tt
ascend_drop (suc k) (t ∷ ts) up = ascend_drop k ts up.1

-- ---- the ok transactions of events

apart_more : (t : Transaction) (o : Option Completed) (ts : List Transaction) → completed_of t ≡ o → AllByRecursion (λ (u : Transaction). t.invocation < u.invocation) ts → Apart (all_completed ts) → Apart (option_to_list o ++ all_completed ts)
apart_more t None ts is above apart = apart
apart_more t (Some d) ts is above apart = (
  all_from (λ (v : Completed). same_invocation d v ≡ false) (all_completed ts) (λ v i.
      let from = completed-to ts v i in
      let up : t.invocation < from.0.invocation = all_in (λ (u : Transaction). t.invocation < u.invocation) from.0 ts above from.1 in
      let own = (done-parts t d is).invocation in
      let other = (done-parts from.0 v from.2).invocation in
      ne_eqb d.invocation v.invocation (λ same. omega (arith, up, own, other, same))),
  apart,
)

pub apart_ascending : (ts : List Transaction) → Ascend ts → Apart (all_completed ts)
apart_ascending [] up = tt
apart_ascending (t ∷ ts) up = apart_more t (completed_of t) ts refl up.0 (apart_ascending ts up.1)

pub apart_strict : (es : List Operation) (done : List Completed) → ((d : Completed) → In d done → (t : Transaction) × In t (transactions_of es) × (completed_of t ≡ Some d))
    → AreStrict done → Apart done
apart_strict es [] sound strict = tt
apart_strict es (d ∷ done) sound strict = (
  all_from (λ (v : Completed). same_invocation d v ≡ false) done (λ v i.
      ne_eqb d.invocation v.invocation (λ same.
      let from = sound d (inl refl) in
      let other = sound v (inr i) in
      let one = (timed es).one from.0 other.0 from.1 other.1 ((done-parts from.0 d from.2).invocation ∙ same ∙ sym (done-parts other.0 v other.2).invocation) in
      let equal : d ≡ v = some_same other.0 d v (subst (λ t. completed_of t ≡ Some d) one from.2) other.2 in
      let at : d.completion ≡ v.completion = ap (λ (x : Completed). x.completion) equal in
      let up = all_in (λ (v : Completed). d.completion < v.completion) v done strict.0 i in
      omega (arith, at, up))),
  apart_strict es done (λ v i. sound v (inr i)) strict.1,
)

-- the ok transactions of events, in another order
pub apart_sorted : (es : List Operation) (done : List Completed) → IsPermutation (all_completed (transactions_of es)) done → AreApart done
apart_sorted es done permuted =
    apart_to done (apart_permuted (all_completed (transactions_of es)) done permuted (apart_ascending (transactions_of es) (ascend_from 0 es)))
