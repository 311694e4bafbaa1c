-- Strict serial explanations: of histories that have one, orders that are none, and a history that has none at all.
use Rattle.std.proofs.Common.{◌≡◌, inl, inr, ℕ, List, [], ◌∷◌, nat_eq, map, false, IsFalse, All, Contains, refl, sym, ◌∙◌, ap, subst, arith}
use Rattle.std.specs.List.{IsDistinct}
use Rattle.std.proofs.lemmas.Bool.{false≢true}
use Rattle.std.proofs.lemmas.Cmp.{nat_eq_equiv}
use Rattle.std.proofs.lemmas.Map.Keys.{IsDistinct-head}
use Rattle.std.proofs.lemmas.Map.Made.{IsDistinct-from_count}
use Rattle.std.proofs.lemmas.List.Elements.{All-from_recursion, recursion_from_All, All-contains}
use Rattle.std.proofs.lemmas.Option.{none-some}
use Rattle.hist_types.specs.Edges.{is_ok_before}
use Rattle.hist_types.specs.Explanation.{all_nil, after_mops, Runs, KeepsRealtime, Explains}
use Rattle.hist_types.specs.Operations.{Operation}
use Rattle.hist_types.specs.Transactions.{Transaction, transactions_of, is_failed}
use Rattle.hist_types.proofs.Members.{In, in_from_Contains, Contains_from_in}
use Rattle.hist_types.proofs.Rows.Cycles.{chained_updates}
use Rattle.hist_types.proofs.Rows.History.{x, number, sets, gets, finds_nil, invoke, ok, info, committed, aborted, unknown}
use Rattle.hist_types.proofs.Rows.Orders.{stale_read}

-- may be chosen
abbrev MayStand : List Transaction → Transaction → Type 0
MayStand ts t = Contains ts t × IsFalse (is_failed t)

-- ---- an update that is read by the next one

abbrev first_update : Transaction
first_update = committed 0 0 1 (finds_nil x ∷ sets x 1 ∷ [])

abbrev second_update : Transaction
second_update = committed 1 2 3 (gets x 1 ∷ sets x 2 ∷ [])

-- One after the other they explain what was seen.
chained_updates-explained : Explains (transactions_of chained_updates) (first_update ∷ second_update ∷ [])
chained_updates-explained =
    record {
      chosen = All-from_recursion (MayStand (transactions_of chained_updates)) (first_update ∷ second_update ∷ []) (
        (Contains_from_in first_update (transactions_of chained_updates) (inl refl), refl),
        ((Contains_from_in second_update (transactions_of chained_updates) (inr (inl refl)), refl), tt),
      );
      all_ok = λ t c _. c;
      different = IsDistinct-from_count nat_eq_equiv (0 ∷ 2 ∷ []) refl;
      realtime = (
        All-from_recursion (λ later. IsFalse (is_ok_before later first_update)) (second_update ∷ []) (refl, tt),
        (All-from_recursion (λ later. IsFalse (is_ok_before later second_update)) [] tt, tt),
      );
      runs = (λ _. (refl, (tt, tt)), (λ _. (refl, (tt, tt)), tt));
    }

-- The other way round the second one stands before one that was over when it began.
chained_updates-other_order : ¬ Explains (transactions_of chained_updates) (second_update ∷ first_update ∷ [])
chained_updates-other_order e =
    false≢true (sym (recursion_from_All (λ later. IsFalse (is_ok_before later second_update)) (first_update ∷ []) e.realtime.0).0)

-- Neither of two ok transactions may be left out.
chained_updates-left_out : ¬ Explains (transactions_of chained_updates) (first_update ∷ [])
chained_updates-left_out e =
    elim (in_from_Contains second_update (first_update ∷ []) (e.all_ok second_update (Contains_from_in second_update (transactions_of chained_updates) (inr (inl refl))) refl)) [
      | inl same ↦ (let n : 0 ≡ 2 = ap (λ (t : Transaction). t.invocation) same in omega (arith, n))
      | inr i ↦ i
    ]

-- None may come twice.
chained_updates-twice : ¬ Explains (transactions_of chained_updates) (first_update ∷ first_update ∷ second_update ∷ [])
chained_updates-twice e = false≢true (sym (IsDistinct-head nat_eq 0 (0 ∷ 2 ∷ []) e.different).0)

-- ---- a write of which nobody knows, and a later read

-- One is never told whether its write was done, and another one reads the value.
abbrev unknown_and_read : List Operation
unknown_and_read =
    invoke 0 (sets x 1 ∷ [])
    ∷ info 0
    ∷ invoke 1 (finds_nil x ∷ [])
    ∷ ok 1 (gets x 1 ∷ [])
    ∷ []

abbrev unknown_one : Transaction
unknown_one = unknown 0 0 1 (sets x 1 ∷ [])

abbrev reader : Transaction
reader = committed 1 2 3 (gets x 1 ∷ [])

-- Where it is chosen, the read is explained.
unknown_and_read-explained : Explains (transactions_of unknown_and_read) (unknown_one ∷ reader ∷ [])
unknown_and_read-explained =
    record {
      chosen = All-from_recursion (MayStand (transactions_of unknown_and_read)) (unknown_one ∷ reader ∷ []) (
        (Contains_from_in unknown_one (transactions_of unknown_and_read) (inl refl), refl),
        ((Contains_from_in reader (transactions_of unknown_and_read) (inr (inl refl)), refl), tt),
      );
      all_ok = λ t c _. c;
      different = IsDistinct-from_count nat_eq_equiv (0 ∷ 2 ∷ []) refl;
      realtime = (
        All-from_recursion (λ later. IsFalse (is_ok_before later unknown_one)) (reader ∷ []) (refl, tt),
        (All-from_recursion (λ later. IsFalse (is_ok_before later reader)) [] tt, tt),
      );
      runs = (λ _. (tt, tt), (λ _. (refl, tt), tt));
    }

-- Where it is left out, the read returned what no register held.
unknown_and_read-left_out : ¬ Explains (transactions_of unknown_and_read) (reader ∷ [])
unknown_and_read-left_out e = none-some (number 1) (e.runs.0 refl).0

-- A failed one may not be chosen.
failed_one-chosen : (ts rest : List Transaction) → ¬ Explains ts (aborted 0 0 1 (sets x 1 ∷ []) ∷ rest)
failed_one-chosen ts rest e =
    false≢true (sym (recursion_from_All (MayStand ts) (aborted 0 0 1 (sets x 1 ∷ []) ∷ rest) e.chosen).0.1)

-- ---- a write, and a later read that misses it

abbrev writer : Transaction
writer = committed 0 0 1 (sets x 1 ∷ [])

abbrev late_reader : Transaction
late_reader = committed 1 2 3 (finds_nil x ∷ [])

abbrev ts : List Transaction
ts = transactions_of stale_read

not_both : writer ≡ late_reader → ⊥
not_both same = let n : 0 ≡ 2 = ap (λ (t : Transaction). t.invocation) same in omega (arith, n)

abbrev invocations : List Transaction → List ℕ
invocations order = map (λ (t : Transaction). t.invocation) order

-- Where the reader stands first, the writer stands behind one that began after it was over.
reader_first : (rest : List Transaction) → In writer rest → KeepsRealtime (late_reader ∷ rest) → ⊥
reader_first rest i realtime =
    false≢true (sym (All-contains (λ later. IsFalse (is_ok_before later late_reader)) rest writer realtime.0 (Contains_from_in writer rest i)))

-- Where the writer stands first, the reader comes next, and finds what was written.
writer_first : (rest : List Transaction) → All (MayStand ts) rest → In late_reader rest → IsDistinct nat_eq (invocations (writer ∷ rest)) → Runs all_nil (writer ∷ rest) → ⊥
writer_first [] chosen i different runs = i
writer_first (b ∷ more) chosen i different runs =
    elim (in_from_Contains b ts (recursion_from_All (MayStand ts) (b ∷ more) chosen).0.0) [
      | inl again ↦ (
          let other : nat_eq 0 b.invocation ≡ false = (IsDistinct-head nat_eq 0 (invocations (b ∷ more)) different).0 in
          false≢true (sym other ∙ ap (λ (t : Transaction). nat_eq 0 t.invocation) (sym again)))
      | inr (inl next) ↦ (
          let r : Runs (after_mops all_nil writer.mops) (late_reader ∷ more) = subst (λ (t : Transaction). Runs (after_mops all_nil writer.mops) (t ∷ more)) (sym next) runs.1 in
          none-some (number 1) (sym (r.0 refl).0))
      | inr (inr none) ↦ none
    ]

one_first : (order : List Transaction) → All (MayStand ts) order → In writer order → In late_reader order → IsDistinct nat_eq (invocations order) → KeepsRealtime order → Runs all_nil order → ⊥
one_first [] chosen w r different realtime runs = w
one_first (a ∷ rest) chosen w r different realtime runs =
    let all = recursion_from_All (MayStand ts) (a ∷ rest) chosen in
    elim (in_from_Contains a ts all.0.0) [
      | inl is_writer ↦ elim r [
        | inl same ↦ not_both (is_writer ∙ same)
        | inr i ↦ writer_first rest (All-from_recursion (MayStand ts) rest all.1) i
            (subst (λ t. IsDistinct nat_eq (invocations (t ∷ rest))) (sym is_writer) different)
            (subst (λ t. Runs all_nil (t ∷ rest)) (sym is_writer) runs)
      ]
      | inr (inl is_reader) ↦ elim w [
        | inl same ↦ not_both (sym (is_reader ∙ same))
        | inr i ↦ reader_first rest i (subst (λ t. KeepsRealtime (t ∷ rest)) (sym is_reader) realtime)
      ]
      | inr (inr none) ↦ none
    ]

-- No order at all explains a stale read.
stale_read-unexplained : (order : List Transaction) → ¬ Explains ts order
stale_read-unexplained order e =
    one_first order e.chosen
    (in_from_Contains writer order (e.all_ok writer (Contains_from_in writer ts (inl refl)) refl))
    (in_from_Contains late_reader order (e.all_ok late_reader (Contains_from_in late_reader ts (inr (inl refl))) refl))
    e.different e.realtime e.runs
