-- Worked histories with schedules, and with none.
use Rattle.std.proofs.Common.{◌≡◌, inl, inr, ◌<◌, ◌≤◌, ◌+◌, ℕ, List, [], ◌∷◌, Some, Contains, IsTrue, refl, ◌∙◌, ap, subst, arith}
use Rattle.std.proofs.lemmas.Option.{same_Some}
use Rattle.hist_types.specs.Edges.{Edge}
use Rattle.hist_types.specs.Transactions.{Transaction, is_ok, transactions_of}
use Rattle.hist_types.specs.declared.types.KeyOrder.TheVariants.{Basic}
use Rattle.hist_types.proofs.Members.{in_from_Contains, Contains_from_in}
use Rattle.hist_types.proofs.Rows.Cycles.{crossed_reads, updates_of_nil, updates_of_nil_walk}
use Rattle.hist_types.proofs.Rows.History.{x, y, sets, finds_nil, committed, wr_edge, rw_nil_edge}
use Rattle.schedules.specs.Cycles.{pivots}
use Rattle.schedules.specs.Schedules.{Schedule, IsKept, Keeps, IsSerial}
use Rattle.schedules.specs.declared.types.TheConstants.EdgeKinds.{ALL, PLAIN}

-- ---- two updates of nil, a lost update

-- Both start after the second invocation, and commit before the first completion.
abbrev side_by_side : Schedule
side_by_side = record { start = λ n. 1; commit = λ n. 2; clock = λ n. n }

abbrev first : Transaction
first = committed 0 0 2 (finds_nil x ∷ sets x 1 ∷ [])

abbrev second : Transaction
second = committed 1 1 3 (finds_nil x ∷ sets x 2 ∷ [])

-- Each edge is there twice, as its version pair is.
abbrev two_rw_edges : List Edge
two_rw_edges =
    rw_nil_edge 0 1 x 2 ∷ rw_nil_edge 0 1 x 2 ∷ rw_nil_edge 1 0 x 1 ∷ rw_nil_edge 1 0 x 1 ∷ []

-- Each starts before the other one commits, as its rw edge wants.
updates_of_nil-schedule : Keeps Basic ALL (transactions_of updates_of_nil) side_by_side
updates_of_nil-schedule = record {
  first = λ n. omega arith;
  dependencies =
      λ e c of. elim (in_from_Contains e two_rw_edges c) [
        | inl is ↦ subst (IsKept side_by_side) is (omega arith)
        | inr (inl is) ↦ subst (IsKept side_by_side) is (omega arith)
        | inr (inr (inl is)) ↦ subst (IsKept side_by_side) is (omega arith)
        | inr (inr (inr (inl is))) ↦ subst (IsKept side_by_side) is (omega arith)
        | inr (inr (inr (inr none))) ↦ elim none [ ]
      ];
  order = λ _. record { clock = λ m n h. h; begun = begun; ended = ended };
}
  where
    begun : (t : Transaction) → Contains (first ∷ second ∷ []) t → t.invocation ≤ 1
    begun t c = elim (in_from_Contains t (first ∷ second ∷ []) c) [
      | inl is ↦ subst (λ (u : Transaction). u.invocation ≤ 1) is (omega arith)
      | inr (inl is) ↦ subst (λ (u : Transaction). u.invocation ≤ 1) is (omega arith)
      | inr (inr none) ↦ elim none [ ]
    ]

    ended :
        (t : Transaction)
        → Contains (first ∷ second ∷ []) t
        → (completion : ℕ)
        → IsTrue (is_ok t)
        → t.completion ≡ Some completion
        → 2 < completion + 1
    ended t c completion ok at = elim (in_from_Contains t (first ∷ second ∷ []) c) [
      | inl is ↦ (
          let same = ap (λ (u : Transaction). u.completion) is ∙ at in
          let n : 2 ≡ completion = same_Some 2 completion same in
          omega (arith, n)
          )
      | inr (inl is) ↦ (
          let same = ap (λ (u : Transaction). u.completion) is ∙ at in
          let n : 3 ≡ completion = same_Some 3 completion same in
          omega (arith, n)
          )
      | inr (inr none) ↦ elim none [ ]
    ]

-- The cycle of the two has a pivot at each.
updates_of_nil-pivots : pivots updates_of_nil_walk ≡ 0 ∷ 1 ∷ []
updates_of_nil-pivots = refl

-- No serial schedule keeps both rw edges.
updates_of_nil-not_serial :
    (s : Schedule)
    → IsSerial s
    → ¬ Keeps Basic PLAIN (transactions_of updates_of_nil) s
updates_of_nil-not_serial s serial keeps =
    let there : Edge = rw_nil_edge 0 1 x 2 in
    let back : Edge = rw_nil_edge 1 0 x 1 in
    let first : s.start 0 < s.commit 1 =
    keeps.dependencies there (Contains_from_in there two_rw_edges (inl refl)) refl in
    let second : s.start 1 < s.commit 0 =
    keeps.dependencies back (Contains_from_in back two_rw_edges (inr (inr (inl refl)))) refl in
    omega (arith, first, second, serial 0, serial 1)

-- ---- two transactions that read each other's writes

-- Where no edge of a cycle is an rw edge, no schedule keeps all.
crossed_reads-no_schedule : (s : Schedule) → ¬ Keeps Basic PLAIN (transactions_of crossed_reads) s
crossed_reads-no_schedule s keeps =
    let there : Edge = wr_edge 0 1 x 1 in
    let back : Edge = wr_edge 1 0 y 1 in
    let es : List Edge = there ∷ back ∷ [] in
    let first : s.commit 0 < s.start 1 =
    keeps.dependencies there (Contains_from_in there es (inl refl)) refl in
    let second : s.commit 1 < s.start 0 =
    keeps.dependencies back (Contains_from_in back es (inr (inl refl))) refl in
    omega (arith, first, second, keeps.first 0, keeps.first 1)
