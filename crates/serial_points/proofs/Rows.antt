-- Worked histories with points, and with none.
use Rattle.std.proofs.Common.{◌≡◌, inl, inr, ℕ, ◌+◌, ◌<◌, ◌≤◌, List, [], ◌∷◌, ◌++◌, ◌∙◌, None, Some, Contains, IsTrue, refl, sym, ap, subst, arith}
use Rattle.std.proofs.lemmas.Option.{same_Some}
use Rattle.hist_types.specs.Operations.{Operation}
use Rattle.hist_types.specs.Journal.{first_broken}
use Rattle.hist_types.specs.Transactions.{Transaction, is_ok, transactions_of, nodes}
use Rattle.hist_types.specs.Edges.{Edge, dependency_edges}
use Rattle.hist_types.specs.declared.types.KeyOrder.TheVariants.{Basic}
use Rattle.hist_types.proofs.Members.{in_from_Contains, Contains_from_in}
use Rattle.hist_types.proofs.Rows.History.{x, sets, gets, finds_nil, invoke, ok, committed, unfinished, wr_edge, rw_nil_edge}
use Rattle.hist_types.proofs.Rows.Realtime.{missed_write}
use Rattle.clean_order.specs.Points.{point_at, ArePoints}
use Rattle.clean_order.proofs.Points.{by_points, point_begun, point_ended, points_rise}
use Rattle.serial_points.specs.NextPoints.{HasMoved, AreNextPoints}

-- ---- a write that is read before it is confirmed

abbrev early_read : List Operation
early_read =
    invoke 0 (sets x 1 ∷ [])
    ∷ invoke 1 (finds_nil x ∷ [])
    ∷ ok 1 (gets x 1 ∷ [])
    ∷ ok 0 (sets x 1 ∷ [])
    ∷ []

abbrev writer : Transaction
writer = committed 0 0 3 (sets x 1 ∷ [])

abbrev reader : Transaction
reader = committed 1 1 2 (gets x 1 ∷ [])

early_read-legal :
    (first_broken [] early_read ≡ None)
    × (nodes (transactions_of early_read) ≡ writer ∷ reader ∷ [])
    × (dependency_edges Basic (transactions_of early_read) ≡ wr_edge 0 1 x 1 ∷ [])
early_read-legal = (refl, refl, refl)

-- The write takes place as the reader is invoked, and the read right after it.
early_read-points : ArePoints Basic (transactions_of early_read) (λ n. point_at 1 + n)
early_read-points = by_points Basic (transactions_of early_read) (λ n. point_at 1 + n) begun ended forward
  where
    begun : (t : Transaction) → Contains (writer ∷ reader ∷ []) t → point_at t.invocation ≤ point_at 1 + t.invocation
    begun t c = elim (in_from_Contains t (writer ∷ reader ∷ []) c) [
      | inl is ↦ subst (λ (u : Transaction). point_at u.invocation ≤ point_at 1 + u.invocation) is (omega arith)
      | inr (inl is) ↦ subst (λ (u : Transaction). point_at u.invocation ≤ point_at 1 + u.invocation) is (omega arith)
      | inr (inr none) ↦ elim none [ ]
    ]

    forward : (e : Edge) → Contains (wr_edge 0 1 x 1 ∷ []) e → point_at 1 + e.from < point_at 1 + e.to
    forward e c = elim (in_from_Contains e (wr_edge 0 1 x 1 ∷ []) c) [
      | inl is ↦ subst (λ (d : Edge). point_at 1 + d.from < point_at 1 + d.to) is (omega arith)
      | inr none ↦ elim none [ ]
    ]

    ended :
        (t : Transaction)
        → Contains (writer ∷ reader ∷ []) t
        → (completion : ℕ)
        → IsTrue (is_ok t)
        → t.completion ≡ Some completion
        → point_at 1 + t.invocation < point_at (completion + 1)
    ended t c completion ok at = elim (in_from_Contains t (writer ∷ reader ∷ []) c) [
      | inl is ↦ (
          let n : 3 ≡ completion = same_Some 3 completion (ap (λ (u : Transaction). u.completion) is ∙ at) in
          let m : t.invocation ≡ 0 = ap (λ (u : Transaction). u.invocation) (sym is) in
          omega (arith, n, m))
      | inr (inl is) ↦ (
          let n : 2 ≡ completion = same_Some 2 completion (ap (λ (u : Transaction). u.completion) is ∙ at) in
          let m : t.invocation ≡ 1 = ap (λ (u : Transaction). u.invocation) (sym is) in
          omega (arith, n, m))
      | inr (inr none) ↦ elim none [ ]
    ]

-- At one point with the write, the read doesn't follow it.
early_read-not_level : ¬ ArePoints Basic (transactions_of early_read) (λ n. point_at 1)
early_read-not_level are =
    let e : Edge = wr_edge 0 1 x 1 in
    let rises : point_at 1 < point_at 1 = points_rise Basic (transactions_of early_read) (λ n. point_at 1) are e (Contains_from_in e (e ∷ []) (inl refl)) in
    omega (arith, rises)

-- The read is over before the writer's completion, so it can't take place after that.
early_read-not_later : ¬ ArePoints Basic (transactions_of early_read) (λ n. point_at 3 + n)
early_read-not_later are =
    let late : point_at 3 + 1 < point_at 3 = point_ended Basic (transactions_of early_read) (λ n. point_at 3 + n) are reader (Contains_from_in reader (writer ∷ reader ∷ []) (inr (inl refl))) 2 refl refl in
    omega (arith, late)

-- ---- a write that is missed

-- The read that misses the write comes before it, but begins only after the write has ended.
missed_write-no_points : (point : ℕ → ℕ) → ¬ ArePoints Basic (transactions_of missed_write) point
missed_write-no_points point are =
    let first : Transaction = committed 0 0 1 (sets x 1 ∷ []) in
    let last : Transaction = committed 2 4 5 (finds_nil x ∷ []) in
    let e : Edge = rw_nil_edge 4 0 x 1 in
    let back : point 4 < point 0 = points_rise Basic (transactions_of missed_write) point are e (Contains_from_in e (e ∷ []) (inl refl)) in
    let over : point 0 < point_at 2 = point_ended Basic (transactions_of missed_write) point are first (Contains_from_in first (nodes (transactions_of missed_write)) (inl refl)) 1 refl refl in
    let begun : point_at 4 ≤ point 4 = point_begun Basic (transactions_of missed_write) point are last (Contains_from_in last (nodes (transactions_of missed_write)) (inr (inr (inl refl)))) in
    omega (arith, back, over, begun)

-- ---- an ok that makes another transaction a node

abbrev before_the_read : List Operation
before_the_read = invoke 0 (sets x 1 ∷ []) ∷ invoke 1 (finds_nil x ∷ []) ∷ []

abbrev after_the_read : List Operation
after_the_read = before_the_read ++ ok 1 (gets x 1 ∷ []) ∷ []

abbrev open_writer : Transaction
open_writer = unfinished 0 0 (sets x 1 ∷ [])

after_the_read-legal :
    (first_broken [] after_the_read ≡ None)
    × (nodes (transactions_of before_the_read) ≡ [])
    × (nodes (transactions_of after_the_read) ≡ open_writer ∷ reader ∷ [])
    × (dependency_edges Basic (transactions_of after_the_read) ≡ wr_edge 0 1 x 1 ∷ [])
after_the_read-legal = (refl, refl, refl, refl)

-- Whoever wrote what is read is looked at too, since it wasn't a node.
writer_moved : (point : ℕ → ℕ) → HasMoved (transactions_of before_the_read) reader point point open_writer
writer_moved point = inr (inl refl)

-- Before the read no point is needed, and after it these are some.
after_the_read-next : AreNextPoints (transactions_of before_the_read) (transactions_of after_the_read) reader (λ n. 0) (λ n. point_at 1 + n)
after_the_read-next = record {
  falls = λ u c other. elim (in_from_Contains u [] c) [ ];
  begun = λ u c moved. begun u c;
  ended = λ completion ok at. let n : 2 ≡ completion = same_Some 2 completion at in omega (arith, n);
  into = λ u c moved e i to. forward e i;
  out = λ e i from. forward e i;
}
  where
    begun : (t : Transaction) → Contains (open_writer ∷ reader ∷ []) t → point_at t.invocation ≤ point_at 1 + t.invocation
    begun t c = elim (in_from_Contains t (open_writer ∷ reader ∷ []) c) [
      | inl is ↦ subst (λ (u : Transaction). point_at u.invocation ≤ point_at 1 + u.invocation) is (omega arith)
      | inr (inl is) ↦ subst (λ (u : Transaction). point_at u.invocation ≤ point_at 1 + u.invocation) is (omega arith)
      | inr (inr none) ↦ elim none [ ]
    ]

    forward : (e : Edge) → Contains (wr_edge 0 1 x 1 ∷ []) e → point_at 1 + e.from < point_at 1 + e.to
    forward e c = elim (in_from_Contains e (wr_edge 0 1 x 1 ∷ []) c) [
      | inl is ↦ subst (λ (d : Edge). point_at 1 + d.from < point_at 1 + d.to) is (omega arith)
      | inr none ↦ elim none [ ]
    ]

-- With both at one point they aren't, as the new edge stays level.
after_the_read-not_level :
    ¬ AreNextPoints (transactions_of before_the_read) (transactions_of after_the_read) reader (λ n. 0) (λ n. point_at 1)
after_the_read-not_level next =
    let e : Edge = wr_edge 0 1 x 1 in
    let rises : point_at 1 < point_at 1 = next.into reader (Contains_from_in reader (open_writer ∷ reader ∷ []) (inr (inl refl))) (inl refl) e (Contains_from_in e (e ∷ []) (inl refl)) refl in
    omega (arith, rises)
