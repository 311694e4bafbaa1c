-- The edges that leave a transaction, and the lines of all edges, transaction by transaction.
use Rattle.std.proofs.Common.{◌≡◌, ℕ, ◌+◌, ◌<◌, ◌≤◌, List, [], ◌∷◌, ◌++◌, None, length, drop, flat_map, Contains, get_or, sym, ◌∙◌, ap, subst, append_assoc, arith}
use Rattle.std.specs.Prelude.{◌↔◌, unwrap_or}
use Rattle.std.specs.List.Sorted.{IsPermutation, IsSortedBy}
use Rattle.std.specs.Ordering.{is_lt}
use Rattle.std.proofs.lemmas.Grind.{flat_map-append}
use Rattle.std.proofs.lemmas.List.{length-append}
use Rattle.std.proofs.lemmas.Option.{slice_get-get_or}
use Rattle.hist_types.specs.Edges.{Edge, dependency_edges}
use Rattle.hist_types.specs.EdgeOrder.{edge_cmp, in_order}
use Rattle.hist_types.specs.Texts.{line, edge_text, edge_lines}
use Rattle.hist_types.specs.Transactions.{Transaction, Open, transactions_of}
use Rattle.history_laws.proofs.EdgesByTransaction.{sorted_leaving, in_order-by_transaction}
use Rattle.dep_edges.specs.Histories.{AreOfHistory}
use Rattle.hist_types.specs.Lists.{NoneTwice}
use Rattle.hist_types.specs.declared.types.KeyOrder.{KeyOrder}
use Rattle.dep_edges.specs.OutEdges.{AddsEdgesFrom}
use Rattle.dep_edges.specs.Tables.{txn_at}
use Rattle.report_text.specs.Leaving.{edges_leaving}
use Rattle.report_text.proofs.Lists.{drop_item}

-- sorted they are those in order
pub leaving_sorted :
    (keys : KeyOrder) (ts : List Transaction) (t : Transaction) (before added sorted : List Edge)
    → AreOfHistory ts
    → before ≡ []
    → AddsEdgesFrom keys ts t before added
    → IsPermutation added sorted
    → IsSortedBy (λ a b. is_lt (edge_cmp a b)) sorted
    → sorted ≡ edges_leaving keys ts t
leaving_sorted keys ts t before added sorted history empty adds moved up =
    let es : List Edge = adds.0 in
    let here : added ≡ es = adds.1 ∙ ap (λ b. b ++ es) empty in
    let exactly : (us : List Transaction) → ts ≡ us → (e : Edge) → Contains es e ↔ (Contains (dependency_edges keys us) e × (e.from ≡ t.invocation)) =
    λ us same. subst (λ vs. (e : Edge) → Contains es e ↔ (Contains (dependency_edges keys vs) e × (e.from ≡ t.invocation))) same adds.2.exactly in
    subst (λ us. sorted ≡ edges_leaving keys us t) (sym history.2)
    (sorted_leaving keys history.0 t es sorted (exactly (transactions_of history.0) history.2) adds.2.once (subst (λ x. IsPermutation x sorted) here moved) up)

-- all of them, one transaction's after the other's
pub all_leaving : (keys : KeyOrder) (ts : List Transaction) → AreOfHistory ts → flat_map (edges_leaving keys ts) ts ≡ in_order (dependency_edges keys ts)
all_leaving keys ts history =
    subst (λ (us : List Transaction). flat_map (edges_leaving keys us) us ≡ in_order (dependency_edges keys us)) (sym history.2) (in_order-by_transaction keys history.0)

-- ---- lines

lines_append : (es fs : List Edge) → edge_lines (es ++ fs) ≡ edge_lines es ++ edge_lines fs
lines_append es fs = flat_map-append (λ (e : Edge). line (edge_text e)) es fs

a_line_each : (es : List Edge) → length es ≤ length (edge_lines es)
a_line_each [] = omega arith
a_line_each (e ∷ es) =
    omega (arith, length-append (edge_text e ++ 10 ∷ []) (edge_lines es), length-append (edge_text e) (10 ∷ []), a_line_each es)

-- The lines of the edges that leave the transactions before the place are written, and the edges counted.
abbrev pub AreWritten : KeyOrder → List Transaction → ℕ → (start out : List ℕ) → ℕ → Type 0
AreWritten keys ts place start out count =
    (out ++ edge_lines (flat_map (edges_leaving keys ts) (drop place ts)) ≡ start ++ edge_lines (in_order (dependency_edges keys ts)))
    × (count + length (flat_map (edges_leaving keys ts) (drop place ts)) ≡ length (in_order (dependency_edges keys ts)))
    × (count ≤ length out)

pub none_written : (keys : KeyOrder) (ts : List Transaction) (start : List ℕ) → AreOfHistory ts → AreWritten keys ts 0 start start 0
none_written keys ts start history =
    (ap (λ es. start ++ edge_lines es) (all_leaving keys ts history), omega (arith, ap length (all_leaving keys ts history)), omega arith)

at_place : (ts : List Transaction) (place : ℕ) → place < length ts → txn_at ts place ≡ get_or ts place (txn_at ts place)
at_place ts place below =
    ap (λ o. unwrap_or o (record { process = 0; invocation = 0; completion = None; status = Open; mops = [] })) (slice_get-get_or ts place (txn_at ts place) below)

pub more_written :
    (keys : KeyOrder) (ts : List Transaction) (place count : ℕ) (start out more : List ℕ) (leaving : List Edge)
    → place < length ts
    → leaving ≡ edges_leaving keys ts (txn_at ts place)
    → more ≡ out ++ edge_lines leaving
    → AreWritten keys ts place start out count
    → AreWritten keys ts (place + 1) start more (count + length leaving)
more_written keys ts place count start out more leaving below are longer written = (
  ap (λ x. x ++ edge_lines rest) longer ∙ (append_assoc out (edge_lines leaving) (edge_lines rest) ∙ (ap (λ x. out ++ x) (sym (lines_append leaving rest)) ∙ (ap (λ es. out ++ edge_lines es) (sym split) ∙ written.0))),
  omega (arith, written.1, ap length split, length-append leaving rest),
  omega (arith, written.2, ap length longer, length-append out (edge_lines leaving), a_line_each leaving),
)
  where
    rest : List Edge
    rest = flat_map (edges_leaving keys ts) (drop (place + 1) ts)

    split : flat_map (edges_leaving keys ts) (drop place ts) ≡ leaving ++ rest
    split = ap (flat_map (edges_leaving keys ts)) (drop_item ts place (txn_at ts place) below (at_place ts place below)) ∙ ap (λ es. es ++ rest) (sym are)
