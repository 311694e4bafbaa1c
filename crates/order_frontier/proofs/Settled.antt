-- What comes before a transaction in thinned order is settled when it is invoked.
use Rattle.std.proofs.Common.{◌≡◌, inl, inr, ◌↔◌, ℕ, ◌+◌, ◌<◌, ◌≤◌, Bool, true, false, if◌then◌else◌, Option, Some, None, List, [], ◌∷◌, ◌++◌, map, length, take, drop, Contains, refl, ap, sym, subst, ◌∙◌, arith, take-append-drop}
use Rattle.std.proofs.lemmas.List.{length-take-le, take-append-le}
use Rattle.hist_types.proofs.Members.{In, in_front, in_append, in_from_Contains, in_map, in_mapped}
use Rattle.history_laws.proofs.OrderEdges.{Comes, comes_from}
use Rattle.hist_types.specs.Operations.{Operation}
use Rattle.hist_types.specs.Journal.{is_invoke}
use Rattle.hist_types.specs.Transactions.{Transaction, Indexed, completion_in, transaction_by, transactions_from, transactions_of}
use Rattle.hist_types.specs.Edges.{Edge, edge}
use Rattle.hist_types.specs.ThinnedOrder.{thinned_labels, all_thinned_edges}
use Rattle.hist_types.specs.declared.types.Level.{Level}
use Rattle.order_frontier.specs.declared.types.Completed.{Completed}
use Rattle.order_frontier.specs.Events.{state_of}
use Rattle.order_frontier.specs.Predecessors.{Before, edges_to, HasThinned, name_of}
use Rattle.order_frontier.proofs.Seen.{AreSeen, kept_before, thinned_at}
use Rattle.order_frontier.proofs.States.{state-begun}
use Rattle.order_frontier.proofs.Timed.{timed, invoked-before}

-- ---- the names of transactions

name_by : (index : ℕ) (e : Operation) (c : Option Indexed) → name_of (transaction_by index e c) ≡ (e.process, index)
name_by index e None = refl
name_by index e (Some x) = refl

-- the name of the transaction that an event begins
abbrev pub begun_name : Bool → ℕ → Operation → List (ℕ × ℕ)
begun_name invokes index e = if invokes then (e.process, index) ∷ [] else []

names_last : (index : ℕ) (e : Operation) (invokes : Bool) → map name_of (if invokes then transaction_by index e None ∷ [] else []) ≡ begun_name invokes index e
names_last index e true = refl
names_last index e false = refl

names_step : (index : ℕ) (x : Operation) (c c' : Option Indexed) (ts ts' : List Transaction) (more : List (ℕ × ℕ)) (invokes : Bool)
    → map name_of ts' ≡ map name_of ts ++ more
    → map name_of (if invokes then transaction_by index x c' ∷ ts' else ts') ≡ map name_of (if invokes then transaction_by index x c ∷ ts else ts) ++ more
names_step index x c c' ts ts' more true rest =
    ap (λ n. n ∷ map name_of ts') (name_by index x c' ∙ sym (name_by index x c)) ∙ ap (λ ns. name_of (transaction_by index x c) ∷ ns) rest
names_step index x c c' ts ts' more false rest = rest

names_from : (index : ℕ) (es : List Operation) (e : Operation)
    → map name_of (transactions_from index (es ++ e ∷ [])) ≡ map name_of (transactions_from index es) ++ begun_name (is_invoke e.kind) (index + length es) e
names_from index [] e = names_last index e (is_invoke e.kind) ∙ ap (λ n. begun_name (is_invoke e.kind) n e) (omega arith)
names_from index (x ∷ es) e =
    names_step index x (completion_in x.process (index + 1) es) (completion_in x.process (index + 1) (es ++ e ∷ [])) (transactions_from (index + 1) es) (transactions_from (index + 1) (es ++ e ∷ []))
    (begun_name (is_invoke e.kind) (index + 1 + length es) e) (is_invoke x.kind) (names_from (index + 1) es e)
    ∙ ap (λ n. map name_of (transactions_from index (x ∷ es)) ++ begun_name (is_invoke e.kind) n e) (omega arith)

pub names-more : (es : List Operation) (e : Operation) → map name_of (transactions_of (es ++ e ∷ [])) ≡ map name_of (transactions_of es) ++ begun_name (is_invoke e.kind) (length es) e
names-more es e = names_from 0 es e ∙ ap (λ n. map name_of (transactions_of es) ++ begun_name (is_invoke e.kind) n e) (omega arith)

-- a transaction of this name
pub record Named (ts : List Transaction) (name : ℕ × ℕ) : Type 0 where
  pub t : Transaction
  pub member : In t ts
  pub is : name_of t ≡ name

pub named_in : (ts : List Transaction) (name : ℕ × ℕ) → In name (map name_of ts) → Named ts name
named_in ts name i = let found = in_map name_of name ts i in record { t = found.0; member = found.1; is = found.2 }

pub begun_at : (invokes : Bool) (index : ℕ) (e : Operation) (name : ℕ × ℕ) → In name (begun_name invokes index e) → (invokes ≡ true) × (name ≡ (e.process, index))
begun_at true index e name (inl is) = (refl, sym is)
begun_at true index e name (inr i) = elim i [ ]
begun_at false index e name i = elim i [ ]

named_later : (es : List Operation) (e : Operation) (t : Transaction) → In t (transactions_of es) → Named (transactions_of (es ++ e ∷ [])) (name_of t)
named_later es e t i =
    named_in (transactions_of (es ++ e ∷ [])) (name_of t)
    (subst (In (name_of t)) (sym (names-more es e)) (in_front (name_of t) (map name_of (transactions_of es)) (begun_name (is_invoke e.kind) (length es) e) (in_mapped name_of t (transactions_of es) i)))

named_earlier : (es : List Operation) (e : Operation) (t : Transaction) → In t (transactions_of (es ++ e ∷ [])) → t.invocation < length es → Named (transactions_of es) (name_of t)
named_earlier es e t i below =
    elim (in_append (name_of t) (map name_of (transactions_of es)) (begun_name (is_invoke e.kind) (length es) e) (subst (In (name_of t)) (names-more es e) (in_mapped name_of t (transactions_of (es ++ e ∷ [])) i))) [
      | inl before ↦ named_in (transactions_of es) (name_of t) before
      | inr here ↦
          let at : t.invocation ≡ length es = ap (λ (n : ℕ × ℕ). n.1) (begun_at (is_invoke e.kind) (length es) e (name_of t) here).1 in
          absurd (omega (arith, at, below))
    ]

-- ---- thinned order

-- the ok transactions of events that completed before an index
abbrev done_by : List Operation → ℕ → List Completed
done_by es index = (state_of (take index es)).done

settled : (es : List Operation) (u : Transaction) → In u (transactions_of es) → HasThinned (transactions_of es) (kept_before u (done_by es u.invocation))
settled es u i =
    let n = u.invocation in
    let below = invoked-before u 0 es i in
    let long : length (take n es) ≡ n = length-take-le n es (omega (arith, below)) in
    thinned_at (transactions_of es) u (done_by es n) (timed es) i
    (subst (λ k. AreSeen (transactions_of es) k (done_by es n)) long
    (subst (λ all. AreSeen (transactions_of all) (length (take n es)) (done_by es n)) (take-append-drop n es) (state-begun (take n es) (drop n es))))

same_before : (es : List Operation) (e : Operation) (t u : Transaction) → name_of t ≡ name_of u → u.invocation ≤ length es → kept_before t (done_by (es ++ e ∷ []) t.invocation) ≡ kept_before u (done_by es u.invocation)
same_before es e t u same within =
    ap (λ (n : ℕ × ℕ). kept_before (record { process = n.0; invocation = n.1; completion = None; status = u.status; mops = [] }) (done_by (es ++ e ∷ []) n.1)) same
    ∙ ap (λ all. kept_before u (state_of all).done) (take-append-le u.invocation es (e ∷ []) within)

-- the transaction that an edge leads to
into : (ts : List Transaction) (level : Level) (e : Edge) → Contains (all_thinned_edges level ts) e → (u : Transaction) × In u ts × (e.to ≡ u.invocation)
into ts level e c =
    let from : Comes ts (thinned_labels level ts) e = comes_from ts (thinned_labels level ts) e (in_from_Contains e (all_thinned_edges level ts) c) in
    let u : Transaction = from.1 in
    (u, from.3, sym (ap (λ (e : Edge). e.to) (in_map (edge from.0 u) e (thinned_labels level ts from.0 u) from.5).2))

pub edges_stay : (es : List Operation) (e : Operation) (level : Level) (x : Edge) → x.to < length es
    → Contains (all_thinned_edges level (transactions_of es)) x ↔ Contains (all_thinned_edges level (transactions_of (es ++ e ∷ []))) x
edges_stay es e level x below = (
  λ c. (let to = into (transactions_of es) level x c in
      let u : Transaction = to.0 in
      let later = named_later es e u to.1 in
      let is = to.2 in
      let here : Contains (edges_to level (kept_before u (done_by es u.invocation))) x = (settled es u to.1 level x).1 (c, is) in
      ((settled (es ++ e ∷ []) later.t later.member level x).0
      (subst (λ b. Contains (edges_to level b) x) (sym (same_before es e later.t u later.is (omega (arith, is, below)))) here)).0),
  λ c. (let to = into (transactions_of (es ++ e ∷ [])) level x c in
      let t : Transaction = to.0 in
      let is = to.2 in
      let earlier = named_earlier es e t to.1 (omega (arith, is, below)) in
      let at : earlier.t.invocation ≡ t.invocation = ap (λ (n : ℕ × ℕ). n.1) earlier.is in
      let here : Contains (edges_to level (kept_before t (done_by (es ++ e ∷ []) t.invocation))) x = (settled (es ++ e ∷ []) t to.1 level x).1 (c, is) in
      ((settled es earlier.t earlier.member level x).0
      (subst (λ b. Contains (edges_to level b) x) (same_before es e t earlier.t (sym earlier.is) (omega (arith, is, at, below))) here)).0),
)

pub thinned_stays : (es : List Operation) (e : Operation) (b : Before) → b.invocation < length es → HasThinned (transactions_of es) b → HasThinned (transactions_of (es ++ e ∷ [])) b
thinned_stays es e b below thinned level x = (
  λ c. (let both = (thinned level x).0 c in
      let to = both.1 in
      ((edges_stay es e level x (omega (arith, to, below))).0 both.0, to)),
  λ both. (let to = both.1 in
      (thinned level x).1 ((edges_stay es e level x (omega (arith, to, below))).1 both.0, to)),
)
