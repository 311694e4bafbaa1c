-- Order edges: they are those of all pairs whose second end is a node, and thinned ones are among them.
use Rattle.std.proofs.Common.{◌≡◌, ℕ, List, [], ◌∷◌, Bool, true, false, not, ◌&&◌, ◌==◌, nat_lt, if◌then◌else◌, Option, Some, None, map, flat_map, Contains, refl, sym, ap, subst, inl}
use Rattle.std.specs.Option.{option_map_or}
use Rattle.std.proofs.lemmas.Bool.{false≢true, and_parts, or_left}
use Rattle.hist_types.specs.Transactions.{Transaction, is_ok, is_failed, was_read, is_node, nodes}
use Rattle.hist_types.specs.Edges.{Label, process, realtime, Edge, edge, between_each, is_ok_before, same_process, process_labels, realtime_label, realtime_labels, order_labels, all_order_edges, order_edges}
use Rattle.hist_types.specs.ThinnedOrder.{has_between, thinned_labels, all_thinned_edges, thinned_edges}
use Rattle.history_laws.specs.OrderEdges.{LeavesOne, LeadsToOne, HasRealtimeTwin}
use Rattle.hist_types.specs.declared.types.Level.{Level}
use Rattle.hist_types.specs.declared.types.Level.TheVariants.{Plain, Process, Realtime}
use Rattle.hist_types.proofs.Members.{In, in_from_Contains, Contains_from_in, in_each, in_some, in_mapped, in_map, in_filter, in_filtered, in_unless}

abbrev pub Labels : Type 0
Labels = Transaction → Transaction → List Label

-- ---- what stands between each two transactions

-- an edge with what it comes from: two transactions, not the same, and a label
abbrev pub Comes : List Transaction → Labels → Edge → Type 0
Comes ts f e = (t u : Transaction) × In t ts × In u ts × ((t.invocation == u.invocation) ≡ false) × In e (map (edge t u) (f t u))

different_ends :
    (t u : Transaction) (same : Bool) (e : Edge) (es : List Edge)
    → In e (if same then [] else es)
    → (same ≡ false) × In e es
different_ends t u true e es i = elim i [ ]
different_ends t u false e es i = (refl, i)

pub comes_from : (ts : List Transaction) (f : Labels) (e : Edge) → In e (between_each ts f) → Comes ts f e
comes_from ts f e i =
    let first = in_some (λ (t : Transaction). flat_map (λ (u : Transaction). if t.invocation == u.invocation then [] else map (edge t u) (f t u)) ts) e ts i in
    let t : Transaction = first.0 in
    let second = in_some (λ (u : Transaction). if t.invocation == u.invocation then [] else map (edge t u) (f t u)) e ts first.2 in
    let u : Transaction = second.0 in
    let rest = different_ends t u (t.invocation == u.invocation) e (map (edge t u) (f t u)) second.2 in
    (t, u, first.1, second.1, rest.0, rest.1)

pub goes_to : (ts : List Transaction) (f : Labels) (e : Edge) → Comes ts f e → In e (between_each ts f)
goes_to ts f e c =
    let t : Transaction = c.0 in
    let u : Transaction = c.1 in
    in_each (λ (t : Transaction). flat_map (λ (u : Transaction). if t.invocation == u.invocation then [] else map (edge t u) (f t u)) ts) e t ts c.2
    (in_each (λ (u : Transaction). if t.invocation == u.invocation then [] else map (edge t u) (f t u)) e u ts c.3
    (subst (λ same. In e (if same then [] else map (edge t u) (f t u))) (sym c.4) c.5))

-- fewer transactions and fewer labels give no other edges
between_each-fewer :
    (ts us : List Transaction) (f g : Labels)
    → ((t : Transaction) → In t ts → In t us)
    → ((t u : Transaction) (label : Label) → In label (f t u) → In label (g t u))
    → (e : Edge)
    → In e (between_each ts f)
    → In e (between_each us g)
between_each-fewer ts us f g inside fewer e i =
    let c : Comes ts f e = comes_from ts f e i in
    let found = in_map (edge c.0 c.1) e (f c.0 c.1) c.5 in
    goes_to us g e (
      c.0,
      c.1,
      inside c.0 c.2,
      inside c.1 c.3,
      c.4,
      subst (λ d. In d (map (edge c.0 c.1) (g c.0 c.1))) found.2 (in_mapped (edge c.0 c.1) found.0 (g c.0 c.1) (fewer c.0 c.1 found.0 found.1)),
    )

-- ---- nodes

nodes_inside : (ts : List Transaction) (t : Transaction) → In t (nodes ts) → In t ts
nodes_inside ts t i = in_filter (is_node ts) t ts i

pub order_edges-all : (level : Level) (ts : List Transaction) (e : Edge) → Contains (order_edges level ts) e → Contains (all_order_edges level ts) e
order_edges-all level ts e c =
    Contains_from_in e (all_order_edges level ts)
    (between_each-fewer (nodes ts) ts (order_labels level) (order_labels level) (nodes_inside ts) (λ t u label i. i) e (in_from_Contains e (order_edges level ts) c))

leads : (t u : Transaction) (ls : List Label) (e : Edge) → In e (map (edge t u) ls) → e.to ≡ u.invocation
leads t u ls e i = let found = in_map (edge t u) e ls i in ap (λ (d : Edge). d.to) (sym found.2)

leaves : (t u : Transaction) (ls : List Label) (e : Edge) → In e (map (edge t u) ls) → e.from ≡ t.invocation
leaves t u ls e i = let found = in_map (edge t u) e ls i in ap (λ (d : Edge). d.from) (sym found.2)

pub order_edges-leave : (level : Level) (ts : List Transaction) (e : Edge) → Contains (order_edges level ts) e → LeavesOne (nodes ts) e
order_edges-leave level ts e c =
    let from : Comes (nodes ts) (order_labels level) e = comes_from (nodes ts) (order_labels level) e (in_from_Contains e (order_edges level ts) c) in
    (from.0, Contains_from_in from.0 (nodes ts) from.2, leaves from.0 from.1 (order_labels level from.0 from.1) e from.5)

pub order_edges-lead : (level : Level) (ts : List Transaction) (e : Edge) → Contains (order_edges level ts) e → LeadsToOne (nodes ts) e
order_edges-lead level ts e c =
    let from : Comes (nodes ts) (order_labels level) e = comes_from (nodes ts) (order_labels level) e (in_from_Contains e (order_edges level ts) c) in
    (from.1, Contains_from_in from.1 (nodes ts) from.3, leads from.0 from.1 (order_labels level from.0 from.1) e from.5)

-- ---- thinned edges

pub thinned_edges-order : (level : Level) (ts : List Transaction) (e : Edge) → Contains (thinned_edges level ts) e → Contains (order_edges level ts) e
thinned_edges-order level ts e c =
    Contains_from_in e (order_edges level ts)
    (between_each-fewer (nodes ts) (nodes ts) (thinned_labels level ts) (order_labels level) (λ t i. i)
    (λ t u label i. (in_unless label (has_between level ts t u) (order_labels level t u) i).1) e (in_from_Contains e (thinned_edges level ts) c))

pub all_thinned_edges-order : (level : Level) (ts : List Transaction) (e : Edge) → Contains (all_thinned_edges level ts) e → Contains (all_order_edges level ts) e
all_thinned_edges-order level ts e c =
    Contains_from_in e (all_order_edges level ts)
    (between_each-fewer ts ts (thinned_labels level ts) (order_labels level) (λ t i. i)
    (λ t u label i. (in_unless label (has_between level ts t u) (order_labels level t u) i).1) e (in_from_Contains e (all_thinned_edges level ts) c))

-- ---- first ends are ok, and so are nodes

label_if : (holds : Bool) (ls : List Label) (label : Label) → In label (if holds then ls else []) → holds ≡ true
label_if true ls label i = refl
label_if false ls label i = elim i [ ]

ordered_before : (level : Level) (t u : Transaction) (label : Label) → In label (order_labels level t u) → is_ok_before t u ≡ true
ordered_before Plain t u label i = elim i [ ]
ordered_before Process t u label i =
    (and_parts (is_ok_before t u) (same_process t u) (label_if (is_ok_before t u && same_process t u) (process t.process ∷ []) label i)).0
ordered_before Realtime t u label i = label_if (is_ok_before t u) (realtime_label t.completion u.invocation) label i

completed : (t u : Transaction) → is_ok_before t u ≡ true → option_map_or (λ completion. nat_lt completion u.invocation) t.completion false ≡ true
completed t u e = (and_parts (is_ok t) (option_map_or (λ completion. nat_lt completion u.invocation) t.completion false) e).1

ok_before : (t u : Transaction) → is_ok_before t u ≡ true → is_ok t ≡ true
ok_before t u e = (and_parts (is_ok t) (option_map_or (λ completion. nat_lt completion u.invocation) t.completion false) e).0

ok_is_node : (ts : List Transaction) (t : Transaction) → is_ok t ≡ true → is_node ts t ≡ true
ok_is_node ts t e = or_left (is_ok t) (not (is_failed t) && was_read ts t) e

pub order_edges-between :
    (level : Level) (ts : List Transaction) (t u : Transaction) (label : Label)
    → Contains ts t
    → Contains (nodes ts) u
    → (t.invocation == u.invocation) ≡ false
    → Contains (order_labels level t u) label
    → Contains (order_edges level ts) (edge t u label)
order_edges-between level ts t u label inside node different labelled =
    let i : In label (order_labels level t u) = in_from_Contains label (order_labels level t u) labelled in
    Contains_from_in (edge t u label) (order_edges level ts)
    (goes_to (nodes ts) (order_labels level) (edge t u label) (
      t,
      u,
      in_filtered (is_node ts) t ts (in_from_Contains t ts inside) (ok_is_node ts t (ok_before t u (ordered_before level t u label i))),
      in_from_Contains u (nodes ts) node,
      different,
      in_mapped (edge t u) label (order_labels level t u) i,
    ))

-- ---- a process edge's two transactions stand in real time as well

some_completion : (o : Option ℕ) (f : ℕ → Bool) → option_map_or f o false ≡ true → (c : ℕ) × (o ≡ Some c)
some_completion None f e = elim (false≢true e) [ ]
some_completion (Some c) f e = (c, refl)

realtime_in : (t u : Transaction) (c : ℕ) → is_ok_before t u ≡ true → t.completion ≡ Some c → In (realtime c u.invocation) (realtime_labels t u)
realtime_in t u c before completion =
    subst (λ b. In (realtime c u.invocation) (if b then realtime_label t.completion u.invocation else [])) (sym before)
    (subst (λ o. In (realtime c u.invocation) (realtime_label o u.invocation)) (sym completion) (inl refl))

pub process_edges-realtime : (ts : List Transaction) (e : Edge) → Contains (order_edges Process ts) e → HasRealtimeTwin (order_edges Realtime ts) e
process_edges-realtime ts e contains =
    let c : Comes (nodes ts) (order_labels Process) e = comes_from (nodes ts) (order_labels Process) e (in_from_Contains e (order_edges Process ts) contains) in
    let t : Transaction = c.0 in
    let u : Transaction = c.1 in
    let found = in_map (edge t u) e (process_labels t u) c.5 in
    let before : is_ok_before t u ≡ true = ordered_before Process t u found.0 found.1 in
    let completion = some_completion t.completion (λ completion. nat_lt completion u.invocation) (completed t u before) in
    let twin : In (edge t u (realtime completion.0 u.invocation)) (order_edges Realtime ts) =
    goes_to (nodes ts) (order_labels Realtime) (edge t u (realtime completion.0 u.invocation))
    (t, u, c.2, c.3, c.4, in_mapped (edge t u) (realtime completion.0 u.invocation) (realtime_labels t u) (realtime_in t u completion.0 before completion.1)) in (
      completion.0,
      u.invocation,
      Contains_from_in (record { from = e.from; to = e.to; label = realtime completion.0 u.invocation }) (order_edges Realtime ts)
          (subst (λ (d : Edge). In (record { from = d.from; to = d.to; label = realtime completion.0 u.invocation }) (order_edges Realtime ts)) found.2 twin),
    )
