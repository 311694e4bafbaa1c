-- Order edges are paths of thinned edges, and such paths are order edges between their ends.
use Rattle.std.proofs.Common.{◌≡◌, ◌↔◌, inl, inr, ℕ, zero, suc, ◌+◌, ◌<◌, ◌≤◌, List, [], ◌∷◌, ◌++◌, Bool, true, false, not, ◌&&◌, ◌||◌, ◌==◌, nat_lt, if◌then◌else◌, Option, Some, None, map, flat_map, Contains, refl, sym, ◌∙◌, ap, subst, arith}
use Rattle.std.specs.List.{AllByRecursion, list_any}
use Rattle.std.specs.Option.{option_map_or}
use Rattle.std.proofs.lemmas.Bool.{false≢true, and_parts, and_from, or_cases, or_left, ltb-true, lt-ltb, eqb-true, eqb-false, eq-eqb, ne_eqb, cases_Bool}
use Rattle.std.proofs.lemmas.List.Elements.{All-from_recursion, recursion_from_All, All-weaker, All-contains}
use Rattle.std.proofs.lemmas.Option.{same_Some}
use Rattle.hist_types.specs.Operations.{Operation}
use Rattle.hist_types.specs.Transactions.{Transaction, is_ok, is_failed, was_read, is_node, nodes, transactions_of}
use Rattle.hist_types.specs.Edges.{Label, process, realtime, Edge, edge, between_each, is_ok_before, same_process, realtime_label, order_labels}
use Rattle.hist_types.specs.ThinnedOrder.{is_ordered, has_between, thinned_labels}
use Rattle.hist_types.specs.Phenomena.{Leads}
use Rattle.history_laws.specs.Paths.{IncludesAllOk, order_edges_between, thinned_edges_between, HasEdge, IsPath, HasPath}
use Rattle.hist_types.specs.declared.types.Level.{Level}
use Rattle.hist_types.specs.declared.types.Level.TheVariants.{Plain, Process, Realtime}
use Rattle.hist_types.proofs.Members.{In, in_from_Contains, Contains_from_in, in_each, in_mapped, in_map, in_filter, in_filtered, in_unless}
use Rattle.history_laws.proofs.OrderEdges.{Labels, Comes, comes_from}
use Rattle.history_laws.proofs.ThinningTimes.{AreTimed, transactions_timed}

-- ---- the order of two transactions

pub some_passes : {X : Type 0} (p : X → Bool) (xs : List X) → list_any p xs ≡ true → (x : X) × In x xs × (p x ≡ true)
some_passes p [] e = elim (false≢true e) [ ]
some_passes p (x ∷ xs) e = elim (or_cases (p x) (list_any p xs) e) [
  | inl here ↦ (x, inl refl, here)
  | inr later ↦ let found = some_passes p xs later in (found.0, inr found.1, found.2)
]

pub any_passes : {X : Type 0} (p : X → Bool) (x : X) (xs : List X) → In x xs → p x ≡ true → list_any p xs ≡ true
any_passes p x [] i e = elim i [ ]
any_passes p x (y ∷ xs) (inl same) e = rw (ap p same ∙ e) refl
any_passes p x (y ∷ xs) (inr i) e = or_second (p y) (list_any p xs) (any_passes p x xs i e)
  where
    or_second : (a b : Bool) → b ≡ true → (a || b) ≡ true
    or_second true b e = refl
    or_second false b e = e

abbrev pub Ordered : Level → Transaction → Transaction → Type 0
Ordered level t u = is_ordered level t u ≡ true

pub ordered_in_time : (level : Level) (t u : Transaction) → Ordered level t u → is_ok_before t u ≡ true
ordered_in_time Plain t u e = elim (false≢true e) [ ]
ordered_in_time Process t u e = (and_parts (is_ok_before t u) (same_process t u) e).0
ordered_in_time Realtime t u e = e

-- t completed at c, before u's invocation
pub record EndedBefore (t u : Transaction) (c : ℕ) : Type 0 where
  pub ok : is_ok t ≡ true
  pub ended : t.completion ≡ Some c
  pub before : c < u.invocation

ended_at : (o : Option ℕ) (n : ℕ) → option_map_or (λ c. nat_lt c n) o false ≡ true → (c : ℕ) × (o ≡ Some c) × (c < n)
ended_at None n e = elim (false≢true e) [ ]
ended_at (Some c) n e = (c, refl, ltb-true c n e)

pub ended_before : (t u : Transaction) → is_ok_before t u ≡ true → (c : ℕ) × EndedBefore t u c
ended_before t u e =
    let both = and_parts (is_ok t) (option_map_or (λ c. nat_lt c u.invocation) t.completion false) e in
    let at = ended_at t.completion u.invocation both.1 in
    (at.0, record { ok = both.0; ended = at.1; before = at.2 })

pub before_from_ended : (t u : Transaction) (c : ℕ) → EndedBefore t u c → is_ok_before t u ≡ true
before_from_ended t u c h =
    and_from (is_ok t) (option_map_or (λ c. nat_lt c u.invocation) t.completion false) h.ok
    (ap (λ o. option_map_or (λ c. nat_lt c u.invocation) o false) h.ended ∙ lt-ltb c u.invocation h.before)

-- What t completed before is ordered behind it, also by way of a transaction that takes time.
before_through :
    (t v w u : Transaction)
    → ((c : ℕ) → w.completion ≡ Some c → w.invocation < c)
    → v.invocation ≡ w.invocation
    → is_ok_before t v ≡ true
    → is_ok_before w u ≡ true
    → is_ok_before t u ≡ true
before_through t v w u later same first second =
    let (c, begun) = ended_before t v first in
    let (d, done) = ended_before w u second in
    let takes : w.invocation < d = later d done.ended in
    let n : c < v.invocation = begun.before in
    let m : d < u.invocation = done.before in
    before_from_ended t u c (record { ok = begun.ok; ended = begun.ended; before = omega (arith, same) })

pub ordered_through :
    (level : Level) (t v u : Transaction)
    → ((c : ℕ) → v.completion ≡ Some c → v.invocation < c)
    → Ordered level t v
    → Ordered level v u
    → Ordered level t u
ordered_through Plain t v u later first second = elim (false≢true first) [ ]
ordered_through Realtime t v u later first second = before_through t v v u later refl first second
ordered_through Process t v u later first second =
    let a = and_parts (is_ok_before t v) (same_process t v) first in
    let b = and_parts (is_ok_before v u) (same_process v u) second in
    and_from (is_ok_before t u) (same_process t u) (before_through t v v u later refl a.0 b.0)
    (eq-eqb t.process u.process (eqb-true t.process v.process a.1 ∙ eqb-true v.process u.process b.1))

-- ---- edges

holds_if : (holds : Bool) (ls : List Label) (label : Label) → In label (if holds then ls else []) → holds ≡ true
holds_if true ls label i = refl
holds_if false ls label i = elim i [ ]

pub ordered_from_label :
    (level : Level) (t u : Transaction) (label : Label)
    → In label (order_labels level t u)
    → Ordered level t u
ordered_from_label Plain t u label i = elim i [ ]
ordered_from_label Process t u label i = holds_if (is_ok_before t u && same_process t u) (process t.process ∷ []) label i
ordered_from_label Realtime t u label i = holds_if (is_ok_before t u) (realtime_label t.completion u.invocation) label i

pub label_from_ordered :
    (level : Level) (t u : Transaction)
    → Ordered level t u
    → (label : Label) × In label (order_labels level t u)
label_from_ordered Plain t u e = elim (false≢true e) [ ]
label_from_ordered Process t u e = (process t.process, subst (λ b. In (process t.process) (if b then process t.process ∷ [] else [])) (sym e) (inl refl))
label_from_ordered Realtime t u e =
    let (c, h) = ended_before t u e in (
      realtime c u.invocation,
      subst (λ b. In (realtime c u.invocation) (if b then realtime_label t.completion u.invocation else [])) (sym e)
          (subst (λ o. In (realtime c u.invocation) (realtime_label o u.invocation)) (sym h.ended) (inl refl)),
    )

-- the edge of a label between two different nodes is among those between each two
pub edge_between :
    (ns : List Transaction) (f : Labels) (t u : Transaction) (label : Label)
    → In t ns
    → In u ns
    → ¬ (t.invocation ≡ u.invocation)
    → In label (f t u)
    → In (edge t u label) (between_each ns f)
edge_between ns f t u label i j other labelled =
    in_each (λ (t : Transaction). flat_map (λ (u : Transaction). if t.invocation == u.invocation then [] else map (edge t u) (f t u)) ns) (edge t u label) t ns i
    (in_each (λ (u : Transaction). if t.invocation == u.invocation then [] else map (edge t u) (f t u)) (edge t u label) u ns j
    (subst (λ same. In (edge t u label) (if same then [] else map (edge t u) (f t u))) (sym (ne_eqb t.invocation u.invocation other)) (in_mapped (edge t u) label (f t u) labelled)))

-- an edge with its two ends and its label
pub record Ends (ns : List Transaction) (f : Labels) (e : Edge) (t u : Transaction) (label : Label) : Type 0 where
  pub first : In t ns
  pub second : In u ns
  pub other : ¬ (t.invocation ≡ u.invocation)
  pub is : e ≡ edge t u label
  pub labelled : In label (f t u)

pub ends_of :
    (ns : List Transaction) (f : Labels) (e : Edge)
    → In e (between_each ns f)
    → (t u : Transaction) × (label : Label) × Ends ns f e t u label
ends_of ns f e i =
    let c : Comes ns f e = comes_from ns f e i in
    let found = in_map (edge c.0 c.1) e (f c.0 c.1) c.5 in
    (c.0, c.1, found.0, record { first = c.2; second = c.3; other = eqb-false c.0.invocation c.1.invocation c.4; is = sym found.2; labelled = found.1 })

pub edge_from_ends :
    (ns : List Transaction) (f : Labels) (e : Edge) (t u : Transaction) (label : Label)
    → Ends ns f e t u label
    → In e (between_each ns f)
edge_from_ends ns f e t u label ends =
    subst (λ d. In d (between_each ns f)) (sym ends.is) (edge_between ns f t u label ends.first ends.second ends.other ends.labelled)

pub thinned_in_order :
    (level : Level) (ts ns : List Transaction) (e : Edge)
    → In e (thinned_edges_between level ts ns)
    → In e (order_edges_between level ns)
thinned_in_order level ts ns e i =
    let (t, u, label, ends) = ends_of ns (thinned_labels level ts) e i in
    edge_from_ends ns (order_labels level) e t u label (record {
      first = ends.first;
      second = ends.second;
      other = ends.other;
      is = ends.is;
      labelled = (in_unless label (has_between level ts t u) (order_labels level t u) ends.labelled).1;
    })

-- ---- ways along edges

pub record Way (es : List Edge) (from to : ℕ) (path : List Edge) : Type 0 where
  pub some : ¬ (path ≡ [])
  pub leads : Leads from path to
  pub within : AllByRecursion (λ e. In e es) path

pub leads_on :
    (from mid to : ℕ) (path further : List Edge)
    → Leads from path mid
    → Leads mid further to
    → Leads from (path ++ further) to
leads_on from mid to [] further l m = subst (λ n. Leads n further to) (sym l) m
leads_on from mid to (e ∷ path) further l m = (l.0, leads_on e.to mid to path further l.1 m)

pub all_of_both :
    {X : Type 0} (P : X → Type 0) (xs ys : List X)
    → AllByRecursion P xs
    → AllByRecursion P ys
    → AllByRecursion P (xs ++ ys)
all_of_both P [] ys all further = further
all_of_both P (x ∷ xs) ys all further = (all.0, all_of_both P xs ys all.1 further)

pub not_empty : (path further : List Edge) → ¬ (path ≡ []) → ¬ (path ++ further ≡ [])
not_empty [] further some e = some refl
not_empty (f ∷ path) further some e = cc

pub way_on :
    (es : List Edge) (from mid to : ℕ) (path further : List Edge)
    → Way es from mid path
    → Way es mid to further
    → Way es from to (path ++ further)
way_on es from mid to path further w v = record {
  some = not_empty path further w.some;
  leads = leads_on from mid to path further w.leads v.leads;
  within = all_of_both (λ e. In e es) path further w.within v.within;
}

pub one_edge : (es : List Edge) (e : Edge) → In e es → Way es e.from e.to (e ∷ [])
one_edge es e i = record { some = λ empty. cc; leads = (refl, refl); within = (i, tt) }

pub path_from_way : (es : List Edge) (from to : ℕ) (path : List Edge) → Way es from to path → IsPath es from to path
path_from_way es from to path w = record {
  some = w.some;
  leads = w.leads;
  within =
      All-weaker (λ (e : Edge). In e es) (Contains es) (λ e i. Contains_from_in e es i) path
      (All-from_recursion (λ (e : Edge). In e es) path w.within);
}

pub way_from_path : (es : List Edge) (from to : ℕ) (path : List Edge) → IsPath es from to path → Way es from to path
way_from_path es from to path p = record {
  some = p.some;
  leads = p.leads;
  within =
      recursion_from_All (λ (e : Edge). In e es) path
      (All-weaker (Contains es) (λ (e : Edge). In e es) (λ e c. in_from_Contains e es c) path p.within);
}

-- ---- an order edge is a way of thinned edges

-- nodes of a history in time, as members
pub record AreNodes (ts ns : List Transaction) : Type 0 where
  pub timed : AreTimed ts
  pub among : (t : Transaction) → In t ns → In t ts
  pub ok : (t : Transaction) → In t ts → is_ok t ≡ true → In t ns

thinned_unless :
    (between : Bool) (ls : List Label) (label : Label)
    → between ≡ false
    → In label ls
    → In label (if between then [] else ls)
thinned_unless true ls label e i = elim (false≢true (sym e)) [ ]
thinned_unless false ls label e i = i

-- The number bounds the time from one transaction's completion to the other's invocation.
thinned_way :
    (level : Level) (ts ns : List Transaction) (n : ℕ) (t u : Transaction) (c : ℕ)
    → AreNodes ts ns
    → In t ns
    → In u ns
    → Ordered level t u
    → t.completion ≡ Some c
    → u.invocation ≤ c + n
    → (path : List Edge) × Way (thinned_edges_between level ts ns) t.invocation u.invocation path
thinned_way level ts ns zero t u c nodes i j ordered ended near =
    let before = ended_before t u (ordered_in_time level t u ordered) in
    let at : before.0 ≡ c = same_Some before.0 c (sym before.1.ended ∙ ended) in
    let ends : before.0 < u.invocation = before.1.before in
    let none : ⊥ = omega (arith, at) in
    elim none [ ]
thinned_way level ts ns (suc n) t u c nodes i j ordered ended near =
    elim (cases_Bool (has_between level ts t u)) [
      | inl between ↦
          let found = some_passes (λ v. is_ordered level t v && is_ordered level v u) ts between in
          let v : Transaction = found.0 in
          let both = and_parts (is_ordered level t v) (is_ordered level v u) found.2 in
          let first = ended_before t v (ordered_in_time level t v both.0) in
          let second = ended_before v u (ordered_in_time level v u both.1) in
          let at : first.0 ≡ c = same_Some first.0 c (sym first.1.ended ∙ ended) in
          let takes : v.invocation < second.0 = nodes.timed.later v second.0 found.1 second.1.ended in
          let begins : first.0 < v.invocation = first.1.before in
          let ends : second.0 < u.invocation = second.1.before in
          let k : In v ns = nodes.ok v found.1 second.1.ok in
          let there = thinned_way level ts ns n t v c nodes i k both.0 ended (omega (arith, at)) in
          let further = thinned_way level ts ns n v u second.0 nodes k j both.1 second.1.ended (omega (arith, at)) in
          (there.0 ++ further.0, way_on (thinned_edges_between level ts ns) t.invocation v.invocation u.invocation there.0 further.0 there.1 further.1)
      | inr alone ↦
          let label = label_from_ordered level t u ordered in
          let before = ended_before t u (ordered_in_time level t u ordered) in
          let takes : t.invocation < before.0 = nodes.timed.later t before.0 (nodes.among t i) before.1.ended in
          let ends : before.0 < u.invocation = before.1.before in
          let other : ¬ (t.invocation ≡ u.invocation) = omega arith in
          let e : In (edge t u label.0) (thinned_edges_between level ts ns) =
          edge_between ns (thinned_labels level ts) t u label.0 i j other (thinned_unless (has_between level ts t u) (order_labels level t u) label.0 alone label.1) in
          (edge t u label.0 ∷ [], one_edge (thinned_edges_between level ts ns) (edge t u label.0) e)
    ]

pub thinned_way_of :
    (level : Level) (ts ns : List Transaction)
    → AreNodes ts ns
    → (e : Edge)
    → In e (order_edges_between level ns)
    → (path : List Edge) × Way (thinned_edges_between level ts ns) e.from e.to path
thinned_way_of level ts ns nodes e i =
    let (t, u, label, ends) = ends_of ns (order_labels level) e i in
    let ordered : Ordered level t u = ordered_from_label level t u label ends.labelled in
    let (c, before) = ended_before t u (ordered_in_time level t u ordered) in
    subst (λ (d : Edge). (path : List Edge) × Way (thinned_edges_between level ts ns) d.from d.to path) (sym ends.is)
    (thinned_way level ts ns u.invocation t u c nodes ends.first ends.second ordered before.ended (omega arith))

-- ---- a way of order edges is one order edge

abbrev pub HasOne : List Edge → ℕ → ℕ → Type 0
HasOne es from to = (e : Edge) × In e es × (e.from ≡ from) × (e.to ≡ to)

pub two_in_one :
    (level : Level) (ts ns : List Transaction) (e f : Edge)
    → AreNodes ts ns
    → In e (order_edges_between level ns)
    → In f (order_edges_between level ns)
    → f.from ≡ e.to
    → HasOne (order_edges_between level ns) e.from f.to
two_in_one level ts ns e f nodes i j meet =
    let (t, u, label, ends) = ends_of ns (order_labels level) e i in
    let (v, w, label', ends') = ends_of ns (order_labels level) f j in
    let met : v.invocation ≡ u.invocation = ap (λ (d : Edge). d.from) (sym ends'.is) ∙ meet ∙ ap (λ (d : Edge). d.to) ends.is in
    let same : v ≡ u = nodes.timed.apart v u (nodes.among v ends'.first) (nodes.among u ends.second) met in
    let first : Ordered level t v = subst (Ordered level t) (sym same) (ordered_from_label level t u label ends.labelled) in
    let second : Ordered level v w = ordered_from_label level v w label' ends'.labelled in
    let takes = λ (c : ℕ) (ended : v.completion ≡ Some c). nodes.timed.later v c (nodes.among v ends'.first) ended in
    let ordered : Ordered level t w = ordered_through level t v w takes first second in
    let (c, before) = ended_before t w (ordered_in_time level t w ordered) in
    let begins : t.invocation < c = nodes.timed.later t c (nodes.among t ends.first) before.ended in
    let ended : c < w.invocation = before.before in
    let other : ¬ (t.invocation ≡ w.invocation) = omega arith in
    let (joined, labelled) = label_from_ordered level t w ordered in (
      edge t w joined,
      edge_between ns (order_labels level) t w joined ends.first ends'.second other labelled,
      ap (λ (d : Edge). d.from) (sym ends.is),
      ap (λ (d : Edge). d.to) (sym ends'.is),
    )

all_in_one :
    (level : Level) (ts ns : List Transaction) (e : Edge) (path : List Edge) (to : ℕ)
    → AreNodes ts ns
    → In e (order_edges_between level ns)
    → AllByRecursion (λ f. In f (order_edges_between level ns)) path
    → Leads e.to path to
    → HasOne (order_edges_between level ns) e.from to
all_in_one level ts ns e [] to nodes i all leads = (e, i, refl, leads)
all_in_one level ts ns e (f ∷ path) to nodes i all leads =
    let (g, j, from, end) = all_in_one level ts ns f path to nodes all.0 all.1 leads.1 in
    let (h, k, from', end') = two_in_one level ts ns e g nodes i j (from ∙ leads.0) in
    (h, k, from', end' ∙ end)

pub order_edge_of :
    (level : Level) (ts ns : List Transaction) (from to : ℕ) (path : List Edge)
    → AreNodes ts ns
    → Way (order_edges_between level ns) from to path
    → HasOne (order_edges_between level ns) from to
order_edge_of level ts ns from to [] nodes w = elim (w.some refl) [ ]
order_edge_of level ts ns from to (e ∷ path) nodes w =
    let (g, j, begin, end) = all_in_one level ts ns e path to nodes w.within.0 w.within.1 w.leads.1 in
    (g, j, begin ∙ w.leads.0, end)

-- ---- the law

pub are_nodes :
    (events : List Operation) (ns : List Transaction)
    → IncludesAllOk (transactions_of events) ns
    → AreNodes (transactions_of events) ns
are_nodes events ns included =
    let ts : List Transaction = transactions_of events in record {
      timed = transactions_timed events;
      among = λ t i. in_from_Contains t ts (All-contains (Contains ts) ns t included.among (Contains_from_in t ns i));
      ok = λ t i e. in_from_Contains t ns (included.ok t (Contains_from_in t ts i) e);
    }

all_by_members : {X : Type 0} (P : X → Type 0) (xs : List X) → ((x : X) → In x xs → P x) → AllByRecursion P xs
all_by_members P [] each = tt
all_by_members P (x ∷ xs) each = (each x (inl refl), all_by_members P xs (λ y i. each y (inr i)))

pub nodes_included : (ts : List Transaction) → IncludesAllOk ts (nodes ts)
nodes_included ts = record {
  among =
      All-from_recursion (Contains ts) (nodes ts)
      (all_by_members (Contains ts) (nodes ts) (λ t i. Contains_from_in t ts (in_filter (is_node ts) t ts i)));
  ok = λ t c e.
      Contains_from_in t (nodes ts)
      (in_filtered (is_node ts) t ts (in_from_Contains t ts c) (or_left (is_ok t) (not (is_failed t) && was_read ts t) e));
}

pub all_included : (ts : List Transaction) → IncludesAllOk ts ts
all_included ts = record {
  among = All-from_recursion (Contains ts) ts (all_by_members (Contains ts) ts (λ t i. Contains_from_in t ts i));
  ok = λ t c e. c;
}

pub paths_of_thinned_edges :
    (level : Level) (events : List Operation) (ns : List Transaction)
    → IncludesAllOk (transactions_of events) ns
    → (from to : ℕ)
    → HasEdge (order_edges_between level ns) from to ↔ HasPath (thinned_edges_between level (transactions_of events) ns) from to
paths_of_thinned_edges level events ns included from to =
    let ts : List Transaction = transactions_of events in
    let order : List Edge = order_edges_between level ns in
    let thinned : List Edge = thinned_edges_between level ts ns in
    let are : AreNodes ts ns = are_nodes events ns included in (
      λ h.
          let e : Edge = h.0 in
          let way = thinned_way_of level ts ns are e (in_from_Contains e order h.1) in (
            way.0,
            subst (λ n. IsPath thinned n to way.0) h.2
                (subst (λ n. IsPath thinned e.from n way.0) h.3 (path_from_way thinned e.from e.to way.0 way.1)),
          ),
      λ p.
          let way : Way thinned from to p.0 = way_from_path thinned from to p.0 p.1 in
          let one = order_edge_of level ts ns from to p.0 are (record { some = way.some; leads = way.leads; within = all_in_order level ts ns p.0 way.within }) in
          (one.0, Contains_from_in one.0 order one.1, one.2, one.3),
    )
  where
    all_in_order :
        (level : Level) (ts ns : List Transaction) (path : List Edge)
        → AllByRecursion (λ e. In e (thinned_edges_between level ts ns)) path
        → AllByRecursion (λ e. In e (order_edges_between level ns)) path
    all_in_order level ts ns [] all = tt
    all_in_order level ts ns (e ∷ path) all = (thinned_in_order level ts ns e all.0, all_in_order level ts ns path all.1)
