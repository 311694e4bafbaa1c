-- Thinning leaves few edges: no more lead to a transaction than transactions were open at once, and one within a process.
use Rattle.std.proofs.Common.{◌≡◌, ◌⊎◌, inl, inr, ℕ, ◌+◌, ◌<◌, ◌≤◌, List, [], ◌∷◌, length, Bool, true, false, ◌&&◌, ◌==◌, nat_le, nat_lt, cond, if◌then◌else◌, Option, Some, None, map, flat_map, filter, count_by, refl, sym, ◌∙◌, ap, subst, arith}
use Rattle.std.specs.List.{AllByRecursion, list_any}
use Rattle.std.specs.Option.{option_map_or}
use Rattle.std.proofs.lemmas.Bool.{false_from_ne_true, false≢true, and_parts, and_from, cases_Bool, cases_lt, cases_order, eqb-true, eqb-false, eq-eqb, le-leb, leb-true, lt-ltb, ltb-true}
use Rattle.std.proofs.lemmas.List.{length-map}
use Rattle.std.proofs.lemmas.List.Sums.{length-filter}
use Rattle.hist_types.specs.Journal.{is_invoke}
use Rattle.hist_types.specs.Operations.{Operation}
use Rattle.hist_types.specs.Transactions.{Transaction, is_node, nodes, transactions_of, transactions_from, transaction_by, completion_in}
use Rattle.hist_types.specs.Edges.{Label, Edge, edge, between_each, is_ok_before, same_process, order_labels, realtime_label, process}
use Rattle.hist_types.specs.ThinnedOrder.{is_ordered, has_between, thinned_labels, thinned_edges, all_thinned_edges}
use Rattle.history_laws.specs.Paths.{thinned_edges_between}
use Rattle.history_laws.specs.OpenAtOnce.{is_open_at, open_at, greatest, most_open, predecessors}
use Rattle.hist_types.specs.declared.types.Level.{Level}
use Rattle.hist_types.specs.declared.types.Level.TheVariants.{Plain, Process, Realtime}
use Rattle.hist_types.proofs.Members.{In, in_mapped, in_map, in_some, in_filter, in_unless}
use Rattle.history_laws.proofs.ThinningTimes.{AreTimed, AreSequential, timed_from, invocation_by, transactions_timed, transactions_sequential}
use Rattle.history_laws.proofs.ThinningPaths.{any_passes, some_passes, Ordered, ended_before, before_from_ended, ordered_from_label}
use Rattle.history_laws.proofs.ThinningWalks.{one_if, count-cons, count-append, count_yes, count_no, count_none}

-- ---- counts

one_at_most : (b : Bool) → one_if b ≤ 1
one_at_most true = omega arith
one_at_most false = omega arith

pub count_fewer :
    {X : Type 0} (p q : X → Bool) (xs : List X)
    → ((x : X) → In x xs → p x ≡ true → q x ≡ true)
    → count_by p xs ≤ count_by q xs
count_fewer p q [] fewer = omega arith
count_fewer p q (x ∷ xs) fewer =
    let rest = count_fewer p q xs (λ y i. fewer y (inr i)) in
    elim (cases_Bool (p x)) [
      | inl e ↦ omega (arith, rest, count_yes p x xs e, count_yes q x xs (fewer x (inl refl) e))
      | inr e ↦ omega (arith, rest, count_no p x xs e, count-cons q x xs)
    ]

pub count_filtered : {X : Type 0} (p q : X → Bool) (xs : List X) → count_by p (filter q xs) ≤ count_by p xs
count_filtered p q [] = omega arith
count_filtered p q (x ∷ xs) = by (q x) (count_filtered p q xs)
  where
    by :
        (kept : Bool)
        → count_by p (filter q xs) ≤ count_by p xs
        → count_by p (cond kept (x ∷ filter q xs) (filter q xs)) ≤ count_by p (x ∷ xs)
    by true rest = omega (arith, rest, count-cons p x xs, count-cons p x (filter q xs))
    by false rest = omega (arith, rest, count-cons p x xs)

-- what is given for each passes no more often than that passes
count_given :
    {X Y : Type 0} (p : Y → Bool) (f : X → List Y) (q : X → Bool) (xs : List X)
    → ((x : X) → In x xs → count_by p (f x) ≤ one_if (q x))
    → count_by p (flat_map f xs) ≤ count_by q xs
count_given p f q [] each = omega arith
count_given p f q (x ∷ xs) each =
    let here = each x (inl refl) in
    let rest = count_given p f q xs (λ y i. each y (inr i)) in
    omega (arith, here, rest, count-append p (f x) (flat_map f xs), count-cons q x xs)

none_by_members :
    {X : Type 0} (p : X → Bool) (xs : List X)
    → ((x : X) → In x xs → ¬ (p x ≡ true))
    → AllByRecursion (λ x. p x ≡ false) xs
none_by_members p [] none = tt
none_by_members p (x ∷ xs) none = (false_from_ne_true (p x) (none x (inl refl)), none_by_members p xs (λ y i. none y (inr i)))

-- ---- the last to begin

-- v passes, and none that passes begins later
record IsLast (p : Transaction → Bool) (ts : List Transaction) (v : Transaction) : Type 0 where
  member : In v ts
  passes : p v ≡ true
  last : (t : Transaction) → In t ts → p t ≡ true → t.invocation ≤ v.invocation

last_of :
    (p : Transaction → Bool) (ts : List Transaction)
    → ((t : Transaction) → In t ts → ¬ (p t ≡ true)) ⊎ ((v : Transaction) × IsLast p ts v)
last_of p [] = inl (λ t i e. elim i [ ])
last_of p (t ∷ ts) = elim (cases_Bool (p t)) [
  | inr fails ↦ without fails (last_of p ts)
  | inl passes ↦ with_it passes (last_of p ts)
]
  where
    not_both : {A : Type 0} → p t ≡ false → (u : Transaction) → t ≡ u → p u ≡ true → A
    not_both fails u same e = absurd (false≢true (sym fails ∙ (ap p same ∙ e)))

    without :
        p t ≡ false
        → ((u : Transaction) → In u ts → ¬ (p u ≡ true)) ⊎ ((v : Transaction) × IsLast p ts v)
        → ((u : Transaction) → In u (t ∷ ts) → ¬ (p u ≡ true)) ⊎ ((v : Transaction) × IsLast p (t ∷ ts) v)
    without fails (inl none) = inl (λ u i e. elim i [ inl same ↦ not_both fails u same e | inr j ↦ none u j e ])
    without fails (inr found) =
        inr (
          found.0,
          record {
            member = inr found.1.member;
            passes = found.1.passes;
            last = λ u i e. elim i [ inl same ↦ not_both fails u same e | inr j ↦ found.1.last u j e ];
          },
        )

    with_it :
        p t ≡ true
        → ((u : Transaction) → In u ts → ¬ (p u ≡ true)) ⊎ ((v : Transaction) × IsLast p ts v)
        → ((u : Transaction) → In u (t ∷ ts) → ¬ (p u ≡ true)) ⊎ ((v : Transaction) × IsLast p (t ∷ ts) v)
    with_it passes (inl none) =
        inr (
          t,
          record {
            member = inl refl;
            passes = passes;
            last = λ u i e. elim i [
              | inl same ↦ let at : t.invocation ≡ u.invocation = ap (λ (w : Transaction). w.invocation) same in omega arith
              | inr j ↦ absurd (none u j e)
            ];
          },
        )
    with_it passes (inr found) =
        let v : Transaction = found.0 in
        elim (cases_lt t.invocation v.invocation) [
          | inl before ↦ inr (
            v,
            record {
              member = inr found.1.member;
              passes = found.1.passes;
              last = λ u i e. elim i [
                | inl same ↦ let at : t.invocation ≡ u.invocation = ap (λ (w : Transaction). w.invocation) same in omega arith
                | inr j ↦ found.1.last u j e
              ];
            },
          )
          | inr behind ↦ inr (
            t,
            record {
              member = inl refl;
              passes = passes;
              last = λ u i e. elim i [
                | inl same ↦ let at : t.invocation ≡ u.invocation = ap (λ (w : Transaction). w.invocation) same in omega arith
                | inr j ↦ let later : u.invocation ≤ v.invocation = found.1.last u j e in omega arith
              ];
            },
          )
        ]

-- ---- the most that are open

at_most_greatest : (n : ℕ) (ns : List ℕ) → In n ns → n ≤ greatest ns
at_most_greatest n [] i = elim i [ ]
at_most_greatest n (m ∷ ns) (inl same) = omega arith
at_most_greatest n (m ∷ ns) (inr i) = let rest = at_most_greatest n ns i in omega arith

-- begun by then, and open at a later index
open_earlier :
    (t : Transaction) (n index : ℕ)
    → t.invocation ≤ n
    → n ≤ index
    → is_open_at index t ≡ true
    → is_open_at n t ≡ true
open_earlier t n index begun earlier e =
    and_from (nat_le t.invocation n) (option_map_or (λ c. nat_lt n c) t.completion true) (le-leb t.invocation n begun)
    (by t.completion (and_parts (nat_le t.invocation index) (option_map_or (λ c. nat_lt index c) t.completion true) e).1)
  where
    by :
        (completion : Option ℕ)
        → option_map_or (λ c. nat_lt index c) completion true ≡ true
        → option_map_or (λ c. nat_lt n c) completion true ≡ true
    by None e = refl
    by (Some c) e = let later = ltb-true index c e in lt-ltb n c (omega (arith, later))

pub open_at_most : (ts : List Transaction) (index : ℕ) → open_at index ts ≤ most_open ts
open_at_most ts index = by (last_of (is_open_at index) ts)
  where
    by :
        ((t : Transaction) → In t ts → ¬ (is_open_at index t ≡ true)) ⊎ ((v : Transaction) × IsLast (is_open_at index) ts v)
        → open_at index ts ≤ most_open ts
    by (inl none) = let n = count_none (is_open_at index) ts (none_by_members (is_open_at index) ts none) in omega (arith, n)
    by (inr found) =
        let v : Transaction = found.0 in
        let parts = and_parts (nat_le v.invocation index) (option_map_or (λ c. nat_lt index c) v.completion true) found.1.passes in
        let begun = leb-true v.invocation index parts.0 in
        let fewer = count_fewer (is_open_at index) (is_open_at v.invocation) ts (λ t i e. open_earlier t v.invocation index (found.1.last t i e) begun e) in
        let most = at_most_greatest (open_at v.invocation ts) (map (λ (t : Transaction). open_at t.invocation ts) ts) (in_mapped (λ (t : Transaction). open_at t.invocation ts) v ts found.1.member) in
        omega (arith, fewer, most)

-- ---- where thinned edges come from

-- the edges from a transaction to another, by what f gives
abbrev edges_from_to : (Transaction → Transaction → List Label) → Transaction → Transaction → List Edge
edges_from_to f t u = if t.invocation == u.invocation then [] else map (edge t u) (f t u)

abbrev edges_from : (Transaction → Transaction → List Label) → List Transaction → Transaction → List Edge
edges_from f ns t = flat_map (edges_from_to f t) ns

abbrev leads_to : ℕ → Edge → Bool
leads_to to e = e.to == to

-- no two nodes have one invocation
abbrev AreSingle : List Transaction → Type 0
AreSingle ns = (n : ℕ) → count_by (λ (t : Transaction). t.invocation == n) ns ≤ 1

ends_of_edge :
    (f : Transaction → Transaction → List Label) (t u : Transaction) (e : Edge)
    → In e (edges_from_to f t u)
    → (label : Label) × In label (f t u) × (edge t u label ≡ e)
ends_of_edge f t u e i = in_map (edge t u) e (f t u) (in_unless e (t.invocation == u.invocation) (map (edge t u) (f t u)) i).1

-- an edge of t that leads there has a node at its end
record LeadsThere (f : Transaction → Transaction → List Label) (ns : List Transaction) (to : ℕ) (t u : Transaction) (label : Label) : Type 0 where
  member : In u ns
  there : u.invocation ≡ to
  labelled : In label (f t u)

end_of :
    (f : Transaction → Transaction → List Label) (ns : List Transaction) (to : ℕ) (t : Transaction)
    → list_any (leads_to to) (edges_from f ns t) ≡ true
    → (u : Transaction) × (label : Label) × LeadsThere f ns to t u label
end_of f ns to t e =
    let (d, i, leads) = some_passes (leads_to to) (edges_from f ns t) e in
    let (u, member, j) = in_some (edges_from_to f t) d ns i in
    let (label, labelled, is) = ends_of_edge f t u d j in
    (u, label, record { member = member; there = ap (λ (e : Edge). e.to) is ∙ eqb-true d.to to leads; labelled = labelled })

-- where each pair has at most one label, a transaction has at most one edge to another
abbrev HasOneLabel : (Transaction → Transaction → List Label) → Type 0
HasOneLabel f = (t u : Transaction) → length (f t u) ≤ 1

count_within : {X : Type 0} (p : X → Bool) (xs : List X) → count_by p xs ≤ length xs
count_within p [] = omega arith
count_within p (x ∷ xs) = let rest = count_within p xs in let one = one_at_most (p x) in omega (arith, count-cons p x xs)

one_edge_to :
    (f : Transaction → Transaction → List Label) (ns : List Transaction) (to : ℕ) (t : Transaction)
    → HasOneLabel f
    → AreSingle ns
    → count_by (leads_to to) (edges_from f ns t) ≤ 1
one_edge_to f ns to t one single =
    let given = count_given (leads_to to) (edges_from_to f t) (λ (u : Transaction). u.invocation == to) ns each in
    omega (arith, given, single to)
  where
    short : (same : Bool) (u : Transaction) → length (if same then [] else map (edge t u) (f t u)) ≤ 1
    short true u = omega arith
    short false u = let n = length-map (f t u) (edge t u) in omega (arith, n, one t u)

    no_other :
        (u : Transaction)
        → (u.invocation == to) ≡ false
        → (e : Edge)
        → In e (edges_from_to f t u)
        → ¬ (leads_to to e ≡ true)
    no_other u elsewhere e i leads =
        let (label, labelled, is) = ends_of_edge f t u e i in
        eqb-false u.invocation to elsewhere (ap (λ (e : Edge). e.to) is ∙ eqb-true e.to to leads)

    each : (u : Transaction) → In u ns → count_by (leads_to to) (edges_from_to f t u) ≤ one_if (u.invocation == to)
    each u i = elim (cases_Bool (u.invocation == to)) [
      | inl here ↦
          let n : one_if (u.invocation == to) ≡ 1 = ap one_if here in
          omega (arith, n, count_within (leads_to to) (edges_from_to f t u), short (t.invocation == u.invocation) u)
      | inr elsewhere ↦
          let n = count_none (leads_to to) (edges_from_to f t u) (none_by_members (leads_to to) (edges_from_to f t u) (no_other u elsewhere)) in
          omega (arith, n)
    ]

-- no more edges lead there than nodes pass a test that each node with such an edge passes
edges_at_most :
    (f : Transaction → Transaction → List Label) (ns : List Transaction) (to : ℕ) (q : Transaction → Bool)
    → HasOneLabel f
    → AreSingle ns
    → ((t : Transaction) → In t ns → list_any (leads_to to) (edges_from f ns t) ≡ true → q t ≡ true)
    → count_by (leads_to to) (between_each ns f) ≤ count_by q ns
edges_at_most f ns to q one single pass = count_given (leads_to to) (edges_from f ns) q ns each
  where
    each : (t : Transaction) → In t ns → count_by (leads_to to) (edges_from f ns t) ≤ one_if (q t)
    each t i = elim (cases_Bool (list_any (leads_to to) (edges_from f ns t))) [
      | inl some ↦
          let n : one_if (q t) ≡ 1 = ap one_if (pass t i some) in
          omega (arith, n, one_edge_to f ns to t one single)
      | inr none ↦
          let n = count_none (leads_to to) (edges_from f ns t) (none_by_members (leads_to to) (edges_from f ns t) (λ e i leads. false≢true (sym none ∙ any_passes (leads_to to) e (edges_from f ns t) i leads))) in
          omega (arith, n)
    ]

-- ---- no two transactions share an invocation

single_from :
    (index : ℕ) (events : List Operation) (n : ℕ)
    → count_by (λ (t : Transaction). t.invocation == n) (transactions_from index events) ≤ 1
single_from index [] n = omega arith
single_from index (event ∷ events) n = by (is_invoke event.kind) (single_from (index + 1) events n)
  where
    ts : List Transaction
    ts = transactions_from (index + 1) events

    first : Transaction
    first = transaction_by index event (completion_in event.process (index + 1) events)

    no_later : first.invocation ≡ n → (t : Transaction) → In t ts → ¬ ((t.invocation == n) ≡ true)
    no_later at t i e =
        let from : index + 1 ≤ t.invocation = (timed_from (index + 1) events).from t i in
        let same : t.invocation ≡ n = eqb-true t.invocation n e in
        let here : first.invocation ≡ index = invocation_by index event (completion_in event.process (index + 1) events) in
        omega arith

    by :
        (invokes : Bool)
        → count_by (λ (t : Transaction). t.invocation == n) ts ≤ 1
        → count_by (λ (t : Transaction). t.invocation == n) (if invokes then first ∷ ts else ts) ≤ 1
    by false rest = rest
    by true rest = elim (cases_Bool (first.invocation == n)) [
      | inl here ↦
          let at : first.invocation ≡ n = eqb-true first.invocation n here in
          let none = count_none (λ (t : Transaction). t.invocation == n) ts (none_by_members (λ (t : Transaction). t.invocation == n) ts (no_later at)) in
          omega (arith, none, count_yes (λ (t : Transaction). t.invocation == n) first ts here)
      | inr elsewhere ↦ omega (arith, rest, count_no (λ (t : Transaction). t.invocation == n) first ts elsewhere)
    ]

-- ---- what is thinned

one_thinned_label : (level : Level) (ts : List Transaction) → HasOneLabel (thinned_labels level ts)
one_thinned_label level ts t u = left (has_between level ts t u) (one level)
  where
    one_of : (holds : Bool) (ls : List Label) → length ls ≤ 1 → length (if holds then ls else []) ≤ 1
    one_of true ls n = n
    one_of false ls n = omega arith

    one_realtime : (completion : Option ℕ) → length (realtime_label completion u.invocation) ≤ 1
    one_realtime None = omega arith
    one_realtime (Some c) = omega arith

    one : (level : Level) → length (order_labels level t u) ≤ 1
    one Plain = omega arith
    one Process = one_of (is_ok_before t u && same_process t u) (process t.process ∷ []) (omega arith)
    one Realtime = one_of (is_ok_before t u) (realtime_label t.completion u.invocation) (one_realtime t.completion)

    left :
        (between : Bool)
        → length (order_labels level t u) ≤ 1
        → length (if between then [] else order_labels level t u) ≤ 1
    left true n = omega arith
    left false n = n

-- t is ordered before u, and nothing between them
record IsThinned (level : Level) (ts : List Transaction) (t u : Transaction) : Type 0 where
  ordered : Ordered level t u
  alone : (v : Transaction) → In v ts → Ordered level t v → ¬ (Ordered level v u)

thinned_from_label :
    (level : Level) (ts : List Transaction) (t u : Transaction) (label : Label)
    → In label (thinned_labels level ts t u)
    → IsThinned level ts t u
thinned_from_label level ts t u label i =
    let kept = in_unless label (has_between level ts t u) (order_labels level t u) i in
    record {
      ordered = ordered_from_label level t u label kept.1;
      alone = λ v j first second.
          let between = any_passes (λ v. is_ordered level t v && is_ordered level v u) v ts j (and_from (is_ordered level t v) (is_ordered level v u) first second) in
          false≢true (sym kept.0 ∙ between);
    }

-- some of the transactions, in whatever order, and none twice
record AreSome (ts ns : List Transaction) : Type 0 where
  timed : AreTimed ts
  sequential : AreSequential ts
  among : (t : Transaction) → In t ns → In t ts
  single : AreSingle ns

-- a transaction with a thinned edge to one that begins at the number
abbrev has_thinned_to : Level → List Transaction → List Transaction → ℕ → Transaction → Bool
has_thinned_to level ts ns to t = list_any (leads_to to) (edges_from (thinned_labels level ts) ns t)

same_end :
    (level : Level) (v u w : Transaction)
    → w.invocation ≡ u.invocation
    → is_ok_before v w ≡ true
    → is_ok_before v u ≡ true
same_end level v u w same e =
    let (d, before) = ended_before v w e in
    before_from_ended v u d (record { ok = before.ok; ended = before.ended; before = subst (λ n. d < n) same before.before })

still_open :
    (ts ns : List Transaction) (to : ℕ) (t v : Transaction)
    → AreSome ts ns
    → In t ns
    → In v ns
    → t.invocation ≤ v.invocation
    → has_thinned_to Realtime ts ns to t ≡ true
    → has_thinned_to Realtime ts ns to v ≡ true
    → is_open_at v.invocation t ≡ true
still_open ts ns to t v some i j begun e f =
    let (u, label, end) = end_of (thinned_labels Realtime ts) ns to t e in
    let (w, label', end') = end_of (thinned_labels Realtime ts) ns to v f in
    let thinned = thinned_from_label Realtime ts t u label end.labelled in
    let (c, before) = ended_before t u thinned.ordered in
    let second : is_ok_before v u ≡ true = same_end Realtime v u w (end'.there ∙ sym end.there) (thinned_from_label Realtime ts v w label' end'.labelled).ordered in
    let later : v.invocation < c = elim (cases_order c v.invocation) [
      | inl met ↦ absurd (some.sequential.other t v c (some.among t i) (some.among v j) before.ended met)
      | inr apart ↦ elim apart [
        | inl over ↦ absurd (thinned.alone v (some.among v j) (before_from_ended t v c (record { ok = before.ok; ended = before.ended; before = over })) second)
        | inr later ↦ later
      ]
    ] in
    and_from (nat_le t.invocation v.invocation) (option_map_or (λ c. nat_lt v.invocation c) t.completion true) (le-leb t.invocation v.invocation begun)
    (subst (λ o. option_map_or (λ c. nat_lt v.invocation c) o true ≡ true) (sym before.ended) (lt-ltb v.invocation c later))

same_one :
    (ts ns : List Transaction) (to : ℕ) (t v : Transaction)
    → AreSome ts ns
    → In t ns
    → In v ns
    → t.invocation ≤ v.invocation
    → has_thinned_to Process ts ns to t ≡ true
    → has_thinned_to Process ts ns to v ≡ true
    → (t.invocation == v.invocation) ≡ true
same_one ts ns to t v some i j begun e f =
    let (u, label, end) = end_of (thinned_labels Process ts) ns to t e in
    let (w, label', end') = end_of (thinned_labels Process ts) ns to v f in
    let thinned = thinned_from_label Process ts t u label end.labelled in
    let first = and_parts (is_ok_before t u) (same_process t u) thinned.ordered in
    let (c, before) = ended_before t u first.0 in
    let same : w ≡ u = some.timed.apart w u (some.among w end'.member) (some.among u end.member) (end'.there ∙ sym end.there) in
    let ordered : Ordered Process v u = subst (Ordered Process v) same (thinned_from_label Process ts v w label' end'.labelled).ordered in
    let second = and_parts (is_ok_before v u) (same_process v u) ordered in
    let own : t.process ≡ v.process = eqb-true t.process u.process first.1 ∙ sym (eqb-true v.process u.process second.1) in
    elim (cases_lt t.invocation v.invocation) [
      | inl earlier ↦
          let over : c < v.invocation = some.sequential.in_turn t v c (some.among t i) (some.among v j) own earlier before.ended in
          absurd (thinned.alone v (some.among v j) (and_from (is_ok_before t v) (same_process t v) (before_from_ended t v c (record { ok = before.ok; ended = before.ended; before = over })) (eq-eqb t.process v.process own)) ordered)
      | inr at ↦ eq-eqb t.invocation v.invocation (omega arith)
    ]

-- ---- the bounds

few_edges :
    (level : Level) (ts ns : List Transaction) (to most : ℕ) (q : Transaction → Transaction → Bool)
    → AreSome ts ns
    → ((v : Transaction) → In v ns → count_by (q v) ns ≤ most)
    → ((t v : Transaction) → In t ns → In v ns → t.invocation ≤ v.invocation → has_thinned_to level ts ns to t ≡ true → has_thinned_to level ts ns to v ≡ true → q v t ≡ true)
    → length (predecessors to (thinned_edges_between level ts ns)) ≤ most
few_edges level ts ns to most q some bound pass =
    let es : List Edge = thinned_edges_between level ts ns in
    let n = length-map (filter (leads_to to) es) (λ (e : Edge). e.from) in
    let m = length-filter (leads_to to) es in
    omega (arith, n, m, by (last_of (has_thinned_to level ts ns to) ns))
  where
    by :
        ((t : Transaction) → In t ns → ¬ (has_thinned_to level ts ns to t ≡ true)) ⊎ ((v : Transaction) × IsLast (has_thinned_to level ts ns to) ns v)
        → count_by (leads_to to) (thinned_edges_between level ts ns) ≤ most
    by (inl none) =
        let given = edges_at_most (thinned_labels level ts) ns to (λ t. false) (one_thinned_label level ts) some.single (λ t i e. absurd (none t i e)) in
        let nothing = count_none (λ (t : Transaction). false) ns (none_by_members (λ (t : Transaction). false) ns (λ t i e. false≢true e)) in
        omega (arith, given, nothing)
    by (inr found) =
        let v : Transaction = found.0 in
        let given = edges_at_most (thinned_labels level ts) ns to (q v) (one_thinned_label level ts) some.single (λ t i e. pass t v i found.1.member (found.1.last t i e) e found.1.passes) in
        omega (arith, given, bound v found.1.member)

few_realtime :
    (ts ns : List Transaction) (to : ℕ)
    → AreSome ts ns
    → ((p : Transaction → Bool) → count_by p ns ≤ count_by p ts)
    → length (predecessors to (thinned_edges_between Realtime ts ns)) ≤ most_open ts
few_realtime ts ns to some fewer =
    few_edges Realtime ts ns to (most_open ts) (λ v t. is_open_at v.invocation t) some
    (λ v i. omega (arith, fewer (is_open_at v.invocation), open_at_most ts v.invocation)) (λ t v. still_open ts ns to t v some)

one_process :
    (ts ns : List Transaction) (to : ℕ)
    → AreSome ts ns
    → length (predecessors to (thinned_edges_between Process ts ns)) ≤ 1
one_process ts ns to some =
    few_edges Process ts ns to 1 (λ v t. t.invocation == v.invocation) some (λ v i. some.single v.invocation) (λ t v. same_one ts ns to t v some)

all_some : (events : List Operation) → AreSome (transactions_of events) (transactions_of events)
all_some events = record {
  timed = transactions_timed events;
  sequential = transactions_sequential events;
  among = λ t i. i;
  single = single_from 0 events;
}

nodes_some : (events : List Operation) → AreSome (transactions_of events) (nodes (transactions_of events))
nodes_some events =
    let ts : List Transaction = transactions_of events in record {
      timed = transactions_timed events;
      sequential = transactions_sequential events;
      among = λ t i. in_filter (is_node ts) t ts i;
      single = λ n. omega (arith, single_from 0 events n, count_filtered (λ (t : Transaction). t.invocation == n) (is_node ts) ts);
    }

pub few_all :
    (events : List Operation) (to : ℕ)
    → length (predecessors to (all_thinned_edges Realtime (transactions_of events))) ≤ most_open (transactions_of events)
few_all events to = few_realtime (transactions_of events) (transactions_of events) to (all_some events) (λ p. omega arith)

pub few_nodes :
    (events : List Operation) (to : ℕ)
    → length (predecessors to (thinned_edges Realtime (transactions_of events))) ≤ most_open (transactions_of events)
few_nodes events to =
    let ts : List Transaction = transactions_of events in
    few_realtime ts (nodes ts) to (nodes_some events) (λ p. count_filtered p (is_node ts) ts)

pub one_all :
    (events : List Operation) (to : ℕ)
    → length (predecessors to (all_thinned_edges Process (transactions_of events))) ≤ 1
one_all events to = one_process (transactions_of events) (transactions_of events) to (all_some events)

pub one_nodes :
    (events : List Operation) (to : ℕ)
    → length (predecessors to (thinned_edges Process (transactions_of events))) ≤ 1
one_nodes events to = one_process (transactions_of events) (nodes (transactions_of events)) to (nodes_some events)
