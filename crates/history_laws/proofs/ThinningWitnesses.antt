-- What is shown has a witness: a way back is made simple, order edges side by side become one, and the walk is turned to begin at
-- its least transaction.
use Rattle.std.proofs.Common.{◌≡◌, ◌↔◌, inl, inr, ℕ, ◌≤◌, List, [], ◌∷◌, ◌++◌, Bool, true, false, not, ◌&&◌, ◌||◌, ◌==◌, nat_eq, nat_le, Contains, count_by, filter, refl, sym, ◌∙◌, ap, subst, arith}
use Rattle.std.specs.List.{AllByRecursion, IsDistinct, list_any, list_all}
use Rattle.std.proofs.lemmas.Bool.{false≢true, and_parts, and_from, or_cases, or_right, or_parts, and_right, cases_Bool, cases_lt, eqb-true, eqb-false, ne_eqb, le-leb, not_from_false, not_from_true}
use Rattle.std.proofs.lemmas.Cmp.{nat_eq_equiv}
use Rattle.std.proofs.lemmas.List.{map-append}
use Rattle.std.proofs.lemmas.List.Sorted.{IsPermutation-append_comm}
use Rattle.std.proofs.lemmas.Map.Keys.{IsDistinct-IsPermutation}
use Rattle.hist_types.specs.Operations.{Operation}
use Rattle.hist_types.specs.Transactions.{Transaction, nodes, transactions_of, installed_by, is_known_to_read, installs}
use Rattle.hist_types.specs.Versions.{VersionPair, version_pairs}
use Rattle.hist_types.specs.Edges.{Label, Edge, dependency_edges, dependency_labels, ww_labels, wr_labels, rw_labels, edges_at, order_edges}
use Rattle.hist_types.specs.Phenomena.{Leads, IsClosedWalk, is_ww_label, is_wr_label, is_rw_label, is_ww, is_wr, is_rw, is_order, makes, Shows, IsThere}
use Rattle.history_laws.specs.Paths.{order_edges_between}
use Rattle.history_laws.specs.Walks.{SameCounts}
use Rattle.history_laws.specs.WaysBack.{is_needed, may_lead_back, LeadsBack}
use Rattle.history_laws.specs.Shown.{HasWitness}
use Rattle.hist_types.specs.Witness.{stations, alternates, ends_in_order, IsWitness, dependencies_in}
use Rattle.hist_types.specs.declared.types.Level.{Level}
use Rattle.hist_types.specs.declared.types.Phenomenon.{Phenomenon}
use Rattle.hist_types.specs.declared.types.Phenomenon.TheVariants.{G0, G1c, GSingle, G2Item}
use Rattle.hist_types.specs.declared.types.KeyOrder.{KeyOrder}
use Rattle.hist_types.proofs.Members.{In, in_from_Contains, in_front, in_back, in_append, in_map}
use Rattle.history_laws.proofs.ThinningPaths.{are_nodes, nodes_included, ends_of, two_in_one, leads_on, all_of_both}
use Rattle.history_laws.proofs.ThinningWalks.{Uncounted, uncounted_edge, within_in, within_contains, closed_from, count-cons, count-append, count_no, makes_alike}
use Rattle.history_laws.proofs.ThinningCycles.{closing_makes, closed_is_led, all_apart, turned_to_one}

-- ---- a way without turns

-- the number is none of the stations
abbrev pub IsOff : ℕ → List ℕ → Type 0
IsOff n ns = AllByRecursion (λ m. nat_eq n m ≡ false) ns

pub off_from_none : (n : ℕ) (ns : List ℕ) → list_any (nat_eq n) ns ≡ false → IsOff n ns
off_from_none n [] none = tt
off_from_none n (m ∷ ns) none = let parts = or_parts (nat_eq n m) (list_any (nat_eq n) ns) none in (parts.0, off_from_none n ns parts.1)

-- From one transaction to another, along edges of the list that all pass: no station twice, the last one none of them, and no
-- two order edges side by side.
pub record IsSimple (es : List Edge) (p : Edge → Bool) (from to : ℕ) (walk : List Edge) : Type 0 where
  pub leads : Leads from walk to
  pub within : AllByRecursion (λ e. In e es) walk
  pub passes : AllByRecursion (λ e. p e ≡ true) walk
  pub different : IsDistinct nat_eq (stations walk)
  pub off_end : IsOff to (stations walk)
  pub apart : alternates false walk ≡ true

-- Two edges side by side may be one order edge: what is asked of the edges and of the test.
abbrev Joins : List Edge → (Edge → Bool) → Type 0
Joins es p = (e f : Edge) → In e es → In f es → is_order e ≡ true → is_order f ≡ true → f.from ≡ e.to → (d : Edge) × In d es × (d.from ≡ e.from) × (d.to ≡ f.to) × (is_order d ≡ true) × (p d ≡ true)

-- the walk has no more dependency edges than the other
abbrev HasNoMore : (walk other : List Edge) → Type 0
HasNoMore walk other = dependencies_in walk ≤ dependencies_in other

abbrev pub is_dependency : Edge → Bool
is_dependency e = not (is_order e)

pub alternates_less : (after : Bool) (walk : List Edge) → alternates after walk ≡ true → alternates false walk ≡ true
alternates_less after [] e = refl
alternates_less after (f ∷ walk) e = (and_parts (not (after && is_order f)) (alternates (is_order f) walk) e).1

none_here : (es : List Edge) (p : Edge → Bool) (from to : ℕ) → from ≡ to → IsSimple es p from to []
unfolding IsDistinct
none_here es p from to e = record { leads = e; within = tt; passes = tt; different = tt; off_end = tt; apart = refl }

-- the part of a simple way from one of its stations on
from_station :
    (es : List Edge) (p : Edge → Bool) (a from to : ℕ) (walk : List Edge)
    → IsSimple es p from to walk
    → list_any (nat_eq a) (stations walk) ≡ true
    → (rest : List Edge) × IsSimple es p a to rest × HasNoMore rest walk
unfolding IsDistinct
from_station es p a from to [] s on = elim (false≢true on) [ ]
from_station es p a from to (e ∷ walk) s on =
    elim (or_cases (a == e.from) (list_any (nat_eq a) (stations walk)) on) [
      | inl here ↦ (
        e ∷ walk,
        record {
          leads = (sym (eqb-true a e.from here), s.leads.1);
          within = s.within;
          passes = s.passes;
          different = s.different;
          off_end = s.off_end;
          apart = s.apart;
        },
        omega arith,
      )
      | inr later ↦
          let (rest, simple, few) = from_station es p a e.to to walk (record {
            leads = s.leads.1;
            within = s.within.1;
            passes = s.passes.1;
            different = s.different.1;
            off_end = s.off_end.1;
            apart = alternates_less (is_order e) walk (and_parts (not (false && is_order e)) (alternates (is_order e) walk) s.apart).1;
          }) later in
          (rest, simple, omega (arith, few, count-cons is_dependency e walk))
    ]

-- one edge in front, where its first end is new
one_more :
    (es : List Edge) (p : Edge → Bool) (e : Edge) (to : ℕ) (walk : List Edge)
    → Joins es p
    → In e es
    → p e ≡ true
    → ¬ (e.from ≡ to)
    → IsOff e.from (stations walk)
    → IsSimple es p e.to to walk
    → (longer : List Edge) × IsSimple es p e.from to longer × HasNoMore longer (e ∷ walk)
unfolding IsDistinct
one_more es p e to [] joins i pass other off s = (
  e ∷ [],
  record {
    leads = (refl, s.leads);
    within = (i, tt);
    passes = (pass, tt);
    different = (tt, tt);
    off_end = (ne_eqb to e.from (λ same. other (sym same)), tt);
    apart = refl;
  },
  omega arith,
)
one_more es p e to (f ∷ walk) joins i pass other off s = elim (cases_Bool (is_order e && is_order f)) [
  | inl both ↦
      let orders = and_parts (is_order e) (is_order f) both in
      let (d, j, from, end, order, passes) = joins e f i s.within.0 orders.0 orders.1 s.leads.0 in
      let away : IsOff d.from (stations walk) = subst (λ n. IsOff n (stations walk)) (sym from) off.1 in
      let apart : alternates (is_order d) walk ≡ true = subst (λ b. alternates b walk ≡ true) (orders.1 ∙ sym order) s.apart in (
        d ∷ walk,
        record {
          leads = (from, subst (λ n. Leads n walk to) (sym end) s.leads.1);
          within = (j, s.within.1);
          passes = (passes, s.passes.1);
          different = (away, s.different.1);
          off_end = (ne_eqb to d.from (λ same. other (sym (same ∙ from))), s.off_end.1);
          apart = apart;
        },
        omega (arith, count_no is_dependency d walk (ap not order), count-cons is_dependency e (f ∷ walk), count-cons is_dependency f walk),
      )
  | inr apart ↦ (
    e ∷ f ∷ walk,
    record {
      leads = (refl, s.leads);
      within = (i, s.within);
      passes = (pass, s.passes);
      different = (off, s.different);
      off_end = (ne_eqb to e.from (λ same. other (sym same)), s.off_end);
      apart = and_from (not (is_order e && is_order f)) (alternates (is_order f) walk) (not_from_false (is_order e && is_order f) apart) s.apart;
    },
    omega arith,
  )
]

simple_way :
    (es : List Edge) (p : Edge → Bool) (from to : ℕ) (walk : List Edge)
    → Joins es p
    → Leads from walk to
    → AllByRecursion (λ e. In e es) walk
    → AllByRecursion (λ e. p e ≡ true) walk
    → (simple : List Edge) × IsSimple es p from to simple × HasNoMore simple walk
simple_way es p from to [] joins leads within passes = ([], none_here es p from to leads, omega arith)
simple_way es p from to (e ∷ walk) joins leads within passes =
    subst (λ n. (simple : List Edge) × IsSimple es p n to simple × HasNoMore simple (e ∷ walk)) leads.0 (by (simple_way es p e.to to walk joins leads.1 within.1 passes.1))
  where
    by : (rest : List Edge) × IsSimple es p e.to to rest × HasNoMore rest walk → (simple : List Edge) × IsSimple es p e.from to simple × HasNoMore simple (e ∷ walk)
    by (rest, simple, few) = elim (cases_Bool (e.from == to)) [
      | inl there ↦ ([], none_here es p e.from to (eqb-true e.from to there), omega arith)
      | inr further ↦ elim (cases_Bool (list_any (nat_eq e.from) (stations rest))) [
        | inl again ↦
            let (part, is, fewer) = from_station es p e.from e.to to rest simple again in
            (part, is, omega (arith, few, fewer, count-cons is_dependency e walk))
        | inr fresh ↦
            let (longer, is, fewer) = one_more es p e to rest joins within.0 passes.0 (eqb-false e.from to further) (off_from_none e.from (stations rest) fresh) simple in
            (longer, is, omega (arith, few, fewer, count-cons is_dependency e walk, count-cons is_dependency e rest))
      ]
    ]

-- ---- which edges are order edges

abbrev IsDependency : Label → Type 0
IsDependency l = not (is_ww_label l || is_wr_label l || is_rw_label l) ≡ false

dependency_label :
    (pairs : List VersionPair) (t u : Transaction) (label : Label)
    → In label (dependency_labels pairs t u)
    → IsDependency label
dependency_label pairs t u label i = elim (in_append label (ww_labels pairs t u ++ wr_labels t u) (rw_labels pairs t u) i) [
  | inl j ↦ elim (in_append label (ww_labels pairs t u) (wr_labels t u) j) [
    | inl k ↦
        let found = in_map (λ (p : VersionPair). Label.ww p.earlier p.later) label (filter (λ p. installs t p.earlier && installs u p.later) pairs) k in
        subst IsDependency found.2 refl
    | inr k ↦
        let found = in_map Label.wr label (filter (is_known_to_read u) (installed_by t)) k in
        subst IsDependency found.2 refl
  ]
  | inr j ↦
      let found = in_map (λ (p : VersionPair). Label.rw p.earlier p.later) label (filter (λ p. is_known_to_read t p.earlier && installs u p.later) pairs) j in
      subst IsDependency found.2 refl
]

pub dependency_edge : (keys : KeyOrder) (ts : List Transaction) (e : Edge) → In e (dependency_edges keys ts) → is_order e ≡ false
dependency_edge keys ts e i =
    let (t, u, label, ends) = ends_of (nodes ts) (dependency_labels (version_pairs keys ts)) e i in
    subst (λ (d : Edge). is_order d ≡ false) (sym ends.is) (dependency_label (version_pairs keys ts) t u label ends.labelled)

pub order_edge :
    (keys : KeyOrder) (level : Level) (ts : List Transaction) (e : Edge)
    → In e (edges_at keys level ts)
    → is_order e ≡ true
    → In e (order_edges_between level (nodes ts))
order_edge keys level ts e i order = elim (in_append e (dependency_edges keys ts) (order_edges level ts) i) [
  | inl j ↦ absurd (false≢true (sym (dependency_edge keys ts e j) ∙ order))
  | inr j ↦ j
]

pub none_of_three : (a b c : Bool) → a ≡ false → b ≡ false → c ≡ false → not (a || b || c) ≡ true
none_of_three true b c e f g = absurd (false≢true (sym e))
none_of_three false true c e f g = absurd (false≢true (sym f))
none_of_three false false c e f g = not_from_false c g

third_holds : (a b c : Bool) → c ≡ true → (a || b || c) ≡ true
third_holds true b c e = refl
third_holds false true c e = refl
third_holds false false c e = e

pub order_may :
    (phenomenon : Phenomenon) (e : Edge)
    → is_order e ≡ true
    → is_rw e ≡ false
    → may_lead_back phenomenon e ≡ true
order_may G0 e order no_rw = or_right (is_ww e) (is_order e) order
order_may G1c e order no_rw = third_holds (is_ww e) (is_wr e) (is_order e) order
order_may GSingle e order no_rw = not_from_false (is_rw e) no_rw
order_may G2Item e order no_rw = refl

edges_join :
    (keys : KeyOrder) (phenomenon : Phenomenon) (level : Level) (events : List Operation)
    → Joins (edges_at keys level (transactions_of events)) (may_lead_back phenomenon)
edges_join keys phenomenon level events e f i j order order' meet =
    let ts : List Transaction = transactions_of events in
    let (d, k, from, end) = two_in_one level ts (nodes ts) e f (are_nodes events (nodes ts) (nodes_included ts)) (order_edge keys level ts e i order) (order_edge keys level ts f j order') meet in
    let u : Uncounted d.label = uncounted_edge level (nodes ts) d k in
    let is : is_order d ≡ true = none_of_three (is_ww d) (is_wr d) (is_rw d) u.no_ww u.no_wr u.no_rw in
    (d, in_back d (dependency_edges keys ts) (order_edges level ts) k, from, end, is, order_may phenomenon d is u.no_rw)

-- ---- round walks

-- what a witness is but for where it begins
pub record IsRound (phenomenon : Phenomenon) (es walk : List Edge) : Type 0 where
  pub closed : IsClosedWalk walk
  pub within : AllByRecursion (λ e. In e es) walk
  pub kinds : makes phenomenon walk ≡ true
  pub different : IsDistinct nat_eq (stations walk)
  pub apart : alternates (ends_in_order walk) walk ≡ true

pub needed_dependency : (phenomenon : Phenomenon) (e : Edge) → is_needed phenomenon e ≡ true → is_order e ≡ false
needed_dependency G0 e is = by (is_ww e) (is_wr e) (is_rw e) is
  where
    by : (a b c : Bool) → a ≡ true → not (a || b || c) ≡ false
    by true b c e = refl
    by false b c e = absurd (false≢true e)
needed_dependency G1c e is = by (is_ww e) (is_wr e) (is_rw e) is
  where
    by : (a b c : Bool) → b ≡ true → not (a || b || c) ≡ false
    by true b c e = refl
    by false true c e = refl
    by false false c e = absurd (false≢true e)
needed_dependency GSingle e is = not_from_true (is_ww e || is_wr e || is_rw e) (third_holds (is_ww e) (is_wr e) (is_rw e) is)
needed_dependency G2Item e is = not_from_true (is_ww e || is_wr e || is_rw e) (third_holds (is_ww e) (is_wr e) (is_rw e) is)

pub passes_list : (p : Edge → Bool) (walk : List Edge) → list_all p walk ≡ true → AllByRecursion (λ e. p e ≡ true) walk
passes_list p [] e = tt
passes_list p (d ∷ walk) e = let both = and_parts (p d) (list_all p walk) e in (both.0, passes_list p walk both.1)

list_passes : (p : Edge → Bool) (walk : List Edge) → AllByRecursion (λ e. p e ≡ true) walk → list_all p walk ≡ true
list_passes p [] all = refl
list_passes p (d ∷ walk) all = and_from (p d) (list_all p walk) all.0 (list_passes p walk all.1)

-- an edge of the needed kind, with a simple way back along edges that may lead back
pub round_of_simple :
    (phenomenon : Phenomenon) (es : List Edge) (e : Edge) (walk : List Edge)
    → In e es
    → is_needed phenomenon e ≡ true
    → IsSimple es (may_lead_back phenomenon) e.to e.from walk
    → IsRound phenomenon es (e ∷ walk)
unfolding IsDistinct
round_of_simple phenomenon es e walk i needed s =
    let itself : is_order e ≡ false = needed_dependency phenomenon e needed in
    let last : Bool = ends_in_order (e ∷ walk) in record {
      closed = s.leads;
      within = (i, s.within);
      kinds = closing_makes phenomenon e walk needed (list_passes (may_lead_back phenomenon) walk s.passes);
      different = (s.off_end, s.different);
      apart = and_from (not (last && is_order e)) (alternates (is_order e) walk) (not_from_false (last && is_order e) (and_right last (is_order e) itself)) (subst (λ b. alternates b walk ≡ true) (sym itself) s.apart);
    }

round_walk :
    (keys : KeyOrder) (phenomenon : Phenomenon) (level : Level) (events : List Operation) (e : Edge) (back : List Edge)
    → Contains (edges_at keys level (transactions_of events)) e
    → is_needed phenomenon e ≡ true
    → LeadsBack phenomenon (edges_at keys level (transactions_of events)) e back
    → (walk : List Edge) × IsRound phenomenon (edges_at keys level (transactions_of events)) walk × HasNoMore walk (e ∷ back)
round_walk keys phenomenon level events e back among needed leads =
    let es : List Edge = edges_at keys level (transactions_of events) in
    let (walk, s, few) = simple_way es (may_lead_back phenomenon) e.to e.from back (edges_join keys phenomenon level events) leads.leads (within_in es back leads.within) (passes_list (may_lead_back phenomenon) back leads.kinds) in (
      e ∷ walk,
      round_of_simple phenomenon es e walk (in_from_Contains e es among) needed s,
      omega (arith, few, count-cons is_dependency e walk, count-cons is_dependency e back),
    )

-- ---- turned to begin at the least

-- whether the last edge is an order edge, or what was before them where there is none
abbrev pub after : Bool → List Edge → Bool
after before [] = before
after before (e ∷ walk) = after (is_order e) walk

pub after-append :
    (before : Bool) (front back : List Edge)
    → after before (front ++ back) ≡ after (after before front) back
after-append before [] back = refl
after-append before (e ∷ front) back = after-append (is_order e) front back

pub ends_after : (e : Edge) (walk : List Edge) → ends_in_order (e ∷ walk) ≡ after (is_order e) walk
ends_after e [] = refl
ends_after e (f ∷ walk) = ends_after f walk

ends_after_both :
    (front : List Edge) (e : Edge) (back : List Edge)
    → ends_in_order (front ++ e ∷ back) ≡ after (is_order e) back
ends_after_both [] e back = ends_after e back
ends_after_both (d ∷ front) e back = ends_after d (front ++ e ∷ back) ∙ after-append (is_order d) front (e ∷ back)

pub alternate_apart :
    (before : Bool) (front back : List Edge)
    → alternates before (front ++ back) ≡ true
    → (alternates before front ≡ true) × (alternates (after before front) back ≡ true)
alternate_apart before [] back e = (refl, e)
alternate_apart before (d ∷ front) back e =
    let parts = and_parts (not (before && is_order d)) (alternates (is_order d) (front ++ back)) e in
    let rest = alternate_apart (is_order d) front back parts.1 in
    (and_from (not (before && is_order d)) (alternates (is_order d) front) parts.0 rest.0, rest.1)

pub alternate_both :
    (before : Bool) (front back : List Edge)
    → alternates before front ≡ true
    → alternates (after before front) back ≡ true
    → alternates before (front ++ back) ≡ true
alternate_both before [] back e f = f
alternate_both before (d ∷ front) back e f =
    let parts = and_parts (not (before && is_order d)) (alternates (is_order d) front) e in
    and_from (not (before && is_order d)) (alternates (is_order d) (front ++ back)) parts.0 (alternate_both (is_order d) front back parts.1 f)

alternate_turned :
    (front : List Edge) (e : Edge) (back : List Edge)
    → alternates (ends_in_order (front ++ e ∷ back)) (front ++ e ∷ back) ≡ true
    → alternates (ends_in_order (e ∷ back ++ front)) (e ∷ back ++ front) ≡ true
alternate_turned front e back given =
    let b : Bool = after (is_order e) back in
    let parts = alternate_apart b front (e ∷ back) (subst (λ x. alternates x (front ++ e ∷ back) ≡ true) (ends_after_both front e back) given) in
    let c : Bool = after b front in
    let ends : ends_in_order (e ∷ back ++ front) ≡ c = ends_after e (back ++ front) ∙ after-append (is_order e) back front in
    subst (λ x. alternates x (e ∷ back ++ front) ≡ true) (sym ends) (alternate_both c (e ∷ back) front parts.1 parts.0)

pub leads_parts :
    (from to : ℕ) (front back : List Edge)
    → Leads from (front ++ back) to
    → (mid : ℕ) × Leads from front mid × Leads mid back to
leads_parts from to [] back l = (from, refl, l)
leads_parts from to (e ∷ front) back l =
    let rest = leads_parts e.to to front back l.1 in
    (rest.0, (l.0, rest.1), rest.2)

counts_turned : (p : Edge → Bool) (front back : List Edge) → count_by p (front ++ back) ≡ count_by p (back ++ front)
counts_turned p front back = omega (arith, count-append p front back, count-append p back front)

pub stations-append : (front back : List Edge) → stations (front ++ back) ≡ stations front ++ stations back
stations-append front back = map-append (λ (e : Edge). e.from) front back

pub turned_round :
    (phenomenon : Phenomenon) (es front : List Edge) (e : Edge) (back : List Edge)
    → IsRound phenomenon es (front ++ e ∷ back)
    → IsRound phenomenon es (e ∷ back ++ front)
turned_round phenomenon es front e back r =
    let (from, round) = closed_is_led (front ++ e ∷ back) r.closed in
    let (mid, first, second) = leads_parts from from front (e ∷ back) round in
    let within = all_apart (λ (d : Edge). In d es) front (e ∷ back) r.within in
    let same : SameCounts (front ++ e ∷ back) (e ∷ back ++ front) = record {
      ww = counts_turned is_ww front (e ∷ back);
      wr = counts_turned is_wr front (e ∷ back);
      rw = counts_turned is_rw front (e ∷ back);
    } in
    let different = IsDistinct-IsPermutation nat_eq nat_eq_equiv.symm (stations front ++ stations (e ∷ back)) (stations (e ∷ back) ++ stations front) (IsPermutation-append_comm (stations front) (stations (e ∷ back)))
    (subst (IsDistinct nat_eq) (stations-append front (e ∷ back)) r.different) in
    record {
      closed = closed_from mid (e ∷ back ++ front) (λ empty. cc) (leads_on mid from mid (e ∷ back) front second first);
      within = all_of_both (λ (d : Edge). In d es) (e ∷ back) front within.1 within.0;
      kinds = makes_alike phenomenon (front ++ e ∷ back) (e ∷ back ++ front) same r.kinds;
      different = subst (IsDistinct nat_eq) (sym (stations-append (e ∷ back) front)) different;
      apart = alternate_turned front e back r.apart;
    }

-- the edge begins no later than any
record IsLeastOf (walk front : List Edge) (e : Edge) (back : List Edge) : Type 0 where
  is : walk ≡ front ++ e ∷ back
  least : (d : Edge) → In d walk → e.from ≤ d.from

least_of :
    (e : Edge) (walk : List Edge)
    → (front : List Edge) × (f : Edge) × (back : List Edge) × IsLeastOf (e ∷ walk) front f back
least_of e [] = ([], e, [], record { is = refl; least = λ d i. elim i [ inl same ↦ (let n : e.from ≡ d.from = ap (λ (c : Edge). c.from) same in omega arith) | inr j ↦ elim j [ ] ] })
least_of e (d ∷ walk) =
    let (front, f, back, l) = least_of d walk in
    elim (cases_lt f.from e.from) [
      | inl less ↦ (
        e ∷ front,
        f,
        back,
        record {
          is = ap (λ es. e ∷ es) l.is;
          least = λ c i. elim i [ inl same ↦ (let n : e.from ≡ c.from = ap (λ (c : Edge). c.from) same in omega arith) | inr j ↦ l.least c j ];
        },
      )
      | inr most ↦ (
        [],
        e,
        d ∷ walk,
        record {
          is = refl;
          least = λ c i. elim i [
            | inl same ↦ (let n : e.from ≡ c.from = ap (λ (c : Edge). c.from) same in omega arith)
            | inr j ↦ (let m : f.from ≤ c.from = l.least c j in omega arith)
          ];
        },
      )
    ]

pub all_later :
    (n : ℕ) (walk : List Edge)
    → ((d : Edge) → In d walk → n ≤ d.from)
    → list_all (nat_le n) (stations walk) ≡ true
all_later n [] each = refl
all_later n (d ∷ walk) each =
    and_from (nat_le n d.from) (list_all (nat_le n) (stations walk)) (le-leb n d.from (each d (inl refl))) (all_later n walk (λ c i. each c (inr i)))

-- ---- the law

-- a round walk about its edge that begins no later than any, told from that edge
pub turned_witness :
    (keys : KeyOrder) (phenomenon : Phenomenon) (level : Level) (ts : List Transaction) (front : List Edge) (e : Edge) (back : List Edge)
    → IsRound phenomenon (edges_at keys level ts) (front ++ e ∷ back)
    → ((d : Edge) → In d (front ++ e ∷ back) → e.from ≤ d.from)
    → IsWitness keys phenomenon level ts (e ∷ back ++ front)
turned_witness keys phenomenon level ts front e back r least =
    let es : List Edge = edges_at keys level ts in
    let turned : IsRound phenomenon es (e ∷ back ++ front) = turned_round phenomenon es front e back r in
    let later = λ (c : Edge) (i : In c (back ++ front)). least c (elim (in_append c back front i) [
      | inl j ↦ in_back c front (e ∷ back) (inr j)
      | inr j ↦ in_front c front (e ∷ back) j
    ]) in record {
      shows = record { closed = turned.closed; within = within_contains es (e ∷ back ++ front) turned.within; kinds = turned.kinds };
      different = turned.different;
      apart = turned.apart;
      least = all_later e.from (back ++ front) later;
    }

witness_of_round :
    (keys : KeyOrder) (phenomenon : Phenomenon) (level : Level) (ts : List Transaction) (walk : List Edge)
    → IsRound phenomenon (edges_at keys level ts) walk
    → (other : List Edge) × IsWitness keys phenomenon level ts other × HasNoMore other walk
witness_of_round keys phenomenon level ts [] r = elim r.closed [ ]
witness_of_round keys phenomenon level ts (d ∷ walk) r =
    let es : List Edge = edges_at keys level ts in
    let (front, e, back, l) = least_of d walk in
    let same : dependencies_in (d ∷ walk) ≡ dependencies_in (front ++ e ∷ back) = ap dependencies_in l.is in (
      e ∷ back ++ front,
      turned_witness keys phenomenon level ts front e back (subst (IsRound phenomenon es) l.is r) (λ c i. l.least c (subst (In c) (sym l.is) i)),
      omega (arith, same, counts_turned is_dependency front (e ∷ back)),
    )

-- each walk that shows the phenomenon has a witness with no more dependency edges
pub witness_of_walk :
    (keys : KeyOrder) (phenomenon : Phenomenon) (level : Level) (events : List Operation) (walk : List Edge)
    → Shows phenomenon (edges_at keys level (transactions_of events)) walk
    → (told : List Edge) × IsWitness keys phenomenon level (transactions_of events) told × (dependencies_in told ≤ dependencies_in walk)
witness_of_walk keys phenomenon level events walk shows =
    let ts : List Transaction = transactions_of events in
    let (front, e, back, about, among, leads) = turned_to_one phenomenon (edges_at keys level ts) walk shows in
    let (round, is, few) = round_walk keys phenomenon level events e (back ++ front) among about.passes leads in
    let (told, witness, fewer) = witness_of_round keys phenomenon level ts round is in
    let same : dependencies_in walk ≡ dependencies_in (front ++ e ∷ back) = ap dependencies_in about.is in
    (told, witness, omega (arith, few, fewer, same, counts_turned is_dependency front (e ∷ back)))

pub has_witness :
    (keys : KeyOrder) (phenomenon : Phenomenon) (level : Level) (events : List Operation)
    → IsThere keys phenomenon level (transactions_of events) ↔ HasWitness keys phenomenon level (transactions_of events)
has_witness keys phenomenon level events = (
  λ h.
      let (told, witness, few) = witness_of_walk keys phenomenon level events h.0 h.1 in
      (told, witness),
  λ w. (w.0, w.1.shows),
)
