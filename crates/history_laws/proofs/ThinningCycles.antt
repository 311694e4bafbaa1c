-- Closed walks are found by one of their edges, and what is closed at a level is closed at the levels above.
use Rattle.std.proofs.Common.{◌≡◌, ◌↔◌, inl, inr, ℕ, ◌≤◌, List, [], ◌∷◌, ◌++◌, Bool, true, false, not, ◌||◌, Contains, count_by, refl, sym, ◌∙◌, ap, subst, arith}
use Rattle.std.specs.List.{AllByRecursion, list_any, list_all}
use Rattle.std.proofs.lemmas.Bool.{false≢true, and_parts, and_from, or_cases, or_left, eqb-true, eq-eqb, not-true, not_from_false}
use Rattle.std.proofs.lemmas.List.Elements.{All-cons}
use Rattle.hist_types.specs.Transactions.{Transaction, nodes, transactions_of}
use Rattle.hist_types.specs.Edges.{Edge, edge, is_ok_before, same_process, order_labels, dependency_edges, edges_at}
use Rattle.hist_types.specs.ThinnedOrder.{thinned_edges}
use Rattle.hist_types.specs.Operations.{Operation}
use Rattle.hist_types.specs.Phenomena.{Leads, IsClosedWalk, is_ww, is_wr, is_rw, is_order, makes, IsThere, height, Shows, IsShownBy}
use Rattle.history_laws.specs.Paths.{order_edges_between}
use Rattle.history_laws.specs.Walks.{WalksCarryOver}
use Rattle.history_laws.specs.WaysBack.{is_needed, may_lead_back, LeadsBack, HasWayBack}
use Rattle.hist_types.specs.declared.types.Level.{Level}
use Rattle.hist_types.specs.declared.types.Level.TheVariants.{Plain, Process, Realtime}
use Rattle.hist_types.specs.declared.types.Phenomenon.{Phenomenon}
use Rattle.hist_types.specs.declared.types.Phenomenon.TheVariants.{G0, G1c, GSingle, G2Item}
use Rattle.hist_types.specs.declared.types.KeyOrder.{KeyOrder}
use Rattle.hist_types.proofs.Members.{In, Contains_from_in, in_front, in_back, in_append}
use Rattle.history_laws.proofs.ThinningPaths.{Ordered, ends_of, edge_between, ordered_from_label, label_from_ordered, one_edge, leads_on, all_of_both}
use Rattle.history_laws.proofs.ThinningWalks.{AreReplaced, alike, carry_over, has_carried, has_thinned, uncounted_edge, nothing_counts, within_in, within_contains, closed_leads, count-append, count_yes, any_counted, none_counted, all_uncounted}

-- ---- levels

rises :
    (lower higher : Level) (t u : Transaction)
    → height lower ≤ height higher
    → Ordered lower t u
    → Ordered higher t u
rises Plain higher t u up e = elim (false≢true e) [ ]
rises Process Plain t u up e = absurd (omega (arith, up))
rises Process Process t u up e = e
rises Process Realtime t u up e = (and_parts (is_ok_before t u) (same_process t u) e).0
rises Realtime Plain t u up e = absurd (omega (arith, up))
rises Realtime Process t u up e = absurd (omega (arith, up))
rises Realtime Realtime t u up e = e

-- an order edge of a level has a twin at each level above
twin :
    (lower higher : Level) (ns : List Transaction) (e : Edge)
    → height lower ≤ height higher
    → In e (order_edges_between lower ns)
    → (d : Edge) × In d (order_edges_between higher ns) × (d.from ≡ e.from) × (d.to ≡ e.to)
twin lower higher ns e up i =
    let (t, u, label, ends) = ends_of ns (order_labels lower) e i in
    let (label', labelled) = label_from_ordered higher t u (rises lower higher t u up (ordered_from_label lower t u label ends.labelled)) in (
      edge t u label',
      edge_between ns (order_labels higher) t u label' ends.first ends.second ends.other labelled,
      ap (λ (d : Edge). d.from) (sym ends.is),
      ap (λ (d : Edge). d.to) (sym ends.is),
    )

has_twins :
    (lower higher : Level) (ns : List Transaction) (ds : List Edge)
    → height lower ≤ height higher
    → AreReplaced (ds ++ order_edges_between lower ns) (ds ++ order_edges_between higher ns)
has_twins lower higher ns ds up e i = elim (in_append e ds (order_edges_between lower ns) i) [
  | inl there ↦ (e ∷ [], record { way = one_edge (ds ++ order_edges_between higher ns) e (in_front e ds (order_edges_between higher ns) there); counts = alike (e ∷ []) })
  | inr ordered ↦
      let (d, there, from, to) = twin lower higher ns e up ordered in
      let itself = nothing_counts (e ∷ []) (uncounted_edge lower ns e ordered, tt) in
      let other = nothing_counts (d ∷ []) (uncounted_edge higher ns d there, tt) in (
        d ∷ [],
        record {
          way = record { some = λ empty. cc; leads = (from, to); within = (in_back d ds (order_edges_between higher ns) there, tt) };
          counts = record { ww = sym itself.ww ∙ other.ww; wr = sym itself.wr ∙ other.wr; rw = sym itself.rw ∙ other.rw };
        },
      )
]

pub carried_up :
    (lower higher : Level) (ns : List Transaction) (ds : List Edge)
    → height lower ≤ height higher
    → WalksCarryOver (ds ++ order_edges_between lower ns) (ds ++ order_edges_between higher ns)
carried_up lower higher ns ds up =
    carry_over (ds ++ order_edges_between lower ns) (ds ++ order_edges_between higher ns) (has_twins lower higher ns ds up)

pub has_above :
    (keys : KeyOrder) (phenomenon : Phenomenon) (lower higher : Level) (ts : List Transaction)
    → height lower ≤ height higher
    → IsThere keys phenomenon lower ts
    → IsThere keys phenomenon higher ts
has_above keys phenomenon lower higher ts up h =
    has_carried phenomenon (edges_at keys lower ts) (edges_at keys higher ts) (carried_up lower higher (nodes ts) (dependency_edges keys ts) up) h

-- ---- a walk about one of its edges

pub record IsAbout (p : Edge → Bool) (walk front : List Edge) (e : Edge) (back : List Edge) : Type 0 where
  pub is : walk ≡ front ++ e ∷ back
  pub passes : p e ≡ true

pub about_one :
    (p : Edge → Bool) (walk : List Edge)
    → list_any p walk ≡ true
    → (front : List Edge) × (e : Edge) × (back : List Edge) × IsAbout p walk front e back
about_one p [] e = elim (false≢true e) [ ]
about_one p (d ∷ walk) e = elim (or_cases (p d) (list_any p walk) e) [
  | inl here ↦ ([], d, walk, record { is = refl; passes = here })
  | inr later ↦
      let (front, f, back, about) = about_one p walk later in
      (d ∷ front, f, back, record { is = ap (λ es. d ∷ es) about.is; passes = about.passes })
]

pub leads_apart :
    (from to : ℕ) (front : List Edge) (e : Edge) (back : List Edge)
    → Leads from (front ++ e ∷ back) to
    → Leads from front e.from × Leads e.to back to
leads_apart from to [] e back l = (sym l.0, l.1)
leads_apart from to (d ∷ front) e back l =
    let rest = leads_apart d.to to front e back l.1 in
    ((l.0, rest.0), rest.1)

pub all_apart :
    {X : Type 0} (P : X → Type 0) (xs ys : List X)
    → AllByRecursion P (xs ++ ys)
    → AllByRecursion P xs × AllByRecursion P ys
all_apart P [] ys all = (tt, all)
all_apart P (x ∷ xs) ys all = let rest = all_apart P xs ys all.1 in ((all.0, rest.0), rest.1)

pub passes_apart :
    (p : Edge → Bool) (xs ys : List Edge)
    → list_all p (xs ++ ys) ≡ true
    → (list_all p xs ≡ true) × (list_all p ys ≡ true)
passes_apart p [] ys e = (refl, e)
passes_apart p (x ∷ xs) ys e =
    let both = and_parts (p x) (list_all p (xs ++ ys)) e in
    let rest = passes_apart p xs ys both.1 in
    (and_from (p x) (list_all p xs) both.0 rest.0, rest.1)

pub passes_both :
    (p : Edge → Bool) (xs ys : List Edge)
    → list_all p xs ≡ true
    → list_all p ys ≡ true
    → list_all p (xs ++ ys) ≡ true
passes_both p [] ys e f = f
passes_both p (x ∷ xs) ys e f =
    let both = and_parts (p x) (list_all p xs) e in
    and_from (p x) (list_all p (xs ++ ys)) both.0 (passes_both p xs ys both.1 f)

-- the rest of the walk passes, from the edge on and round to it
turned :
    (p : Edge → Bool) (front : List Edge) (e : Edge) (back : List Edge)
    → list_all p (front ++ e ∷ back) ≡ true
    → list_all p (back ++ front) ≡ true
turned p front e back all =
    let apart = passes_apart p front (e ∷ back) all in
    passes_both p back front (and_parts (p e) (list_all p back) apart.1).1 apart.0

all_pass : (xs : List Edge) → list_all (λ e. true) xs ≡ true
all_pass [] = refl
all_pass (x ∷ xs) = all_pass xs

-- where the walk has one rw edge, and e is it, the rest has none
only_one :
    (front : List Edge) (e : Edge) (back : List Edge)
    → count_by is_rw (front ++ e ∷ back) ≡ 1
    → is_rw e ≡ true
    → list_all (λ e. not (is_rw e)) (back ++ front) ≡ true
only_one front e back one is =
    let n = count-append is_rw front (e ∷ back) in
    let m = count_yes is_rw e back is in
    let k = count-append is_rw back front in
    let none : count_by is_rw (back ++ front) ≡ 0 = omega (arith, n, m, k, one) in
    all_uncounted (λ e. not (is_rw e)) is_rw is_rw (λ d f g. not_from_false (is_rw d) f) (back ++ front) none none

pub rest_leads_back :
    (phenomenon : Phenomenon) (front : List Edge) (e : Edge) (back : List Edge)
    → makes phenomenon (front ++ e ∷ back) ≡ true
    → is_needed phenomenon e ≡ true
    → list_all (may_lead_back phenomenon) (back ++ front) ≡ true
rest_leads_back G0 front e back made is =
    turned (λ e. is_ww e || is_order e) front e back
    (and_parts (list_all (λ e. is_ww e || is_order e) (front ++ e ∷ back)) (list_any is_ww (front ++ e ∷ back)) made).0
rest_leads_back G1c front e back made is =
    turned (λ e. is_ww e || is_wr e || is_order e) front e back
    (and_parts (list_all (λ e. is_ww e || is_wr e || is_order e) (front ++ e ∷ back)) (list_any is_wr (front ++ e ∷ back)) made).0
rest_leads_back GSingle front e back made is = only_one front e back (eqb-true (count_by is_rw (front ++ e ∷ back)) 1 made) is
rest_leads_back G2Item front e back made is = all_pass (back ++ front)

pub some_needed :
    (phenomenon : Phenomenon) (walk : List Edge)
    → makes phenomenon walk ≡ true
    → list_any (is_needed phenomenon) walk ≡ true
some_needed G0 walk made = (and_parts (list_all (λ e. is_ww e || is_order e) walk) (list_any is_ww walk) made).1
some_needed G1c walk made = (and_parts (list_all (λ e. is_ww e || is_wr e || is_order e) walk) (list_any is_wr walk) made).1
some_needed GSingle walk made = any_counted is_rw walk (let one = eqb-true (count_by is_rw walk) 1 made in omega (arith, one))
some_needed G2Item walk made = made

pub closed_is_led : (walk : List Edge) → IsClosedWalk walk → (from : ℕ) × Leads from walk from
closed_is_led [] none = elim none [ ]
closed_is_led (e ∷ walk) closed = (e.from, closed_leads e walk closed)

-- a closed walk turned so that an edge of the needed kind comes first
pub turned_to_one :
    (phenomenon : Phenomenon) (es walk : List Edge)
    → Shows phenomenon es walk
    → (front : List Edge) × (e : Edge) × (back : List Edge) × IsAbout (is_needed phenomenon) walk front e back × Contains es e × LeadsBack phenomenon es e (back ++ front)
turned_to_one phenomenon es walk shows =
    let (front, e, back, about) = about_one (is_needed phenomenon) walk (some_needed phenomenon walk shows.kinds) in
    let (from, round) = closed_is_led walk shows.closed in
    let led = leads_apart from from front e back (subst (λ es. Leads from es from) about.is round) in
    let within = all_apart (λ (d : Edge). In d es) front (e ∷ back) (subst (AllByRecursion (λ (d : Edge). In d es)) about.is (within_in es walk shows.within)) in
    let made : makes phenomenon (front ++ e ∷ back) ≡ true = subst (λ es. makes phenomenon es ≡ true) about.is shows.kinds in (
      front,
      e,
      back,
      about,
      Contains_from_in e es within.1.0,
      record {
        leads = leads_on e.to from e.from back front led.1 led.0;
        within = within_contains es (back ++ front) (all_of_both (λ (d : Edge). In d es) back front within.1.1 within.0);
        kinds = rest_leads_back phenomenon front e back made about.passes;
      },
    )

returns_to_one : (phenomenon : Phenomenon) (es : List Edge) → IsShownBy phenomenon es → HasWayBack phenomenon es
returns_to_one phenomenon es h =
    let (front, e, back, about, among, leads) = turned_to_one phenomenon es h.0 h.1 in
    (e, among, about.passes, back ++ front, leads)

second_holds : (a b c : Bool) → b ≡ true → (a || b || c) ≡ true
second_holds true b c is = refl
second_holds false true c is = refl
second_holds false false c is = elim (false≢true is) [ ]

pub closing_makes :
    (phenomenon : Phenomenon) (e : Edge) (walk : List Edge)
    → is_needed phenomenon e ≡ true
    → list_all (may_lead_back phenomenon) walk ≡ true
    → makes phenomenon (e ∷ walk) ≡ true
closing_makes G0 e walk is back =
    and_from (list_all (λ e. is_ww e || is_order e) (e ∷ walk)) (list_any is_ww (e ∷ walk))
    (and_from (is_ww e || is_order e) (list_all (λ e. is_ww e || is_order e) walk) (or_left (is_ww e) (is_order e) is) back) (or_left (is_ww e) (list_any is_ww walk) is)
closing_makes G1c e walk is back =
    and_from (list_all (λ e. is_ww e || is_wr e || is_order e) (e ∷ walk)) (list_any is_wr (e ∷ walk))
    (and_from (is_ww e || is_wr e || is_order e) (list_all (λ e. is_ww e || is_wr e || is_order e) walk) (second_holds (is_ww e) (is_wr e) (is_order e) is) back)
    (or_left (is_wr e) (list_any is_wr walk) is)
closing_makes GSingle e walk is back =
    let none = none_counted (λ e. not (is_rw e)) is_rw (λ d f. not-true (is_rw d) f) walk back in
    eq-eqb (count_by is_rw (e ∷ walk)) 1 (omega (arith, none, count_yes is_rw e walk is))
closing_makes G2Item e walk is back = or_left (is_rw e) (list_any is_rw walk) is

pub closed_by_edge :
    (phenomenon : Phenomenon) (es : List Edge) (e : Edge) (walk : List Edge)
    → Contains es e
    → is_needed phenomenon e ≡ true
    → LeadsBack phenomenon es e walk
    → Shows phenomenon es (e ∷ walk)
closed_by_edge phenomenon es e walk among is back = record {
  closed = back.leads;
  within = All-cons (Contains es) e walk among back.within;
  kinds = closing_makes phenomenon e walk is back.kinds;
}

one_closes : (phenomenon : Phenomenon) (es : List Edge) → HasWayBack phenomenon es → IsShownBy phenomenon es
one_closes phenomenon es (e, among, is, walk, back) = (e ∷ walk, closed_by_edge phenomenon es e walk among is back)

pub closed_by_one : (phenomenon : Phenomenon) (es : List Edge) → IsShownBy phenomenon es ↔ HasWayBack phenomenon es
closed_by_one phenomenon es = (returns_to_one phenomenon es, one_closes phenomenon es)

pub when_thinned :
    (keys : KeyOrder) (phenomenon : Phenomenon) (level : Level) (events : List Operation)
    → IsThere keys phenomenon level (transactions_of events) ↔ HasWayBack phenomenon (dependency_edges keys (transactions_of events) ++ thinned_edges level (transactions_of events))
when_thinned keys phenomenon level events =
    let thinned = has_thinned keys phenomenon level events in
    let one = closed_by_one phenomenon (dependency_edges keys (transactions_of events) ++ thinned_edges level (transactions_of events)) in
    (λ h. one.0 (thinned.0 h), λ r. thinned.1 (one.1 r))
