-- Walks along other edges that count alike: an edge is replaced by a way, and so are walks and what they show.
use Rattle.std.proofs.Common.{◌≡◌, ◌↔◌, inl, inr, ℕ, ◌+◌, ◌<◌, List, [], ◌∷◌, ◌++◌, Bool, true, false, not, ◌&&◌, ◌||◌, cond, if◌then◌else◌, Option, Some, None, Contains, All, count_by, refl, sym, ◌∙◌, ap, subst, arith}
use Rattle.std.specs.List.{AllByRecursion, list_any, list_all}
use Rattle.std.proofs.lemmas.Bool.{false≢true, and_parts, and_from, or_cases, cases_Bool, eqb-true, eq-eqb}
use Rattle.std.proofs.lemmas.List.Elements.{All-from_recursion, recursion_from_All}
use Rattle.std.proofs.lemmas.List.Sums.{sum_by-cons, sum_by-append}
use Rattle.hist_types.specs.Operations.{Operation}
use Rattle.hist_types.specs.Transactions.{Transaction, nodes, transactions_of}
use Rattle.hist_types.specs.Edges.{Label, process, Edge, is_ok_before, same_process, realtime_label, order_labels, dependency_edges}
use Rattle.hist_types.specs.ThinnedOrder.{thinned_edges}
use Rattle.hist_types.specs.Phenomena.{Leads, IsClosedWalk, is_ww_label, is_wr_label, is_rw_label, is_ww, is_wr, is_rw, is_order, makes, IsThere, IsShownBy}
use Rattle.history_laws.specs.Paths.{IncludesAllOk, order_edges_between, thinned_edges_between}
use Rattle.history_laws.specs.Walks.{SameCounts, WalksCarryOver}
use Rattle.hist_types.specs.declared.types.Level.{Level}
use Rattle.hist_types.specs.declared.types.Level.TheVariants.{Plain, Process, Realtime}
use Rattle.hist_types.specs.declared.types.Phenomenon.{Phenomenon}
use Rattle.hist_types.specs.declared.types.Phenomenon.TheVariants.{G0, G1c, GSingle, G2Item}
use Rattle.hist_types.specs.declared.types.KeyOrder.{KeyOrder}
use Rattle.hist_types.proofs.Members.{In, in_from_Contains, Contains_from_in, in_front, in_back, in_append}
use Rattle.history_laws.proofs.ThinningPaths.{Way, one_edge, thinned_in_order, AreNodes, are_nodes, nodes_included, ends_of, thinned_way_of, leads_on, not_empty, all_of_both}

-- ---- counts

abbrev pub one_if : Bool → ℕ
one_if b = cond b 1 0

pub count-cons :
    {X : Type 0} (p : X → Bool) (x : X) (xs : List X)
    → count_by p (x ∷ xs) ≡ one_if (p x) + count_by p xs
count-cons p x xs = sum_by-cons (λ y. one_if (p y)) x xs

pub count-append :
    {X : Type 0} (p : X → Bool) (xs ys : List X)
    → count_by p (xs ++ ys) ≡ count_by p xs + count_by p ys
count-append p xs ys = sum_by-append (λ y. one_if (p y)) xs ys

pub count_yes :
    {X : Type 0} (p : X → Bool) (x : X) (xs : List X)
    → p x ≡ true
    → count_by p (x ∷ xs) ≡ 1 + count_by p xs
count_yes p x xs e = let one : one_if (p x) ≡ 1 = ap one_if e in omega (arith, count-cons p x xs)

pub count_no : {X : Type 0} (p : X → Bool) (x : X) (xs : List X) → p x ≡ false → count_by p (x ∷ xs) ≡ count_by p xs
count_no p x xs e = let none : one_if (p x) ≡ 0 = ap one_if e in omega (arith, count-cons p x xs)

pub count_none : {X : Type 0} (p : X → Bool) (xs : List X) → AllByRecursion (λ x. p x ≡ false) xs → count_by p xs ≡ 0
count_none p [] all = refl
count_none p (x ∷ xs) all = count_no p x xs all.0 ∙ count_none p xs all.1

pub any_counted : {X : Type 0} (p : X → Bool) (xs : List X) → 0 < count_by p xs → list_any p xs ≡ true
any_counted p [] some = let none : ⊥ = omega (arith, some) in elim none [ ]
any_counted p (x ∷ xs) some = elim (cases_Bool (p x)) [
  | inl e ↦ rw e refl
  | inr e ↦ rw e (any_counted p xs (omega (arith, count_no p x xs e, some)))
]

pub counted_any : {X : Type 0} (p : X → Bool) (xs : List X) → list_any p xs ≡ true → 0 < count_by p xs
counted_any p [] e = elim (false≢true e) [ ]
counted_any p (x ∷ xs) e = elim (or_cases (p x) (list_any p xs) e) [
  | inl here ↦ omega (arith, count_yes p x xs here)
  | inr later ↦ omega (arith, count-cons p x xs, counted_any p xs later)
]

-- where all pass one test, none passes another
pub none_counted :
    {X : Type 0} (g p : X → Bool)
    → ((x : X) → g x ≡ true → p x ≡ false)
    → (xs : List X)
    → list_all g xs ≡ true
    → count_by p xs ≡ 0
none_counted g p apart [] e = refl
none_counted g p apart (x ∷ xs) e =
    let both = and_parts (g x) (list_all g xs) e in
    count_no p x xs (apart x both.0) ∙ none_counted g p apart xs both.1

uncounted :
    {X : Type 0} (p : X → Bool) (x : X) (xs : List X)
    → count_by p (x ∷ xs) ≡ 0
    → (p x ≡ false) × (count_by p xs ≡ 0)
uncounted p x xs e = elim (cases_Bool (p x)) [
  | inl here ↦ let none : ⊥ = omega (arith, count_yes p x xs here, e) in elim none [ ]
  | inr not_here ↦ (not_here, sym (count_no p x xs not_here) ∙ e)
]

pub all_uncounted :
    {X : Type 0} (g p q : X → Bool)
    → ((x : X) → p x ≡ false → q x ≡ false → g x ≡ true)
    → (xs : List X)
    → count_by p xs ≡ 0
    → count_by q xs ≡ 0
    → list_all g xs ≡ true
all_uncounted g p q neither [] e f = refl
all_uncounted g p q neither (x ∷ xs) e f =
    let no_p = uncounted p x xs e in
    let no_q = uncounted q x xs f in
    and_from (g x) (list_all g xs) (neither x no_p.0 no_q.0) (all_uncounted g p q neither xs no_p.1 no_q.1)

-- ---- walks that count alike

pub alike : (walk : List Edge) → SameCounts walk walk
alike walk = record { ww = refl; wr = refl; rw = refl }

alike_by :
    (p : Edge → Bool) (a b c d : List Edge)
    → count_by p a ≡ count_by p b
    → count_by p c ≡ count_by p d
    → count_by p (a ++ c) ≡ count_by p (b ++ d)
alike_by p a b c d e f = omega (arith, count-append p a c, count-append p b d, e, f)

alike_both : (a b c d : List Edge) → SameCounts a b → SameCounts c d → SameCounts (a ++ c) (b ++ d)
alike_both a b c d first second = record {
  ww = alike_by is_ww a b c d first.ww second.ww;
  wr = alike_by is_wr a b c d first.wr second.wr;
  rw = alike_by is_rw a b c d first.rw second.rw;
}

-- ---- kinds of edges

-- a label is of one kind at most
by_kind :
    (P : (ww wr rw : Bool) → Type 0)
    → P true false false
    → P false true false
    → P false false true
    → P false false false
    → (l : Label)
    → P (is_ww_label l) (is_wr_label l) (is_rw_label l)
by_kind P ww wr rw none (Label.ww v w) = ww
by_kind P ww wr rw none (Label.wr v) = wr
by_kind P ww wr rw none (Label.rw v w) = rw
by_kind P ww wr rw none (Label.process p) = none
by_kind P ww wr rw none (Label.realtime c i) = none

pub only_ww-wr :
    (l : Label)
    → (is_ww_label l || not (is_ww_label l || is_wr_label l || is_rw_label l)) ≡ true
    → is_wr_label l ≡ false
only_ww-wr = by_kind (λ a b c. (a || not (a || b || c)) ≡ true → b ≡ false) (λ e. refl) (λ e. elim (false≢true e) [ ]) (λ e. refl) (λ e. refl)

pub only_ww-rw :
    (l : Label)
    → (is_ww_label l || not (is_ww_label l || is_wr_label l || is_rw_label l)) ≡ true
    → is_rw_label l ≡ false
only_ww-rw = by_kind (λ a b c. (a || not (a || b || c)) ≡ true → c ≡ false) (λ e. refl) (λ e. refl) (λ e. elim (false≢true e) [ ]) (λ e. refl)

ww_only :
    (l : Label)
    → is_wr_label l ≡ false
    → is_rw_label l ≡ false
    → (is_ww_label l || not (is_ww_label l || is_wr_label l || is_rw_label l)) ≡ true
ww_only = by_kind (λ a b c. b ≡ false → c ≡ false → (a || not (a || b || c)) ≡ true) (λ e f. refl) (λ e f. elim (false≢true (sym e)) [ ]) (λ e f. elim (false≢true (sym f)) [ ]) (λ e f. refl)

pub no_rw-rw :
    (l : Label)
    → (is_ww_label l || is_wr_label l || not (is_ww_label l || is_wr_label l || is_rw_label l)) ≡ true
    → is_rw_label l ≡ false
no_rw-rw = by_kind (λ a b c. (a || b || not (a || b || c)) ≡ true → c ≡ false) (λ e. refl) (λ e. refl) (λ e. elim (false≢true e) [ ]) (λ e. refl)

rw_no :
    (l : Label)
    → is_rw_label l ≡ false
    → (is_ww_label l || is_wr_label l || not (is_ww_label l || is_wr_label l || is_rw_label l)) ≡ true
rw_no = by_kind (λ a b c. c ≡ false → (a || b || not (a || b || c)) ≡ true) (λ f. refl) (λ f. refl) (λ f. elim (false≢true (sym f)) [ ]) (λ f. refl)

any_alike :
    (p : Edge → Bool) (walk other : List Edge)
    → count_by p walk ≡ count_by p other
    → list_any p walk ≡ true
    → list_any p other ≡ true
any_alike p walk other same e = any_counted p other (omega (arith, same, counted_any p walk e))

-- Walks that count alike make the same phenomena.
pub makes_alike :
    (phenomenon : Phenomenon) (walk other : List Edge)
    → SameCounts walk other
    → makes phenomenon walk ≡ true
    → makes phenomenon other ≡ true
makes_alike G0 walk other a e =
    let both = and_parts (list_all (λ e. is_ww e || is_order e) walk) (list_any is_ww walk) e in
    let no_wr = none_counted (λ e. is_ww e || is_order e) is_wr (λ e. only_ww-wr e.label) walk both.0 in
    let no_rw = none_counted (λ e. is_ww e || is_order e) is_rw (λ e. only_ww-rw e.label) walk both.0 in
    and_from (list_all (λ e. is_ww e || is_order e) other) (list_any is_ww other)
    (all_uncounted (λ e. is_ww e || is_order e) is_wr is_rw (λ e. ww_only e.label) other (sym a.wr ∙ no_wr) (sym a.rw ∙ no_rw)) (any_alike is_ww walk other a.ww both.1)
makes_alike G1c walk other a e =
    let both = and_parts (list_all (λ e. is_ww e || is_wr e || is_order e) walk) (list_any is_wr walk) e in
    let no_rw = none_counted (λ e. is_ww e || is_wr e || is_order e) is_rw (λ e. no_rw-rw e.label) walk both.0 in
    and_from (list_all (λ e. is_ww e || is_wr e || is_order e) other) (list_any is_wr other)
    (all_uncounted (λ e. is_ww e || is_wr e || is_order e) is_rw is_rw (λ e f g. rw_no e.label f) other (sym a.rw ∙ no_rw) (sym a.rw ∙ no_rw)) (any_alike is_wr walk other a.wr both.1)
makes_alike GSingle walk other a e = eq-eqb (count_by is_rw other) 1 (sym a.rw ∙ eqb-true (count_by is_rw walk) 1 e)
makes_alike G2Item walk other a e = any_alike is_rw walk other a.rw e

-- ---- an edge is replaced by a way

pub record Replaces (others : List Edge) (e : Edge) (path : List Edge) : Type 0 where
  pub way : Way others e.from e.to path
  pub counts : SameCounts (e ∷ []) path

abbrev pub AreReplaced : List Edge → List Edge → Type 0
AreReplaced es others = (e : Edge) → In e es → (path : List Edge) × Replaces others e path

record Replaced (others : List Edge) (from to : ℕ) (walk other : List Edge) : Type 0 where
  leads : Leads from other to
  within : AllByRecursion (λ e. In e others) other
  counts : SameCounts walk other

replaced :
    (es others : List Edge)
    → AreReplaced es others
    → (from to : ℕ) (walk : List Edge)
    → Leads from walk to
    → AllByRecursion (λ e. In e es) walk
    → (other : List Edge) × Replaced others from to walk other × (¬ (walk ≡ []) → ¬ (other ≡ []))
replaced es others each from to [] leads all = ([], record { leads = leads; within = tt; counts = alike [] }, λ some. some)
replaced es others each from to (e ∷ walk) leads all =
    let (path, here) = each e all.0 in
    let (other, rest, some) = replaced es others each e.to to walk leads.1 all.1 in
    let begins : Leads from path e.to = subst (λ n. Leads n path e.to) leads.0 here.way.leads in (
      path ++ other,
      record {
        leads = leads_on from e.to to path other begins rest.leads;
        within = all_of_both (λ (e : Edge). In e others) path other here.way.within rest.within;
        counts = alike_both (e ∷ []) path walk other here.counts rest.counts;
      },
      λ some. not_empty path other here.way.some,
    )

pub within_in : (es walk : List Edge) → All (Contains es) walk → AllByRecursion (λ e. In e es) walk
within_in es walk all = go walk (recursion_from_All (Contains es) walk all)
  where
    go : (walk : List Edge) → AllByRecursion (Contains es) walk → AllByRecursion (λ e. In e es) walk
    go [] all = tt
    go (e ∷ walk) all = (in_from_Contains e es all.0, go walk all.1)

pub within_contains : (es walk : List Edge) → AllByRecursion (λ e. In e es) walk → All (Contains es) walk
within_contains es walk all = All-from_recursion (Contains es) walk (go walk all)
  where
    go : (walk : List Edge) → AllByRecursion (λ e. In e es) walk → AllByRecursion (Contains es) walk
    go [] all = tt
    go (e ∷ walk) all = (Contains_from_in e es all.0, go walk all.1)

pub closed_leads : (e : Edge) (walk : List Edge) → IsClosedWalk (e ∷ walk) → Leads e.from (e ∷ walk) e.from
closed_leads e walk closed = (refl, closed)

pub closed_from : (from : ℕ) (walk : List Edge) → ¬ (walk ≡ []) → Leads from walk from → IsClosedWalk walk
closed_from from [] some leads = elim (some refl) [ ]
closed_from from (e ∷ walk) some leads = subst (λ n. Leads e.to walk n) (sym leads.0) leads.1

pub carry_over : (es others : List Edge) → AreReplaced es others → WalksCarryOver es others
carry_over es others each = record { walks = walks; closed = closed }
  where
    walks :
        (from to : ℕ) (walk : List Edge)
        → Leads from walk to
        → All (Contains es) walk
        → (other : List Edge) × Leads from other to × All (Contains others) other × SameCounts walk other
    walks from to walk leads all =
        let (other, r, some) = replaced es others each from to walk leads (within_in es walk all) in
        (other, r.leads, within_contains others other r.within, r.counts)

    closed :
        (walk : List Edge)
        → IsClosedWalk walk
        → All (Contains es) walk
        → (other : List Edge) × IsClosedWalk other × All (Contains others) other × SameCounts walk other
    closed [] none all = elim none [ ]
    closed (e ∷ walk) round all =
        let (other, r, some) = replaced es others each e.from e.from (e ∷ walk) (closed_leads e walk round) (within_in es (e ∷ walk) all) in
        let kept : ¬ (other ≡ []) = some (λ empty. cc) in
        (other, closed_from e.from other kept r.leads, within_contains others other r.within, r.counts)

pub has_carried :
    (phenomenon : Phenomenon) (es others : List Edge)
    → WalksCarryOver es others
    → IsShownBy phenomenon es
    → IsShownBy phenomenon others
has_carried phenomenon es others over has =
    let (other, closed, within, counts) = over.closed has.0 has.1.closed has.1.within in
    (other, record { closed = closed; within = within; kinds = makes_alike phenomenon has.0 other counts has.1.kinds })

-- ---- order edges don't count

pub record Uncounted (l : Label) : Type 0 where
  pub no_ww : is_ww_label l ≡ false
  pub no_wr : is_wr_label l ≡ false
  pub no_rw : is_rw_label l ≡ false

pub label_of_one : (holds : Bool) (l label : Label) → In label (if holds then l ∷ [] else []) → l ≡ label
label_of_one true l label (inl e) = e
label_of_one true l label (inr i) = elim i [ ]
label_of_one false l label i = elim i [ ]

realtime_uncounted :
    (holds : Bool) (completion : Option ℕ) (n : ℕ) (label : Label)
    → In label (if holds then realtime_label completion n else [])
    → Uncounted label
realtime_uncounted false completion n label i = elim i [ ]
realtime_uncounted true None n label i = elim i [ ]
realtime_uncounted true (Some c) n label (inl e) = subst Uncounted e (record { no_ww = refl; no_wr = refl; no_rw = refl })
realtime_uncounted true (Some c) n label (inr i) = elim i [ ]

order_uncounted :
    (level : Level) (t u : Transaction) (label : Label)
    → In label (order_labels level t u)
    → Uncounted label
order_uncounted Plain t u label i = elim i [ ]
order_uncounted Process t u label i =
    subst Uncounted (label_of_one (is_ok_before t u && same_process t u) (process t.process) label i) (record { no_ww = refl; no_wr = refl; no_rw = refl })
order_uncounted Realtime t u label i = realtime_uncounted (is_ok_before t u) t.completion u.invocation label i

pub uncounted_edge :
    (level : Level) (ns : List Transaction) (e : Edge)
    → In e (order_edges_between level ns)
    → Uncounted e.label
uncounted_edge level ns e i =
    let (t, u, label, ends) = ends_of ns (order_labels level) e i in
    subst (λ (d : Edge). Uncounted d.label) (sym ends.is) (order_uncounted level t u label ends.labelled)

-- no edge of the walk counts
pub nothing_counts : (walk : List Edge) → AllByRecursion (λ e. Uncounted e.label) walk → SameCounts [] walk
nothing_counts walk all = record {
  ww = sym (count_none is_ww walk (each walk all (λ e u. u.no_ww)));
  wr = sym (count_none is_wr walk (each walk all (λ e u. u.no_wr)));
  rw = sym (count_none is_rw walk (each walk all (λ e u. u.no_rw)));
}
  where
    each :
        {P : Edge → Type 0} (walk : List Edge)
        → AllByRecursion (λ e. Uncounted e.label) walk
        → ((e : Edge) → Uncounted e.label → P e)
        → AllByRecursion P walk
    each [] all f = tt
    each (e ∷ walk) all f = (f e all.0, each walk all.1 f)

-- ---- the whole order and the thinned one

is_order_edge :
    (level : Level) (ts ns : List Transaction) (ds : List Edge)
    → AreNodes ts ns
    → AreReplaced (ds ++ order_edges_between level ns) (ds ++ thinned_edges_between level ts ns)
is_order_edge level ts ns ds nodes e i = elim (in_append e ds (order_edges_between level ns) i) [
  | inl there ↦ (e ∷ [], record { way = one_edge (ds ++ thinned_edges_between level ts ns) e (in_front e ds (thinned_edges_between level ts ns) there); counts = alike (e ∷ []) })
  | inr ordered ↦
      let (path, way) = thinned_way_of level ts ns nodes e ordered in
      let none = nothing_counts path (each path way.within) in
      let itself = nothing_counts (e ∷ []) (uncounted_edge level ns e ordered, tt) in (
        path,
        record {
          way = record { some = way.some; leads = way.leads; within = behind path way.within };
          counts = record { ww = sym itself.ww ∙ none.ww; wr = sym itself.wr ∙ none.wr; rw = sym itself.rw ∙ none.rw };
        },
      )
]
  where
    each :
        (path : List Edge)
        → AllByRecursion (λ e. In e (thinned_edges_between level ts ns)) path
        → AllByRecursion (λ e. Uncounted e.label) path
    each [] all = tt
    each (e ∷ path) all = (uncounted_edge level ns e (thinned_in_order level ts ns e all.0), each path all.1)

    behind :
        (path : List Edge)
        → AllByRecursion (λ e. In e (thinned_edges_between level ts ns)) path
        → AllByRecursion (λ e. In e (ds ++ thinned_edges_between level ts ns)) path
    behind [] all = tt
    behind (e ∷ path) all = (in_back e ds (thinned_edges_between level ts ns) all.0, behind path all.1)

is_thinned_edge :
    (level : Level) (ts ns : List Transaction) (ds : List Edge)
    → AreReplaced (ds ++ thinned_edges_between level ts ns) (ds ++ order_edges_between level ns)
is_thinned_edge level ts ns ds e i =
    let there : In e (ds ++ order_edges_between level ns) = elim (in_append e ds (thinned_edges_between level ts ns) i) [
      | inl there ↦ in_front e ds (order_edges_between level ns) there
      | inr thinned ↦ in_back e ds (order_edges_between level ns) (thinned_in_order level ts ns e thinned)
    ] in
    (e ∷ [], record { way = one_edge (ds ++ order_edges_between level ns) e there; counts = alike (e ∷ []) })

-- ---- the law

pub carried_to_thinned :
    (level : Level) (events : List Operation) (ns : List Transaction) (ds : List Edge)
    → IncludesAllOk (transactions_of events) ns
    → WalksCarryOver (ds ++ order_edges_between level ns) (ds ++ thinned_edges_between level (transactions_of events) ns)
carried_to_thinned level events ns ds included =
    carry_over (ds ++ order_edges_between level ns) (ds ++ thinned_edges_between level (transactions_of events) ns)
    (is_order_edge level (transactions_of events) ns ds (are_nodes events ns included))

pub carried_to_order :
    (level : Level) (ts ns : List Transaction) (ds : List Edge)
    → WalksCarryOver (ds ++ thinned_edges_between level ts ns) (ds ++ order_edges_between level ns)
carried_to_order level ts ns ds =
    carry_over (ds ++ thinned_edges_between level ts ns) (ds ++ order_edges_between level ns) (is_thinned_edge level ts ns ds)

pub has_kept :
    (phenomenon : Phenomenon) (level : Level) (events : List Operation) (ns : List Transaction) (ds : List Edge)
    → IncludesAllOk (transactions_of events) ns
    → IsShownBy phenomenon (ds ++ order_edges_between level ns) ↔ IsShownBy phenomenon (ds ++ thinned_edges_between level (transactions_of events) ns)
has_kept phenomenon level events ns ds included =
    let order : List Edge = ds ++ order_edges_between level ns in
    let thinned : List Edge = ds ++ thinned_edges_between level (transactions_of events) ns in (
      has_carried phenomenon order thinned (carried_to_thinned level events ns ds included),
      has_carried phenomenon thinned order (carried_to_order level (transactions_of events) ns ds),
    )

pub has_thinned :
    (keys : KeyOrder) (phenomenon : Phenomenon) (level : Level) (events : List Operation)
    → IsThere keys phenomenon level (transactions_of events) ↔ IsShownBy phenomenon (dependency_edges keys (transactions_of events) ++ thinned_edges level (transactions_of events))
has_thinned keys phenomenon level events =
    let ts : List Transaction = transactions_of events in
    has_kept phenomenon level events (nodes ts) (dependency_edges keys ts) (nodes_included ts)
