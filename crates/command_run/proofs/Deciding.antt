-- Whether a history has a phenomenon can be decided, and with how few dependency edges, so each phenomenon has a finding.
use Rattle.std.proofs.Common.{◌≡◌, ◌⊎◌, inl, inr, ℕ, zero, suc, ◌+◌, ◌-◌, ◌<◌, ◌≤◌, List, [], ◌∷◌, ◌++◌, Contains, Bool, true, false, ◌==◌, nat_le, count_by, Option, Some, None, refl, sym, ◌∙◌, ap, subst, arith}
use Rattle.std.specs.List.{AllByRecursion, list_all, filter}
use Rattle.std.proofs.lemmas.Bool.{false≢true, and_parts, and_from, cases_lt, eqb-true, eq-eqb, leb-true, le-leb}
use Rattle.hist_types.specs.Edges.{Edge, edges_at}
use Rattle.hist_types.specs.Operations.{Operation}
use Rattle.hist_types.specs.Phenomena.{Leads, IsThere, height}
use Rattle.history_laws.specs.WaysBack.{is_needed, may_lead_back, LeadsBack, HasWayBackWithin}
use Rattle.hist_types.specs.Transactions.{Transaction, transactions_of}
use Rattle.hist_types.specs.Witness.{dependencies_in, HasFewest, Finding, IsFinding}
use Rattle.hist_types.specs.declared.types.Level.{Level}
use Rattle.hist_types.specs.declared.types.Level.TheVariants.{Plain, Process, Realtime}
use Rattle.hist_types.specs.declared.types.Phenomenon.{Phenomenon}
use Rattle.hist_types.specs.declared.types.KeyOrder.{KeyOrder}
use Rattle.hist_types.proofs.Members.{In, in_from_Contains, Contains_from_in, in_filter, in_filtered, passes_filter}
use Rattle.history_laws.proofs.Fewest.{few_by_one, some_dependency}
use Rattle.history_laws.proofs.ThinningCycles.{closed_by_one}
use Rattle.history_laws.proofs.ThinningPaths.{leads_on, all_of_both}
use Rattle.history_laws.proofs.ThinningWalks.{one_if, count-cons, count-append, within_in, within_contains}
use Rattle.history_laws.proofs.ThinningWitnesses.{is_dependency, witness_of_walk}

-- ---- numbers

abbrev Decided : Type 0 → Type 0
Decided P = P ⊎ ¬ P

same_number : (a b : ℕ) → Decided (a ≡ b)
same_number a b = by_test (a == b) refl
  where
    by_test : (same : Bool) → (a == b) ≡ same → Decided (a ≡ b)
    by_test true e = inl (eqb-true a b e)
    by_test false e = inr (λ is. false≢true (sym e ∙ eq-eqb a b is))

-- whether a number is no greater than another one
no_greater : (a b : ℕ) → Decided (a ≤ b)
no_greater a b = by_test (nat_le a b) refl
  where
    by_test : (fits : Bool) → nat_le a b ≡ fits → Decided (a ≤ b)
    by_test true e = inl (leb-true a b e)
    by_test false e = inr (λ is. false≢true (sym e ∙ le-leb a b is))

-- one of the numbers below the bound
abbrev SomeBelow : (ℕ → Type 0) → ℕ → Type 0
SomeBelow P bound = (n : ℕ) × (n < bound) × P n

some_below : (P : ℕ → Type 0) → ((n : ℕ) → Decided (P n)) → (bound : ℕ) → Decided (SomeBelow P bound)
some_below P each zero = inr (λ s. absurd (omega (arith, s.1)))
some_below P each (suc bound) = by_parts (each bound) (some_below P each bound)
  where
    by_parts : Decided (P bound) → Decided (SomeBelow P bound) → Decided (SomeBelow P (suc bound))
    by_parts (inl last) before = inl (bound, omega arith, last)
    by_parts (inr not_last) (inl s) = inl (s.0, omega (arith, s.1), s.2)
    by_parts (inr not_last) (inr none) = inr (λ s. elim (cases_lt s.0 bound) [
      | inl less ↦ none (s.0, less, s.2)
      | inr most ↦ not_last (subst P (same s.0 s.1 most) s.2)
    ])
      where
        same : (n : ℕ) → n < suc bound → bound ≤ n → n ≡ bound
        same n less most = omega (arith, less, most)

-- ---- walks on which few edges count

module _ (counts : Edge → Bool) where
  -- a walk along these edges from one transaction to another, on which so many edges count at most
  record Walks (es : List Edge) (from to most : ℕ) : Type 0 where
    walk : List Edge
    leads : Leads from walk to
    within : AllByRecursion (λ e. In e es) walk
    few : count_by counts walk ≤ most

  -- the same with one more edge to go along
  wider : (f : Edge) (es walk : List Edge) → AllByRecursion (λ e. In e es) walk → AllByRecursion (λ e. In e (f ∷ es)) walk
  wider f es [] within = tt
  wider f es (e ∷ walk) within = (inr within.0, wider f es walk within.1)

  -- a walk that goes along one more edge once
  record Through (f : Edge) (es : List Edge) (from to most : ℕ) : Type 0 where
    first : ℕ
    second : ℕ
    before : Walks es from f.from first
    behind : Walks es f.to to second
    few : first + (one_if (counts f) + second) ≤ most

  -- or doesn't need it
  abbrev ByOneMore : Edge → List Edge → (from to most : ℕ) → Type 0
  ByOneMore f es from to most = Walks es from to most ⊎ Through f es from to most

  standing : (es : List Edge) (from to most : ℕ) → from ≡ to → Walks es from to most
  standing es from to most is = record { walk = []; leads = is; within = tt; few = omega arith }

  longer : (es : List Edge) (e : Edge) (from to most : ℕ) → e.from ≡ from → In e es → Walks es e.to to most → Walks es from to (one_if (counts e) + most)
  longer es e from to most is here w =
      record { walk = e ∷ w.walk; leads = (is, w.leads); within = (here, w.within); few = omega (arith, w.few, count-cons counts e w.walk) }

  -- more may count
  looser : (es : List Edge) (from to few most : ℕ) → few ≤ most → Walks es from to few → Walks es from to most
  looser es from to few most less w = record { walk = w.walk; leads = w.leads; within = w.within; few = omega (arith, less, w.few) }

  first_use : (f : Edge) (es : List Edge) (from to : ℕ) (walk : List Edge) → Leads from walk to → AllByRecursion (λ e. In e (f ∷ es)) walk → ByOneMore f es from to (count_by counts walk)
  first_use f es from to [] leads within = inl (standing es from to 0 leads)
  first_use f es from to (e ∷ walk) leads within =
      subst (ByOneMore f es from to) (sym (count-cons counts e walk)) (by_edge within.0 (first_use f es e.to to walk leads.1 within.1))
    where
      rest : ℕ
      rest = count_by counts walk

      at_once : f ≡ e → (second : ℕ) → Walks es e.to to second → second ≤ rest → ByOneMore f es from to (one_if (counts e) + rest)
      at_once is second w few =
          let begins : from ≡ f.from = sym leads.0 ∙ ap (λ (d : Edge). d.from) (sym is) in
          let cost : one_if (counts f) ≡ one_if (counts e) = ap (λ (d : Edge). one_if (counts d)) is in
          inr (record {
            first = 0;
            second = second;
            before = standing es from f.from 0 begins;
            behind = subst (λ (d : Edge). Walks es d.to to second) (sym is) w;
            few = omega (arith, few, cost);
          })

      by_edge : In e (f ∷ es) → ByOneMore f es e.to to rest → ByOneMore f es from to (one_if (counts e) + rest)
      by_edge (inl is) (inl w) = at_once is rest w (omega arith)
      by_edge (inl is) (inr t) = at_once is t.second (subst (λ (d : Edge). Walks es d.to to t.second) is t.behind) (omega (arith, t.few))
      by_edge (inr here) (inl w) = inl (longer es e from to rest leads.0 here w)
      by_edge (inr here) (inr t) =
          inr (record {
            first = one_if (counts e) + t.first;
            second = t.second;
            before = longer es e from f.from t.first leads.0 here t.before;
            behind = t.behind;
            few = omega (arith, t.few);
          })

  through : (f : Edge) (es : List Edge) (from to most : ℕ) → Through f es from to most → Walks (f ∷ es) from to most
  through f es from to most t =
      record {
        walk = t.before.walk ++ f ∷ t.behind.walk;
        leads = leads_on from f.from to t.before.walk (f ∷ t.behind.walk) t.before.leads (refl, t.behind.leads);
        within = all_of_both (λ (e : Edge). In e (f ∷ es)) t.before.walk (f ∷ t.behind.walk) (wider f es t.before.walk t.before.within) (inl refl, wider f es t.behind.walk t.behind.within);
        few = omega (arith, t.few, t.before.few, t.behind.few, count-append counts t.before.walk (f ∷ t.behind.walk), count-cons counts f t.behind.walk);
      }

  -- so many edges count up to the new one, and no more than the others after it
  record Parts (f : Edge) (es : List Edge) (from to most first : ℕ) : Type 0 where
    fits : first + one_if (counts f) ≤ most
    before : Walks es from f.from first
    behind : Walks es f.to to (most - (first + one_if (counts f)))

  through_decided : (f : Edge) (es : List Edge) (from to most : ℕ) → ((a b n : ℕ) → Decided (Walks es a b n)) → Decided (Through f es from to most)
  through_decided f es from to most decided = by_first (some_below (Parts f es from to most) parts_decided (suc most))
    where
      parts_decided : (first : ℕ) → Decided (Parts f es from to most first)
      parts_decided first = by_parts (no_greater (first + one_if (counts f)) most) (decided from f.from first) (decided f.to to (most - (first + one_if (counts f))))
        where
          by_parts : Decided (first + one_if (counts f) ≤ most) → Decided (Walks es from f.from first) → Decided (Walks es f.to to (most - (first + one_if (counts f))))
              → Decided (Parts f es from to most first)
          by_parts (inl fits) (inl u) (inl v) = inl (record { fits = fits; before = u; behind = v })
          by_parts (inr not_so) u v = inr (λ p. not_so p.fits)
          by_parts (inl fits) (inr not_there) v = inr (λ p. not_there p.before)
          by_parts (inl fits) (inl u) (inr not_on) = inr (λ p. not_on p.behind)

      whole : (s : SomeBelow (Parts f es from to most) (suc most)) → Through f es from to most
      whole s =
          record { first = s.0; second = most - (s.0 + one_if (counts f)); before = s.2.before; behind = s.2.behind; few = omega (arith, s.2.fits) }

      parted : Through f es from to most → SomeBelow (Parts f es from to most) (suc most)
      parted t = (
        t.first,
        omega (arith, t.few),
        record {
          fits = omega (arith, t.few);
          before = t.before;
          behind = looser es f.to to t.second (most - (t.first + one_if (counts f))) (omega (arith, t.few)) t.behind;
        },
      )

      by_first : Decided (SomeBelow (Parts f es from to most) (suc most)) → Decided (Through f es from to most)
      by_first (inl s) = inl (whole s)
      by_first (inr none) = inr (λ t. none (parted t))

  walk_decided : (es : List Edge) (from to most : ℕ) → Decided (Walks es from to most)
  walk_decided [] from to most = by_ends (same_number from to)
    where
      nowhere : ¬ (from ≡ to) → (walk : List Edge) → Leads from walk to → AllByRecursion (λ e. In e []) walk → ⊥
      nowhere apart [] leads within = apart leads
      nowhere apart (e ∷ walk) leads within = within.0

      by_ends : Decided (from ≡ to) → Decided (Walks [] from to most)
      by_ends (inl is) = inl (standing [] from to most is)
      by_ends (inr apart) = inr (λ w. nowhere apart w.walk w.leads w.within)
  walk_decided (f ∷ es) from to most = by_parts (walk_decided es from to most) (through_decided f es from to most (walk_decided es))
    where
      by_parts : Decided (Walks es from to most) → Decided (Through f es from to most) → Decided (Walks (f ∷ es) from to most)
      by_parts (inl w) t = inl (record { walk = w.walk; leads = w.leads; within = wider f es w.walk w.within; few = w.few })
      by_parts (inr no_walk) (inl t) = inl (through f es from to most t)
      by_parts (inr no_walk) (inr not_through) = inr (λ w. either (count_by counts w.walk) w.few (first_use f es from to w.walk w.leads w.within))
        where
          either : (n : ℕ) → n ≤ most → ByOneMore f es from to n → ⊥
          either n few (inl w) = no_walk (looser es from to n most few w)
          either n few (inr t) =
              not_through (record { first = t.first; second = t.second; before = t.before; behind = t.behind; few = omega (arith, few, t.few) })

  -- ---- ways back

  -- one of the edges is of the needed kind, and a walk along usable ones leads back
  record Closes (phenomenon : Phenomenon) (es among : List Edge) (most : ℕ) : Type 0 where
    edge : Edge
    here : In edge among
    needed : is_needed phenomenon edge ≡ true
    back : Walks (filter (may_lead_back phenomenon) es) edge.to edge.from most

  closes_decided : (phenomenon : Phenomenon) (es among : List Edge) (most : ℕ) → Decided (Closes phenomenon es among most)
  closes_decided phenomenon es [] most = inr (λ c. c.here)
  closes_decided phenomenon es (e ∷ among) most =
      by_parts (is_needed phenomenon e) refl (walk_decided usable e.to e.from most) (closes_decided phenomenon es among most)
    where
      usable : List Edge
      usable = filter (may_lead_back phenomenon) es

      at : (c : Closes phenomenon es (e ∷ among) most) → (e ≡ c.edge) ⊎ In c.edge among
      at c = c.here

      by_parts : (needed : Bool) → is_needed phenomenon e ≡ needed → Decided (Walks usable e.to e.from most) → Decided (Closes phenomenon es among most) → Decided (Closes phenomenon es (e ∷ among) most)
      by_parts needed is back (inl c) = inl (record { edge = c.edge; here = inr c.here; needed = c.needed; back = c.back })
      by_parts true is (inl w) (inr none) = inl (record { edge = e; here = inl refl; needed = is; back = w })
      by_parts true is (inr no_way) (inr none) = inr (λ c. either c (at c))
        where
          either : (c : Closes phenomenon es (e ∷ among) most) → (e ≡ c.edge) ⊎ In c.edge among → ⊥
          either c (inl same) = no_way (subst (λ (d : Edge). Walks usable d.to d.from most) (sym same) c.back)
          either c (inr further) = none (record { edge = c.edge; here = further; needed = c.needed; back = c.back })
      by_parts false is back (inr none) = inr (λ c. either c (at c))
        where
          either : (c : Closes phenomenon es (e ∷ among) most) → (e ≡ c.edge) ⊎ In c.edge among → ⊥
          either c (inl same) = false≢true (sym is ∙ (ap (is_needed phenomenon) same ∙ c.needed))
          either c (inr further) = none (record { edge = c.edge; here = further; needed = c.needed; back = c.back })

within_all : (p : Edge → Bool) (es walk : List Edge) → AllByRecursion (λ e. In e (filter p es)) walk → AllByRecursion (λ e. In e es) walk
within_all p es [] within = tt
within_all p es (e ∷ walk) within = (in_filter p e es within.0, within_all p es walk within.1)

all_pass : (p : Edge → Bool) (es walk : List Edge) → AllByRecursion (λ e. In e (filter p es)) walk → list_all p walk ≡ true
all_pass p es [] within = refl
all_pass p es (e ∷ walk) within = and_from (p e) (list_all p walk) (passes_filter p e es within.0) (all_pass p es walk within.1)

within_filtered : (p : Edge → Bool) (es walk : List Edge) → AllByRecursion (λ e. In e es) walk → list_all p walk ≡ true → AllByRecursion (λ e. In e (filter p es)) walk
within_filtered p es [] within pass = tt
within_filtered p es (e ∷ walk) within pass =
    let both = and_parts (p e) (list_all p walk) pass in
    (in_filtered p e es within.0 both.0, within_filtered p es walk within.1 both.1)

-- an edge of the needed kind has a way back on which so many edges count at most
abbrev HasWay : (Edge → Bool) → Phenomenon → List Edge → ℕ → Type 0
HasWay counts phenomenon es most =
    (e : Edge) × Contains es e × (is_needed phenomenon e ≡ true) × (walk : List Edge) × LeadsBack phenomenon es e walk × (count_by counts walk ≤ most)

way_decided : (counts : Edge → Bool) (phenomenon : Phenomenon) (es : List Edge) (most : ℕ) → Decided (HasWay counts phenomenon es most)
way_decided counts phenomenon es most = by_closing (closes_decided counts phenomenon es es most)
  where
    p : Edge → Bool
    p = may_lead_back phenomenon

    return_of : Closes counts phenomenon es es most → HasWay counts phenomenon es most
    return_of c = (
      c.edge,
      Contains_from_in c.edge es c.here,
      c.needed,
      c.back.walk,
      record {
        leads = c.back.leads;
        within = within_contains es c.back.walk (within_all p es c.back.walk c.back.within);
        kinds = all_pass p es c.back.walk c.back.within;
      },
      c.back.few,
    )

    closes_of : HasWay counts phenomenon es most → Closes counts phenomenon es es most
    closes_of (e, among, needed, walk, back, few) =
        record {
          edge = e;
          here = in_from_Contains e es among;
          needed = needed;
          back = record { walk = walk; leads = back.leads; within = within_filtered p es walk (within_in es walk back.within) back.kinds; few = few };
        }

    by_closing : Decided (Closes counts phenomenon es es most) → Decided (HasWay counts phenomenon es most)
    by_closing (inl c) = inl (return_of c)
    by_closing (inr none) = inr (λ w. none (closes_of w))

-- ---- phenomena

-- where no edge counts, a walk may have any number of them
nothing_counts : (walk : List Edge) → count_by (λ e. false) walk ≤ 0
nothing_counts [] = omega arith
nothing_counts (e ∷ walk) = omega (arith, nothing_counts walk, count-cons (λ (d : Edge). false) e walk)

has_decided : (keys : KeyOrder) (phenomenon : Phenomenon) (level : Level) (ts : List Transaction) → Decided (IsThere keys phenomenon level ts)
has_decided keys phenomenon level ts = by_way (way_decided (λ e. false) phenomenon es 0)
  where
    es : List Edge
    es = edges_at keys level ts

    by_way : Decided (HasWay (λ e. false) phenomenon es 0) → Decided (IsThere keys phenomenon level ts)
    by_way (inl (e, among, needed, walk, back, few)) = inl ((closed_by_one phenomenon es).1 (e, among, needed, walk, back))
    by_way (inr none) = inr (λ h. let (e, among, needed, walk, back) = (closed_by_one phenomenon es).0 h in none (e, among, needed, walk, back, nothing_counts walk))

-- ---- the fewest dependency edges

-- a way back with so many at most, and none with fewer
record IsLeastWay (phenomenon : Phenomenon) (es : List Edge) (most : ℕ) : Type 0 where
  way : HasWayBackWithin phenomenon es most
  none_below : (fewer : ℕ) → fewer < most → ¬ HasWayBackWithin phenomenon es fewer

least_way : (phenomenon : Phenomenon) (es : List Edge) (most : ℕ) → HasWayBackWithin phenomenon es most → (least : ℕ) × IsLeastWay phenomenon es least
least_way phenomenon es zero way = (0, record { way = way; none_below = λ fewer less. absurd (omega (arith, less)) })
least_way phenomenon es (suc most) way = by_less (way_decided is_dependency phenomenon es most) (least_way phenomenon es most)
  where
    by_less : Decided (HasWayBackWithin phenomenon es most) → (HasWayBackWithin phenomenon es most → (least : ℕ) × IsLeastWay phenomenon es least) → (least : ℕ) × IsLeastWay phenomenon es least
    by_less (inl less) further = further less
    by_less (inr none) further = (
      suc most,
      record {
        way = way;
        none_below = λ fewer less (e, among, needed, walk, back, few). none (e, among, needed, walk, back, omega (arith, less, few));
      },
    )

fewest_of_least : (phenomenon : Phenomenon) (es : List Edge) (most : ℕ) (walk : List Edge) → IsLeastWay phenomenon es most → dependencies_in walk ≤ 1 + most → HasFewest phenomenon es walk
fewest_of_least phenomenon es most walk least few other shows = by_number (dependencies_in other) refl (some_dependency phenomenon es other shows)
  where
    by_number : (n : ℕ) → dependencies_in other ≡ n → 1 ≤ n → dependencies_in walk ≤ dependencies_in other
    by_number zero is some = absurd (omega (arith, some))
    by_number (suc n) is some = elim (cases_lt n most) [
      | inl less ↦ absurd (least.none_below n less ((few_by_one phenomenon es n).0 (other, shows, omega (arith, is))))
      | inr more ↦ omega (arith, is, few, more)
    ]

-- ---- findings

none_below : (level : Level) → height level < 0 → ⊥
none_below level below = omega (arith, below)

-- what is reported of a phenomenon that is there at a level and at none below
found_at : (keys : KeyOrder) (phenomenon : Phenomenon) (level : Level) (events : List Operation) → IsThere keys phenomenon level (transactions_of events) → ((lower : Level) → height lower < height level → ¬ IsThere keys phenomenon lower (transactions_of events)) → (found : Option Finding) × IsFinding keys phenomenon (transactions_of events) found
found_at keys phenomenon level events here none_lower =
    let es : List Edge = edges_at keys level (transactions_of events) in
    let (e, among, needed, back, leads) = (closed_by_one phenomenon es).0 here in
    let (most, least) = least_way phenomenon es (dependencies_in back) (e, among, needed, back, leads, omega arith) in
    let (shown, shows, few) = (few_by_one phenomenon es most).1 least.way in
    let (walk, witness, fewer) = witness_of_walk keys phenomenon level events shown shows in
    (Some (record { level = level; walk = walk }), ((here, none_lower), (witness, fewest_of_least phenomenon es most walk least (omega (arith, few, fewer)))))

-- each phenomenon has a finding
pub has_finding : (keys : KeyOrder) (phenomenon : Phenomenon) (events : List Operation) → (found : Option Finding) × IsFinding keys phenomenon (transactions_of events) found
has_finding keys phenomenon events = by_levels (has_decided keys phenomenon Plain ts) (has_decided keys phenomenon Process ts) (has_decided keys phenomenon Realtime ts)
  where
    ts : List Transaction
    ts = transactions_of events

    below_process : ¬ IsThere keys phenomenon Plain ts → (lower : Level) → height lower < 1 → ¬ IsThere keys phenomenon lower ts
    below_process not_plain Plain below = not_plain
    below_process not_plain Process below = absurd (omega (arith, below))
    below_process not_plain Realtime below = absurd (omega (arith, below))

    below_realtime : ¬ IsThere keys phenomenon Plain ts → ¬ IsThere keys phenomenon Process ts → (lower : Level) → height lower < 2 → ¬ IsThere keys phenomenon lower ts
    below_realtime not_plain not_process Plain below = not_plain
    below_realtime not_plain not_process Process below = not_process
    below_realtime not_plain not_process Realtime below = absurd (omega (arith, below))

    at_none : ¬ IsThere keys phenomenon Plain ts → ¬ IsThere keys phenomenon Process ts → ¬ IsThere keys phenomenon Realtime ts → (level : Level) → ¬ IsThere keys phenomenon level ts
    at_none not_plain not_process not_realtime Plain = not_plain
    at_none not_plain not_process not_realtime Process = not_process
    at_none not_plain not_process not_realtime Realtime = not_realtime

    by_levels : Decided (IsThere keys phenomenon Plain ts) → Decided (IsThere keys phenomenon Process ts) → Decided (IsThere keys phenomenon Realtime ts) → (found : Option Finding) × IsFinding keys phenomenon ts found
    by_levels (inl plain) process realtime = found_at keys phenomenon Plain events plain (λ lower below. absurd (none_below lower below))
    by_levels (inr not_plain) (inl process) realtime = found_at keys phenomenon Process events process (below_process not_plain)
    by_levels (inr not_plain) (inr not_process) (inl realtime) = found_at keys phenomenon Realtime events realtime (below_realtime not_plain not_process)
    by_levels (inr not_plain) (inr not_process) (inr not_realtime) = (None, (at_none not_plain not_process not_realtime, tt))
