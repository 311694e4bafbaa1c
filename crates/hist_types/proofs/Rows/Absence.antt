-- That a phenomenon is not there: a written-out list of edges has no closed walk of its kind.
use Rattle.std.proofs.Common.{◌≡◌, inl, inr, ◌||◌, ℕ, ◌+◌, ◌<◌, ◌≤◌, List, [], ◌∷◌, Bool, true, not, ◌&&◌, ◌==◌, nat_lt, cond, Some, None, All, Contains, count_by, refl, sym, ◌∙◌, ap, arith}
use Rattle.std.specs.List.{AllByRecursion, list_all, list_any}
use Rattle.std.proofs.lemmas.Bool.{false≢true, and_parts, or_cases, ltb-true, eqb-true, eqb-false, not-true}
use Rattle.std.proofs.lemmas.List.Elements.{All-from_recursion, recursion_from_All, All-weaker, All-contains}
use Rattle.std.proofs.lemmas.List.Sums.{sum_by-cons}
use Rattle.hist_types.specs.Transactions.{Transaction}
use Rattle.hist_types.specs.Edges.{Label, rw, Edge, edges_at}
use Rattle.hist_types.specs.Phenomena.{Leads, IsClosedWalk, is_ww_label, is_wr_label, is_rw_label, is_ww, is_wr, is_rw, is_order, IsThere, height, IsLowestLevel}
use Rattle.hist_types.specs.Witness.{IsWitness, Finding, IsFinding, HasFewest}
use Rattle.hist_types.specs.declared.types.Level.{Level}
use Rattle.hist_types.specs.declared.types.Level.TheVariants.{Plain, Process, Realtime}
use Rattle.hist_types.specs.declared.types.Phenomenon.{Phenomenon}
use Rattle.hist_types.specs.declared.types.Phenomenon.TheVariants.{G0, G1c, GSingle, G2Item}
use Rattle.hist_types.specs.declared.types.KeyOrder.TheVariants.{Basic}

each_passes : (p : Edge → Bool) (es : List Edge) → list_all p es ≡ true → AllByRecursion (λ e. p e ≡ true) es
each_passes p [] e = tt
each_passes p (d ∷ es) e = let parts = and_parts (p d) (list_all p es) e in (parts.0, each_passes p es parts.1)

-- what each edge of a list passes, each edge of a walk over them passes
pub walk_passes : (p : Edge → Bool) (es walk : List Edge) → list_all p es ≡ true → All (Contains es) walk → AllByRecursion (λ e. p e ≡ true) walk
walk_passes p es walk passes within =
    recursion_from_All (λ e. p e ≡ true) walk
    (All-weaker (Contains es) (λ e. p e ≡ true)
    (λ d c. All-contains (λ e. p e ≡ true) es d (All-from_recursion (λ e. p e ≡ true) es (each_passes p es passes)) c)
    walk within)

-- ---- edges that all lead down

-- by a number for each transaction
abbrev pub leads_down : (ℕ → ℕ) → Edge → Bool
leads_down f e = nat_lt (f e.to) (f e.from)

down_to :
    (f : ℕ → ℕ) (walk : List Edge) (from to : ℕ)
    → AllByRecursion (λ e. leads_down f e ≡ true) walk
    → Leads from walk to
    → f to ≤ f from
down_to f [] from to down leads = let same : f from ≡ f to = ap f leads in omega (arith, same)
down_to f (e ∷ es) from to down leads =
    let same : f e.from ≡ f from = ap f leads.0 in
    omega (arith, same, down_to f es e.to to down.1 leads.1, ltb-true (f e.to) (f e.from) down.0)

pub not_closed : (f : ℕ → ℕ) (walk : List Edge) → AllByRecursion (λ e. leads_down f e ≡ true) walk → IsClosedWalk walk → ⊥
not_closed f [] down closed = closed
not_closed f (e ∷ es) down closed =
    omega (arith, down_to f es e.to e.from down.1 closed, ltb-true (f e.to) (f e.from) down.0)

pub no_cycle :
    (phenomenon : Phenomenon) (level : Level) (ts : List Transaction) (f : ℕ → ℕ)
    → list_all (leads_down f) (edges_at Basic level ts) ≡ true
    → ¬ IsThere Basic phenomenon level ts
no_cycle phenomenon level ts f down has =
    not_closed f has.0 (walk_passes (leads_down f) (edges_at Basic level ts) has.0 down has.1.within) has.1.closed

-- ---- edges without the kind that is needed

without : (p : Edge → Bool) (walk : List Edge) → AllByRecursion (λ e. not (p e) ≡ true) walk → list_any p walk ≡ true → ⊥
without p [] none some = false≢true some
without p (e ∷ es) none some = elim (or_cases (p e) (list_any p es) some) [
  | inl here ↦ false≢true (sym (not-true (p e) none.0) ∙ here)
  | inr further ↦ without p es none.1 further
]

none_counted : (p : Edge → Bool) (walk : List Edge) → AllByRecursion (λ e. not (p e) ≡ true) walk → count_by p walk ≡ 0
none_counted p [] none = refl
none_counted p (e ∷ es) none =
    sum_by-cons (λ d. cond (p d) 1 0) e es
    ∙ (ap (λ b. cond b 1 0 + count_by p es) (not-true (p e) none.0) ∙ ap (λ n. 0 + n) (none_counted p es none.1))

pub no_ww : (level : Level) (ts : List Transaction) → list_all (λ e. not (is_ww e)) (edges_at Basic level ts) ≡ true → ¬ IsThere Basic G0 level ts
no_ww level ts none has =
    without is_ww has.0 (walk_passes (λ e. not (is_ww e)) (edges_at Basic level ts) has.0 none has.1.within)
    (and_parts (list_all (λ e. is_ww e || is_order e) has.0) (list_any is_ww has.0) has.1.kinds).1

pub no_wr : (level : Level) (ts : List Transaction) → list_all (λ e. not (is_wr e)) (edges_at Basic level ts) ≡ true → ¬ IsThere Basic G1c level ts
no_wr level ts none has =
    without is_wr has.0 (walk_passes (λ e. not (is_wr e)) (edges_at Basic level ts) has.0 none has.1.within)
    (and_parts (list_all (λ e. is_ww e || is_wr e || is_order e) has.0) (list_any is_wr has.0) has.1.kinds).1

pub no_rw : (level : Level) (ts : List Transaction) → list_all (λ e. not (is_rw e)) (edges_at Basic level ts) ≡ true → ¬ IsThere Basic G2Item level ts
no_rw level ts none has =
    without is_rw has.0 (walk_passes (λ e. not (is_rw e)) (edges_at Basic level ts) has.0 none has.1.within) has.1.kinds

pub no_single_rw : (level : Level) (ts : List Transaction) → list_all (λ e. not (is_rw e)) (edges_at Basic level ts) ≡ true → ¬ IsThere Basic GSingle level ts
no_single_rw level ts none has =
    let one : count_by is_rw has.0 ≡ 1 = eqb-true (count_by is_rw has.0) 1 has.1.kinds in
    omega (arith, one, none_counted is_rw has.0 (walk_passes (λ e. not (is_rw e)) (edges_at Basic level ts) has.0 none has.1.within))

-- ---- edges that lead down, but for the rw edges

not_rw : (label : Label) → (is_ww_label label || is_wr_label label || not (is_ww_label label || is_wr_label label || is_rw_label label)) ≡ true → is_rw_label label ≡ true → ⊥
not_rw (rw earlier later) g1c e = false≢true g1c
not_rw label g1c e = false≢true e

down_without_rw :
    (f : ℕ → ℕ) (walk : List Edge)
    → AllByRecursion (λ e. (is_rw e || leads_down f e) ≡ true) walk
    → AllByRecursion (λ e. (is_ww e || is_wr e || is_order e) ≡ true) walk
    → AllByRecursion (λ e. leads_down f e ≡ true) walk
down_without_rw f [] passes g1c = tt
down_without_rw f (e ∷ es) passes g1c = (
  elim (or_cases (is_rw e) (leads_down f e) passes.0) [ inl is ↦ elim (not_rw e.label g1c.0 is) [ ] | inr down ↦ down ],
  down_without_rw f es passes.1 g1c.1,
)

-- A G1c uses no rw edge.
pub no_g1c_cycle : (level : Level) (ts : List Transaction) (f : ℕ → ℕ) → list_all (λ e. is_rw e || leads_down f e) (edges_at Basic level ts) ≡ true → ¬ IsThere Basic G1c level ts
no_g1c_cycle level ts f passes has =
    not_closed f has.0
    (down_without_rw f has.0
    (walk_passes (λ e. is_rw e || leads_down f e) (edges_at Basic level ts) has.0 passes has.1.within)
    (each_passes (λ e. is_ww e || is_wr e || is_order e) has.0
    (and_parts (list_all (λ e. is_ww e || is_wr e || is_order e) has.0) (list_any is_wr has.0) has.1.kinds).0))
    has.1.closed

-- ---- rw edges alone

-- an rw edge between two transactions
abbrev pub is_proper_rw : Edge → Bool
is_proper_rw e = is_rw e && not (e.from == e.to)

counted_one : (e : Edge) (es : List Edge) → is_rw e ≡ true → count_by is_rw (e ∷ es) ≡ 1 + count_by is_rw es
counted_one e es one = sum_by-cons (λ d. cond (is_rw d) 1 0) e es ∙ ap (λ b. cond b 1 0 + count_by is_rw es) one

more_than_one : (walk : List Edge) → AllByRecursion (λ e. is_proper_rw e ≡ true) walk → IsClosedWalk walk → count_by is_rw walk ≡ 1 → ⊥
more_than_one [] all closed one = closed
more_than_one (e ∷ []) all closed one =
    eqb-false e.from e.to (not-true (e.from == e.to) (and_parts (is_rw e) (not (e.from == e.to)) all.0).1) (sym closed)
more_than_one (e ∷ d ∷ es) all closed one =
    omega (
      arith,
      one,
      counted_one e (d ∷ es) (and_parts (is_rw e) (not (e.from == e.to)) all.0).0,
      counted_one d es (and_parts (is_rw d) (not (d.from == d.to)) all.1.0).0,
    )

-- A closed walk of rw edges between different transactions has two of them at least.
pub only_rw : (level : Level) (ts : List Transaction) → list_all is_proper_rw (edges_at Basic level ts) ≡ true → ¬ IsThere Basic GSingle level ts
only_rw level ts all has =
    more_than_one has.0 (walk_passes is_proper_rw (edges_at Basic level ts) has.0 all has.1.within) has.1.closed
    (eqb-true (count_by is_rw has.0) 1 has.1.kinds)

-- ---- findings

no_level :
    (phenomenon : Phenomenon) (ts : List Transaction)
    → ¬ IsThere Basic phenomenon Plain ts
    → ¬ IsThere Basic phenomenon Process ts
    → ¬ IsThere Basic phenomenon Realtime ts
    → IsLowestLevel Basic phenomenon ts None
no_level phenomenon ts plain process realtime Plain = plain
no_level phenomenon ts plain process realtime Process = process
no_level phenomenon ts plain process realtime Realtime = realtime

pub at_no_level : (phenomenon : Phenomenon) (ts : List Transaction) → ¬ IsThere Basic phenomenon Plain ts → ¬ IsThere Basic phenomenon Process ts → ¬ IsThere Basic phenomenon Realtime ts → IsFinding Basic phenomenon ts None
at_no_level phenomenon ts plain process realtime = (no_level phenomenon ts plain process realtime, tt)

-- at each level the edges lack what it needs
pub no_finding :
    (phenomenon : Phenomenon) (p : Edge → Bool)
    → ((level : Level) (ts : List Transaction) → list_all p (edges_at Basic level ts) ≡ true → ¬ IsThere Basic phenomenon level ts)
    → (ts : List Transaction)
    → list_all p (edges_at Basic Plain ts) ≡ true
    → list_all p (edges_at Basic Process ts) ≡ true
    → list_all p (edges_at Basic Realtime ts) ≡ true
    → IsFinding Basic phenomenon ts None
no_finding phenomenon p none ts plain process realtime =
    at_no_level phenomenon ts (none Plain ts plain) (none Process ts process) (none Realtime ts realtime)

-- a level with a witness of the fewest dependency edges, and no lower one
pub at_level :
    (phenomenon : Phenomenon) (ts : List Transaction) (found : Finding)
    → IsWitness Basic phenomenon found.level ts found.walk
    → HasFewest phenomenon (edges_at Basic found.level ts) found.walk
    → ((lower : Level) → height lower < height found.level → ¬ IsThere Basic phenomenon lower ts)
    → IsFinding Basic phenomenon ts (Some found)
at_level phenomenon ts found witness fewest lower = (((found.walk, witness.shows), lower), (witness, fewest))

-- nothing is below plain
pub below_plain : (phenomenon : Phenomenon) (ts : List Transaction) → (lower : Level) → height lower < height Plain → ¬ IsThere Basic phenomenon lower ts
below_plain phenomenon ts lower below has = omega (arith, below)

pub below_process : (phenomenon : Phenomenon) (ts : List Transaction) → ¬ IsThere Basic phenomenon Plain ts → (lower : Level) → height lower < height Process → ¬ IsThere Basic phenomenon lower ts
below_process phenomenon ts plain Plain below = plain
below_process phenomenon ts plain Process below = λ has. omega (arith, below)
below_process phenomenon ts plain Realtime below = λ has. omega (arith, below)

pub below_realtime :
    (phenomenon : Phenomenon) (ts : List Transaction)
    → ¬ IsThere Basic phenomenon Plain ts
    → ¬ IsThere Basic phenomenon Process ts
    → (lower : Level)
    → height lower < height Realtime
    → ¬ IsThere Basic phenomenon lower ts
below_realtime phenomenon ts plain process Plain below = plain
below_realtime phenomenon ts plain process Process below = process
below_realtime phenomenon ts plain process Realtime below = λ has. omega (arith, below)
