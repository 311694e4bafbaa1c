-- That no closed walk over a written-out list of edges has fewer dependency edges.
use Rattle.std.proofs.Common.{◌≡◌, ◌⊎◌, inl, inr, ◌||◌, ℕ, ◌+◌, ◌≤◌, List, [], ◌∷◌, Bool, true, not, ◌&&◌, ◌==◌, cond, count_by, sym, ap, arith}
use Rattle.std.specs.List.{AllByRecursion, list_all, list_any}
use Rattle.std.proofs.lemmas.Bool.{false≢true, and_parts, or_cases, eqb-true, eqb-false, not-true}
use Rattle.std.proofs.lemmas.List.Sums.{sum_by-cons}
use Rattle.hist_types.specs.Transactions.{Transaction}
use Rattle.hist_types.specs.Edges.{Label, ww, wr, rw, process, realtime, Edge, edges_at}
use Rattle.hist_types.specs.Phenomena.{IsClosedWalk, is_ww_label, is_wr_label, is_rw_label, is_wr, is_rw, is_order}
use Rattle.hist_types.specs.Witness.{dependencies_in, HasFewest}
use Rattle.hist_types.specs.declared.types.Level.{Level}
use Rattle.hist_types.specs.declared.types.Phenomenon.{Phenomenon}
use Rattle.hist_types.specs.declared.types.Phenomenon.TheVariants.{GSingle, G2Item}
use Rattle.hist_types.specs.declared.types.KeyOrder.TheVariants.{Basic}
use Rattle.hist_types.proofs.Rows.Absence.{walk_passes, leads_down, not_closed}

abbrev one_if : Bool → ℕ
one_if b = cond b 1 0

counted : (p : Edge → Bool) (e : Edge) (es : List Edge) → count_by p (e ∷ es) ≡ one_if (p e) + count_by p es
counted p e es = sum_by-cons (λ d. one_if (p d)) e es

-- ---- two dependency edges at least

-- a dependency edge between two transactions
abbrev pub is_proper : Edge → Bool
is_proper e = not (is_order e) && not (e.from == e.to)

two_proper : (walk : List Edge) → AllByRecursion (λ e. is_proper e ≡ true) walk → IsClosedWalk walk → 2 ≤ dependencies_in walk
two_proper [] all closed = elim closed [ ]
two_proper (e ∷ []) all closed =
    elim (eqb-false e.from e.to (not-true (e.from == e.to) (and_parts (not (is_order e)) (not (e.from == e.to)) all.0).1) (sym closed)) [ ]
two_proper (e ∷ d ∷ es) all closed =
    let first : one_if (not (is_order e)) ≡ 1 = ap one_if (and_parts (not (is_order e)) (not (e.from == e.to)) all.0).0 in
    let second : one_if (not (is_order d)) ≡ 1 = ap one_if (and_parts (not (is_order d)) (not (d.from == d.to)) all.1.0).0 in
    omega (arith, first, second, counted (λ e. not (is_order e)) e (d ∷ es), counted (λ e. not (is_order e)) d es)

-- over such edges alone no closed walk has one
pub fewest_of_two :
    (phenomenon : Phenomenon) (level : Level) (ts : List Transaction) (walk : List Edge)
    → list_all is_proper (edges_at Basic level ts) ≡ true
    → dependencies_in walk ≤ 2
    → HasFewest phenomenon (edges_at Basic level ts) walk
fewest_of_two phenomenon level ts walk proper few other shows =
    omega (arith, few, two_proper other (walk_passes is_proper (edges_at Basic level ts) other proper shows.within) shows.closed)

-- ---- wr and rw edges

apart_label : (label : Label) → one_if (is_wr_label label) + one_if (is_rw_label label) ≤ one_if (not (not (is_ww_label label || is_wr_label label || is_rw_label label)))
apart_label (ww earlier later) = omega arith
apart_label (wr version) = omega arith
apart_label (rw earlier later) = omega arith
apart_label (process number) = omega arith
apart_label (realtime completion invocation) = omega arith

wr_and_rw : (walk : List Edge) → count_by is_wr walk + count_by is_rw walk ≤ dependencies_in walk
wr_and_rw [] = omega arith
wr_and_rw (e ∷ es) =
    omega (arith, apart_label e.label, wr_and_rw es, counted is_wr e es, counted is_rw e es, counted (λ e. not (is_order e)) e es)

some_counted : (p : Edge → Bool) (walk : List Edge) → list_any p walk ≡ true → 1 ≤ count_by p walk
some_counted p [] some = elim (false≢true some) [ ]
some_counted p (e ∷ es) some = elim (or_cases (p e) (list_any p es) some) [
  | inl here ↦ let one : one_if (p e) ≡ 1 = ap one_if here in omega (arith, one, counted p e es)
  | inr further ↦ omega (arith, some_counted p es further, counted p e es)
]

-- a walk with an rw edge
pub fewest_of_one_single :
    (level : Level) (ts : List Transaction) (walk : List Edge)
    → dependencies_in walk ≤ 1
    → HasFewest GSingle (edges_at Basic level ts) walk
fewest_of_one_single level ts walk few other shows =
    let one : count_by is_rw other ≡ 1 = eqb-true (count_by is_rw other) 1 shows.kinds in
    omega (arith, few, one, wr_and_rw other)

pub fewest_of_one_item :
    (level : Level) (ts : List Transaction) (walk : List Edge)
    → dependencies_in walk ≤ 1
    → HasFewest G2Item (edges_at Basic level ts) walk
fewest_of_one_item level ts walk few other shows = omega (arith, few, some_counted is_rw other shows.kinds, wr_and_rw other)

-- ---- edges that lead down, but for the wr edges

wr_or_down :
    (f : ℕ → ℕ) (walk : List Edge)
    → AllByRecursion (λ e. (is_wr e || leads_down f e) ≡ true) walk
    → (1 ≤ count_by is_wr walk) ⊎ AllByRecursion (λ e. leads_down f e ≡ true) walk
wr_or_down f [] all = inr tt
wr_or_down f (e ∷ es) all = elim (or_cases (is_wr e) (leads_down f e) all.0) [
  | inl here ↦ let one : one_if (is_wr e) ≡ 1 = ap one_if here in inl (omega (arith, one, counted is_wr e es))
  | inr down ↦ elim (wr_or_down f es all.1) [
    | inl some ↦ inl (omega (arith, some, counted is_wr e es))
    | inr rest ↦ inr (down, rest)
  ]
]

-- a closed walk over them has a wr edge
some_wr :
    (level : Level) (ts : List Transaction) (f : ℕ → ℕ) (walk : List Edge)
    → list_all (λ e. is_wr e || leads_down f e) (edges_at Basic level ts) ≡ true
    → AllByRecursion (λ e. (is_wr e || leads_down f e) ≡ true) walk
    → IsClosedWalk walk
    → 1 ≤ count_by is_wr walk
some_wr level ts f walk passes all closed = elim (wr_or_down f walk all) [
  | inl some ↦ some
  | inr down ↦ elim (not_closed f walk down closed) [ ]
]

pub fewest_with_wr_single :
    (level : Level) (ts : List Transaction) (f : ℕ → ℕ) (walk : List Edge)
    → list_all (λ e. is_wr e || leads_down f e) (edges_at Basic level ts) ≡ true
    → dependencies_in walk ≤ 2
    → HasFewest GSingle (edges_at Basic level ts) walk
fewest_with_wr_single level ts f walk passes few other shows =
    let one : count_by is_rw other ≡ 1 = eqb-true (count_by is_rw other) 1 shows.kinds in
    let all = walk_passes (λ e. is_wr e || leads_down f e) (edges_at Basic level ts) other passes shows.within in
    omega (arith, few, one, some_wr level ts f other passes all shows.closed, wr_and_rw other)

pub fewest_with_wr_item :
    (level : Level) (ts : List Transaction) (f : ℕ → ℕ) (walk : List Edge)
    → list_all (λ e. is_wr e || leads_down f e) (edges_at Basic level ts) ≡ true
    → dependencies_in walk ≤ 2
    → HasFewest G2Item (edges_at Basic level ts) walk
fewest_with_wr_item level ts f walk passes few other shows =
    let all = walk_passes (λ e. is_wr e || leads_down f e) (edges_at Basic level ts) other passes shows.within in
    omega (arith, few, some_counted is_rw other shows.kinds, some_wr level ts f other passes all shows.closed, wr_and_rw other)
