-- A schedule that lists give is in time if each node starts no earlier than its clock shows.
use Rattle.std.proofs.Common.{inl, inr, ◌≡◌, ◌∙◌, ◌<◌, ◌≤◌, ◌+◌, ℕ, zero, suc, List, length, true, Some, Contains, max, slice_index, sym, ap, subst, arith, below_more}
use Rattle.std.specs.Prelude.{slice_get}
use Rattle.std.specs.Option.{option_map_or}
use Rattle.std.proofs.lemmas.Bool.{cases_lt}
use Rattle.std.proofs.lemmas.Option.{slice_get_within}
use Rattle.hist_types.specs.Transactions.{Transaction, is_ok, is_node, nodes}
use Rattle.hist_types.proofs.Members.{in_from_Contains, in_filter, passes_filter}
use Rattle.dep_edges.specs.Histories.{AreOfHistory}
use Rattle.dep_edges.specs.Tables.{txn_at}
use Rattle.dep_edges.proofs.Marks.{place_in}
use Rattle.schedules.specs.Schedules.{IsInTime}
use Rattle.clean_order.specs.AtVersions.{IsListed}
use Rattle.clean_order.specs.Listed.{after_commit, clock, listed}
use Rattle.clean_order.proofs.ByVersion.{in_order, txn_of, number_of}

next_shows : (ends commits : List ℕ) (n : ℕ) → clock ends commits n ≤ clock ends commits (suc n)
next_shows ends commits n =
    above (clock ends commits n) (after_commit ends commits n)
  where
    above : (a b : ℕ) → a ≤ max a b
    above a b = omega arith

pub goes_on :
    (ends commits : List ℕ) (m n : ℕ)
    → m ≤ n
    → clock ends commits m ≤ clock ends commits n
goes_on ends commits m zero h =
    let same : m ≡ 0 = omega (arith, h) in
    subst (λ k. clock ends commits k ≤ clock ends commits 0) (sym same) (omega arith)
goes_on ends commits m (suc n) h = elim (cases_lt n m) [
  | inl past ↦ (
      let same : m ≡ suc n = omega (arith, h, past) in
      let level : clock ends commits m ≡ clock ends commits (suc n) =
      ap (clock ends commits) same in
      omega (arith, level)
      )
  | inr before ↦
      (let rest = goes_on ends commits m n before in omega (arith, rest, next_shows ends commits n))
]

passes_commit :
    (ends commits : List ℕ) (n k : ℕ)
    → slice_get ends n ≡ Some k
    → slice_index commits k < clock ends commits (n + 1)
passes_commit ends commits n k e =
    let shown : after_commit ends commits n ≡ suc (slice_index commits k) =
    ap (λ o. option_map_or (λ k. suc (slice_index commits k)) o 0) e in
    let one_more : n + 1 ≡ suc n = omega arith in
    let next : clock ends commits (n + 1) ≡ clock ends commits (suc n) =
    ap (clock ends commits) one_more in
    let passed = above (clock ends commits n) (after_commit ends commits n) in
    omega (arith, shown, next, passed)
  where
    above : (a b : ℕ) → b ≤ max a b
    above a b = omega arith

-- a node starts no earlier than the clock shows at its invocation
abbrev StartsInTime : List Transaction → (starts commits ends : List ℕ) → (place : ℕ) → Type 0
StartsInTime ts starts commits ends place =
    is_node ts (txn_at ts place) ≡ true
    → clock ends commits (txn_at ts place).invocation ≤ slice_index starts place

-- The first transactions are listed, and start in time. At the index the clock shows no more than
-- what comes after this commit.
pub record AreTimely (ts : List Transaction) (starts commits ends : List ℕ)
    (commit index first : ℕ) : Type 0 where
  pub listed : (place : ℕ) → place < first → IsListed ends (txn_at ts place) place
  pub begun : (place : ℕ) → place < first → StartsInTime ts starts commits ends place
  pub most : clock ends commits index ≤ commit + 1

pub one_more :
    (ts : List Transaction) (starts commits ends : List ℕ) (commit next index later first : ℕ)
    → AreTimely ts starts commits ends commit index first
    → (clock ends commits index ≤ commit + 1
    → clock ends commits (txn_at ts first).invocation ≤ next + 1)
    → commit ≤ next
    → later ≡ max index (txn_at ts first).invocation
    → IsListed ends (txn_at ts first) first
    → (is_node ts (txn_at ts first) ≡ true → next < slice_index starts first)
    → AreTimely ts starts commits ends next later (first + 1)
one_more ts starts commits ends commit next index later first so below rises furthest at_end above =
    let most : clock ends commits (txn_at ts first).invocation ≤ next + 1 = below so.most in
    record {
      listed =
          below_more (λ place. IsListed ends (txn_at ts place) place) first so.listed at_end;
      begun =
          below_more (StartsInTime ts starts commits ends) first so.begun
          (λ node. let higher = above node in omega (arith, most, higher));
      most = elim (cases_lt index (txn_at ts first).invocation) [
        | inl low ↦ (
            let at : clock ends commits later ≡ clock ends commits (txn_at ts first).invocation =
            ap (clock ends commits) (omega (arith, low, furthest)) in
            omega (arith, most, at)
            )
        | inr up ↦ (
            let at : clock ends commits later ≡ clock ends commits index =
            ap (clock ends commits) (omega (arith, up, furthest)) in
            let lower = so.most in
            omega (arith, lower, at, rises)
            )
      ];
    }

pub all_in_time :
    (ts : List Transaction) (starts commits ends : List ℕ) (commit index first : ℕ)
    → AreOfHistory ts
    → AreTimely ts starts commits ends commit index first
    → length ts ≤ first
    → IsInTime ts (listed ts starts commits ends)
all_in_time ts starts commits ends commit index first kept so all =
    record { clock = goes_on ends commits; begun = begun; ended = ended }
  where
    begun :
        (t : Transaction)
        → Contains (nodes ts) t
        → clock ends commits t.invocation ≤ (listed ts starts commits ends).start t.invocation
    begun t c =
        let i = in_from_Contains t (nodes ts) c in
        let (k, at) = place_in ts t (in_filter (is_node ts) t ts i) in
        let is : txn_at ts k ≡ t = txn_of ts k t at in
        let node : is_node ts (txn_at ts k) ≡ true =
        ap (is_node ts) is ∙ passes_filter (is_node ts) t ts i in
        let bound = so.begun k (omega (arith, slice_get_within ts k t at, all)) node in
        let same = ap (λ (x : Transaction). clock ends commits x.invocation) is in
        let number = number_of ts starts (in_order ts kept) k t at in
        omega (arith, bound, same, number)

    ended :
        (t : Transaction)
        → Contains (nodes ts) t
        → (completion : ℕ)
        → is_ok t ≡ true
        → t.completion ≡ Some completion
        → (listed ts starts commits ends).commit t.invocation < clock ends commits (completion + 1)
    ended t c completion ok ends_at =
        let (k, at) =
        place_in ts t (in_filter (is_node ts) t ts (in_from_Contains t (nodes ts) c)) in
        let is : txn_at ts k ≡ t = txn_of ts k t at in
        let within : k < first = omega (arith, slice_get_within ts k t at, all) in
        let is_listed : IsListed ends t k =
        subst (λ x. IsListed ends x k) is (so.listed k within) in
        let passed = passes_commit ends commits completion k (is_listed ok completion ends_at) in
        let number = number_of ts commits (in_order ts kept) k t at in
        omega (arith, passed, number)
