-- A schedule that lists give: starts and commits by place of transaction, and by event the place of
-- the transaction that it completed.
use Rattle.std.specs.Prelude.{ℕ, zero, suc, List, [], ◌∷◌, ◌==◌, if◌then◌else◌, max, slice_index, slice_get, Contains, IsTrue}
use Rattle.std.specs.Option.{option_map_or}
use Rattle.hist_types.specs.Edges.{Edge, dependency_edges}
use Rattle.hist_types.specs.Transactions.{Transaction}
use Rattle.dep_edges.specs.Histories.{History}
use Rattle.schedules.specs.Schedules.{Schedule, IsKept, is_of, Keeps}
use Rattle.schedules.specs.declared.types.EdgeKinds.{EdgeKinds}

-- the place of the transaction that the event with this index invoked
abbrev pub place : (index : ℕ) → List Transaction → ℕ
place index [] = 0
place index (t ∷ ts) = if t.invocation == index then 0 else suc (place index ts)

-- what comes next after the commit of the transaction that the event completed, if there is one
abbrev pub after_commit : (ends commits : List ℕ) → (event : ℕ) → ℕ
after_commit ends commits event =
    option_map_or (λ k. suc (slice_index commits k)) (slice_get ends event) 0

-- the clock shows more than the commits of those that so many events completed
abbrev pub clock : (ends commits : List ℕ) → (events : ℕ) → ℕ
clock ends commits zero = 0
clock ends commits (suc n) = max (clock ends commits n) (after_commit ends commits n)

abbrev pub listed : List Transaction → (starts commits ends : List ℕ) → Schedule
listed ts starts commits ends =
    record {
      start = λ index. slice_index starts (place index ts);
      commit = λ index. slice_index commits (place index ts);
      clock = clock ends commits;
    }

-- it keeps the history's dependency edges of these kinds, whoever completed when
abbrev pub KeepsDependencies : History → EdgeKinds → (starts commits : List ℕ) → Type 0
KeepsDependencies h kinds starts commits =
    (ends : List ℕ) (e : Edge)
    → Contains (dependency_edges h.table.keys h.txns) e
    → IsTrue (is_of kinds e.label)
    → IsKept (listed h.txns starts commits ends) e

-- it keeps the history's edges of these kinds
abbrev pub KeepsListed : History → EdgeKinds → (starts commits ends : List ℕ) → Type 0
KeepsListed h kinds starts commits ends =
    Keeps h.table.keys kinds h.txns (listed h.txns starts commits ends)
