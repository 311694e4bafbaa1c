-- Phenomena and levels (Adya's thesis; the three levels are this project's own).
--
-- A closed walk goes along edges, each beginning where the one before it ends, back to where it
-- began, and has one edge at least. At the level plain it uses dependency edges alone. At process
-- it may also use process edges. At realtime it may use realtime edges and no process edges: what
-- is ordered within a process is then reported as ordered in real time.
--     G0         ww and order edges only, at least one ww
--     G1c        ww, wr and order edges only, at least one wr
--     G-single   exactly one rw, any other edges of the level
--     G2-item    at least one rw
-- A phenomenon is reported at the lowest level that has such a walk.
--     G1a        a transaction reads a version that a failed one wrote
--     G1b        a transaction reads an intermediate version of another one, of any status
-- These two have no level; each is reported by the reader with the least index and its first such
-- read. A stray read (Elle: garbage read) is a read of a version that isn't nil and that no
-- transaction wrote. Reads are meant as in Transactions: external ones, of ok transactions.
use Rattle.std.specs.Prelude.{◌≡◌, ◌⊎◌, ℕ, ◌<◌, List, [], ◌∷◌, length, Bool, true, false, not, ◌&&◌, ◌||◌, ◌==◌, if◌then◌else◌, IsTrue, Option, Some, None, is_some, filter, map, flat_map, Contains, All, count_by}
use Rattle.std.specs.List.{list_any, list_all}
use Rattle.hist_types.specs.Transactions.{Transaction, Version, is_ok, is_failed, external_reads, writes, wrote_intermediate}
use Rattle.hist_types.specs.Edges.{Label, ww, wr, rw, Edge, edges_at}
use Rattle.hist_types.specs.declared.types.Level.{Level}
use Rattle.hist_types.specs.declared.types.Level.TheVariants.{Plain, Process, Realtime}
use Rattle.hist_types.specs.declared.types.Phenomenon.{Phenomenon}
use Rattle.hist_types.specs.declared.types.Phenomenon.TheVariants.{G0, G1c, GSingle, G2Item}
use Rattle.hist_types.specs.declared.types.KeyOrder.{KeyOrder}

-- ---- walks

-- the edges lead from one transaction to another
abbrev pub Leads : ℕ → List Edge → ℕ → Type 0
Leads from [] to = from ≡ to
Leads from (e ∷ es) to = (e.from ≡ from) × Leads e.to es to

-- with one edge at least, back to where it began
abbrev pub IsClosedWalk : List Edge → Type 0
IsClosedWalk [] = ⊥
IsClosedWalk (e ∷ es) = Leads e.to es e.from

abbrev pub is_ww_label : Label → Bool
is_ww_label (ww earlier later) = true
is_ww_label label = false

abbrev pub is_wr_label : Label → Bool
is_wr_label (wr version) = true
is_wr_label label = false

abbrev pub is_rw_label : Label → Bool
is_rw_label (rw earlier later) = true
is_rw_label label = false

abbrev pub is_ww : Edge → Bool
is_ww e = is_ww_label e.label

abbrev pub is_wr : Edge → Bool
is_wr e = is_wr_label e.label

abbrev pub is_rw : Edge → Bool
is_rw e = is_rw_label e.label

abbrev pub is_order : Edge → Bool
is_order e = not (is_ww e || is_wr e || is_rw e)

-- the kinds of edges, and how many of them, that make the phenomenon
abbrev pub makes : Phenomenon → List Edge → Bool
makes G0 walk = list_all (λ e. is_ww e || is_order e) walk && list_any is_ww walk
makes G1c walk = list_all (λ e. is_ww e || is_wr e || is_order e) walk && list_any is_wr walk
makes GSingle walk = count_by is_rw walk == 1
makes G2Item walk = list_any is_rw walk

-- the walk goes along these edges only, and shows the phenomenon
pub record Shows (phenomenon : Phenomenon) (es walk : List Edge) : Type 0 where
  pub closed : IsClosedWalk walk
  pub within : All (Contains es) walk
  pub kinds : IsTrue (makes phenomenon walk)

-- some walk along these edges shows it
abbrev pub IsShownBy : Phenomenon → List Edge → Type 0
IsShownBy phenomenon es = (walk : List Edge) × Shows phenomenon es walk

-- the phenomenon is there at the level
abbrev pub IsThere : KeyOrder → Phenomenon → Level → List Transaction → Type 0
IsThere keys phenomenon level ts = IsShownBy phenomenon (edges_at keys level ts)

-- plain is the lowest level, and realtime the highest
abbrev pub height : Level → ℕ
height Plain = 0
height Process = 1
height Realtime = 2

-- the lowest level at which the phenomenon is there, or none
abbrev pub IsLowestLevel : KeyOrder → Phenomenon → List Transaction → Option Level → Type 0
IsLowestLevel keys phenomenon ts None = (level : Level) → ¬ IsThere keys phenomenon level ts
IsLowestLevel keys phenomenon ts (Some level) =
    IsThere keys phenomenon level ts
    × ((lower : Level) → height lower < height level → ¬ IsThere keys phenomenon lower ts)

-- ---- reads of versions that should not have been seen

-- a read of an ok transaction, and a transaction that wrote its version
pub record BadRead : Type 0 where
  pub reader : ℕ
  pub version : Version
  pub writer : ℕ

abbrev pub bad_read : Transaction → Version → Transaction → BadRead
bad_read reader v writer =
    record { reader = reader.invocation; version = v; writer = writer.invocation }

-- what f gives for each version that an ok transaction reads: by reader, and in it by read
abbrev pub for_each_read :
    {A : Type 0} → List Transaction → (Transaction → Version → List A) → List A
for_each_read ts f =
    flat_map (λ (t : Transaction). flat_map (f t) (external_reads t)) (filter is_ok ts)

-- the first of a list
abbrev pub first_of : {A : Type 0} → List A → Option A
first_of [] = None
first_of (x ∷ xs) = Some x

-- the failed transactions that wrote the version
abbrev pub aborted_writers : List Transaction → Version → List Transaction
aborted_writers ts v = filter (λ writer. is_failed writer && writes writer v) ts

abbrev pub aborted_reads : List Transaction → List BadRead
aborted_reads ts = for_each_read ts (λ reader v. map (bad_read reader v) (aborted_writers ts v))

abbrev pub g1a : List Transaction → Option BadRead
g1a ts = first_of (aborted_reads ts)

-- the transactions other than the reader of which the version is an intermediate one
abbrev pub intermediate_writers : List Transaction → Transaction → Version → List Transaction
intermediate_writers ts reader v =
    filter
    (λ writer. not (writer.invocation == reader.invocation) && wrote_intermediate writer v)
    ts

abbrev pub intermediate_reads : List Transaction → List BadRead
intermediate_reads ts =
    for_each_read ts (λ reader v. map (bad_read reader v) (intermediate_writers ts reader v))

abbrev pub g1b : List Transaction → Option BadRead
g1b ts = first_of (intermediate_reads ts)

-- whether the version isn't nil and nobody wrote it
abbrev pub is_stray : List Transaction → Version → Bool
is_stray ts v = is_some v.value && not (list_any (λ writer. writes writer v) ts)

abbrev pub stray_reads : List Transaction → List Version
stray_reads ts = for_each_read ts (λ reader v. if is_stray ts v then v ∷ [] else [])

abbrev pub stray : List Transaction → ℕ
stray ts = length (stray_reads ts)

-- ---- any of the six

-- some phenomenon is there: a cycle shows it at some level, or a read does
abbrev pub HasPhenomenon : KeyOrder → List Transaction → Type 0
HasPhenomenon keys ts =
    ((phenomenon : Phenomenon) × (level : Level) × IsThere keys phenomenon level ts)
    ⊎ IsTrue (is_some (g1a ts) || is_some (g1b ts))
