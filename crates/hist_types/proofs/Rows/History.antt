-- Short names in which the worked histories are written, and what makes a written-out walk a witness.
use Rattle.std.proofs.Common.{◌≡◌, ℕ, List, [], ◌∷◌, ◌++◌, length, get_or, pos, codes, Some, None, true, nat_eq, nat_lt, map}
use Rattle.std.specs.Bool.{⊤}
use Rattle.std.specs.List.{AllByRecursion, Contains}
use Rattle.std.proofs.lemmas.List.Elements.{All-from_recursion}
use Rattle.std.specs.Set.{distinct_count}
use Rattle.std.proofs.lemmas.Bool.{ltb-true}
use Rattle.std.proofs.lemmas.Cmp.{nat_eq_equiv}
use Rattle.std.proofs.lemmas.Map.Made.{IsDistinct-from_count}
use Rattle.hist_types.specs.Atoms.{Atom, integer, keyword}
use Rattle.hist_types.specs.Operations.{Mop, read, write, Operation}
use Rattle.hist_types.specs.Journal.{first_broken, events_of}
use Rattle.hist_types.specs.Transactions.{Transaction, Version, Ok, Fail, Info, Open, transactions_of, nodes}
use Rattle.hist_types.specs.Versions.{VersionPair, nil_of, version_pairs}
use Rattle.hist_types.specs.Versions as versions
use Rattle.hist_types.specs.Edges.{ww, wr, rw, process, realtime, Edge, edges_at, dependency_edges}
use Rattle.hist_types.specs.Phenomena.{IsClosedWalk, makes}
use Rattle.hist_types.specs.Witness.{IsWitness, stations, alternates, ends_in_order, begins_least}
use Rattle.hist_types.specs.Texts.{finding_lines}
use Rattle.hist_types.specs.declared.types.Level.{Level}
use Rattle.hist_types.specs.declared.types.Phenomenon.{Phenomenon}
use Rattle.hist_types.specs.declared.types.Phenomenon.TheVariants.{GSingle, G2Item}
use Rattle.hist_types.specs.declared.types.OpKind.TheVariants as kinds
use Rattle.hist_types.specs.declared.types.KeyOrder.{KeyOrder}
use Rattle.hist_types.specs.declared.types.KeyOrder.TheVariants.{Basic}

-- ---- keys and values

abbrev pub x : Atom
x = keyword (codes ":x")

abbrev pub y : Atom
y = keyword (codes ":y")

abbrev pub number : ℕ → Atom
number n = integer (pos n)

-- ---- micro-operations

-- the number is written to the key
abbrev pub sets : Atom → ℕ → Mop
sets key n = write key (number n)

-- the key is read, and the number returned
abbrev pub gets : Atom → ℕ → Mop
gets key n = read key (Some (number n))

-- the key is read, and nil returned; the invocation of a read says so too
abbrev pub finds_nil : Atom → Mop
finds_nil key = read key None

-- ---- operations

abbrev pub invoke : ℕ → List Mop → Operation
invoke p mops = record { kind = kinds.Invoke; process = p; mops = mops }

abbrev pub ok : ℕ → List Mop → Operation
ok p mops = record { kind = kinds.Ok; process = p; mops = mops }

abbrev pub fail : ℕ → Operation
fail p = record { kind = kinds.Fail; process = p; mops = [] }

abbrev pub info : ℕ → Operation
info p = record { kind = kinds.Info; process = p; mops = [] }

-- ---- transactions, by process, index of the invocation and index of the completion

abbrev pub committed : ℕ → ℕ → ℕ → List Mop → Transaction
committed p invocation completion mops =
    record { process = p; invocation = invocation; completion = Some completion; status = Ok; mops = mops }

abbrev pub aborted : ℕ → ℕ → ℕ → List Mop → Transaction
aborted p invocation completion mops =
    record { process = p; invocation = invocation; completion = Some completion; status = Fail; mops = mops }

abbrev pub unknown : ℕ → ℕ → ℕ → List Mop → Transaction
unknown p invocation completion mops =
    record { process = p; invocation = invocation; completion = Some completion; status = Info; mops = mops }

abbrev pub unfinished : ℕ → ℕ → List Mop → Transaction
unfinished p invocation mops =
    record { process = p; invocation = invocation; completion = None; status = Open; mops = mops }

-- transactions are named by the indexes of their invocations
abbrev pub names : List Transaction → List ℕ
names ts = map (λ (t : Transaction). t.invocation) ts

-- ---- versions and pairs of them

-- the number that is written to the key
abbrev pub version : Atom → ℕ → Version
version key n = record { key = key; value = Some (number n) }

-- nil comes before the number
abbrev pub nil_then : Atom → ℕ → VersionPair
nil_then key n = versions.pair (nil_of key) (version key n)

abbrev pub pair : Atom → ℕ → ℕ → VersionPair
pair key m n = versions.pair (version key m) (version key n)

-- ---- edges, by the transactions that they lead from and to

abbrev pub ww_edge : ℕ → ℕ → Atom → ℕ → ℕ → Edge
ww_edge t u key m n = record { from = t; to = u; label = ww (version key m) (version key n) }

abbrev pub wr_edge : ℕ → ℕ → Atom → ℕ → Edge
wr_edge t u key n = record { from = t; to = u; label = wr (version key n) }

-- nil was read
abbrev pub rw_nil_edge : ℕ → ℕ → Atom → ℕ → Edge
rw_nil_edge t u key n = record { from = t; to = u; label = rw (nil_of key) (version key n) }

abbrev pub rw_edge : ℕ → ℕ → Atom → ℕ → ℕ → Edge
rw_edge t u key m n = record { from = t; to = u; label = rw (version key m) (version key n) }

abbrev pub process_edge : ℕ → ℕ → ℕ → Edge
process_edge t u p = record { from = t; to = u; label = process p }

-- with the index of the first one's completion, and of the second one's invocation
abbrev pub realtime_edge : ℕ → ℕ → ℕ → ℕ → Edge
realtime_edge t u completion invocation = record { from = t; to = u; label = realtime completion invocation }

-- ---- what a history holds

-- its transactions, the names of the nodes among them, the pairs of versions and the dependency edges
pub record Account : Type 0 where
  pub transactions : List Transaction
  pub nodes : List ℕ
  pub pairs : List VersionPair
  pub edges : List Edge

-- It keeps the rules of the journal, and is what the journal then holds.
abbrev pub IsLegal : List Operation → Type 0
IsLegal events = (first_broken [] events ≡ None) × (events_of (events ∷ []) ≡ events)

-- It does, and holds this.
abbrev pub HasAccount : List Operation → Account → Type 0
HasAccount events account =
    IsLegal events
    × (record {
      transactions = transactions_of events;
      nodes = names (nodes (transactions_of events));
      pairs = version_pairs Basic (transactions_of events);
      edges = dependency_edges Basic (transactions_of events);
    } ≡ account)

-- ---- witnesses

-- each edge of a walk stands in the list, at its place
abbrev pub StandAt : List Edge → List ℕ → List Edge → Type 0
StandAt es places [] = ⊤
StandAt es [] (e ∷ walk) = ⊥
StandAt es (k ∷ places) (e ∷ walk) = (nat_lt k (length es) ≡ true) × (get_or es k e ≡ e) × StandAt es places walk

contained : (es : List Edge) (places : List ℕ) (walk : List Edge) → StandAt es places walk → AllByRecursion (Contains es) walk
contained es places [] stand = tt
contained es [] (e ∷ walk) stand = absurd stand
contained es (k ∷ places) (e ∷ walk) stand = ((k, ltb-true k (length es) stand.0, stand.1), contained es places walk stand.2)

-- A walk is a witness once each of its edges stands at its place and the tests come out true.
pub witness :
    (keys : KeyOrder) (phenomenon : Phenomenon) (level : Level) (ts : List Transaction) (places : List ℕ) (walk : List Edge)
    → IsClosedWalk walk
    → StandAt (edges_at keys level ts) places walk
    → makes phenomenon walk ≡ true
    → distinct_count nat_eq (stations walk) ≡ length (stations walk)
    → alternates (ends_in_order walk) walk ≡ true
    → begins_least (stations walk) ≡ true
    → IsWitness keys phenomenon level ts walk
witness keys phenomenon level ts places walk closed stand kinds different apart least =
    record {
      shows = record {
        closed = closed;
        within = All-from_recursion (Contains (edges_at keys level ts)) walk (contained (edges_at keys level ts) places walk stand);
        kinds = kinds;
      };
      different = IsDistinct-from_count nat_eq_equiv (stations walk) different;
      apart = apart;
      least = least;
    }

-- The walk is a witness of a G-single, and so of a G2-item.
abbrev pub AreWitnesses : Level → List Operation → List Edge → Type 0
AreWitnesses level events walk =
    IsWitness Basic GSingle level (transactions_of events) walk × IsWitness Basic G2Item level (transactions_of events) walk

pub witnesses :
    (level : Level) (events : List Operation) (places : List ℕ) (walk : List Edge)
    → IsClosedWalk walk
    → StandAt (edges_at Basic level (transactions_of events)) places walk
    → makes GSingle walk ≡ true
    → makes G2Item walk ≡ true
    → distinct_count nat_eq (stations walk) ≡ length (stations walk)
    → alternates (ends_in_order walk) walk ≡ true
    → begins_least (stations walk) ≡ true
    → AreWitnesses level events walk
witnesses level events places walk closed stand single item different apart least = (
  witness Basic GSingle level (transactions_of events) places walk closed stand single different apart least,
  witness Basic G2Item level (transactions_of events) places walk closed stand item different apart least,
)

-- It is printed so as each of the two, behind the phenomenon's name.
abbrev pub ArePrinted : Level → List Edge → (text : List ℕ) → Type 0
ArePrinted level walk text =
    let found = Some (record { level = level; walk = walk }) in
    (finding_lines (codes "G-single") found ≡ codes "G-single " ++ text)
    × (finding_lines (codes "G2-item") found ≡ codes "G2-item " ++ text)
