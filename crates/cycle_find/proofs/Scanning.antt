-- Arc by arc, reader by reader and version by version: what is left once no edge was found whose second end comes before its first.
use Rattle.std.proofs.Common.{◌≡◌, ◌↔◌, ◌∙◌, ◌<◌, inl, inr, ℕ, List, [], length, get_or, true, false, is_some, Option, Some, None, Contains, refl, sym, ap, subst, arith}
use Rattle.std.specs.Prelude.{if◌then◌else◌}
use Rattle.std.proofs.lemmas.Bool.{false≢true, and_parts, eqb-true}
use Rattle.std.proofs.lemmas.List.{get_or_default}
use Rattle.graph_search.specs.Graphs.{HasArcInto, IsWalkIfAny}
use Rattle.hist_types.specs.ThinnedOrder.{is_ordered}
use Rattle.hist_types.specs.Edges.{is_ok_before, same_process}
use Rattle.hist_types.specs.Transactions.{Transaction, is_ok}
use Rattle.hist_types.specs.declared.types.Level.{Level}
use Rattle.hist_types.specs.declared.types.Level.TheVariants.{Plain, Process, Realtime}
use Rattle.history_laws.proofs.ThinningPaths.{ended_before, ordered_in_time}
use Rattle.dep_edges.specs.Histories.{AreOfHistory}
use Rattle.dep_edges.specs.Tables.{IsPlace, txn_at}
use Rattle.process_map.specs.Values.{value_of}
use Rattle.edge_graph.specs.Kinds.{kinds_of}
use Rattle.edge_graph.specs.Parts.{Parts}
use Rattle.edge_graph.specs.Vertices.{IsArc, AreArcs, graph_by, RwByVersions}
use Rattle.edge_graph.specs.Walks.{IsWayByVersion}
use Rattle.edge_graph.specs.declared.types.Dependencies.TheVariants.{Rw}
use Rattle.edge_graph.specs.declared.types.Kinds.{Kinds}
use Rattle.edge_graph.proofs.EdgeArcs.{edge_of_way}
use Rattle.cycle_find.specs.Completions.{lane_of, ok_completion_of, IsKnownBy}
use Rattle.cycle_find.specs.OneDependency.{AreClosing, AreClosingOr, IsEither, IsBefore, NoneClosingFrom, NoneClosingBy, NoneClosingFromBy, AreKnown}
use Rattle.cycle_find.specs.declared.completions.Earliest.{Earliest}
use Rattle.cycle_find.specs.declared.one_dependency.Ends.{Ends}
use Rattle.cycle_find.specs.Dependencies.{needed}
use Rattle.cycle_find.specs.Tasks.{Task, needed_kinds}
use Rattle.cycle_find.proofs.OrderBack.{lower_place}
use Rattle.cycle_find.proofs.Passing.{each_arc}
use Rattle.cycle_find.proofs.RankedArcs.{along}

-- ---- ends, or nothing

pub or_weaker : (task : Task) (A B : Type 0) (found : Option Ends) → (A → B) → AreClosingOr task A found → AreClosingOr task B found
or_weaker task A B None f is = f is
or_weaker task A B (Some ends) f is = is

pub or_if_none : (task : Task) (A B : Type 0) (found : Option Ends) → (found ≡ None → A → B) → AreClosingOr task A found → AreClosingOr task B found
or_if_none task A B None f is = f refl is
or_if_none task A B (Some ends) f is = is

pub or_both : (task : Task) (A B : Type 0) (one other found : Option Ends) → IsEither one other found → AreClosingOr task A one → AreClosingOr task B other → AreClosingOr task (A × B) found
or_both task A B one other None (no_one, no_other) first second = (subst (AreClosingOr task A) no_one first, subst (AreClosingOr task B) no_other second)
or_both task A B one other (Some ends) (inl is) first second = subst (AreClosingOr task A) is first
or_both task A B one other (Some ends) (inr is) first second = subst (AreClosingOr task B) is second

pub or_otherwise : (task : Task) (A : Type 0) (found : Option Ends) → is_some found ≡ false → AreClosingOr task A found → A
or_otherwise task A None none is = is
or_otherwise task A (Some ends) none is = absurd (false≢true (sym none))

pub or_some : (task : Task) (A B : Type 0) (found : Option Ends) → is_some found ≡ true → AreClosingOr task A found → AreClosingOr task B found
or_some task A B None some is = absurd (false≢true some)
or_some task A B (Some ends) some is = is

-- ---- arcs

-- no vertex on the list is a transaction that comes before this one
abbrev pub NoneBefore : Task → (from : ℕ) → (vertex : ℕ) → Type 0
NoneBefore task from vertex = IsPlace task.graph.txns vertex → ¬ IsBefore task vertex from

pub none_from_arcs :
    (task : Task) (lists : List (List ℕ)) (from : ℕ) → AreArcs task.graph (needed_kinds task) lists → ((k : ℕ) → k < length (get_or lists from []) → NoneBefore task from (get_or (get_or lists from []) k 0))
    → NoneClosingFrom task from
none_from_arcs task lists from arcs all to is = each_arc task.graph (needed_kinds task) lists from (NoneBefore task from) arcs all to is.arc is.last

pub none_from_followers :
    (task : Task) (lists : List (List ℕ)) (from version : ℕ) → AreArcs task.graph (needed_kinds task) lists
    → ((k : ℕ) → k < length (get_or lists version []) → NoneBefore task from (get_or (get_or lists version []) k 0)) → NoneClosingFromBy task from version
none_from_followers task lists from version arcs all to is =
    each_arc task.graph (needed_kinds task) lists version (NoneBefore task from) arcs all to is.follows is.last

-- ---- followers of a version

-- an ok transaction that comes before another one, in its lane
same_lane : (level : Level) (t u : Transaction) → is_ordered level t u ≡ true → lane_of level t ≡ lane_of level u
same_lane Plain t u before = refl
same_lane Process t u before = eqb-true t.process u.process (and_parts (is_ok_before t u) (same_process t u) before).1
same_lane Realtime t u before = refl

ok_completion : (t : Transaction) (c : ℕ) → is_ok t ≡ true → t.completion ≡ Some c → ok_completion_of t ≡ Some c
ok_completion t c ok ended = ap (λ b. if b then t.completion else None) ok ∙ ended

-- where a follower comes before the reader, that is known
pub known_before : (task : Task) (version from to : ℕ) (earliest : List (ℕ × Earliest)) → AreKnown task version earliest → IsArc task.graph (needed_kinds task) version to → IsBefore task to from
    → IsKnownBy earliest version (lane_of task.level (txn_at task.graph.txns from)) (txn_at task.graph.txns from).invocation
known_before task version from to earliest known arc before =
    let t = txn_at task.graph.txns to in
    let u = txn_at task.graph.txns from in
    let (c, ended) = ended_before t u (ordered_in_time task.level t u before) in
    let (first, at, of, by) = known to arc c (ok_completion t c ended.ok ended.ended) in
    let ends : c < u.invocation = ended.before in
    (first, subst (λ lane. value_of earliest lane ≡ Some first) (same_lane task.level t u before) at, of, omega (arith, by, ends))

-- ---- readers of a version

abbrev pub AreReaders : Parts → (version : ℕ) → List ℕ → Type 0
AreReaders g version places = (place : ℕ) → Contains places place ↔ IsArc g (kinds_of Rw Plain) place version

pub reader_leads : (task : Task) (version k : ℕ) (places : List ℕ) → needed task.phenomenon ≡ Rw → AreReaders task.graph version places → k < length places
    → IsArc task.graph (needed_kinds task) (get_or places k 0) version
reader_leads task version k places by_rw readers at =
    let place = get_or places k 0 in
    subst (λ d. IsArc task.graph (kinds_of d Plain) place version) (sym by_rw) ((readers place).0 (k, at, get_or_default places k place 0 at))

pub none_by : (task : Task) (version : ℕ) (places : List ℕ) → needed task.phenomenon ≡ Rw → AreReaders task.graph version places → ((k : ℕ) → k < length places → NoneClosingFromBy task (get_or places k 0) version) → NoneClosingBy task version
none_by task version places by_rw readers all from to way before =
    let (k, at, same) = (readers from).1 (subst (λ d. IsArc task.graph (kinds_of d Plain) from version) by_rw way.reads) in
    subst (λ place. NoneClosingFromBy task place version) (get_or_default places k 0 from at ∙ same) (all k at) to way before

-- ---- an edge by way of the version

pub closes_by :
    (task : Task) (from version to : ℕ) → AreOfHistory task.graph.txns → RwByVersions task.graph → (IsPlace task.graph.txns version → ⊥) → IsPlace task.graph.txns from → IsPlace task.graph.txns to
    → IsArc task.graph (needed_kinds task) from version → IsArc task.graph (needed_kinds task) version to → IsBefore task to from
    → AreClosing task (record { from = from; to = to })
closes_by task from version to kept by_versions between h k reads follows before =
    let g = task.graph in
    let low : to < from = lower_place g.txns kept task.level to from k h before in
    let way : IsWayByVersion g (needed_kinds task) from version to = record {
      first = h;
      between = between;
      last = k;
      other = λ same. absurd (omega (arith, low, same));
      reads = reads;
      follows = follows;
    } in
    record { first = h; last = k; edge = edge_of_way g kept by_versions (needed_kinds task) from version to way; back = before }

-- ---- paths

-- into any vertex
pub path_found : (g : Parts) (kinds : Kinds) (lists : List (List ℕ)) (count from to : ℕ) → AreArcs g kinds lists → (path : Option (List ℕ))
    → IsWalkIfAny (HasArcInto (graph_by lists) (record { count = count; has = λ v. true })) from to path → IsWalkIfAny (IsArc g kinds) from to path
path_found g kinds lists count from to arcs None none =
    λ walk is. none walk (along (IsArc g kinds) (HasArcInto (graph_by lists) (record { count = count; has = λ v. true })) from to walk (λ v w h. ((arcs.arcs v w).1 h, refl)) is)
path_found g kinds lists count from to arcs (Some walk) is =
    along (HasArcInto (graph_by lists) (record { count = count; has = λ v. true })) (IsArc g kinds) from to walk (λ v w h. (arcs.arcs v w).0 h.0) is
