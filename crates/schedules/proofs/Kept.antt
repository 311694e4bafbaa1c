-- A schedule that is in time keeps order edges too.
use Rattle.std.proofs.Common.{◌≡◌, ◌∙◌, inl, inr, ◌<◌, ◌≤◌, List, ◌+◌, Bool, true, false, if◌then◌else◌, not, ◌||◌, refl, sym, ap, arith}
use Rattle.std.proofs.lemmas.Bool.{false≢true}
use Rattle.hist_types.specs.Edges.{Label, ww, wr, rw, process, realtime, Edge, order_labels, dependency_edges, order_edges, edges_at}
use Rattle.hist_types.specs.Phenomena.{is_ww_label, is_wr_label, is_rw_label, is_rw, is_order}
use Rattle.hist_types.specs.Transactions.{Transaction, nodes}
use Rattle.hist_types.specs.declared.types.KeyOrder.{KeyOrder}
use Rattle.hist_types.specs.declared.types.Level.{Level}
use Rattle.hist_types.specs.declared.types.Level.TheVariants.{Plain, Process, Realtime}
use Rattle.hist_types.proofs.Members.{In, Contains_from_in, in_append}
use Rattle.history_laws.specs.Dependencies.{Depends}
use Rattle.history_laws.proofs.DependencyEdges.{edges_by_versions}
use Rattle.history_laws.proofs.ThinningPaths.{ended_before, ends_of, ordered_from_label, ordered_in_time}
use Rattle.history_laws.proofs.ThinningWalks.{Uncounted, uncounted_edge}
use Rattle.schedules.specs.Cycles.{reaches}
use Rattle.schedules.specs.Schedules.{Schedule, leaves, arrives, IsKept, is_of, IsInTime, Keeps}
use Rattle.schedules.specs.declared.types.EdgeKinds.{EdgeKinds}

abbrev pub is_order_label : Label → Bool
is_order_label l = not (is_ww_label l || is_wr_label l || is_rw_label l)

-- where the edge is no rw edge
kept_otherwise :
    (s : Schedule) (e : Edge)
    → is_rw e ≡ false
    → s.commit e.from < s.start e.to
    → IsKept s e
kept_otherwise s e no_rw rises =
    let leaving : leaves s e ≡ s.commit e.from =
    ap (λ b. if b then s.start e.from else s.commit e.from) no_rw in
    let arriving : arrives s e ≡ s.start e.to =
    ap (λ b. if b then s.commit e.to else s.start e.to) no_rw in
    omega (arith, leaving, arriving, rises)

in_time_kept :
    (ts : List Transaction) (s : Schedule) (level : Level) (e : Edge)
    → IsInTime ts s
    → In e (order_edges level ts)
    → IsKept s e
in_time_kept ts s level e time i =
    let (t, u, label, found) = ends_of (nodes ts) (order_labels level) e i in
    let ordered = ordered_from_label level t u label found.labelled in
    let (completion, before) = ended_before t u (ordered_in_time level t u ordered) in
    let ended : s.commit t.invocation < s.clock (completion + 1) =
    time.ended t (Contains_from_in t (nodes ts) found.first) completion before.ok before.ended in
    let begun : s.clock u.invocation ≤ s.start u.invocation =
    time.begun u (Contains_from_in u (nodes ts) found.second) in
    let passed : s.clock (completion + 1) ≤ s.clock u.invocation =
    time.clock (completion + 1) u.invocation (omega (arith, before.before)) in
    let from = ap (λ (d : Edge). s.commit d.from) found.is in
    let to = ap (λ (d : Edge). s.start d.to) found.is in
    kept_otherwise s e (uncounted_edge level (nodes ts) e i).no_rw
    (omega (arith, ended, passed, begun, from, to))

order_counts :
    (kinds : EdgeKinds) (l : Label)
    → Uncounted l
    → is_of kinds l ≡ true
    → kinds.order ≡ true
order_counts kinds (ww v w) none is = elim (false≢true (sym none.no_ww)) [ ]
order_counts kinds (wr v) none is = elim (false≢true (sym none.no_wr)) [ ]
order_counts kinds (rw v w) none is = elim (false≢true (sym none.no_rw)) [ ]
order_counts kinds (process p) none is = is
order_counts kinds (realtime c i) none is = is

pub edge_kept :
    (keys : KeyOrder) (kinds : EdgeKinds) (ts : List Transaction) (s : Schedule) (level : Level)
    (e : Edge)
    → Keeps keys kinds ts s
    → In e (edges_at keys level ts)
    → is_of kinds e.label ≡ true
    → IsKept s e
edge_kept keys kinds ts s level e keeps i of =
    elim (in_append e (dependency_edges keys ts) (order_edges level ts) i) [
      | inl there ↦ keeps.dependencies e (Contains_from_in e (dependency_edges keys ts) there) of
      | inr there ↦ (
          let order = order_counts kinds e.label (uncounted_edge level (nodes ts) e there) of in
          in_time_kept ts s level e (keeps.order order) there
          )
    ]

-- an order edge at a level that the kinds reach is of these kinds
in_reach :
    (kinds : EdgeKinds) (ts : List Transaction) (level : Level) (e : Edge)
    → reaches kinds level ≡ true
    → In e (order_edges level ts)
    → kinds.order ≡ true
in_reach kinds ts Plain e reach i =
    let (t, u, label, found) = ends_of (nodes ts) (order_labels Plain) e i in
    elim found.labelled [ ]
in_reach kinds ts Process e reach i = reach
in_reach kinds ts Realtime e reach i = reach

depends_not_in_order :
    (keys : KeyOrder) (ts : List Transaction) (t u : Transaction) (l : Label)
    → Depends keys ts t u l
    → is_order_label l ≡ false
depends_not_in_order keys ts t u (ww v w) d = refl
depends_not_in_order keys ts t u (wr v) d = refl
depends_not_in_order keys ts t u (rw v w) d = refl
depends_not_in_order keys ts t u (process p) d = elim d [ ]
depends_not_in_order keys ts t u (realtime c i) d = elim d [ ]

pub order_reached :
    (keys : KeyOrder) (kinds : EdgeKinds) (ts : List Transaction) (level : Level) (e : Edge)
    → reaches kinds level ≡ true
    → In e (edges_at keys level ts)
    → is_order e ≡ true
    → kinds.order ≡ true
order_reached keys kinds ts level e reach i is =
    elim (in_append e (dependency_edges keys ts) (order_edges level ts) i) [
      | inl there ↦ (
          let (t, u, first, second, other, same, depends) =
          (edges_by_versions keys ts e).0 (Contains_from_in e (dependency_edges keys ts) there) in
          absurd (false≢true (sym (depends_not_in_order keys ts t u e.label depends) ∙ is))
          )
      | inr there ↦ in_reach kinds ts level e reach there
    ]

pub joins_two :
    (keys : KeyOrder) (ts : List Transaction) (level : Level) (e : Edge)
    → In e (edges_at keys level ts)
    → ¬ (e.from ≡ e.to)
joins_two keys ts level e i same =
    elim (in_append e (dependency_edges keys ts) (order_edges level ts) i) [
      | inl there ↦ (
          let (t, u, first, second, other, is, depends) =
          (edges_by_versions keys ts e).0 (Contains_from_in e (dependency_edges keys ts) there) in
          other (sym (ap (λ (d : Edge). d.from) is) ∙ same ∙ ap (λ (d : Edge). d.to) is)
          )
      | inr there ↦ (
          let (t, u, label, found) = ends_of (nodes ts) (order_labels level) e there in
          found.other
          (sym (ap (λ (d : Edge). d.from) found.is) ∙ same ∙ ap (λ (d : Edge). d.to) found.is)
          )
    ]
