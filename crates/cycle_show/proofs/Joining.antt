-- Two order edges of a history that follow each other are one, with the first one's completion and the second one's invocation.
use Rattle.std.proofs.Common.{◌≡◌, inl, inr, ℕ, ◌<◌, List, [], ◌∷◌, Bool, true, false, ◌&&◌, if◌then◌else◌, Option, Some, None, refl, sym, ◌∙◌, ap, subst, arith}
use Rattle.hist_types.specs.Operations.{Operation}
use Rattle.hist_types.specs.Transactions.{Transaction, nodes, transactions_of}
use Rattle.hist_types.specs.Edges.{Label, process, realtime, Edge, edge, is_ok_before, same_process, realtime_label, order_labels, dependency_edges, order_edges, edges_at}
use Rattle.history_laws.specs.Paths.{order_edges_between}
use Rattle.history_laws.specs.WaysBack.{may_lead_back}
use Rattle.hist_types.specs.declared.types.Level.{Level}
use Rattle.hist_types.specs.declared.types.Level.TheVariants.{Plain, Process, Realtime}
use Rattle.hist_types.specs.declared.types.Phenomenon.{Phenomenon}
use Rattle.hist_types.specs.declared.types.KeyOrder.{KeyOrder}
use Rattle.hist_types.proofs.Members.{In, in_back}
use Rattle.history_laws.proofs.ThinningPaths.{Ordered, ordered_in_time, ended_before, ordered_through, ordered_from_label, edge_between, ends_of, AreNodes, are_nodes, nodes_included}
use Rattle.history_laws.proofs.ThinningWalks.{Uncounted, uncounted_edge, label_of_one}
use Rattle.history_laws.proofs.ThinningWitnesses.{order_edge, order_may}
use Rattle.dep_edges.specs.Labels.{joined_label, joined}
use Rattle.cycle_show.proofs.Shortening.{JoinsTwo, joined_is_order}

realtime_of :
    (holds : Bool) (completion : Option ℕ) (n : ℕ) (label : Label)
    → In label (if holds then realtime_label completion n else [])
    → (c : ℕ) × (completion ≡ Some c) × (realtime c n ≡ label)
realtime_of false completion n label i = elim i [ ]
realtime_of true None n label i = elim i [ ]
realtime_of true (Some c) n label (inl e) = (c, refl, e)
realtime_of true (Some c) n label (inr i) = elim i [ ]

labels_joined :
    (level : Level) (t u v w : Transaction) (label label' : Label)
    → In label (order_labels level t u)
    → In label' (order_labels level v w)
    → Ordered level t w
    → In (joined_label label label') (order_labels level t w)
labels_joined Plain t u v w label label' i j ordered = elim i [ ]
labels_joined Process t u v w label label' i j ordered =
    subst (λ l. In (joined_label l label') (order_labels Process t w)) (label_of_one (is_ok_before t u && same_process t u) (process t.process) label i)
    (subst (λ b. In (process t.process) (if b then process t.process ∷ [] else [])) (sym ordered) (inl refl))
labels_joined Realtime t u v w label label' i j ordered =
    let (c, ended, is) = realtime_of (is_ok_before t u) t.completion u.invocation label i in
    let (d, ended', is') = realtime_of (is_ok_before v w) v.completion w.invocation label' j in
    let there : In (realtime c w.invocation) (order_labels Realtime t w) =
    subst (λ b. In (realtime c w.invocation) (if b then realtime_label t.completion w.invocation else [])) (sym ordered)
    (subst (λ o. In (realtime c w.invocation) (realtime_label o w.invocation)) (sym ended) (inl refl)) in
    subst (λ l. In (joined_label l label') (order_labels Realtime t w)) is
    (subst (λ l. In (joined_label (realtime c u.invocation) l) (order_labels Realtime t w)) is' there)

order_edges_joined :
    (level : Level) (ts ns : List Transaction) (e f : Edge)
    → AreNodes ts ns
    → In e (order_edges_between level ns)
    → In f (order_edges_between level ns)
    → f.from ≡ e.to
    → In (joined e f) (order_edges_between level ns)
order_edges_joined level ts ns e f nodes i j meet =
    let (t, u, label, ends) = ends_of ns (order_labels level) e i in
    let (v, w, label', ends') = ends_of ns (order_labels level) f j in
    let met : v.invocation ≡ u.invocation = ap (λ (d : Edge). d.from) (sym ends'.is) ∙ meet ∙ ap (λ (d : Edge). d.to) ends.is in
    let same : v ≡ u = nodes.timed.apart v u (nodes.among v ends'.first) (nodes.among u ends.second) met in
    let first : Ordered level t v = subst (Ordered level t) (sym same) (ordered_from_label level t u label ends.labelled) in
    let second : Ordered level v w = ordered_from_label level v w label' ends'.labelled in
    let takes = λ (c : ℕ) (ended : v.completion ≡ Some c). nodes.timed.later v c (nodes.among v ends'.first) ended in
    let ordered : Ordered level t w = ordered_through level t v w takes first second in
    let (c, before) = ended_before t w (ordered_in_time level t w ordered) in
    let begins : t.invocation < c = nodes.timed.later t c (nodes.among t ends.first) before.ended in
    let ended : c < w.invocation = before.before in
    let other : ¬ (t.invocation ≡ w.invocation) = omega arith in
    let one : In (edge t w (joined_label label label')) (order_edges_between level ns) =
    edge_between ns (order_labels level) t w (joined_label label label') ends.first ends'.second other (labels_joined level t u v w label label' ends.labelled ends'.labelled ordered) in
    subst (λ d. In (joined d f) (order_edges_between level ns)) (sym ends.is)
    (subst (λ d. In (joined (edge t u label) d) (order_edges_between level ns)) (sym ends'.is) one)

pub edges_joined :
    (keys : KeyOrder) (phenomenon : Phenomenon) (level : Level) (events : List Operation)
    → JoinsTwo (edges_at keys level (transactions_of events)) (may_lead_back phenomenon)
edges_joined keys phenomenon level events e f i j order order' meet =
    let ts : List Transaction = transactions_of events in
    let one : In (joined e f) (order_edges_between level (nodes ts)) =
    order_edges_joined level ts (nodes ts) e f (are_nodes events (nodes ts) (nodes_included ts)) (order_edge keys level ts e i order) (order_edge keys level ts f j order') meet in
    let u : Uncounted (joined e f).label = uncounted_edge level (nodes ts) (joined e f) one in (
      in_back (joined e f) (dependency_edges keys ts) (order_edges level ts) one,
      order_may phenomenon (joined e f) (joined_is_order e f order) u.no_rw,
    )
