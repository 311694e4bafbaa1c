-- An edge of the needed kind and the edges of a way back are a walk that shows the phenomenon.
use Rattle.std.proofs.Common.{◌≡◌, ◌∙◌, ◌-◌, ℕ, List, [], ◌∷◌, length, true, Contains, refl, sym, subst}
use Rattle.std.specs.Prelude.{slice_index}
use Rattle.std.specs.List.{AllByRecursion, list_all}
use Rattle.std.proofs.lemmas.Bool.{and_from}
use Rattle.std.proofs.lemmas.List.Elements.{recursion_from_All, All-cons}
use Rattle.hist_types.specs.Edges.{Label, ww, wr, rw, process, realtime, Edge}
use Rattle.hist_types.specs.Phenomena.{Leads, Shows}
use Rattle.history_laws.specs.WaysBack.{is_needed, may_lead_back}
use Rattle.hist_types.specs.declared.types.Level.{Level}
use Rattle.hist_types.specs.declared.types.Level.TheVariants.{Plain}
use Rattle.hist_types.specs.declared.types.Phenomenon.{Phenomenon}
use Rattle.hist_types.specs.declared.types.Phenomenon.TheVariants.{G0, G1c, GSingle, G2Item}
use Rattle.history_laws.proofs.ThinningCycles.{closing_makes}
use Rattle.dep_edges.specs.Tables.{txn_at}
use Rattle.edge_graph.specs.Kinds.{includes, kinds_of}
use Rattle.edge_graph.specs.Parts.{Parts, edges_in}
use Rattle.edge_graph.specs.Walks.{IsEdgeOf, IsEdgeBetween, AreEdgesBetween}
use Rattle.edge_graph.proofs.EdgesIn.{levels, one_ww, one_wr, one_rw}
use Rattle.cycle_find.specs.Dependencies.{needed, way_back}
use Rattle.cycle_find.specs.Tasks.{Task, needed_kinds, back_kinds}

-- ---- kinds

pub back_label : (phenomenon : Phenomenon) (level : Level) (from to : ℕ) (label : Label) → may_lead_back phenomenon (record { from = from; to = to; label = label }) ≡ includes (kinds_of (way_back phenomenon) level) label
back_label G0 level from to (ww a b) = refl
back_label G0 level from to (wr a) = refl
back_label G0 level from to (rw a b) = refl
back_label G0 level from to (process n) = refl
back_label G0 level from to (realtime m n) = refl
back_label G1c level from to (ww a b) = refl
back_label G1c level from to (wr a) = refl
back_label G1c level from to (rw a b) = refl
back_label G1c level from to (process n) = refl
back_label G1c level from to (realtime m n) = refl
back_label GSingle level from to (ww a b) = refl
back_label GSingle level from to (wr a) = refl
back_label GSingle level from to (rw a b) = refl
back_label GSingle level from to (process n) = refl
back_label GSingle level from to (realtime m n) = refl
back_label G2Item level from to (ww a b) = refl
back_label G2Item level from to (wr a) = refl
back_label G2Item level from to (rw a b) = refl
back_label G2Item level from to (process n) = refl
back_label G2Item level from to (realtime m n) = refl

pub back_kind : (phenomenon : Phenomenon) (level : Level) (e : Edge) → may_lead_back phenomenon e ≡ includes (kinds_of (way_back phenomenon) level) e.label
back_kind phenomenon level e = back_label phenomenon level e.from e.to e.label

pub needed_kind : (g : Parts) (phenomenon : Phenomenon) (e : Edge) → IsEdgeOf g (kinds_of (needed phenomenon) Plain) e → is_needed phenomenon e ≡ true
needed_kind g G0 e is = one_ww g e is
needed_kind g G1c e is = one_wr g e is
needed_kind g GSingle e is = one_rw g e is
needed_kind g G2Item e is = one_rw g e is

all_lead_back : (phenomenon : Phenomenon) (level : Level) (es : List Edge) → AllByRecursion (λ (e : Edge). includes (kinds_of (way_back phenomenon) level) e.label ≡ true) es → list_all (may_lead_back phenomenon) es ≡ true
all_lead_back phenomenon level [] all = refl
all_lead_back phenomenon level (e ∷ es) all =
    and_from (may_lead_back phenomenon e) (list_all (may_lead_back phenomenon) es) (back_kind phenomenon level e ∙ all.0) (all_lead_back phenomenon level es all.1)

-- ---- the walk

pub shows :
    (task : Task) (from to : ℕ) (e : Edge) (es : List Edge)
    → IsEdgeBetween task.graph (needed_kinds task) from to e
    → AreEdgesBetween task.graph (back_kinds task) to from es
    → Shows task.phenomenon (edges_in task.graph task.level) (e ∷ es)
shows task from to e es is are =
    let g = task.graph in
    let phenomenon = task.phenomenon in
    let start : Leads e.to es (txn_at g.txns from).invocation = subst (λ n. Leads n es (txn_at g.txns from).invocation) (sym is.leads.ends) are.leads in
    record {
      closed = subst (λ n. Leads e.to es n) (sym is.leads.begins) start;
      within = All-cons (Contains (edges_in g task.level)) e es ((levels g task.level e).0 is.edge.among).0 are.among;
      kinds =
          closing_makes phenomenon e es (needed_kind g phenomenon e is.edge)
          (all_lead_back phenomenon task.level es
          (recursion_from_All (λ (d : Edge). includes (kinds_of (way_back phenomenon) task.level) d.label ≡ true) es are.of_kinds));
    }

pub shows_along :
    (task : Task) (from to : ℕ) (way : List ℕ) (e : Edge) (es : List Edge)
    → slice_index way 0 ≡ to
    → slice_index way (length way - 1) ≡ from
    → IsEdgeBetween task.graph (needed_kinds task) from to e
    → AreEdgesBetween task.graph (back_kinds task) (slice_index way 0) (slice_index way (length way - 1)) es
    → Shows task.phenomenon (edges_in task.graph task.level) (e ∷ es)
shows_along task from to way e es begins ends is are =
    shows task from to e es is
    (subst (λ n. AreEdgesBetween task.graph (back_kinds task) n from es) begins
    (subst (λ n. AreEdgesBetween task.graph (back_kinds task) (slice_index way 0) n es) ends are))
