-- Ranks along the arcs of a graph.
use Rattle.std.proofs.Common.{◌≡◌, ◌∙◌, ◌<◌, ◌≤◌, ◌+◌, ◌-◌, ℕ, zero, suc, List, [], ◌∷◌, length, reverse, get_or, inl, inr, Result, Ok, Err, IfOk, Bool, if◌then◌else◌, Contains, IsTrue, ◌⊎◌, refl, ap, sym, subst, arith}
use Rattle.std.proofs.lemmas.Bool.{false≢true}
use Rattle.std.proofs.lemmas.List.{get_or-reverse, length-reverse}
use Rattle.std.proofs.lemmas.List.Elements.{All-from_get_or, All-get_or}
use Rattle.std.proofs.lemmas.Option.{slice_get_within}
use Rattle.hist_types.specs.Edges.{Label, ww, wr, rw, process, realtime, edge}
use Rattle.hist_types.specs.Transactions.{Transaction}
use Rattle.hist_types.specs.declared.types.Level.{Level}
use Rattle.hist_types.specs.declared.types.Level.TheVariants.{Plain, Process, Realtime}
use Rattle.graph_search.specs.Graphs.{Graph, AreRanks, IsWalk}
use Rattle.dep_edges.specs.Tables.{IsPlace}
use Rattle.edge_graph.specs.Kinds.{kinds_of, includes_directly, AreAmong}
use Rattle.edge_graph.specs.Parts.{Parts, HasEdge}
use Rattle.edge_graph.specs.Vertices.{Vertex, txn, version, IsVertex, IsArc, LeadsDirectly, LeadsTo, graph_by, AreArcs}
use Rattle.edge_graph.specs.declared.types.Dependencies.{Dependencies}
use Rattle.edge_graph.specs.declared.types.Dependencies.TheVariants.{Ww, All}
use Rattle.edge_graph.specs.declared.types.Kinds.{Kinds}
use Rattle.edge_graph.proofs.EdgeArcs.{more_at_level, more_than_plain}
use Rattle.edge_graph.proofs.EdgesIn.{dependency_of, listed}
use Rattle.cycle_find.specs.Ranked.{AreRanksAtAll, AreRanksOver, AreRanksWithin}
use Rattle.cycle_find.specs.Sharing.{AreListed, AreSharing, leaving}

-- ---- vertices of arcs

vertex_within : (g : Parts) (v : ℕ) (x : Vertex) → IsVertex g v x → v < length g.txns + length g.versions
vertex_within g v (txn t) at = omega (arith, slice_get_within g.txns v t at)
vertex_within g v (version w) (number, is, at) = omega (arith, is, slice_get_within g.versions number w at)

pub arc_to_within : (g : Parts) (kinds : Kinds) (v w : ℕ) → IsArc g kinds v w → w < length g.txns + length g.versions
arc_to_within g kinds v w (x, y, at, at', leads) = vertex_within g w y at'

pub arc_from_within : (g : Parts) (kinds : Kinds) (v w : ℕ) → IsArc g kinds v w → v < length g.txns + length g.versions
arc_from_within g kinds v w (x, y, at, at', leads) = vertex_within g v x at

-- what a version leads to is a transaction
behind : (g : Parts) (kinds : Kinds) (v w : ℕ) (x y : Vertex) → (IsPlace g.txns v → ⊥) → IsVertex g v x → IsVertex g w y → LeadsTo g kinds x y → IsPlace g.txns w
behind g kinds v w (txn t) y absent at at' leads = absurd (absent (slice_get_within g.txns v t at))
behind g kinds v w (version a) (txn u) absent at at' leads = slice_get_within g.txns w u at'
behind g kinds v w (version a) (version b) absent at at' leads = absurd leads

pub behind_version : (g : Parts) (kinds : Kinds) (v w : ℕ) → (IsPlace g.txns v → ⊥) → IsArc g kinds v w → IsPlace g.txns w
behind_version g kinds v w absent (x, y, at, at', leads) = behind g kinds v w x y absent at at' leads

-- ---- walks

pub along : (L M : ℕ → ℕ → Type 0) (from to : ℕ) (walk : List ℕ) → ((v w : ℕ) → L v w → M v w) → IsWalk L from to walk → IsWalk M from to walk
along L M from to walk each is = record { some = is.some; begins = is.begins; ends = is.ends; joined = λ k h. each (get_or walk k 0) (get_or walk (k + 1) 0) (is.joined k h) }

module _ (L : ℕ → ℕ → Type 0) (ranks : List ℕ) (rising : (v w : ℕ) → L v w → get_or ranks v 0 ≤ get_or ranks w 0) (from to : ℕ) (walk : List ℕ) (is : IsWalk L from to walk) where
  rises : (j n : ℕ) → j + n < length walk → get_or ranks (get_or walk j 0) 0 ≤ get_or ranks (get_or walk (j + n) 0) 0
  rises j zero h =
      let e : j ≡ j + 0 = omega arith in
      let start : get_or ranks (get_or walk j 0) 0 ≤ get_or ranks (get_or walk j 0) 0 = omega arith in
      subst (λ m. get_or ranks (get_or walk j 0) 0 ≤ get_or ranks (get_or walk m 0) 0) e start
  rises j (suc n) h =
      let e : j + n + 1 ≡ j + suc n = omega arith in
      let before : get_or ranks (get_or walk j 0) 0 ≤ get_or ranks (get_or walk (j + n) 0) 0 = rises j n (omega arith) in
      let next : get_or ranks (get_or walk (j + n) 0) 0 ≤ get_or ranks (get_or walk (j + n + 1) 0) 0 =
      rising (get_or walk (j + n) 0) (get_or walk (j + n + 1) 0) (is.joined (j + n) (omega arith)) in
      let both : get_or ranks (get_or walk j 0) 0 ≤ get_or ranks (get_or walk (j + n + 1) 0) 0 = omega (arith, before, next) in
      subst (λ m. get_or ranks (get_or walk j 0) 0 ≤ get_or ranks (get_or walk m 0) 0) e both

  pub to_last : (k : ℕ) → k < length walk → get_or ranks (get_or walk k 0) 0 ≤ get_or ranks to 0
  to_last k h =
      let e : k + (length walk - 1 - k) ≡ length walk - 1 = omega arith in
      let up : get_or ranks (get_or walk k 0) 0 ≤ get_or ranks (get_or walk (k + (length walk - 1 - k)) 0) 0 = rises k (length walk - 1 - k) (omega arith) in
      subst (λ v. get_or ranks (get_or walk k 0) 0 ≤ get_or ranks v 0) (ap (λ m. get_or walk m 0) e ∙ is.ends) up

  pub from_first : (k : ℕ) → k < length walk → get_or ranks from 0 ≤ get_or ranks (get_or walk k 0) 0
  from_first k h =
      let e : 0 + k ≡ k = omega arith in
      let up : get_or ranks (get_or walk 0 0) 0 ≤ get_or ranks (get_or walk (0 + k) 0) 0 = rises 0 k (omega (arith, h)) in
      subst (λ v. get_or ranks v 0 ≤ get_or ranks (get_or walk k 0) 0) is.begins (subst (λ m. get_or ranks (get_or walk 0 0) 0 ≤ get_or ranks (get_or walk m 0) 0) e up)

  pub raise : get_or ranks from 0 ≤ get_or ranks to 0
  raise = subst (λ v. get_or ranks v 0 ≤ get_or ranks to 0) is.begins (to_last 0 is.some)

-- ---- walks within one coarse rank

-- an arc of the kinds between two vertices of one coarse rank
abbrev pub IsArcWithin : Parts → Kinds → List ℕ → ℕ → ℕ → Type 0
IsArcWithin g kinds coarse v w = IsArc g kinds v w × (get_or coarse v 0 ≡ get_or coarse w 0)

pub rising_within : (g : Parts) (kinds : Kinds) (coarse ranks : List ℕ) → AreRanksWithin g kinds coarse ranks → (v w : ℕ) → IsArcWithin g kinds coarse v w → get_or ranks v 0 ≤ get_or ranks w 0
rising_within g kinds coarse ranks are v w h = are.rising v w h.0 h.1

-- a walk between vertices of one coarse rank keeps it
pub within : (g : Parts) (kinds : Kinds) (coarse : List ℕ) → AreRanksOver g kinds coarse → (from to : ℕ) (walk : List ℕ) → get_or coarse to 0 ≤ get_or coarse from 0 → IsWalk (IsArc g kinds) from to walk
    → IsWalk (IsArcWithin g kinds coarse) from to walk
within g kinds coarse are from to walk no_lower is = record {
  some = is.some;
  begins = is.begins;
  ends = is.ends;
  joined = λ k h.
      let up : get_or coarse (get_or walk k 0) 0 ≤ get_or coarse (get_or walk (k + 1) 0) 0 = are.rising (get_or walk k 0) (get_or walk (k + 1) 0) (is.joined k h) in
      let first : get_or coarse from 0 ≤ get_or coarse (get_or walk k 0) 0 = from_first (IsArc g kinds) coarse are.rising from to walk is k (omega (arith, h)) in
      let last : get_or coarse (get_or walk (k + 1) 0) 0 ≤ get_or coarse to 0 = to_last (IsArc g kinds) coarse are.rising from to walk is (k + 1) h in
      (is.joined k h, omega (arith, up, first, last, no_lower));
}

-- ---- ranks

pub ranks_over : (g : Parts) (kinds : Kinds) (lists : List (List ℕ)) (ranks : List ℕ) → AreArcs g kinds lists → AreRanks (graph_by lists) ranks → AreRanksOver g kinds ranks
ranks_over g kinds lists ranks arcs are = record { one_each = are.one_each ∙ arcs.count; rising = λ v w h. are.rising v w ((arcs.arcs v w).1 h) }

-- they are ranks over fewer arcs
pub fewer : (g : Parts) (few more : Dependencies) (level : Level) (ranks : List ℕ) → AreAmong few more → AreRanksOver g (kinds_of more level) ranks → AreRanksOver g (kinds_of few level) ranks
fewer g few more level ranks among are = record { one_each = are.one_each; rising = λ v w h. are.rising v w (more_at_level g few more among level v w h) }

pub fewer_plain : (g : Parts) (few more : Dependencies) (level : Level) (ranks : List ℕ) → AreAmong few more → AreRanksOver g (kinds_of more level) ranks → AreRanksOver g (kinds_of few Plain) ranks
fewer_plain g few more level ranks among are = record { one_each = are.one_each; rising = λ v w h. are.rising v w (more_than_plain g few more among level v w h) }

-- ranks within coarse ones, likewise
pub fewer_within : (g : Parts) (few more : Dependencies) (level : Level) (coarse ranks : List ℕ) → AreAmong few more → AreRanksWithin g (kinds_of more level) coarse ranks → AreRanksWithin g (kinds_of few level) coarse ranks
fewer_within g few more level coarse ranks among are = record { one_each = are.one_each; rising = λ v w h same. are.rising v w (more_at_level g few more among level v w h) same }

pub fewer_within_plain : (g : Parts) (few more : Dependencies) (level : Level) (coarse ranks : List ℕ) → AreAmong few more → AreRanksWithin g (kinds_of more level) coarse ranks → AreRanksWithin g (kinds_of few Plain) coarse ranks
fewer_within_plain g few more level coarse ranks among are = record { one_each = are.one_each; rising = λ v w h same. are.rising v w (more_than_plain g few more among level v w h) same }

pub among_itself : (dependencies : Dependencies) → AreAmong dependencies dependencies
among_itself dependencies = record { ww = λ h. h; wr = λ h. h; rw = λ h. h }

pub among_all : (dependencies : Dependencies) → AreAmong dependencies All
among_all dependencies = record { ww = λ h. refl; wr = λ h. refl; rw = λ h. refl }

pub among_both : (few some more : Dependencies) → AreAmong few some → AreAmong some more → AreAmong few more
among_both few some more one two = record { ww = λ h. two.ww (one.ww h); wr = λ h. two.wr (one.wr h); rw = λ h. two.rw (one.rw h) }

-- ranks at all levels are ranks over some dependencies at one
pub at_level : (g : Parts) (dependencies : Dependencies) (level : Level) (ranks : List ℕ) → AreRanksAtAll g ranks → AreRanksOver g (kinds_of dependencies level) ranks
at_level g dependencies Plain ranks are = fewer_plain g dependencies All Realtime ranks (among_all dependencies) are.realtime
at_level g dependencies Process ranks are = fewer g dependencies All Process ranks (among_all dependencies) are.process
at_level g dependencies Realtime ranks are = fewer g dependencies All Realtime ranks (among_all dependencies) are.realtime

-- they are ranks within themselves
pub ranks_within_themselves : (g : Parts) (kinds : Kinds) (ranks : List ℕ) → AreRanksOver g kinds ranks → AreRanksWithin g kinds ranks ranks
ranks_within_themselves g kinds ranks are = record { one_each = are.one_each; rising = λ v w arc same. are.rising v w arc }

-- one rank for all vertices falls along no arc
flat_over : (g : Parts) (kinds : Kinds) (n : ℕ) (ranks : List ℕ) → n ≡ length g.txns + length g.versions → ((graph : Graph) → graph.count ≡ n → AreRanks graph ranks) → AreRanksOver g kinds ranks
flat_over g kinds n ranks count each = record {
  one_each = (each (record { count = n; successors = λ v. [] }) refl).one_each ∙ count;
  rising = λ v w h.
      (each (record { count = n; successors = λ u. w ∷ [] }) refl).rising v w (omega (arith, count, arc_from_within g kinds v w h), (0, omega arith, refl));
}

pub flat_at_all : {E : Type 0} (g : Parts) (n : ℕ) (result : Result (List ℕ) E) → n ≡ length g.txns + length g.versions → ((graph : Graph) → graph.count ≡ n → IfOk result (AreRanks graph)) → IfOk result (AreRanksAtAll g)
flat_at_all g n (Ok ranks) count each = record { process = flat_over g (kinds_of All Process) n ranks count each; realtime = flat_over g (kinds_of All Realtime) n ranks count each }
flat_at_all g n (Err fault) count each = tt

-- an arc of a process is a ww edge or an order edge, or it is one in real time too
process_leads : (g : Parts) (t u : Transaction) (label : Label) → HasEdge g Process (edge t u label) → IsTrue (includes_directly (kinds_of All Process) label)
    → LeadsDirectly g (kinds_of Ww Process) t u ⊎ LeadsDirectly g (kinds_of All Realtime) t u
process_leads g t u (ww a b) has is = inl (ww a b, has, refl)
process_leads g t u (wr a) has is = let e = edge t u (wr a) in inr (wr a, inl (dependency_of g Process e ((listed g Process e).1 has) refl), refl)
process_leads g t u (rw a b) has is = absurd (false≢true is)
process_leads g t u (process n) has is = inl (process n, has, refl)
process_leads g t u (realtime c i) has is = inl (realtime c i, has, refl)

process_rising : (g : Parts) (ranks : List ℕ) → AreRanksOver g (kinds_of Ww Process) ranks → AreRanksOver g (kinds_of All Realtime) ranks
    → (v w : ℕ) → IsArc g (kinds_of All Process) v w → get_or ranks v 0 ≤ get_or ranks w 0
process_rising g ranks few all v w (txn t, txn u, at, at', (label, has, is)) =
    elim (process_leads g t u label has is) [
      | inl leads ↦ few.rising v w (txn t, txn u, at, at', leads)
      | inr leads ↦ all.rising v w (txn t, txn u, at, at', leads)
    ]
process_rising g ranks few all v w (txn t, version a, at, at', leads) = all.rising v w (txn t, version a, at, at', leads)
process_rising g ranks few all v w (version a, txn u, at, at', leads) = all.rising v w (version a, txn u, at, at', leads)
process_rising g ranks few all v w (version a, version b, at, at', leads) = absurd leads

-- ranks over the arcs in real time are ranks over those of processes, where they don't fall along the latter's order
pub in_process_too : (g : Parts) (ranks : List ℕ) → AreRanksOver g (kinds_of Ww Process) ranks → AreRanksOver g (kinds_of All Realtime) ranks → AreRanksOver g (kinds_of All Process) ranks
in_process_too g ranks few all = record { one_each = all.one_each; rising = process_rising g ranks few all }

-- ranks over the arcs that leave vertices which share their coarse rank
pub ranks_within : (g : Parts) (kinds : Kinds) (lists : List (List ℕ)) (coarse ranks : List ℕ) (shared : List Bool) → AreArcs g kinds lists → AreRanksOver g kinds coarse → AreSharing coarse shared → AreRanks (leaving (graph_by lists) shared) ranks
    → AreRanksWithin g kinds coarse ranks
ranks_within g kinds lists coarse ranks shared arcs over sharing are = record {
  one_each = are.one_each ∙ arcs.count;
  rising = λ v w h same.
      let count = over.one_each in
      let left = arc_from_within g kinds v w h in
      let right = arc_to_within g kinds v w h in
      elim (sharing.two v w (omega (arith, count, left)) (omega (arith, count, right)) same) [
        | inl one ↦ subst (λ u. get_or ranks v 0 ≤ get_or ranks u 0) one (omega arith)
        | inr is ↦
            let arc = (arcs.arcs v w).1 h in
            are.rising v w (arc.0, subst (λ (b : Bool). Contains (if b then get_or lists v [] else []) w) (sym is) arc.1)
      ];
}

-- a list of vertices, the last one first
pub listed_reverse : (flags : List Bool) (list : List ℕ) → AreListed flags list → AreListed flags (reverse list)
listed_reverse flags list are = record {
  within =
      All-from_get_or (λ v. v < length flags) (reverse list) 0 (λ k h.
      let h' : k < length list = omega (arith, h, length-reverse list) in
      subst (λ v. v < length flags) (sym (get_or-reverse list k 0 h')) (All-get_or (λ v. v < length flags) list (length list - 1 - k) 0 (omega (arith, h')) are.within));
  each = λ v is.
      let (k, h, same) = are.each v is in
      let e : length list - 1 - (length list - 1 - k) ≡ k = omega (arith, h) in
      (length list - 1 - k, omega (arith, h, length-reverse list), get_or-reverse list (length list - 1 - k) v (omega (arith, h)) ∙ ap (λ i. get_or list i v) e ∙ same);
}
