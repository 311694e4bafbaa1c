-- Arc by arc and transaction by transaction: what is left once all have been passed.
use Rattle.std.proofs.Common.{◌≡◌, ◌∙◌, ◌<◌, ◌≤◌, ◌+◌, ℕ, List, [], length, is_some, false, get_or, inl, inr, Option, Some, None, refl, sym, subst, arith}
use Rattle.std.proofs.lemmas.Bool.{true≢false}
use Rattle.std.proofs.lemmas.List.{get_or_default}
use Rattle.hist_types.specs.Edges.{Edge}
use Rattle.hist_types.specs.declared.types.Level.TheVariants.{Plain}
use Rattle.hist_types.specs.declared.types.Phenomenon.{Phenomenon}
use Rattle.hist_types.specs.declared.types.Phenomenon.TheVariants.{G0, G1c, GSingle, G2Item}
use Rattle.dep_edges.specs.Tables.{IsPlace}
use Rattle.edge_graph.specs.Kinds.{kinds_of, AreAmong}
use Rattle.edge_graph.specs.Parts.{Parts}
use Rattle.edge_graph.specs.Vertices.{IsArc, AreArcs}
use Rattle.edge_graph.specs.declared.types.Kinds.{Kinds}
use Rattle.cycle_find.specs.Dependencies.{needed, way_back, whole}
use Rattle.cycle_find.specs.Prepared.{AreRanked}
use Rattle.cycle_find.specs.Ranked.{Ranking, AreRanksOver, AreRanksWithin, NeverFalls}
use Rattle.cycle_find.specs.Tasks.{Task, needed_kinds, back_kinds, whole_kinds, HasReturnBetween, IsShownOr, NoneBy, NoneFrom}
use Rattle.cycle_find.specs.Ways.{IsAbove, RisesBy, RisesFrom}
use Rattle.cycle_find.proofs.RankedArcs.{raise, within, IsArcWithin, rising_within, fewer, fewer_plain, fewer_within}
use Rattle.edge_graph.proofs.EdgeArcs.{more_than_plain}

-- what holds of each vertex in the list holds of each to which an arc leads
pub each_arc : (g : Parts) (kinds : Kinds) (lists : List (List ℕ)) (v : ℕ) (P : ℕ → Type 0) → AreArcs g kinds lists
    → ((k : ℕ) → k < length (get_or lists v []) → P (get_or (get_or lists v []) k 0)) → (w : ℕ) → IsArc g kinds v w → P w
each_arc g kinds lists v P arcs all w arc =
    let (within, (k, h, is)) = (arcs.arcs v w).1 arc in
    subst P (get_or_default (get_or lists v []) k 0 w h ∙ is) (all k h)

pub shown_or : (task : Task) (A B : Type 0) → (A → B) → (found : Option (List Edge)) → IsShownOr task A found → IsShownOr task B found
shown_or task A B f None a = f a
shown_or task A B f (Some walk) is = is

pub otherwise : (task : Task) (A : Type 0) (found : Option (List Edge)) → is_some found ≡ false → IsShownOr task A found → A
otherwise task A None e a = a
otherwise task A (Some walk) e is = absurd (true≢false e)

-- the arc at an index of a vertex
pub arc_at : (g : Parts) (kinds : Kinds) (lists : List (List ℕ)) (v k : ℕ) → AreArcs g kinds lists → v < length g.txns + length g.versions → k < length (get_or lists v [])
    → IsArc g kinds v (get_or (get_or lists v []) k 0)
arc_at g kinds lists v k arcs h at =
    let w = get_or (get_or lists v []) k 0 in
    (arcs.arcs v w).0 (omega (arith, h, arcs.count), (k, at, get_or_default (get_or lists v []) k w 0 at))

-- ---- the search

pub needed_of_whole : (phenomenon : Phenomenon) → AreAmong (needed phenomenon) (whole phenomenon)
needed_of_whole G0 = record { ww = λ h. h; wr = λ h. h; rw = λ h. h }
needed_of_whole G1c = record { ww = λ h. refl; wr = λ h. refl; rw = λ h. h }
needed_of_whole GSingle = record { ww = λ h. refl; wr = λ h. refl; rw = λ h. refl }
needed_of_whole G2Item = record { ww = λ h. refl; wr = λ h. refl; rw = λ h. refl }

pub back_of_whole : (phenomenon : Phenomenon) → AreAmong (way_back phenomenon) (whole phenomenon)
back_of_whole G0 = record { ww = λ h. h; wr = λ h. h; rw = λ h. h }
back_of_whole G1c = record { ww = λ h. h; wr = λ h. h; rw = λ h. h }
back_of_whole GSingle = record { ww = λ h. refl; wr = λ h. refl; rw = λ h. refl }
back_of_whole G2Item = record { ww = λ h. h; wr = λ h. h; rw = λ h. h }

-- where the arc leads up, no way leads back
pub none_from_above : (task : Task) (ranks : List ℕ) (from by : ℕ) → AreRanksOver task.graph (whole_kinds task) ranks → get_or ranks from 0 < get_or ranks by 0 → NoneBy task from by
none_from_above task ranks from by are up to place leads (edge, (walk, is)) =
    let g = task.graph in
    let ph = task.phenomenon in
    let on : get_or ranks by 0 ≤ get_or ranks to 0 = elim leads [
      | inl same ↦ subst (λ v. get_or ranks by 0 ≤ get_or ranks v 0) same (omega arith)
      | inr (absent, other, arc) ↦ (fewer_plain g (needed ph) (whole ph) task.level ranks (needed_of_whole ph) are).rising by to arc
    ] in
    let down : get_or ranks to 0 ≤ get_or ranks from 0 =
    raise (IsArc g (back_kinds task)) ranks (fewer g (way_back ph) (whole ph) task.level ranks (back_of_whole ph) are).rising to from walk is.steps in
    omega (arith, up, on, down)

-- no ranks fall along a needed arc, nor along two of them
pub never_falls : (task : Task) (from by : ℕ) → IsArc task.graph (needed_kinds task) from by → NeverFalls task.graph (whole_kinds task) from by
never_falls task from by arc ranks are =
    (fewer_plain task.graph (needed task.phenomenon) (whole task.phenomenon) task.level ranks (needed_of_whole task.phenomenon) are).rising from by arc

pub never_falls_by : (task : Task) (from by to : ℕ) → IsArc task.graph (needed_kinds task) from by → IsArc task.graph (needed_kinds task) by to → NeverFalls task.graph (whole_kinds task) from to
never_falls_by task from by to arc on ranks are = omega (arith, never_falls task from by arc ranks are, never_falls task by to on ranks are)

-- where it leads up within one coarse rank, no way leads back either
pub none_from_above_within : (task : Task) (coarse ranks : List ℕ) (from by : ℕ) → AreRanksOver task.graph (whole_kinds task) coarse → AreRanksWithin task.graph (whole_kinds task) coarse ranks → IsArc task.graph (needed_kinds task) from by
    → get_or ranks from 0 < get_or ranks by 0 → NoneBy task from by
none_from_above_within task coarse ranks from by over are first up to place leads (edge, (walk, is)) =
    let g = task.graph in
    let ph = task.phenomenon in
    let whole_back = back_of_whole ph in
    let over_back = fewer g (way_back ph) (whole ph) task.level coarse whole_back over in
    let start : get_or coarse from 0 ≤ get_or coarse by 0 = never_falls task from by first coarse over in
    let end : get_or coarse to 0 ≤ get_or coarse from 0 = raise (IsArc g (back_kinds task)) coarse over_back.rising to from walk is.steps in
    let on : get_or coarse by 0 ≤ get_or coarse to 0 = elim leads [
      | inl same ↦ subst (λ v. get_or coarse by 0 ≤ get_or coarse v 0) same (omega arith)
      | inr (absent, other, arc) ↦ never_falls task by to arc coarse over
    ] in
    let same_coarse : get_or coarse by 0 ≡ get_or coarse to 0 = omega (arith, start, end, on) in
    let higher : get_or ranks by 0 ≤ get_or ranks to 0 = elim leads [
      | inl same ↦ subst (λ v. get_or ranks by 0 ≤ get_or ranks v 0) same (omega arith)
      | inr (absent, other, arc) ↦ are.rising by to (more_than_plain g (needed ph) (whole ph) (needed_of_whole ph) task.level by to arc) same_coarse
    ] in
    let back = within g (back_kinds task) coarse over_back to from walk (omega (arith, start, on)) is.steps in
    let down : get_or ranks to 0 ≤ get_or ranks from 0 =
    raise (IsArcWithin g (back_kinds task) coarse) ranks (rising_within g (back_kinds task) coarse ranks (fewer_within g (way_back ph) (whole ph) task.level coarse ranks whole_back are)) to from walk back in
    omega (arith, up, higher, down)

pub none_by_txn : (task : Task) (from by : ℕ) → IsPlace task.graph.txns by → ¬ HasReturnBetween task from by → NoneBy task from by
none_by_txn task from by place none to place' leads = elim leads [
  | inl same ↦ subst (λ v. ¬ HasReturnBetween task from v) same none
  | inr (absent, other, arc) ↦ absurd (absent place)
]

pub none_by_version : (task : Task) (lists : List (List ℕ)) (from version : ℕ) → AreArcs task.graph (needed_kinds task) lists → (IsPlace task.graph.txns version → ⊥)
    → ((k : ℕ) → k < length (get_or lists version []) → (from ≡ get_or (get_or lists version []) k 0 → ⊥) → ¬ HasReturnBetween task from (get_or (get_or lists version []) k 0))
    → NoneBy task from version
none_by_version task lists from version arcs absent all to place leads = elim leads [
  | inl same ↦ absurd (absent (subst (IsPlace task.graph.txns) (sym same) place))
  | inr (still, other, arc) ↦ each_arc task.graph (needed_kinds task) lists version (λ w. (from ≡ w → ⊥) → ¬ HasReturnBetween task from w) arcs all to arc other
]

pub none_from : (task : Task) (lists : List (List ℕ)) (from : ℕ) → AreArcs task.graph (needed_kinds task) lists
    → ((k : ℕ) → k < length (get_or lists from []) → NoneBy task from (get_or (get_or lists from []) k 0)) → NoneFrom task from
none_from task lists from arcs all = each_arc task.graph (needed_kinds task) lists from (NoneBy task from) arcs all

-- ---- ranks that rise

-- between two transactions of one coarse rank, what is above the one is so by the finer rank
by_finer : (r : Ranking) (from to : ℕ) → IsAbove r from to → get_or r.coarse from 0 ≡ get_or r.coarse to 0 → get_or r.ranks from 0 < get_or r.ranks to 0
by_finer r from to above same = elim above [
  | inl higher ↦ omega (arith, higher, same)
  | inr higher ↦ higher
]

pub rises_above : (r : Ranking) (lists : List (List ℕ)) (from by : ℕ) → AreRanked r lists → IsArc r.graph (kinds_of r.dependencies Plain) from by → IsAbove r from by → RisesBy r from by
rises_above r lists from by are first above to place leads same =
    let start : get_or r.coarse from 0 ≤ get_or r.coarse by 0 = are.coarse_ranks.rising from by first in
    let on : get_or r.coarse by 0 ≤ get_or r.coarse to 0 = elim leads [
      | inl one ↦ subst (λ v. get_or r.coarse by 0 ≤ get_or r.coarse v 0) one (omega arith)
      | inr (absent, other, arc) ↦ are.coarse_ranks.rising by to arc
    ] in
    let to_by : get_or r.coarse from 0 ≡ get_or r.coarse by 0 = omega (arith, start, on, same) in
    let from_by : get_or r.coarse by 0 ≡ get_or r.coarse to 0 = omega (arith, start, on, same) in
    let up : get_or r.ranks from 0 < get_or r.ranks by 0 = by_finer r from by above to_by in
    let higher : get_or r.ranks by 0 ≤ get_or r.ranks to 0 = elim leads [
      | inl one ↦ subst (λ v. get_or r.ranks by 0 ≤ get_or r.ranks v 0) one (omega arith)
      | inr (absent, other, arc) ↦ are.ranked.rising by to arc from_by
    ] in
    omega (arith, up, higher)

pub rises_by_version : (r : Ranking) (lists : List (List ℕ)) (from version : ℕ) → AreRanked r lists → (IsPlace r.graph.txns version → ⊥)
    → ((k : ℕ) → k < length (get_or lists version []) → (from ≡ get_or (get_or lists version []) k 0 → ⊥) → IsAbove r from (get_or (get_or lists version []) k 0))
    → RisesBy r from version
rises_by_version r lists from version are absent all to place leads same = elim leads [
  | inl one ↦ absurd (absent (subst (IsPlace r.graph.txns) (sym one) place))
  | inr (still, other, arc) ↦
      by_finer r from to (each_arc r.graph (kinds_of r.dependencies Plain) lists version (λ w. (from ≡ w → ⊥) → IsAbove r from w) are.are all to arc other) same
]

pub rises_from : (r : Ranking) (lists : List (List ℕ)) (from : ℕ) → AreRanked r lists
    → ((k : ℕ) → k < length (get_or lists from []) → RisesBy r from (get_or (get_or lists from []) k 0)) → RisesFrom r from
rises_from r lists from are all = each_arc r.graph (kinds_of r.dependencies Plain) lists from (RisesBy r from) are.are all
