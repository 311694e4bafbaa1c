-- One edge and the way back (what a search needs): a phenomenon is there exactly where an edge of its
-- kind has a way back.
use Rattle.std.specs.Prelude.{ℕ, ◌≤◌, List, true, All, Contains, Bool, not, ◌||◌, IsTrue}
use Rattle.std.specs.List.{list_all}
use Rattle.hist_types.specs.Edges.{Edge}
use Rattle.hist_types.specs.Phenomena.{Leads, Shows, is_ww, is_wr, is_rw, is_order}
use Rattle.hist_types.specs.Witness.{dependencies_in}
use Rattle.hist_types.specs.declared.types.Phenomenon.{Phenomenon}
use Rattle.hist_types.specs.declared.types.Phenomenon.TheVariants.{G0, G1c, GSingle, G2Item}

-- the kind of edge that the phenomenon cannot do without
abbrev pub is_needed : Phenomenon → Edge → Bool
is_needed G0 e = is_ww e
is_needed G1c e = is_wr e
is_needed GSingle e = is_rw e
is_needed G2Item e = is_rw e

-- the kinds that the rest of the closed walk may use
abbrev pub may_lead_back : Phenomenon → Edge → Bool
may_lead_back G0 e = is_ww e || is_order e
may_lead_back G1c e = is_ww e || is_wr e || is_order e
may_lead_back GSingle e = not (is_rw e)
may_lead_back G2Item e = true

-- the walk leads back from the edge's second end to its first
pub record LeadsBack
    (phenomenon : Phenomenon) (es : List Edge) (e : Edge) (walk : List Edge) : Type 0 where
  pub leads : Leads e.to walk e.from
  pub within : All (Contains es) walk
  pub kinds : IsTrue (list_all (may_lead_back phenomenon) walk)

-- some edge of the needed kind has a way back
abbrev pub HasWayBack : Phenomenon → List Edge → Type 0
HasWayBack phenomenon es =
    (e : Edge)
    × Contains es e
    × IsTrue (is_needed phenomenon e)
    × (walk : List Edge)
    × LeadsBack phenomenon es e walk

-- ---- with few dependency edges

-- some walk along these edges shows the phenomenon, with at most so many dependency edges
abbrev pub IsShownWithin : Phenomenon → List Edge → (most : ℕ) → Type 0
IsShownWithin phenomenon es most =
    (walk : List Edge) × Shows phenomenon es walk × (dependencies_in walk ≤ most)

-- some edge of the needed kind has a way back with at most so many
abbrev pub HasWayBackWithin : Phenomenon → List Edge → (most : ℕ) → Type 0
HasWayBackWithin phenomenon es most =
    (e : Edge)
    × Contains es e
    × IsTrue (is_needed phenomenon e)
    × (walk : List Edge)
    × LeadsBack phenomenon es e walk
    × (dependencies_in walk ≤ most)
