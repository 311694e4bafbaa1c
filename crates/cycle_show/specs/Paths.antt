-- How a closed walk becomes short: it is followed from after an edge that it needs, and where it
-- comes back to a transaction, what lies between is left out. Two order edges side by side become
-- one.
use Rattle.std.specs.Prelude.{◌≡◌, ℕ, ◌+◌, ◌≤◌, List, [], ◌∷◌, ◌++◌, ◌&&◌, ◌==◌, nat_eq, if◌then◌else◌, Option, Some, take, drop, fold, slice_index, EachIndex, ⊤}
use Rattle.std.specs.HashMap.{HashMap, get}
use Rattle.std.specs.List.{position_from}
use Rattle.std.specs.Option.{option_or, option_map_or}
use Rattle.hist_types.specs.Edges.{Edge}
use Rattle.hist_types.specs.Phenomena.{is_ww, is_wr, is_rw, is_order}
use Rattle.hist_types.specs.Witness.{ends_in_order}
use Rattle.dep_edges.specs.Labels.{joined}

-- ---- one edge in the place of two

abbrev pub last_joined : List Edge → Edge → List Edge
last_joined [] next = []
last_joined (e ∷ []) next = joined e next ∷ []
last_joined (e ∷ f ∷ es) next = e ∷ last_joined (f ∷ es) next

-- ---- paths

-- the path as far as the transaction, or all of it
abbrev pub path_to : ℕ → List Edge → List Edge
path_to transaction [] = []
path_to transaction (e ∷ path) = if e.from == transaction then [] else e ∷ path_to transaction path

abbrev pub extended : List Edge → Edge → List Edge
extended path next =
    if is_order next && ends_in_order path then last_joined path next else path ++ next ∷ []

-- the path, one edge further along the walk
abbrev pub followed : List Edge → Edge → List Edge
followed path next = extended (path_to next.from path) next

-- the path, further along all edges of the walk
abbrev pub walked : List Edge → (walk : List Edge) → List Edge
walked path walk = fold followed path walk

-- Each transaction of the path has its place: the first has this one, and so on.
abbrev pub HavePlaces : (ℕ → Option ℕ) → ℕ → List Edge → Type 0
HavePlaces place_of first [] = ⊤
HavePlaces place_of first (e ∷ path) =
    (place_of e.from ≡ Some first) × HavePlaces place_of (first + 1) path

-- The map has the place of each transaction of the path, and may have some of others.
abbrev pub KnowsPlaces : {S : Type 0} → HashMap ℕ ℕ S → List Edge → Type 0
KnowsPlaces places path = HavePlaces (get nat_eq places) 0 path

-- ---- the whole walk

-- the place of an edge that the walk cannot do without: an rw if it has one, else a wr, else a ww
abbrev pub needed_place : List Edge → Option ℕ
needed_place walk =
    option_or (position_from is_rw 0 walk)
    (option_or (position_from is_wr 0 walk) (position_from is_ww 0 walk))

-- the place after it
abbrev pub place_behind : List Edge → ℕ
place_behind walk = option_map_or (λ place. place + 1) (needed_place walk) 0

-- the walk from there on, and round to there
abbrev pub short_round : List Edge → List Edge
short_round walk =
    walked (walked [] (drop (place_behind walk) walk)) (take (place_behind walk) walk)

-- none of the numbers is less than the one at this place
abbrev pub IsLeastAt : List ℕ → ℕ → Type 0
IsLeastAt numbers place = EachIndex numbers (λ k. slice_index numbers place ≤ slice_index numbers k)
