-- Pairs of versions by what a process sees of a key, one transaction after the other: the words of
-- the laws about them.
use Rattle.std.specs.Prelude.{◌≡◌, ℕ, List, ◌∷◌, ◌++◌, Some, None, map, All, Contains, IsTrue}
use Rattle.hist_types.specs.Atoms.{Atom}
use Rattle.hist_types.specs.Transactions.{Transaction, Version, is_ok}
use Rattle.hist_types.specs.Versions.{VersionPair, version_in, seen_by, last_of, met_by, is_step}

-- an ok transaction meets the later version, and of all that its process saw of the key before, the
-- earlier one came last
abbrev pub IsProcessStep : List Transaction → VersionPair → Type 0
IsProcessStep ts p =
    (earlier : List Transaction)
    × (u : Transaction)
    × (rest : List Transaction)
    × (ts ≡ earlier ++ u ∷ rest)
    × IsTrue (is_ok u)
    × Contains (met_by u) p.later
    × (last_of p.later.key (seen_by u.process earlier) ≡ Some p.earlier)
    × IsTrue (is_step p)

-- the last micro-operation on the key is one that reads or writes the version
abbrev pub EndsWith : Atom → Transaction → Version → Type 0
EndsWith key t v = last_of key (map version_in t.mops) ≡ Some v

-- none of its micro-operations is on the key
abbrev pub LeavesAlone : Atom → Transaction → Type 0
LeavesAlone key t = last_of key (map version_in t.mops) ≡ None

-- no ok transaction of the process has a micro-operation on the key
abbrev pub SeesNothing : (process : ℕ) → Atom → List Transaction → Type 0
SeesNothing process key ts =
    All (λ (t : Transaction). IsTrue (is_ok t) → t.process ≡ process → LeavesAlone key t) ts

-- Of two ok transactions of a process the first ends with the earlier version, the second meets the
-- later one, and the process sees nothing of the key between them.
abbrev pub IsStepBetweenTwo : List Transaction → VersionPair → Type 0
IsStepBetweenTwo ts p =
    (before : List Transaction)
    × (t : Transaction)
    × (between : List Transaction)
    × (u : Transaction)
    × (rest : List Transaction)
    × (ts ≡ (before ++ t ∷ between) ++ u ∷ rest)
    × IsTrue (is_ok t)
    × IsTrue (is_ok u)
    × (t.process ≡ u.process)
    × EndsWith p.later.key t p.earlier
    × SeesNothing u.process p.later.key between
    × Contains (met_by u) p.later
    × IsTrue (is_step p)
