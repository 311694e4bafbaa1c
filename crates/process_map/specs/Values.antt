-- What a map from processes knows, as the list of its entries.
use Rattle.std.specs.Prelude.{◌≡◌, ◌==◌, ℕ, suc, List, [], ◌∷◌, ◌++◌, filter, not, Option, Some, None, nat_lt, nat_eq, if◌then◌else◌}
use Rattle.std.specs.Map.{lookup}
use Rattle.std.specs.HashMap.{HashMap}
use Rattle.process_map.specs.declared.map.TheConstants.{SMALL}

-- the value of a process, if it has one
abbrev pub value_of : {V : Type 0} → List (ℕ × V) → ℕ → Option V
value_of entries process = lookup (nat_eq process) entries

-- this process has this value now, or none, and every other one has the value that it had
abbrev pub ChangesOnly : {V : Type 0} → (old new : List (ℕ × V)) → ℕ → Option V → Type 0
ChangesOnly old new process value =
    (p : ℕ) → value_of new p ≡ (if process == p then value else value_of old p)

-- the entries of a table, whose places are processes from a first one on
abbrev pub entries_from : {V : Type 0} → ℕ → List (Option V) → List (ℕ × V)
entries_from first [] = []
entries_from first (None ∷ values) = entries_from (suc first) values
entries_from first (Some value ∷ values) = (first, value) ∷ entries_from (suc first) values

-- the entries of small processes in a table, and those of the others in a map
abbrev pub entries_of : {V S : Type 0} → List (Option V) → HashMap ℕ V S → List (ℕ × V)
entries_of small large =
    filter (λ e. nat_lt e.0 SMALL) (entries_from 0 small)
    ++ filter (λ e. not (nat_lt e.0 SMALL)) large.entries
