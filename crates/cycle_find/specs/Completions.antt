-- The first completions of transactions that follow a version.
use Rattle.std.specs.Prelude.{◌≡◌, ℕ, ◌≤◌, List, if◌then◌else◌, Option, Some, None}
use Rattle.hist_types.specs.Transactions.{Transaction, is_ok}
use Rattle.hist_types.specs.declared.types.Level.{Level}
use Rattle.hist_types.specs.declared.types.Level.TheVariants.{Plain, Process, Realtime}
use Rattle.process_map.specs.Values.{value_of}
use Rattle.cycle_find.specs.declared.completions.Earliest.{Earliest}

-- transactions that the order joins have the same lane
abbrev pub lane_of : Level → Transaction → ℕ
lane_of Plain t = 0
lane_of Process t = t.process
lane_of Realtime t = 0

abbrev pub ok_completion_of : Transaction → Option ℕ
ok_completion_of t = if is_ok t then t.completion else None

-- a completion of a transaction in the lane is noted for the version, and isn't after the index
abbrev pub IsKnownBy : List (ℕ × Earliest) → (version lane index : ℕ) → Type 0
IsKnownBy earliest version lane index =
    (first : Earliest)
    × (value_of earliest lane ≡ Some first)
    × (first.version ≡ version)
    × (first.completion ≤ index)

-- what was known of the version is known
abbrev pub KeepsKnown : (version : ℕ) → (before after : List (ℕ × Earliest)) → Type 0
KeepsKnown version before after =
    (lane index : ℕ) → IsKnownBy before version lane index → IsKnownBy after version lane index

-- the transaction's completion is known, or an earlier one of its lane, if it is ok
abbrev pub IsKnown : Level → (version : ℕ) → Transaction → List (ℕ × Earliest) → Type 0
IsKnown level version t earliest =
    (completion : ℕ)
    → ok_completion_of t ≡ Some completion
    → IsKnownBy earliest version (lane_of level t) completion
