-- What a search for the end of a line comes to. No public clause cites this module.
use Rattle.std.specs.Prelude.{◌≡◌, ℕ, ◌+◌, ◌-◌, List, length, take, drop}
use Rattle.hist_types.specs.declared.limits.TheConstants.{MAX_LINE_BYTES}
use Rattle.verdict_serve.specs.Cuts.{Cut, IsUnbroken, IsLineEnd}
use Rattle.verdict_serve.specs.declared.lines.Found.{Found}
use Rattle.verdict_serve.specs.declared.lines.Found.TheVariants.{At, Full, End}

-- what was found among these bytes
abbrev pub IsFound : Found → List ℕ → Type 0
IsFound (At place) bytes = IsLineEnd bytes place
IsFound Full bytes = IsUnbroken bytes × (length bytes ≡ MAX_LINE_BYTES + 1)
IsFound End bytes = IsUnbroken bytes

-- of bytes of which the first n are a line with its byte 10
abbrev pub cut_after : ℕ → List ℕ → Cut
cut_after n bytes = record { line = take (n - 1) bytes; unread = drop n bytes }
