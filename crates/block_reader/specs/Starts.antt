-- Ends of lines.
use Rattle.std.specs.Prelude.{◌≡◌, ◌≢◌, ℕ, ◌+◌, ◌-◌, ◌≤◌, List, length, get_or}
use Rattle.hist_types.specs.Bytes.{backslash, line_feed}

-- the offset is behind the end of a line and a byte before it that is no `\`, both of which stand
-- at `from` or behind it
pub record IsBehindLine (text : List ℕ) (from offset : ℕ) : Type 0 where
  pub behind : from + 2 ≤ offset
  pub within : offset ≤ length text
  pub before : get_or text (offset - 2) 0 ≢ backslash
  pub line : get_or text (offset - 1) 0 ≡ line_feed
