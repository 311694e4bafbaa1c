-- A seat that sees no blocks but its own.
use Rattle.std.specs.Prelude.{ℕ, ◌<◌, length, Contains}
use Rattle.hist_types.specs.LegalAnswers.{View}

-- each position that the seat has seen is one of its own
abbrev pub HasSeenItsOwn : View → Type 0
HasSeenItsOwn view = (k : ℕ) → k < length view.seen → Contains view.own k
