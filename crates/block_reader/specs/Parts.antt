-- Parts of a text that are read side by side, each by itself.
use Rattle.std.specs.Prelude.{◌≡◌, ℕ, ◌+◌, ◌<◌, ◌≤◌, List, ◌++◌, length, get_or, slice_range, take, Option, ⊤}
use Rattle.hist_types.specs.Operations.{Operation}
use Rattle.hist_types.specs.declared.types.Fault.{Fault}
use Rattle.reading_laws.specs.Parts.{HasPartAt, EndsLine, fault_behind}
use Rattle.hist_types.specs.Reading.{GivesOperations, GivesFrom, FailsFrom}
use Rattle.block_reader.specs.Blocks.{operations_in}
use Rattle.block_reader.specs.declared.parts.Part.{Part}
use Rattle.block_reader.specs.declared.round.Round.{Round}
use Rattle.block_reader.specs.declared.round.Round.TheVariants as rounds

-- where the part with this index ends: where the next one starts, or at the text's end
abbrev pub end_of_part : List ℕ → List ℕ → ℕ → ℕ
end_of_part text starts index = get_or starts (index + 1) (length text)

abbrev pub part_at : List ℕ → List ℕ → ℕ → List ℕ
part_at text starts index =
    slice_range text (get_or starts index 0) (end_of_part text starts index)

-- the first part starts with the text, the next ones follow one another, and each ends a line
pub record AreStarts (text starts : List ℕ) : Type 0 where
  pub some : 0 < length starts
  pub first : get_or starts 0 0 ≡ 0
  pub ordered : (index : ℕ) → index < length starts → get_or starts index 0 ≤ end_of_part text starts index
  pub within : (index : ℕ) → index < length starts → end_of_part text starts index ≤ length text
  pub ends : (index : ℕ) → index < length starts → EndsLine (part_at text starts index)

-- the parts before the one with this index
abbrev pub front_of : List ℕ → List ℕ → ℕ → List ℕ
front_of text starts index = take (get_or starts index (length text)) text

-- the part was read by itself
abbrev pub IsPartOf : (text starts : List ℕ) → Part → Type 0
IsPartOf text starts part =
    (part.index < length starts)
    × GivesOperations (part_at text starts part.index) (operations_in part.blocks.items)

-- Wherever the part stands in a text, where nothing is open before it, the text has these operations
-- there, and goes on behind it.
abbrev pub ReadsThrough : List ℕ → List Operation → Type 0
ReadsThrough part operations =
    (text behind : List ℕ) (offset : ℕ) (later : List Operation) (fault : Option Fault)
    → HasPartAt text offset part behind
    → GivesFrom text (offset + length part) later fault
    → GivesFrom text offset (operations ++ later) fault

-- Wherever the part stands in a text, where nothing is open before it, and whatever is behind it,
-- reading from there ends with this fault, as far behind the part's start as it is by itself.
abbrev pub FailsThere : List ℕ → Fault → Type 0
FailsThere part fault =
    (text behind : List ℕ) (offset : ℕ)
    → HasPartAt text offset part behind
    → FailsFrom text offset (fault_behind offset fault)

-- what lines give by themselves, if it is known
abbrev pub IsRoundOf : List ℕ → Round → Type 0
IsRoundOf lines (rounds.Read blocks) = ReadsThrough lines (operations_in blocks.items)
IsRoundOf lines (rounds.Refused fault) = FailsThere lines fault
IsRoundOf lines rounds.Unknown = ⊤
