-- Events one after another, in a journal and within one process: the words of the laws about them.
use Rattle.std.specs.Prelude.{◌≡◌, ◌↔◌, ℕ, ◌+◌, List, [], ◌∷◌, ◌++◌, length, IsFalse, All, Some}
use Rattle.hist_types.specs.Journal.{is_invoke, last_event, events_after, events_of, KeepsRulesAfter}
use Rattle.hist_types.specs.Operations.{Operation}
use Rattle.hist_types.specs.Transactions.{Indexed, completion_in}

-- one more block adds to the events of these blocks what it would add to any events
abbrev pub GrowBlockByBlock : List (List Operation) → Type 0
GrowBlockByBlock blocks =
    (block : List Operation)
    → events_of (blocks ++ block ∷ []) ≡ events_after (events_of blocks) block

-- front and rest keep the rules after the events exactly where the front does so, and the rest
-- after both
abbrev pub KeepRulesByParts : List Operation → List Operation → List Operation → Type 0
KeepRulesByParts events front rest =
    KeepsRulesAfter events (front ++ rest)
    ↔ (KeepsRulesAfter events front × KeepsRulesAfter (events ++ front) rest)

abbrev pub IsOfAnother : ℕ → Operation → Type 0
IsOfAnother process event = ¬ (event.process ≡ process)

-- the first event of the process among the events, of which the first has the index
abbrev pub IsNextOf : ℕ → ℕ → List Operation → Indexed → Type 0
IsNextOf process index events found =
    (before : List Operation)
    × (after : List Operation)
    × (events ≡ before ++ found.event ∷ after)
    × All (IsOfAnother process) before
    × (found.event.process ≡ process)
    × (found.index ≡ index + length before)

-- the last event of the process among the events
abbrev pub IsLastOf : ℕ → List Operation → Operation → Type 0
IsLastOf process events event =
    (before : List Operation)
    × (after : List Operation)
    × (events ≡ before ++ event ∷ after)
    × (event.process ≡ process)
    × All (IsOfAnother process) after

-- the first event of the process, where that is no invocation
abbrev pub IsCompletionOf : ℕ → ℕ → List Operation → Indexed → Type 0
IsCompletionOf process index events found =
    IsNextOf process index events found × IsFalse (is_invoke found.event.kind)

-- what is found as a completion among events, of which the first has the index, is that event
abbrev pub CompletesByNextEvent : ℕ → ℕ → Type 0
CompletesByNextEvent process index =
    (events : List Operation) (found : Indexed)
    → (completion_in process index events ≡ Some found) ↔ IsCompletionOf process index events found

-- what is found as the last event of the process is the one with none of the process's after it
abbrev pub EndsWithLastEvent : ℕ → Type 0
EndsWithLastEvent process =
    (events : List Operation) (event : Operation)
    → (last_event process events ≡ Some event) ↔ IsLastOf process events event
