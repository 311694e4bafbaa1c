-- Histories that `check` refutes.
use Rattle.std.specs.Prelude.{◌≡◌, ℕ, List, ◌++◌}
use Rattle.hist_types.specs.Explanation.{AreExplained}
use Rattle.hist_types.specs.Operations.{Operation}
use Rattle.hist_types.specs.Transactions.{transactions_of}
use Rattle.command_run.specs.Answers.{GivesEvents}

-- the text ends with these bytes
abbrev pub EndsWith : List ℕ → List ℕ → Type 0
EndsWith text end = (front : List ℕ) × (text ≡ front ++ end)

-- no order explains the history that the text gives
abbrev pub HasNoExplanation : List ℕ → Type 0
HasNoExplanation text =
    (events : List Operation) → GivesEvents text events → ¬ AreExplained (transactions_of events)
