-- The rest of a text reads behind any front as it reads by itself.
use Rattle.std.proofs.Common.{◌≡◌, ◌⊎◌, inl, inr, ℕ, List, [], ◌++◌, length, Option, None, Some, option_map, sym, ◌∙◌, ap, subst}
use Rattle.std.proofs.lemmas.List.{append-nil, drop_at}
use Rattle.hist_types.specs.Operations.{Operation}
use Rattle.hist_types.specs.Refusals.{memory_fault}
use Rattle.hist_types.specs.declared.types.Fault.{Fault}
use Rattle.reading_laws.specs.Parts.{HasPartAt, fault_behind}
use Rattle.hist_types.specs.Reading.{GivesOperations, GivesFault, GivesFrom, FailsFrom}

-- the law of what is left of a text
abbrev pub RestLaw : Type 0
RestLaw =
    (text part : List ℕ) (offset : ℕ) (operations : List Operation) (fault : Option Fault) → HasPartAt text offset part []
    → GivesFrom part 0 operations fault → GivesFrom text offset operations (option_map (fault_behind offset) fault)

is_rest : (front rest : List ℕ) (offset : ℕ) → length front ≡ offset → HasPartAt (front ++ rest) offset rest []
is_rest front rest offset long = drop_at front rest offset long ∙ sym (append-nil rest)

pub rest_alone : RestLaw → (front rest : List ℕ) (offset : ℕ) (os : List Operation) → length front ≡ offset → GivesOperations rest os → GivesFrom (front ++ rest) offset os None
rest_alone law front rest offset os long gives = law (front ++ rest) rest offset os None (is_rest front rest offset long) gives

pub rest_fails : RestLaw → (front rest : List ℕ) (offset : ℕ) (fault given : Fault) → length front ≡ offset
    → (fault ≡ memory_fault) ⊎ GivesFault rest fault → (given ≡ memory_fault) ⊎ (given ≡ fault_behind offset fault)
    → (given ≡ memory_fault) ⊎ FailsFrom (front ++ rest) offset given
rest_fails law front rest offset fault given long fails (inl memory) = inl memory
rest_fails law front rest offset fault given long (inl memory) (inr is) = inl (is ∙ ap (fault_behind offset) memory)
rest_fails law front rest offset fault given long (inr (os, gives)) (inr is) =
    inr (os, subst (λ f. GivesFrom (front ++ rest) offset os (Some f)) (sym is) (law (front ++ rest) rest offset os (Some fault) (is_rest front rest offset long) gives))
