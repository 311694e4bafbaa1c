-- Transactions in time: the words of the laws about when they are invoked and complete.
use Rattle.std.specs.Prelude.{◌≡◌, List, [], ◌∷◌, IfSome, All, Contains, ⊤, Some, ◌<◌}
use Rattle.hist_types.specs.Transactions.{Transaction}

-- each was invoked before those after it in the list
abbrev pub AreInvokedInOrder : List Transaction → Type 0
AreInvokedInOrder [] = ⊤
AreInvokedInOrder (t ∷ ts) =
    All (λ (later : Transaction). t.invocation < later.invocation) ts × AreInvokedInOrder ts

-- it completed, if at all, after its invocation
abbrev pub CompletesLater : Transaction → Type 0
CompletesLater t = IfSome t.completion (λ completion. t.invocation < completion)

-- it completed, if at all, before the other's invocation
abbrev pub CompletesBefore : Transaction → Transaction → Type 0
CompletesBefore t u = IfSome t.completion (λ completion. completion < u.invocation)

-- none completed by an event that invoked one
abbrev pub CompleteApart : List Transaction → Type 0
CompleteApart ts =
    (t u : Transaction) → Contains ts t → Contains ts u → ¬ (t.completion ≡ Some u.invocation)

-- each completed, if at all, before its process invoked the next one
abbrev pub CompleteBeforeNext : List Transaction → Type 0
CompleteBeforeNext ts =
    (t u : Transaction)
    → Contains ts t
    → Contains ts u
    → t.process ≡ u.process
    → t.invocation < u.invocation
    → CompletesBefore t u
