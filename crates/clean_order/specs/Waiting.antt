-- Transactions that wait to be put: how many steps they can still take.
use Rattle.std.specs.Prelude.{ℕ, ◌+◌, ◌*◌, Bool, if◌then◌else◌, sum_by, length}
use Rattle.clean_order.specs.declared.propose_waiting.Waiting.{Waiting}

abbrev pub unbegun : (begun : Bool) → ℕ
unbegun begun = if begun then 0 else 1

-- each one that hasn't begun to wait may begin and end, and each one that waits may end
abbrev pub steps_left : Waiting → ℕ
steps_left waiting = 2 * sum_by unbegun waiting.begun.items + length waiting.places.items
