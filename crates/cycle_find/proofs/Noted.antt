-- The completion of an ok transaction that is noted is known.
use Rattle.std.proofs.Common.{◌≡◌, ◌∙◌, ℕ, List, Some, refl, sym, ap, arith}
use Rattle.std.specs.Prelude.{if◌then◌else◌}
use Rattle.std.proofs.lemmas.Bool.{eq-eqb}
use Rattle.std.proofs.lemmas.Option.{same_Some}
use Rattle.hist_types.specs.Transactions.{Transaction}
use Rattle.hist_types.specs.declared.types.Level.{Level}
use Rattle.process_map.specs.Values.{value_of, ChangesOnly}
use Rattle.cycle_find.specs.Completions.{lane_of, ok_completion_of, IsKnown}
use Rattle.cycle_find.specs.declared.completions.Earliest.{Earliest}

pub noted :
    (level : Level) (number : ℕ) (t : Transaction) (before after : List (ℕ × Earliest)) (lane completion : ℕ)
    → lane ≡ lane_of level t
    → ok_completion_of t ≡ Some completion
    → ChangesOnly before after lane (Some (record { version = number; completion = completion }))
    → IsKnown level number t after
noted level number t before after lane completion same ended changes index is =
    let first : Earliest = record { version = number; completion = completion } in
    let at : completion ≡ index = same_Some completion index (sym ended ∙ is) in
    let value = changes (lane_of level t) ∙ ap (λ here. if here then Some first else value_of before (lane_of level t)) (eq-eqb lane (lane_of level t) same) in
    (first, value, refl, omega (arith, at))
