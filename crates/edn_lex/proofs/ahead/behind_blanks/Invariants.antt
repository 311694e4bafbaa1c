use Rattle.std.proofs.Common.{length, ◌-◌, ◌≡◌, ℕ, ◌≤◌, ◌<◌, get_or, true}
use Rattle.hist_types.specs.Bytes.{is_blank}
use Rattle.edn_lex.proofs.ahead.behind_blanks.Given as goal

abbrev pub invariant-loop-at : goal.invariant-loop-at
invariant-loop-at l =
    (l.offset ≤ l.at) × (l.at ≤ length l.text) × ((k : ℕ) → l.offset ≤ k → k < l.at → is_blank (get_or l.text k 0) ≡ true)

abbrev pub decreases-loop-at : goal.decreases-loop-at
decreases-loop-at l = length l.text - l.at
