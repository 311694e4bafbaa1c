use Rattle.std.proofs.Common.{length, ◌-◌, ◌≡◌, ◌≤◌, drop, false}
use Rattle.hist_types.specs.Tokens.{content_len as len_of_content}
use Rattle.edn_lex.proofs.Strings.{later}
use Rattle.edn_lex.proofs.scan.content_len.Given as goal

-- what has been passed ends before the next byte that may close the string
abbrev pub invariant-loop-at : goal.invariant-loop-at
invariant-loop-at l = (l.at ≤ length l.text) × (len_of_content false l.text ≡ later l.at (len_of_content false (drop l.at l.text)))

abbrev pub decreases-loop-at : goal.decreases-loop-at
decreases-loop-at l = length l.text - l.at
