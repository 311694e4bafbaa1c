use Rattle.std.proofs.Common.{◌≡◌, ◌+◌, ◌-◌, ◌≤◌, length, take, drop, not}
use Rattle.std.specs.Char.{is_ascii_digit}
use Rattle.std.specs.List.{prefix_len, list_all}
use Rattle.hist_types.specs.Bytes.{is_run_byte}
use Rattle.edn_lex.specs.declared.scan.TheConstants.{NOT_DIGIT, PAST_ASCII}
use Rattle.edn_lex.specs.Flags.{has_flag}
use Rattle.edn_lex.specs.Kinds.{is_low}
use Rattle.edn_lex.proofs.scan.first_run.Given as goal

-- the bytes so far are bytes of the run, and the flags are theirs
abbrev pub invariant-loop-len : goal.invariant-loop-len
invariant-loop-len l =
    (l.len ≤ length l.text)
    × (prefix_len is_run_byte l.text ≡ l.len + prefix_len is_run_byte (drop l.len l.text))
    × (has_flag l.seen PAST_ASCII ≡ not (list_all is_low (take l.len l.text)))
    × (has_flag l.seen NOT_DIGIT ≡ not (list_all is_ascii_digit (take l.len l.text)))

abbrev pub decreases-loop-len : goal.decreases-loop-len
decreases-loop-len l = length l.text - l.len
