use Rattle.std.proofs.Common.{◌≡◌, take, true}
use Rattle.edn_lex.proofs.ahead.begins_with.Given as goal

abbrev pub invariant-loop-i : goal.invariant-loop-i
invariant-loop-i l = l.same ≡ true → take l.i l.word ≡ take l.i l.text
