use Rattle.std.proofs.Common.{◌+◌, ◌-◌, length, drop, arith}
use Rattle.std.proofs.lemmas.List.{take_all, length-drop}
use Rattle.verdict_serve.proofs.Words.{one_word, split_at_space}
use Rattle.verdict_serve.proofs.sayings.split_word.Goals as goal

pub returns-in_err-space : goal.returns-in_err-space
returns-in_err-space c = rw c.from_residual.ensures (one_word c.args.text.now c.in_err-space.ensures)

pub returns : goal.returns
returns c =
    let text = c.args.text.now in
    let place = c.in_ok-space.space in
    let rest = take_all (length text - (place + 1)) (drop (place + 1) text) (omega (arith, length-drop (place + 1) text)) in
    rw rest (split_at_space text place c.in_ok-space.ensures)
