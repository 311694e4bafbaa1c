use Rattle.std.proofs.Common.{ℕ, ◌-◌, List, length, drop, subst, arith}
use Rattle.std.proofs.lemmas.List.{take_all, length-drop}
use Rattle.verdict_serve.specs.Cuts.{IsLineEnd}
use Rattle.verdict_serve.proofs.Cuts.{later_end}
use Rattle.verdict_serve.proofs.lines.line_end_after.Goals as goal

pub returns : goal.returns
returns c =
    let bytes = c.args.bytes.now in
    let n = c.args.searched in
    let place = c.in_ok-line_end.field-0 in
    let rest = take_all (length bytes - n) (drop n bytes) (omega (arith, length-drop n bytes)) in
    later_end bytes n place c.requires.within c.requires.unbroken (subst (λ (t : List ℕ). IsLineEnd t place) rest c.in_ok-line_end.ensures)
