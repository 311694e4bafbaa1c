use Rattle.std.proofs.Common.{◌≡◌, ◌∙◌, ℕ, ◌≤◌, List, length, drop, slice_range, sym, ap, subst, arith}
use Rattle.std.proofs.lemmas.List.{length-take, length-drop}
use Rattle.block_reader.specs.Windows.{Held}
use Rattle.block_reader.proofs.Windows.{consumed}
use Rattle.block_reader.proofs.window.Window.forget.Goals as goal

pub returns-clause-bytes : goal.returns-clause-bytes
returns-clause-bytes c =
    let w = c.self.inside in
    let held : List ℕ = slice_range w.bytes.items w.start w.end in
    let is : held ≡ c.args.self.now.bytes = ap (λ (h : Held). h.bytes) c.self.view_is in
    let few : c.args.count ≤ length held = subst (λ xs. c.args.count ≤ length xs) (sym is) c.requires in
    consumed w.bytes.items w.start w.end c.args.count
    (omega (arith, few, c.self.invariant.0, length-take {A = ℕ}, length-drop {A = ℕ}))
    ∙ ap (drop c.args.count) is
