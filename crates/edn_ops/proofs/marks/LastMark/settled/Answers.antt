use Rattle.std.proofs.Common.{◌∙◌, sym, ap, ◌-◌, ℕ}
use Rattle.edn_ops.proofs.MarksKept.{drops-settled, LastAt-settled}
use Rattle.edn_ops.proofs.marks.LastMark.settled.Goals as goal

pub returns-clause-waits : goal.returns-clause-waits
returns-clause-waits c = λ marks h.
    (drops-settled marks ∙ ap (λ (n : ℕ). n - 1) h.0 ∙ sym c.saturating_sub.ensures, LastAt-settled c.args.self.drops marks c.args.self.place h.1)
