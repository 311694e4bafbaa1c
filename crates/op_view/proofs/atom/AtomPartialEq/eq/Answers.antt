use Rattle.std.proofs.Common.{sym, ◌∙◌, ap}
use Rattle.std.specs.Ordering.{is_eq}
use Rattle.op_view.specs.AtomLaws.{atom_ties}
use Rattle.op_view.proofs.atom.AtomPartialEq.eq.Goals as goal

pub returns-in_default : goal.returns-in_default
returns-in_default c = c.is_eq.ensures ∙ ap is_eq c.cmp.ensures ∙ sym (atom_ties c.args.self.now c.args.other.now)
