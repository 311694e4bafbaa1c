use Rattle.std.proofs.Common.{◌≡◌}
use Rattle.edn_lex.specs.Kinds.{item_of}
use Rattle.edn_ops.proofs.LastMark.{Walk}
use Rattle.edn_ops.proofs.marks.last_waiting.Given as goal

abbrev pub invariant-loop-given : goal.invariant-loop-given
invariant-loop-given l =
    (goal.iterator-loop-given).can_next l.lexer × (goal.iterator-loop-given).is_finite l.lexer
    × Walk l.initial.lexer (item_of l.initial.lexer.text l.fn.first) l.lexer l.last l.depth × (l.last.drops ≡ l.fn.drops)
