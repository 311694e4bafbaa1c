use Rattle.std.proofs.Common.{ℕ, ◌+◌, ◌-◌, ◌*◌, length}
use Rattle.edn_lex.specs.Kinds.{item_of}
use Rattle.edn_lex.specs.State.{State}
use Rattle.edn_ops.proofs.LeftOut.{Behind}
use Rattle.edn_ops.proofs.PassedOver.{Within}
use Rattle.edn_ops.proofs.forms.+forms.Given as goal

-- how many bytes are left
abbrev bytes_left : State → ℕ
bytes_left s = length s.text - s.offset

abbrev pub decreases-member_behind : goal.decreases-member_behind
decreases-member_behind l = 3 * bytes_left l.lexer.now + 2

abbrev pub decreases-next_member : goal.decreases-next_member
decreases-next_member l = 3 * bytes_left l.lexer.now + 1

abbrev pub decreases-skip_collection : goal.decreases-skip_collection
decreases-skip_collection l = 3 * bytes_left l.lexer.now + 2

abbrev pub invariant-member_behind-loop-given : goal.invariant-member_behind-loop-given
invariant-member_behind-loop-given l =
    (goal.iterator-member_behind-loop-given).can_next l.lexer × (goal.iterator-member_behind-loop-given).is_finite l.lexer
    × Behind l.initial.lexer (item_of l.initial.lexer.text l.mark) l.lexer l.waiting.drops l.waiting.tag

abbrev pub invariant-skip_collection-loop-member : goal.invariant-skip_collection-loop-member
invariant-skip_collection-loop-member l = Within l.initial.lexer (item_of l.initial.lexer.text l.opener) l.lexer

abbrev pub decreases-skip_collection-loop-member : goal.decreases-skip_collection-loop-member
decreases-skip_collection-loop-member l = bytes_left l.lexer
