use Rattle.std.proofs.Common.{List, ◌-◌, length}
use Rattle.hist_types.specs.Forms.{Form}
use Rattle.edn_lex.specs.Kinds.{item_of}
use Rattle.edn_ops.specs.Collections.{ReadsMembers, AreFirstForms}
use Rattle.edn_ops.proofs.members.first_forms.Given as goal

abbrev pub invariant-loop-member : goal.invariant-loop-member
invariant-loop-member l =
    (members : List Form) × ReadsMembers l.fn.lexer (item_of l.fn.lexer.text l.opener) members l.lexer × AreFirstForms l.fn.lexer.text l.forms.items members

abbrev pub decreases-loop-member : goal.decreases-loop-member
decreases-loop-member l = length l.lexer.text - l.lexer.offset
