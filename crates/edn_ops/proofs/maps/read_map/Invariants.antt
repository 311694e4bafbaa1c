use Rattle.std.proofs.Common.{List, ◌-◌, length}
use Rattle.hist_types.specs.Forms.{Form}
use Rattle.edn_lex.specs.Kinds.{item_of}
use Rattle.edn_ops.specs.Collections.{ReadsMembers}
use Rattle.edn_ops.specs.Fields.{Gathers, AreFieldsIn}
use Rattle.edn_ops.proofs.maps.read_map.Given as goal

abbrev pub invariant-loop-fields : goal.invariant-loop-fields
invariant-loop-fields l =
    (members : List Form) × ReadsMembers l.fn.lexer (item_of l.text l.opener) members l.lexer × Gathers l.text l.fields members × AreFieldsIn l.text l.fields

abbrev pub decreases-loop-fields : goal.decreases-loop-fields
decreases-loop-fields l = length l.lexer.text - l.lexer.offset
