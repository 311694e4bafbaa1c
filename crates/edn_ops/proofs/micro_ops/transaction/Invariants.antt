use Rattle.std.proofs.Common.{◌≡◌, List, ◌-◌, length}
use Rattle.hist_types.specs.Entries.{micro_ops_of}
use Rattle.hist_types.specs.Forms.{Form}
use Rattle.edn_lex.specs.Kinds.{item_of}
use Rattle.edn_ops.specs.Collections.{ReadsMembers}
use Rattle.edn_ops.specs.Fields.{shapes_result, mops_result}
use Rattle.edn_ops.proofs.micro_ops.transaction.Given as goal

abbrev pub invariant-loop-transaction : goal.invariant-loop-transaction
invariant-loop-transaction l =
    (members : List Form) × ReadsMembers l.fn.lexer (item_of l.text l.opener) members l.lexer × (shapes_result l.transaction ≡ mops_result (micro_ops_of 0 members))

abbrev pub decreases-loop-transaction : goal.decreases-loop-transaction
decreases-loop-transaction l = length l.lexer.text - l.lexer.offset
