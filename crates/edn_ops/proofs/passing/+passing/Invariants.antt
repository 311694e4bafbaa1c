use Rattle.std.proofs.Common.{◌+◌, ◌-◌, ◌*◌, List, length}
use Rattle.hist_types.specs.Forms.{Form}
use Rattle.edn_ops.specs.Flat.{ReadsUpTo}
use Rattle.edn_ops.proofs.passing.+passing.Given as goal

abbrev pub decreases-form_end : goal.decreases-form_end
decreases-form_end l = 2 * l.levels

abbrev pub decreases-collection_end : goal.decreases-collection_end
decreases-collection_end l = 2 * l.levels + 1

abbrev pub invariant-collection_end-loop-token : goal.invariant-collection_end-loop-token
invariant-collection_end-loop-token l = (members : List Form) × ReadsUpTo l.text l.levels l.opener.end members l.at

abbrev pub decreases-collection_end-loop-token : goal.decreases-collection_end-loop-token
decreases-collection_end-loop-token l = length l.text - l.at
