-- The versions that micro-operations name, by their numbers.
use Rattle.std.specs.Prelude.{◌≡◌, List, [], ◌∷◌}
use Rattle.hist_types.specs.Operations.{Mop}
use Rattle.hist_types.specs.Transactions.{Version}
use Rattle.hist_types.specs.Versions.{nil_of}
use Rattle.op_view.specs.Mops.{key_of, value_of}
use Rattle.key_versions.specs.declared.pending.Access.{Access}
use Rattle.key_versions.specs.Numbering.{version_with, with_versions, IsAccess}

abbrev pub version_named : Mop → Version
version_named m = version_with (key_of m) (value_of m)

-- the version and the nil version of its key are numbered afterwards, and these are their numbers
abbrev pub IsNamed : (before after : List Version) → Version → Access → Type 0
IsNamed before after v a =
    (after ≡ with_versions before (nil_of v.key ∷ v ∷ [])) × IsAccess after v a
