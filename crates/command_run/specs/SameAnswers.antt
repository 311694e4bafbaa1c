-- What the answers to one text have in common.
use Rattle.std.specs.Prelude.{◌≡◌, ℕ, List, Option, option_map}
use Rattle.hist_types.specs.Reports.{finding, Report}
use Rattle.hist_types.specs.Texts.{verdict_text}
use Rattle.hist_types.specs.Witness.{Finding}
use Rattle.hist_types.specs.declared.types.Level.{Level}
use Rattle.hist_types.specs.declared.types.Phenomenon.{Phenomenon}

-- the level at which a phenomenon was found, if it was
abbrev pub level_found : Option Finding → Option Level
level_found found = option_map (λ (f : Finding). f.level) found

-- the reports say the same, except which cycles they show
pub record AgreeExceptOnWitnesses (r other : Report) : Type 0 where
  pub prefix : r.prefix ≡ other.prefix
  pub txns : r.txns ≡ other.txns
  pub levels :
      (phenomenon : Phenomenon)
      → level_found (finding r.findings phenomenon)
      ≡ level_found (finding other.findings phenomenon)
  pub g1a : r.g1a ≡ other.g1a
  pub g1b : r.g1b ≡ other.g1b
  pub stray : r.stray ≡ other.stray

-- They are the texts of two such reports. So the lines of these cycles' edges may differ, and every
-- other line is the same.
abbrev pub DifferInWitnessesAlone : (text other : List ℕ) → Type 0
DifferInWitnessesAlone text other =
    (r : Report)
    × (s : Report)
    × (text ≡ verdict_text r)
    × (other ≡ verdict_text s)
    × AgreeExceptOnWitnesses r s
