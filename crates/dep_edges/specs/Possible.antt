-- Which kinds of bad reads there may be.
use Rattle.std.specs.Prelude.{◌≡◌, List, [], ◌||◌, false, Contains}
use Rattle.hist_types.specs.Phenomena.{aborted_writers, intermediate_writers, is_stray}
use Rattle.hist_types.specs.Transactions.{Transaction, Version}
use Rattle.key_versions.specs.Histories.{read_by}
use Rattle.dep_edges.specs.declared.possible.Possible.{Possible}

-- no read of the version is of a kind that isn't possible
pub record RulesOut (ts : List Transaction) (v : Version) (possible : Possible) : Type 0 where
  pub aborted : possible.aborted ≡ false → aborted_writers ts v ≡ []
  pub intermediate :
      possible.intermediate ≡ false
      → (reader : Transaction)
      → intermediate_writers ts reader v ≡ []
  pub stray : possible.stray ≡ false → is_stray ts v ≡ false

-- the same, if a transaction reads the version
abbrev pub RulesOutReadsOf : List Transaction → Possible → Version → Type 0
RulesOutReadsOf ts possible v =
    (t : Transaction) → Contains ts t → Contains (read_by t) v → RulesOut ts v possible

pub record RulesOutReads (ts : List Transaction) (possible : Possible) : Type 0 where
  pub each : (v : Version) → RulesOutReadsOf ts possible v

abbrev pub either : Possible → Possible → Possible
either p q =
    record {
      aborted = p.aborted || q.aborted;
      intermediate = p.intermediate || q.intermediate;
      stray = p.stray || q.stray;
    }
