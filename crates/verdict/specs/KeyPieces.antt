-- The pieces of the keys at which several workers look.
use Rattle.std.specs.Prelude.{◌≡◌, ◌≤◌, ◌<◌, ◌+◌, ◌*◌, ◌/◌, ◌⊎◌, ℕ, List, Result, IfOk, slice_index_or}
use Rattle.std.specs.declared.alloc.AllocError.{AllocError}
use Rattle.hist_types.specs.Refusals.{without_place, memory_fault}
use Rattle.hist_types.specs.declared.limits.TheConstants.{MAX_WORKERS}
use Rattle.hist_types.specs.declared.types.Fault.{Fault}
use Rattle.hist_types.specs.declared.types.Refusal.TheVariants.{NoThread}
use Rattle.key_versions.specs.KeyNumbers.{AreKeyNumbers}
use Rattle.key_versions.specs.declared.table.KeyNumbers.{KeyNumbers}
use Rattle.dep_edges.specs.Pieces.{Piece, IsPieceOf}
use Rattle.verdict.specs.Tables.{AreTables, history_of}
use Rattle.verdict.specs.declared.tables.Tables.{Tables}

-- from 1 to the limit
abbrev pub IsNumberOfWorkers : ℕ → Type 0
IsNumberOfWorkers workers = (1 ≤ workers) × (workers ≤ MAX_WORKERS)

-- one of them
abbrev pub IsWorker : (workers worker : ℕ) → Type 0
IsWorker workers worker = (worker < workers) × (workers ≤ MAX_WORKERS)

-- of keys that are this many, the one with which a worker's piece begins
abbrev pub first_key : (count workers worker : ℕ) → ℕ
first_key count workers worker = worker * count / workers

-- what a verdict is made from, and the numbers of its keys
pub record AreOfOneHistory (tables : Tables) (keys : KeyNumbers) : Type 0 where
  pub history : AreTables tables
  pub numbers : AreKeyNumbers tables.versions.now.versions keys.count keys.of_versions.items

-- what a worker finds at its piece of the keys
abbrev pub IsFoundBy : Tables → KeyNumbers → (workers worker : ℕ) → Piece → Type 0
IsFoundBy tables keys workers worker piece =
    IsPieceOf (history_of tables) keys.of_versions.items
    (first_key keys.count workers worker) (first_key keys.count workers (worker + 1)) piece

-- each worker finds what it is to find, unless it runs out of memory
abbrev pub EachFinds : (finds : ℕ → Piece → Type 0) → (workers : ℕ)
    → List (Result Piece AllocError) → Type 0
EachFinds finds workers found =
    (worker : ℕ) (other : Result Piece AllocError)
    → worker < workers
    → IfOk (slice_index_or found worker other) (finds worker)

-- memory ran out, or a thread couldn't be started
abbrev pub IsMemoryOrThread : Fault → Type 0
IsMemoryOrThread fault = (fault ≡ memory_fault) ⊎ (fault ≡ without_place NoThread)
