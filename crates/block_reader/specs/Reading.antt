-- Operations of a text that are read one after the other.
use Rattle.std.specs.Prelude.{◌≡◌, ◌⊎◌, ◌≤◌, ℕ, List, ◌++◌, length, Bool, true, false, None, Result, Ok, Err}
use Rattle.hist_types.specs.Entries.{Entry, operations_of}
use Rattle.hist_types.specs.Operations.{Operation}
use Rattle.hist_types.specs.Refusals.{memory_fault}
use Rattle.hist_types.specs.declared.types.Fault.{Fault}
use Rattle.hist_types.specs.Reading.{GivesFrom, FailsFrom}
use Rattle.edn_lex.specs.State.{state_at}
use Rattle.edn_ops.specs.Reader.{Reader, Goes}

-- the offset is in the text, or at its end
abbrev pub IsIn : List ℕ → ℕ → Type 0
IsIn text offset = offset ≤ length text

-- These operations were read from the offset on, up to where the reader is.
pub record HasReadFrom (text : List ℕ) (offset : ℕ) (r : Reader)
    (operations : List Operation) : Type 0 where
  pub going : r.failed ≡ None
  pub same : r.state.text ≡ text
  pub before : List Entry
  pub goes : Goes (state_at text offset) None before r.state r.list
  pub given : operations_of before ≡ operations

-- the same, from the start of the text
abbrev pub HasReadTo : List ℕ → Reader → List Operation → Type 0
HasReadTo text r operations = HasReadFrom text 0 r operations

-- What one more call does: it reads an operation, or comes to the text's end, or to a fault.
abbrev pub HasReadOn : List ℕ → ℕ → Result Bool Fault → Reader → List Operation → Type 0
HasReadOn text offset (Ok true) r operations = HasReadFrom text offset r operations
HasReadOn text offset (Ok false) r operations = GivesFrom text offset operations None
HasReadOn text offset (Err fault) r operations =
    (fault ≡ memory_fault) ⊎ FailsFrom text offset fault

-- From wherever in the text the operations before the call were read, it reads on, also where other
-- operations were read before these.
abbrev pub ReadsOn : List ℕ → Result Bool Fault → (r r' : Reader)
    → (operations operations' : List Operation) → Type 0
ReadsOn text answer r r' operations operations' =
    (offset : ℕ) (before : List Operation)
    → IsIn text offset → HasReadFrom text offset r (before ++ operations)
    → HasReadOn text offset answer r' (before ++ operations')
