-- What a call that reads the next operation gives.
use Rattle.std.specs.Prelude.{◌≡◌, ◌≤◌, ◌+◌, ℕ, List, [], ◌∷◌, ◌++◌, length, Bool, true, false, Option, Some, None, Result, Ok, Err}
use Rattle.hist_types.specs.Entries.{Entry, operation, PlacedOperation}
use Rattle.hist_types.specs.Refusals.{memory_fault}
use Rattle.hist_types.specs.declared.types.Fault.{Fault}
use Rattle.edn_lex.specs.State.{State, state_at, Rest}
use Rattle.edn_ops.specs.declared.reader.Place.{Place}
use Rattle.edn_ops.specs.declared.types.OpShape.{OpShape}
use Rattle.edn_lex.specs.declared.types.Token.{Token}
use Rattle.edn_ops.specs.Collections.{UnlessMemory}
use Rattle.edn_ops.specs.Reader.{skips, Goes, EndsWith}
use Rattle.edn_ops.specs.Shapes.{IsShapeOf}

-- Some operations were skipped, and then this one was read.
pub record ReadsOp (old : Place) (shape : OpShape) (new : Place) : Type 0 where
  pub more : ℕ
  pub skipped : new.skipped ≡ old.skipped + more
  pub read : PlacedOperation
  pub shape_of : IsShapeOf shape read
  pub goes : Goes old.lexer old.list (skips more ++ operation read ∷ []) new.lexer new.list

-- Some operations were skipped, and then the text ended.
pub record ReadsEnd (old : Place) (new : Place) : Type 0 where
  pub more : ℕ
  pub skipped : new.skipped ≡ old.skipped + more
  pub closed : new.list ≡ None
  pub text : new.lexer.text ≡ old.lexer.text
  pub ends : EndsWith old.lexer old.list (skips more) None
  pub after : Rest new.lexer [] None

-- Some operations were skipped, and then the fault came.
pub record ReadsFault (old : Place) (fault : Fault) : Type 0 where
  pub more : ℕ
  pub ends : EndsWith old.lexer old.list (skips more) (Some fault)

abbrev pub NextOp : Place → Result (Option OpShape) Fault → Place → Type 0
NextOp old (Ok (Some shape)) new = ReadsOp old shape new
NextOp old (Ok None) new = ReadsEnd old new
NextOp old (Err fault) new = UnlessMemory fault (ReadsFault old fault)

-- what a call gives that reads an operation at once, or leaves the place as it is
abbrev pub FlatOp : Place → Result (Option OpShape) Fault → Place → Type 0
FlatOp old (Ok None) new = new ≡ old
FlatOp old (Ok (Some shape)) new = ReadsOp old shape new × (new.skipped ≤ new.lexer.offset)
FlatOp old (Err fault) new = (fault ≡ memory_fault) × (new ≡ old)

-- ---- where a reader is in its text

-- the state, where the list is open, is reached from where the reading began
pub record IsReached (s : State) (list : Option Token) : Type 0 where
  pub from : ℕ
  pub low : from ≤ length s.text
  pub given : List Entry
  pub goes : Goes (state_at s.text from) None given s list

-- the text has been read up to the place, and where it has ended nothing is left
pub record IsReadUpTo (place : Place) (ended : Bool) : Type 0 where
  pub reached : ended ≡ false → IsReached place.lexer place.list
  pub closed : ended ≡ true → place.list ≡ None
  pub nothing_left : ended ≡ true → Rest place.lexer [] None
