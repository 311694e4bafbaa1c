-- Readers of operations, and what their calls read.
use Rattle.std.specs.Prelude.{◌≡◌, ◌≢◌, ◌⊎◌, ◌+◌, ℕ, zero, suc, List, [], ◌∷◌, ◌++◌, Bool, true, false, Option, Some, None, IfSome, Result, Ok, Err}
use Rattle.hist_types.specs.Entries.{Entry, operation, skipped, PlacedOperation}
use Rattle.hist_types.specs.Forms.{Form, Open, has_drop, is_vector_or_list}
use Rattle.hist_types.specs.Reading.{nothing_open}
use Rattle.hist_types.specs.Refusals.{memory_fault}
use Rattle.hist_types.specs.Tokens.{Item}
use Rattle.hist_types.specs.declared.types.Fault.{Fault}
use Rattle.edn_lex.specs.declared.types.Token.{Token}
use Rattle.edn_lex.specs.Kinds.{item_of}
use Rattle.edn_lex.specs.State.{State, Rest, state_at}
use Rattle.edn_ops.specs.declared.types.OpShape.{OpShape}
use Rattle.edn_ops.specs.Leads.{SameDepth, Leads, ReadsAs, inside}
use Rattle.edn_ops.specs.Shapes.{IsShapeOf, IsShapeIn}

-- ---- what is open between two operations

-- Nothing is open, or at the top level the vector or list with this opener, perhaps after tags.
-- The members that it has so far don't matter any more.
abbrev pub OpenWith : List ℕ → Option Token → Open → Type 0
OpenWith text None o = o ≡ nothing_open
OpenWith text (Some opener) o =
    (members : List Form) × (tags : List Item) × (has_drop tags ≡ false)
    × (is_vector_or_list (item_of text opener) ≡ true)
    × (o ≡ inside (item_of text opener) members [] (record { marks = tags; collections = [] }))

-- the same, where the lexer has as many open collections
abbrev pub AreOpen : State → Option Token → Open → Type 0
AreOpen s list o = OpenWith s.text list o × SameDepth s o

-- ---- what is read

-- n skipped operations
abbrev pub skips : ℕ → List Entry
skips zero = []
skips (suc n) = skipped ∷ skips n

-- From s, where the list is open, the entries are read, and then what is read from t.
abbrev pub Goes : State → Option Token → List Entry → State → Option Token → Type 0
Goes s list entries t list' =
    (o : Open) → AreOpen s list o → (p : Open) × AreOpen t list' p × Leads s o entries t p

-- What is left from s, where the list is open, reads as these entries and the fault.
abbrev pub EndsWith : State → Option Token → List Entry → Option Fault → Type 0
EndsWith s list entries fault =
    (o : Open) → AreOpen s list o → ReadsAs s o (record { entries = entries; fault = fault })

-- ---- readers

-- A reader between two operations: the lexer's state, the opener of the vector or list that is open
-- at the top level, the fault that has been given, and how many operations were skipped.
pub record Reader : Type 0 where
  pub state : State
  pub list : Option Token
  pub failed : Option Fault
  pub skipped : ℕ

-- a reader that begins at this offset
abbrev pub reader_at : List ℕ → ℕ → Reader
reader_at text offset =
    record { state = state_at text offset; list = None; failed = None; skipped = 0 }

abbrev pub reader_at_start : List ℕ → Reader
reader_at_start text = reader_at text 0

-- what is left of the text reads so
abbrev pub Left : Reader → List Entry → Option Fault → Type 0
Left r entries fault = EndsWith r.state r.list entries fault

-- such entries and such a fault are what is left
abbrev pub LeavesAll : (List Entry → Option Fault → Type 0) → Reader → Type 0
LeavesAll Has r =
    (entries : List Entry) (fault : Option Fault) → Has entries fault → Left r entries fault

-- the entries and the fault that are left are such
abbrev pub LeavesOnly : (List Entry → Option Fault → Type 0) → Reader → Type 0
LeavesOnly Has r =
    (entries : List Entry) (fault : Option Fault) → Left r entries fault → Has entries fault

-- A call skipped some operations, and read this one.
pub record HasRead (old : Reader) (shape : OpShape) (new : Reader) : Type 0 where
  pub going : new.failed ≡ None
  pub more : ℕ
  pub skipped : new.skipped ≡ old.skipped + more
  pub read : PlacedOperation
  pub shape_of : IsShapeOf shape read
  pub goes : Goes old.state old.list (skips more ++ operation read ∷ []) new.state new.list

-- A call skipped some operations, and then the text ended.
pub record HasEnded (old : Reader) (new : Reader) : Type 0 where
  pub going : new.failed ≡ None
  pub more : ℕ
  pub skipped : new.skipped ≡ old.skipped + more
  pub closed : new.list ≡ None
  pub text : new.state.text ≡ old.state.text
  pub ends : Left old (skips more) None
  pub after : Rest new.state [] None

-- A call skipped some operations, and then the fault came.
pub record HasFailed (old : Reader) (fault : Fault) (new : Reader) : Type 0 where
  pub failed : new ≡ record old { failed = Some fault }
  pub more : ℕ
  pub ends : Left old (skips more) (Some fault)

-- the fault that has been given is given again, and nothing changes
abbrev pub FailsAgain : Reader → Result (Option OpShape) Fault → Reader → Type 0
FailsAgain old result new = IfSome old.failed (λ fault. (result ≡ Err fault) × (new ≡ old))

-- what a call gives where no fault has been given
abbrev pub NextOf : Reader → Result (Option OpShape) Fault → Reader → Type 0
NextOf old (Ok (Some shape)) new = HasRead old shape new
NextOf old (Ok None) new = HasEnded old new
NextOf old (Err fault) new =
    ((fault ≡ memory_fault) × (new ≡ old)) ⊎ ((fault ≢ memory_fault) × HasFailed old fault new)

-- what a call found that fills this shape, and returns whether it did
abbrev pub found_in : OpShape → Result Bool Fault → Result (Option OpShape) Fault
found_in shape (Ok true) = Ok (Some shape)
found_in shape (Ok false) = Ok None
found_in shape (Err fault) = Err fault

-- what a call gives that reads an operation at once, or leaves the reader as it is
abbrev pub FlatNext : Reader → Result (Option OpShape) Fault → Reader → Type 0
FlatNext old (Ok None) new = new ≡ old
FlatNext old (Ok (Some shape)) new =
    (old.failed ≡ None) × HasRead old shape new × IsShapeIn old.state.text shape
    × (new.state.text ≡ old.state.text)
FlatNext old (Err fault) new = (old.failed ≡ None) × (fault ≡ memory_fault) × (new ≡ old)
