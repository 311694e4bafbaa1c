-- Reading (Jepsen's histories in EDN; what is marked so is this project's own).
--
-- A text is read token by token, from left to right, and what comes first decides. At the top level
-- each form is a map, which is an operation, or a vector or list of operations (own). In an
-- operation's place, at the top level or directly in such a vector or list, tags are passed over
-- (own) and a form after a `#_` is left out, whatever it is. Anything else there is 27 NotAMap at
-- its token as soon as it is met; a set is no map. A map there gives its entry as soon as it is
-- closed.
--
-- A closer is 26 DanglingTag where a mark waits directly in the collection that it would end, reported
-- at the last such mark. So is the text's end where a mark waits directly in the innermost open
-- collection, or at the top level where none is open; a text that otherwise ends in an open
-- collection is 24 Unclosed, reported at the innermost one's opener. So `[#a]` and `[#a` are 26 at 1,
-- and `#a [` is 24 at 3.
--
-- Where the tokens end with a fault of their own, that is the fault of reading too, unless one came
-- before it.
use Rattle.std.specs.Prelude.{◌≡◌, ℕ, List, [], ◌∷◌, ◌++◌, Bool, true, false, not, ◌&&◌, ◌||◌, if◌then◌else◌, Option, Some, None, Result, Ok, Err}
use Rattle.hist_types.specs.Forms.{plain, OpenCollection, Open, is_map, is_vector_or_list, has_drop, with_form, with_mark, with_opener, form_of, waiting}
use Rattle.hist_types.specs.Entries.{Entry, entry_of, operations_of, ◌>>=◌, refuse_if}
use Rattle.hist_types.specs.Operations.{Operation}
use Rattle.hist_types.specs.Tokens.{Item, ItemKind, Opener, Closer, Drop, Tag, HasTokens, HasTokensFrom, byte_fault}
use Rattle.hist_types.specs.declared.types.Fault.{Fault}
use Rattle.hist_types.specs.declared.types.Refusal.TheVariants.{Unclosed, StrayCloser, DanglingTag, NotAMap}

-- the entries in order, and the fault that ends them, if one does
pub record Reading : Type 0 where
  pub entries : List Entry
  pub fault : Option Fault

-- ---- an operation's place

-- whether the next form is in an operation's place, where these marks wait at the top level
abbrev pub is_operation_place : List Item → List OpenCollection → Bool
is_operation_place marks [] = not (has_drop marks)
is_operation_place marks (c ∷ []) =
    is_vector_or_list c.opener && not (has_drop marks) && not (has_drop c.marks)
is_operation_place marks (c ∷ outer ∷ more) = false

abbrev pub in_operation_place : Open → Bool
in_operation_place o = is_operation_place o.marks o.collections

-- whether a vector or list may hold operations, as it may only at the top level
abbrev pub at_top : List OpenCollection → Bool
at_top [] = true
at_top (c ∷ outer) = false

abbrev pub may_open : Open → Item → Bool
may_open o opener =
    not (in_operation_place o)
    || is_map opener
    || (at_top o.collections && is_vector_or_list opener)

-- ---- one token

-- what a token gives, at most one entry, and what is open after it
pub record Step : Type 0 where
  pub entries : List Entry
  pub after : Open

abbrev pub only_opens : Open → Step
only_opens o = record { entries = []; after = o }

-- 26 where a mark waits
abbrev pub refuse_waiting : List Item → Result (Unit {0}) Fault
refuse_waiting [] = Ok tt
refuse_waiting (mark ∷ marks) = Err (byte_fault DanglingTag mark.start)

-- what a collection gives when it is closed; around it are these marks and collections
abbrev pub entries_at_close :
    OpenCollection → Item → List Item → List OpenCollection → Result (List Entry) Fault
entries_at_close c closer marks outer =
    if is_map c.opener && is_operation_place marks outer
    then (entry_of c.opener closer c.members >>= λ entry. Ok (entry ∷ []))
    else Ok []

-- a closer ends the innermost open collection; it doesn't stand where none is open
abbrev pub close : Item → List Item → List OpenCollection → Result Step Fault
close closer marks [] = Err (byte_fault StrayCloser closer.start)
close closer marks (c ∷ outer) =
    refuse_waiting c.marks >>= λ _.
    entries_at_close c closer marks outer >>= λ entries.
    Ok (record { entries = entries; after = with_form (form_of c closer) marks outer })

abbrev pub step_by : ItemKind → Open → Item → Result Step Fault
step_by Opener o t =
    if may_open o t then Ok (only_opens (with_opener t o)) else Err (byte_fault NotAMap t.start)
step_by Closer o t = close t o.marks o.collections
step_by Tag o t = Ok (only_opens (with_mark t o.marks o.collections))
step_by Drop o t = Ok (only_opens (with_mark t o.marks o.collections))
step_by kind o t =
    refuse_if (in_operation_place o) NotAMap t.start >>= λ _.
    Ok (only_opens (with_form (plain t) o.marks o.collections))

abbrev pub step : Open → Item → Result Step Fault
step o t = step_by t.kind o t

-- ---- a whole text

-- 24 where a collection is open
abbrev pub refuse_open : List OpenCollection → Option Fault
refuse_open [] = None
refuse_open (c ∷ outer) = Some (byte_fault Unclosed c.opener.start)

-- 26 where one of these marks waits, and else 24 where a collection is open
abbrev pub refuse_unfinished : List Item → List OpenCollection → Option Fault
refuse_unfinished [] collections = refuse_open collections
refuse_unfinished (mark ∷ marks) collections = Some (byte_fault DanglingTag mark.start)

-- the fault of a text that ends where these are open
abbrev pub fault_at_end : Open → Option Fault
fault_at_end o = refuse_unfinished (waiting o.marks o.collections) o.collections

-- the tokens' own fault, or else that of the end
abbrev pub ending_fault : Option Fault → Open → Option Fault
ending_fault None o = fault_at_end o
ending_fault (Some fault) o = Some fault

abbrev pub after_entries : List Entry → Reading → Reading
after_entries entries reading =
    record { entries = entries ++ reading.entries; fault = reading.fault }

-- what a step gives, and then the rest
abbrev pub and_then_read : Result Step Fault → (Open → Reading) → Reading
and_then_read (Ok s) rest = after_entries s.entries (rest s.after)
and_then_read (Err fault) rest = record { entries = []; fault = Some fault }

-- what tokens give, where these are open, that are followed by the text's end or a fault
abbrev pub reading_from : Open → List Item → Option Fault → Reading
reading_from o [] ending = record { entries = []; fault = ending_fault ending o }
reading_from o (t ∷ ts) ending = and_then_read (step o t) (λ after. reading_from after ts ending)

-- where a text begins
abbrev pub nothing_open : Open
nothing_open = record { marks = []; collections = [] }

abbrev pub reading_of : List Item → Option Fault → Reading
reading_of tokens ending = reading_from nothing_open tokens ending

-- The text reads as these entries, and then it ends or there is a fault.
abbrev pub Reads : List ℕ → List Entry → Option Fault → Type 0
Reads text entries fault =
    (tokens : List Item)
    × (ending : Option Fault)
    × HasTokens text tokens ending
    × (reading_of tokens ending ≡ record { entries = entries; fault = fault })

-- From the offset on, as if nothing stood before it, the text reads as these entries, and then it
-- ends or there is a fault.
abbrev pub ReadsFrom : ℕ → List ℕ → List Entry → Option Fault → Type 0
ReadsFrom offset text entries fault =
    (tokens : List Item)
    × (ending : Option Fault)
    × HasTokensFrom offset text tokens ending
    × (reading_of tokens ending ≡ record { entries = entries; fault = fault })

-- From the offset on, as if nothing stood before it, the text reads as these operations, and then
-- it ends or there is a fault.
pub record GivesFrom (text : List ℕ) (offset : ℕ) (operations : List Operation)
    (fault : Option Fault) : Type 0 where
  pub entries : List Entry
  pub read : ReadsFrom offset text entries fault
  pub given : operations_of entries ≡ operations

-- the text reads as these operations, up to its end
abbrev pub GivesOperations : List ℕ → List Operation → Type 0
GivesOperations text operations = GivesFrom text 0 operations None

-- From the offset on, as if nothing stood before it, the reading of the text ends with this fault.
abbrev pub FailsFrom : List ℕ → ℕ → Fault → Type 0
FailsFrom text offset fault =
    (operations : List Operation) × GivesFrom text offset operations (Some fault)

-- the text's reading ends with this fault
abbrev pub GivesFault : List ℕ → Fault → Type 0
GivesFault text fault = FailsFrom text 0 fault
