-- Readings of a text: the words of the laws about them.
use Rattle.std.specs.Prelude.{◌≡◌, ℕ, ◌≤◌, List, [], length, true, IsFalse, IfSome, slice_get, All, Contains, Option, None}
use Rattle.hist_types.specs.Bytes.{is_run_byte}
use Rattle.hist_types.specs.Atoms.{Value}
use Rattle.hist_types.specs.Entries.{PlacedOperation, Entry, operation}
use Rattle.hist_types.specs.Reading.{Reads, ReadsFrom}
use Rattle.hist_types.specs.Tokens.{Item, ItemKind, HasTokens, BeginsWith, is_token, item_fault}
use Rattle.hist_types.specs.declared.types.Fault.{Fault}
use Rattle.reading_laws.specs.Placed.{SpellsValue, IsMopIn, IsMopOfTokens}

-- no two lists, and no two endings (a fault or none), stand in this relation
abbrev pub HasNoOtherReading : {A : Type 0} → (List A → Option Fault → Type 0) → Type 0
HasNoOtherReading {A} Is =
    (list other : List A) (ending end : Option Fault)
    → Is list ending
    → Is other end
    → (list ≡ other) × (ending ≡ end)

-- one list and one ending stand in this relation, and no others
abbrev pub HasOneReading : {A : Type 0} → (List A → Option Fault → Type 0) → Type 0
HasOneReading {A} Is =
    ((list : List A) × (ending : Option Fault) × Is list ending) × HasNoOtherReading Is

-- reading the text gives the operation
abbrev pub IsReadIn : List ℕ → PlacedOperation → Type 0
IsReadIn text o =
    (entries : List Entry)
    × (fault : Option Fault)
    × Reads text entries fault
    × Contains entries (operation o)

-- reading the text from one of its offsets on gives the operation
abbrev pub IsReadInPart : List ℕ → PlacedOperation → Type 0
IsReadInPart text o =
    (offset : ℕ)
    × (entries : List Entry)
    × (fault : Option Fault)
    × (offset ≤ length text)
    × ReadsFrom offset text entries fault
    × Contains entries (operation o)

-- the tokens of the operation's keys and values are in the text, and spell these
abbrev pub HasPartsOf : List ℕ → PlacedOperation → Type 0
HasPartsOf text o = All (IsMopIn text) o.mops

-- the operation's keys and values are tokens by themselves
abbrev pub IsOfTokens : PlacedOperation → Type 0
IsOfTokens o = All IsMopOfTokens o.mops

-- the token is one of the text's, and spells an atom or nil
abbrev pub HasAtom : List ℕ → Item → Type 0
HasAtom text t =
    (tokens : List Item)
    × (ending : Option Fault)
    × (value : Value)
    × HasTokens text tokens ending
    × Contains tokens t
    × SpellsValue t value

-- the bytes are a token of this kind at the front of themselves, without a fault
abbrev pub IsFaultlessToken : ItemKind → List ℕ → Type 0
IsFaultlessToken kind bytes =
    (is_token kind ≡ true) × BeginsWith bytes kind bytes × (item_fault kind 0 bytes [] ≡ None)

-- no run byte is at the place, if a byte is
abbrev pub RunEndsAt : List ℕ → ℕ → Type 0
RunEndsAt text place = IfSome (slice_get text place) (λ b. IsFalse (is_run_byte b))
