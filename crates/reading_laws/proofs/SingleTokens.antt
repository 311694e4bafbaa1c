-- A token that spells an atom or nil is one token by itself.
use Rattle.std.proofs.Common.{◌≡◌, inl, inr, ℕ, ◌+◌, List, [], ◌∷◌, length, take, drop, Bool, true, false, if◌then◌else◌, Option, Some, None, refl, sym, subst, arith}
use Rattle.std.specs.List.{AllByRecursion, All, Contains}
use Rattle.std.proofs.lemmas.List.{drop_all}
use Rattle.std.proofs.lemmas.List.Elements.{All-from_recursion}
use Rattle.std.proofs.lemmas.Option.{none-some}
use Rattle.hist_types.specs.Atoms.{Atom, Value}
use Rattle.hist_types.specs.AtomTokens.{atom_of_token}
use Rattle.hist_types.specs.Entries.{PlacedMop, PlacedOperation, Entry, operation}
use Rattle.reading_laws.specs.Placed.{SpellsValue, SpellsParts, IsTokenAlone, IsMopOfTokens}
use Rattle.hist_types.specs.Operations.{Mop, read, write}
use Rattle.hist_types.specs.Reading.{Reads}
use Rattle.hist_types.specs.Tokens.{Item, ItemKind, Blank, Comment, Opener, Closer, item_fault, nesting_refusal, open_after, is_token, tokens_of, BeginsWith, IsCut, HasTokens}
use Rattle.hist_types.specs.declared.types.Fault.{Fault}
use Rattle.hist_types.proofs.Members.{In, in_from_Contains}
use Rattle.reading_laws.proofs.MovedReading.{tokens_of-token}
use Rattle.reading_laws.proofs.OneCut.{the_item}
use Rattle.reading_laws.proofs.PartCuts.{BeginsWith-take, item_fault-elsewhere}
use Rattle.reading_laws.proofs.SpelledParts.{BeginsWith-bytes, IsSpelled, spelled_by_tokens}

-- a token that neither opens nor closes
abbrev IsFree : ItemKind → Type 0
IsFree kind = (is_token kind ≡ true) × ((bytes closers : List ℕ) → nesting_refusal kind bytes closers ≡ None)

-- a token by itself, where such bytes are one at the front of themselves
pub alone :
    (kind : ItemKind) (bytes : List ℕ)
    → is_token kind ≡ true
    → BeginsWith bytes kind bytes
    → item_fault kind 0 bytes [] ≡ None
    → IsTokenAlone kind bytes
alone kind bytes token begins fine =
    let t = the_item kind 0 bytes in
    let cut : IsCut bytes 0 [] (t ∷ []) None = (begins, refl, fine, drop_all (length bytes) bytes (omega arith)) in
    (t ∷ [], cut, sym (tokens_of-token t [] token))

-- what is free is a token by itself
abbrev IsAlone : Item → Type 0
IsAlone t = IsFree t.kind → IsTokenAlone t.kind t.bytes

item_alone :
    (text : List ℕ) (offset : ℕ) (closers : List ℕ) (t : Item)
    → BeginsWith text t.kind t.bytes
    → item_fault t.kind offset t.bytes closers ≡ None
    → IsAlone t
item_alone text offset closers t begins fine free =
    let all : t.bytes ≡ take (length t.bytes) text = BeginsWith-bytes text t.kind t.bytes begins in
    let front = BeginsWith-take text (length t.bytes) t.kind t.bytes begins (omega arith) in
    alone t.kind t.bytes free.0 (subst (λ xs. BeginsWith xs t.kind t.bytes) (sym all) front)
    (item_fault-elsewhere t.kind offset 0 t.bytes closers [] (λ _. free.1 t.bytes []) fine)

items_alone :
    (items : List Item) (text : List ℕ) (offset : ℕ) (closers : List ℕ) (ending : Option Fault)
    → IsCut text offset closers items ending
    → AllByRecursion IsAlone items
items_alone [] text offset closers ending cut = tt
items_alone (t ∷ items) text offset closers ending cut = (
  item_alone text offset closers t cut.0 cut.2,
  items_alone items (drop (length t.bytes) text) (offset + length t.bytes)
      (open_after t.kind t.bytes closers) ending cut.3,
)

if_alone :
    (token : Bool) (t : Item) (ts : List Item)
    → IsAlone t
    → AllByRecursion IsAlone ts
    → AllByRecursion IsAlone (if token then t ∷ ts else ts)
if_alone true t ts one all = (one, all)
if_alone false t ts one all = all

tokens_alone : (items : List Item) → AllByRecursion IsAlone items → AllByRecursion IsAlone (tokens_of items)
tokens_alone [] all = tt
tokens_alone (t ∷ items) all = if_alone (is_token t.kind) t (tokens_of items) all.0 (tokens_alone items all.1)

-- the tokens of a text
row_alone :
    (text : List ℕ) (tokens : List Item) (ending : Option Fault)
    → HasTokens text tokens ending
    → AllByRecursion IsAlone tokens
row_alone text tokens ending row =
    subst (AllByRecursion IsAlone) (sym row.2) (tokens_alone row.0 (items_alone row.0 text 0 [] ending row.1))

-- ---- what spells is free

spelled_free : (kind : ItemKind) (bytes : List ℕ) (atom : Atom) → atom_of_token kind bytes ≡ Some atom → IsFree kind
spelled_free Blank bytes atom e = absurd (none-some atom e)
spelled_free Comment bytes atom e = absurd (none-some atom e)
spelled_free Opener bytes atom e = absurd (none-some atom e)
spelled_free Closer bytes atom e = absurd (none-some atom e)
spelled_free kind bytes atom e = (refl, λ bs closers. refl)

value_free : (t : Item) (value : Value) → SpellsValue t value → IsFree t.kind
value_free t None e = subst IsFree (sym e) (refl, λ bs closers. refl)
value_free t (Some atom) e = spelled_free t.kind t.bytes atom e

one_of : (t : Item) (ts : List Item) → In t ts → AllByRecursion IsAlone ts → IsAlone t
one_of t [] i all = absurd i
one_of t (u ∷ ts) (inl same) all = subst IsAlone same all.0
one_of t (u ∷ ts) (inr i) all = one_of t ts i all.1

pub token_alone :
    (text : List ℕ) (tokens : List Item) (ending : Option Fault) (t : Item) (value : Value)
    → HasTokens text tokens ending
    → Contains tokens t
    → SpellsValue t value
    → IsTokenAlone t.kind t.bytes
token_alone text tokens ending t value row contains spells =
    one_of t tokens (in_from_Contains t tokens contains) (row_alone text tokens ending row) (value_free t value spells)

-- ---- the parts of operations

parts_alone :
    (key value : Item) (m : Mop)
    → IsAlone key
    → IsAlone value
    → SpellsParts key value m
    → IsTokenAlone key.kind key.bytes × IsTokenAlone value.kind value.bytes
parts_alone key value (read k v) first second spells =
    (first (spelled_free key.kind key.bytes k spells.0), second (value_free value v spells.1))
parts_alone key value (write k v) first second spells =
    (first (spelled_free key.kind key.bytes k spells.0), second (spelled_free value.kind value.bytes v spells.1))

mops_alone : (mops : List PlacedMop) → AllByRecursion (IsSpelled IsAlone) mops → AllByRecursion IsMopOfTokens mops
mops_alone [] all = tt
mops_alone (m ∷ mops) all = (parts_alone m.key m.value m.mop all.0.0 all.0.1 all.0.2, mops_alone mops all.1)

pub mops_alone_in :
    (text : List ℕ) (entries : List Entry) (fault : Option Fault) (o : PlacedOperation)
    → Reads text entries fault
    → Contains entries (operation o)
    → All IsMopOfTokens o.mops
mops_alone_in text entries fault o reads contains =
    All-from_recursion IsMopOfTokens o.mops
    (mops_alone o.mops
    (spelled_by_tokens IsAlone text entries fault o (row_alone text) reads
    (in_from_Contains (operation o) entries contains)))
