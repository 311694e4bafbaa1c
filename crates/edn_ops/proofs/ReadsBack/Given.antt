-- What a text gives can be read back: each operation of a reading meets what reading asks for.
use Rattle.std.proofs.Common.{◌≡◌, inl, inr, ℕ, ◌+◌, ◌≤◌, List, [], ◌∷◌, length, drop, Bool, Option, Some, None, refl, sym, ap, subst, arith}
use Rattle.std.specs.Prelude.{filter, map}
use Rattle.std.specs.List.{All, AllByRecursion}
use Rattle.std.proofs.lemmas.Bool.{cases_Bool}
use Rattle.std.proofs.lemmas.List.Elements.{All-nil, All-cons}
use Rattle.hist_types.specs.Atoms.{Atom, Value}
use Rattle.hist_types.specs.Entries.{PlacedMop, PlacedOperation, Entry, operation, skipped, operation_of, operations_of}
use Rattle.hist_types.specs.Operations.{Mop, read, write}
use Rattle.reading_laws.specs.Placed.{SpellsValue, SpellsParts, FitsKind, from_its_start, mop_from}
use Rattle.hist_types.specs.Reading.{Reads}
use Rattle.hist_types.specs.Tokens.{Item, IsCut, HasTokens, open_after, is_token}
use Rattle.hist_types.specs.declared.limits.TheConstants.{MAX_MICRO_OPS}
use Rattle.hist_types.specs.declared.types.Fault.{Fault}
use Rattle.hist_types.specs.declared.types.OpKind.{OpKind}
use Rattle.hist_types.specs.declared.types.OpKind.TheVariants as kinds
use Rattle.edn_ops.specs.Canonical.{CanBeRead, ValueCanBeRead, MopCanBeRead, MopsCanBeRead, CanBeReadIfShort}
use Rattle.edn_ops.specs.SourceTexts.{IsAtomText, IsValueText, IsMopText, AreMopTexts}
use Rattle.edn_ops.specs.declared.write.MopText.{MopText}
use Rattle.reading_laws.proofs.MapAlone.{read_alone}
use Rattle.hist_types.proofs.Members.{In, Contains_from_in}
use Rattle.reading_laws.proofs.SpelledParts.{IsSpelled, spelled_by_tokens, limits_kept}
use Rattle.edn_ops.proofs.ReadsBack.Lexed.{no_fault_utf8}
use Rattle.edn_ops.proofs.ReadsBack.Meant.{Means, token_means}

-- ---- tokens

-- what an item means can be read
abbrev ItemMeans : Item → Type 0
ItemMeans item = Means item.kind item.bytes

-- each item of a text means an atom that can be read, if it means one
items_mean : (text : List ℕ) (at : ℕ) (closers : List ℕ) (items : List Item) (ending : Option Fault) → IsCut text at closers items ending → AllByRecursion ItemMeans items
items_mean text at closers [] ending h = tt
items_mean text at closers (item ∷ items) ending h = (
  token_means item.kind text item.bytes (no_fault_utf8 item.kind at item.bytes closers h.2) h.0,
  items_mean (drop (length item.bytes) text) (at + length item.bytes) (open_after item.kind item.bytes closers) items ending h.3,
)

-- what holds of each holds of those that are kept
kept : {A : Type 0} (P : A → Type 0) (test : A → Bool) (xs : List A) → AllByRecursion P xs → AllByRecursion P (filter test xs)
kept P test [] h = tt
kept P test (x ∷ xs) h = elim (cases_Bool (test x)) [
  | inl e ↦ rw e (h.0, kept P test xs h.1)
  | inr e ↦ rw e (kept P test xs h.1)
]

-- each token of a text means an atom that can be read, if it means one
tokens_mean : (text : List ℕ) (tokens : List Item) (ending : Option Fault) → HasTokens text tokens ending → AllByRecursion ItemMeans tokens
tokens_mean text tokens ending h =
    subst (AllByRecursion ItemMeans) (sym h.2) (kept ItemMeans (λ (item : Item). is_token item.kind) h.0 (items_mean text 0 [] h.0 ending h.1))

-- ---- source texts

-- an atom that a text spells can be read
pub spelled_can : (text : List ℕ) (a : Atom) → IsAtomText text a → CanBeRead a
spelled_can text a h = (tokens_mean text (record { kind = h.0; start = 0; bytes = text } ∷ []) None h.1).0 a h.2

value_spelled_can : (text : List ℕ) (v : Value) → IsValueText text v → ValueCanBeRead v
value_spelled_can text None h = tt
value_spelled_can text (Some a) h = spelled_can text a h

mop_spelled_can : (t : MopText) (m : Mop) → IsMopText t m → MopCanBeRead m
mop_spelled_can t (read key value) h = (spelled_can t.key.now key h.1, value_spelled_can t.value.now value h.2)
mop_spelled_can t (write key value) h = (spelled_can t.key.now key h.1, spelled_can t.value.now value h.2)

-- and so can micro-operations
pub mops_spelled_can : (texts : List MopText) (ms : List Mop) → AreMopTexts texts ms → All MopCanBeRead ms
mops_spelled_can [] [] h = All-nil MopCanBeRead
mops_spelled_can [] (m ∷ ms) h = absurd h
mops_spelled_can (t ∷ texts) [] h = absurd h
mops_spelled_can (t ∷ texts) (m ∷ ms) h = All-cons MopCanBeRead m ms (mop_spelled_can t m h.0) (mops_spelled_can texts ms h.1)

-- ---- operations of a text

value_can : (t : Item) (v : Value) → ItemMeans t → SpellsValue t v → ValueCanBeRead v
value_can t None means e = tt
value_can t (Some a) means e = means a e

mop_can : (key value : Item) (m : Mop) → ItemMeans key → ItemMeans value → SpellsParts key value m → MopCanBeRead m
mop_can key value m h g k = grind arith

mops_can : (mops : List PlacedMop) → AllByRecursion (IsSpelled ItemMeans) mops → All MopCanBeRead (map (λ (m : PlacedMop). m.mop) mops)
mops_can [] all = All-nil MopCanBeRead
mops_can (m ∷ mops) all =
    All-cons MopCanBeRead m.mop (map (λ (p : PlacedMop). p.mop) mops) (mop_can m.key m.value m.mop all.0.0 all.0.1 all.0.2) (mops_can mops all.1)

-- another list made of the same one is as long
as_many : {A B : Type 0} (f : PlacedMop → A) (g : PlacedMop → B) (mops : List PlacedMop) → length (map f mops) ≡ length (map g mops)
as_many f g [] = refl
as_many f g (m ∷ mops) = omega (arith, as_many f g mops)

-- and empty where that is
none_too : {A B : Type 0} (f : PlacedMop → A) (g : PlacedMop → B) (mops : List PlacedMop) → map f mops ≡ [] → map g mops ≡ []
none_too f g [] e = refl
none_too f g (m ∷ mops) e = absurd (let none : length (map f (m ∷ mops)) ≡ 0 = ap length e in omega (arith, none))

-- the micro-operations of an operation of this kind
kind_can :
    (kind : OpKind) (mops : List PlacedMop) (from : PlacedMop → PlacedMop)
    → length (map from mops) ≤ MAX_MICRO_OPS → FitsKind kind (map from mops) → All MopCanBeRead (map (λ (m : PlacedMop). m.mop) mops)
    → MopsCanBeRead kind (map (λ (m : PlacedMop). m.mop) mops)
kind_can kinds.Invoke mops from few fits all = (omega (arith, few, as_many from (λ (m : PlacedMop). m.mop) mops), all)
kind_can kinds.Ok mops from few fits all = (omega (arith, few, as_many from (λ (m : PlacedMop). m.mop) mops), all)
kind_can kinds.Fail mops from few fits all = none_too from (λ (m : PlacedMop). m.mop) mops fits
kind_can kinds.Info mops from few fits all = none_too from (λ (m : PlacedMop). m.mop) mops fits

one_back :
    (text : List ℕ) (entries : List Entry) (fault : Option Fault) (o : PlacedOperation)
    → Reads text entries fault → In (operation o) entries → CanBeReadIfShort (operation_of o)
one_back text entries fault o r i short =
    let spelled = spelled_by_tokens ItemMeans text entries fault o (tokens_mean text) r i in
    let alone = read_alone text entries fault o r (Contains_from_in (operation o) entries i) in
    let limits = limits_kept _ (from_its_start o) alone.2 in
    record { process = limits.1; mops = kind_can o.kind o.mops (mop_from o.start) limits.2 limits.3 (mops_can o.mops spelled); bytes = short }

each_back : (entries : List Entry) → ((o : PlacedOperation) → In (operation o) entries → CanBeReadIfShort (operation_of o)) → All CanBeReadIfShort (operations_of entries)
each_back [] h = All-nil CanBeReadIfShort
each_back (operation o ∷ entries) h =
    All-cons CanBeReadIfShort (operation_of o) (operations_of entries) (h o (inl refl)) (each_back entries (λ p i. h p (inr i)))
each_back (skipped ∷ entries) h = each_back entries (λ p i. h p (inr i))

-- each operation that a text gives can be read back, where its text is short enough
pub given_back : (text : List ℕ) (entries : List Entry) (fault : Option Fault) → Reads text entries fault → All CanBeReadIfShort (operations_of entries)
given_back text entries fault r = each_back entries (λ o i. one_back text entries fault o r i)
