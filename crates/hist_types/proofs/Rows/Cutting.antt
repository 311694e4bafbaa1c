-- A text is cut by computation: for a written-out text the relation of tokens, and with it the reading, then holds by `refl`.
use Rattle.std.proofs.Common.{◌≡◌, inl, inr, ℕ, zero, suc, ◌+◌, List, [], ◌∷◌, length, take, drop, Bool, true, false, ◌==◌, if◌then◌else◌, Option, Some, None, option_map, is_some, map, refl, ap, subst}
use Rattle.std.specs.Bool.{⊤}
use Rattle.std.specs.Str.{is_utf8, chars}
use Rattle.std.specs.Str.Lossy.{utf8_valid_len}
use lib.Utf8.{encode}
use Rattle.std.proofs.lemmas.Bool.{eqb-true, false≢true}
use Rattle.std.proofs.lemmas.Option.{same_Some}
use Rattle.hist_types.specs.Tokens.{Item, ItemKind, Str, front, item_fault, open_after, byte_fault, tokens_of, IsCut, BeginsWith, HasTokens}
use Rattle.hist_types.specs.Entries.{Entry, operation, skipped, operation_of}
use Rattle.hist_types.specs.Operations.{Operation}
use Rattle.hist_types.specs.Reading.{Reading, reading_of, Reads}
use Rattle.hist_types.specs.declared.types.Fault.{Fault}
use Rattle.hist_types.specs.declared.types.Refusal.{Refusal}
use Rattle.hist_types.specs.declared.types.Refusal.TheVariants.{UnclosedString}

-- the items of a text, and the fault that ends them
pub record Cut : Type 0 where
  pub items : List Item
  pub ending : Option Fault

abbrev with_item : Item → Cut → Cut
with_item item c = record { items = item ∷ c.items; ending = c.ending }

-- the text from an offset on, inside collections, as far as it can be cut
abbrev Cutter : Type 0
Cutter = List ℕ → ℕ → List ℕ → Option Cut

-- the cut of a text at whose front this item stands, by its fault
abbrev cut_item : Cutter → List ℕ → ℕ → List ℕ → ItemKind → List ℕ → Option Fault → Option Cut
cut_item next text offset closers kind bytes None =
    option_map (with_item (record { kind = kind; start = offset; bytes = bytes })) (next (drop (length bytes) text) (offset + length bytes) (open_after kind bytes closers))
cut_item next text offset closers kind bytes (Some fault) = Some (record { items = []; ending = Some fault })

-- a string that nothing closes
abbrev cut_endless : ℕ → ItemKind → Option Cut
cut_endless offset Str = Some (record { items = []; ending = Some (byte_fault UnclosedString offset) })
cut_endless offset kind = None

-- the cut of a text by what stands at its front
abbrev cut_front : Cutter → List ℕ → ℕ → List ℕ → ItemKind → Option ℕ → Option Cut
cut_front next text offset closers kind None = cut_endless offset kind
cut_front next text offset closers kind (Some n) =
    if n == length (take n text) then cut_item next text offset closers kind (take n text) (item_fault kind offset (take n text) closers) else None

-- the cut of a text of at most so many items
abbrev pub cutting : ℕ → Cutter
cutting n [] offset closers = Some (record { items = []; ending = None })
cutting zero (b ∷ rest) offset closers = None
cutting (suc n) (b ∷ rest) offset closers = cut_front (cutting n) (b ∷ rest) offset closers (front b rest).0 (front b rest).1

-- a cut is one of the text from an offset on, inside collections
abbrev Holds : List ℕ → ℕ → List ℕ → Option Cut → Type 0
Holds text offset closers None = ⊤
Holds text offset closers (Some c) = IsCut text offset closers c.items c.ending

with_item-holds :
    (b : ℕ) (rest : List ℕ) (offset : ℕ) (closers : List ℕ) (kind : ItemKind) (bytes : List ℕ) (r : Option Cut)
    → BeginsWith (b ∷ rest) kind bytes
    → item_fault kind offset bytes closers ≡ None
    → Holds (drop (length bytes) (b ∷ rest)) (offset + length bytes) (open_after kind bytes closers) r
    → Holds (b ∷ rest) offset closers (option_map (with_item (record { kind = kind; start = offset; bytes = bytes })) r)
with_item-holds b rest offset closers kind bytes None begins good holds = tt
with_item-holds b rest offset closers kind bytes (Some c) begins good holds = (begins, refl, good, holds)

cut_item-holds :
    (next : Cutter) (all : (t : List ℕ) (o : ℕ) (cs : List ℕ) → Holds t o cs (next t o cs))
    (b : ℕ) (rest : List ℕ) (offset : ℕ) (closers : List ℕ) (kind : ItemKind) (bytes : List ℕ) (found : Option Fault)
    → BeginsWith (b ∷ rest) kind bytes
    → item_fault kind offset bytes closers ≡ found
    → Holds (b ∷ rest) offset closers (cut_item next (b ∷ rest) offset closers kind bytes found)
cut_item-holds next all b rest offset closers kind bytes None begins good =
    with_item-holds b rest offset closers kind bytes _ begins good (all _ _ _)
cut_item-holds next all b rest offset closers kind bytes (Some fault) begins bad = inr (kind, bytes, begins, bad)

cut_endless-holds :
    (b : ℕ) (rest : List ℕ) (offset : ℕ) (closers : List ℕ) (kind : ItemKind)
    → front b rest ≡ (kind, None)
    → Holds (b ∷ rest) offset closers (cut_endless offset kind)
cut_endless-holds b rest offset closers Str e = inl (e, refl)
cut_endless-holds b rest offset closers kind e = tt

fitting-holds :
    (next : Cutter) (all : (t : List ℕ) (o : ℕ) (cs : List ℕ) → Holds t o cs (next t o cs))
    (b : ℕ) (rest : List ℕ) (offset : ℕ) (closers : List ℕ) (kind : ItemKind) (n : ℕ) (fits : Bool)
    → (n == length (take n (b ∷ rest))) ≡ fits
    → front b rest ≡ (kind, Some n)
    → Holds (b ∷ rest) offset closers
    (if fits then cut_item next (b ∷ rest) offset closers kind (take n (b ∷ rest)) (item_fault kind offset (take n (b ∷ rest)) closers) else None)
fitting-holds next all b rest offset closers kind n true fits e =
    let p : n ≡ length (take n (b ∷ rest)) = eqb-true n (length (take n (b ∷ rest))) fits in
    cut_item-holds next all b rest offset closers kind (take n (b ∷ rest)) (item_fault kind offset (take n (b ∷ rest)) closers)
    (subst (λ m. front b rest ≡ (kind, Some m)) p e, ap (λ m. take m (b ∷ rest)) p)
    refl
fitting-holds next all b rest offset closers kind n false fits e = tt

cut_front-holds :
    (next : Cutter) (all : (t : List ℕ) (o : ℕ) (cs : List ℕ) → Holds t o cs (next t o cs))
    (b : ℕ) (rest : List ℕ) (offset : ℕ) (closers : List ℕ) (kind : ItemKind) (len : Option ℕ)
    → front b rest ≡ (kind, len)
    → Holds (b ∷ rest) offset closers (cut_front next (b ∷ rest) offset closers kind len)
cut_front-holds next all b rest offset closers kind None e = cut_endless-holds b rest offset closers kind e
cut_front-holds next all b rest offset closers kind (Some n) e =
    fitting-holds next all b rest offset closers kind n (n == length (take n (b ∷ rest))) refl e

-- each cut is one of the text
cutting-holds : (n : ℕ) (text : List ℕ) (offset : ℕ) (closers : List ℕ) → Holds text offset closers (cutting n text offset closers)
cutting-holds n [] offset closers = refl
cutting-holds zero (b ∷ rest) offset closers = tt
cutting-holds (suc n) (b ∷ rest) offset closers =
    cut_front-holds (cutting n) (cutting-holds n) b rest offset closers (front b rest).0 (front b rest).1 refl

-- ---- what is cut, and what is read from it

-- the tokens with the fault that ends them
abbrev ended_tokens : Cut → List Item × Option Fault
ended_tokens c = (tokens_of c.items, c.ending)

abbrev read_cut : Cut → Reading
read_cut c = reading_of (tokens_of c.items) c.ending

-- the tokens of a text with at most so many items, and the fault that ends them
abbrev pub tokens_at : ℕ → List ℕ → Option (List Item × Option Fault)
tokens_at n text = option_map ended_tokens (cutting n text 0 [])

-- the reading of a text with at most so many items
abbrev pub reading_at : ℕ → List ℕ → Option Reading
reading_at n text = option_map read_cut (cutting n text 0 [])

tokens_from_cut :
    (text : List ℕ) (tokens : List Item) (ending : Option Fault) (r : Option Cut)
    → Holds text 0 [] r
    → option_map ended_tokens r ≡ Some (tokens, ending)
    → HasTokens text tokens ending
tokens_from_cut text tokens ending None holds e = elim (false≢true (ap is_some e)) [ ]
tokens_from_cut text tokens ending (Some c) holds e =
    let p : (tokens_of c.items, c.ending) ≡ (tokens, ending) = cc in
    subst (λ (found : List Item × Option Fault). HasTokens text found.0 found.1) p (c.items, holds, refl)

-- A text has the tokens that are cut from it.
pub has_tokens : (n : ℕ) (text : List ℕ) (tokens : List Item) (ending : Option Fault) → tokens_at n text ≡ Some (tokens, ending) → HasTokens text tokens ending
has_tokens n text tokens ending e = tokens_from_cut text tokens ending (cutting n text 0 []) (cutting-holds n text 0 []) e

reading_from_cut :
    (text : List ℕ) (entries : List Entry) (fault : Option Fault) (r : Option Cut)
    → Holds text 0 [] r
    → option_map read_cut r ≡ Some (record { entries = entries; fault = fault })
    → Reads text entries fault
reading_from_cut text entries fault None holds e = elim (false≢true (ap is_some e)) [ ]
reading_from_cut text entries fault (Some c) holds e = (tokens_of c.items, c.ending, (c.items, holds, refl), cc)

-- A text reads as what its cut gives.
pub reads : (n : ℕ) (text : List ℕ) (entries : List Entry) (fault : Option Fault) → reading_at n text ≡ Some (record { entries = entries; fault = fault }) → Reads text entries fault
reads n text entries fault e = reading_from_cut text entries fault (cutting n text 0 []) (cutting-holds n text 0 []) e

-- ---- what is read, wherever it stands

-- the operation, or None where it is skipped
abbrev pub without_place : Entry → Option Operation
without_place (operation o) = Some (operation_of o)
without_place skipped = None

-- the text reads as these, with a None for each that is skipped, and then it ends or a fault stands
abbrev pub ReadsAs : List ℕ → List (Option Operation) → Option Fault → Type 0
ReadsAs text operations fault = (entries : List Entry) × Reads text entries fault × (map without_place entries ≡ operations)

abbrev without_places : Reading → List (Option Operation) × Option Fault
without_places reading = (map without_place reading.entries, reading.fault)

read_as_cut :
    (text : List ℕ) (operations : List (Option Operation)) (fault : Option Fault) (r : Option Cut)
    → Holds text 0 [] r
    → option_map without_places (option_map read_cut r) ≡ Some (operations, fault)
    → ReadsAs text operations fault
read_as_cut text operations fault None holds e = elim (false≢true (ap is_some e)) [ ]
read_as_cut text operations fault (Some c) holds e =
    let reading = read_cut c in
    let same : without_places reading ≡ (operations, fault) = same_Some (without_places reading) (operations, fault) e in (
      reading.entries,
      (tokens_of c.items, c.ending, (c.items, holds, refl), ap (λ (f : Option Fault). with_fault reading.entries f) (ap (λ (p : List (Option Operation) × Option Fault). p.1) same)),
      ap (λ (p : List (Option Operation) × Option Fault). p.0) same,
    )
  where
    with_fault : List Entry → Option Fault → Reading
    with_fault entries f = record { entries = entries; fault = f }

pub reads_as :
    (n : ℕ) (text : List ℕ) (operations : List (Option Operation)) (fault : Option Fault)
    → option_map without_places (reading_at n text) ≡ Some (operations, fault)
    → ReadsAs text operations fault
reads_as n text operations fault e = read_as_cut text operations fault (cutting n text 0 []) (cutting-holds n text 0 []) e

-- What a text is refused for, and where, with nothing read before it.
abbrev pub RefusedAt : List ℕ → Refusal → ℕ → Type 0
RefusedAt text refusal offset = Reads text [] (Some (byte_fault refusal offset))

pub refused : (n : ℕ) (text : List ℕ) (refusal : Refusal) (offset : ℕ) → reading_at n text ≡ Some (record { entries = []; fault = Some (byte_fault refusal offset) }) → RefusedAt text refusal offset
refused n text refusal offset e = reads n text [] (Some (byte_fault refusal offset)) e

-- one name to unfold where a text is cut
unfoldable pub cutting_texts : Unit {0}
unfolding utf8_valid_len is_utf8 chars encode
cutting_texts = tt
