-- Tokens at other places are read as before, and a fault is at its other place.
use Rattle.std.proofs.Common.{◌≡◌, ℕ, ◌+◌, ◌-◌, List, [], ◌∷◌, ◌++◌, map, Bool, true, false, not, ◌&&◌, ◌||◌, if◌then◌else◌, Option, Some, None, option_map, Result, Ok, Err, refl, sym, ◌∙◌, ap, ap₂, subst, arith}
use Rattle.std.proofs.lemmas.List.{map-append}
use Rattle.hist_types.specs.Entries.{PlacedMop, Entry, operation, skipped, operations_of, operation_of, end_of, entry_of, ◌>>=◌, refuse_if}
use Rattle.hist_types.specs.Forms.{Form, plain, collection, tagged, OpenCollection, Open, is_map, is_vector_or_list, is_drop, has_drop, settled, still_waiting, with_member, with_form_in, with_form, with_mark, with_opener, form_of, waiting}
use Rattle.hist_types.specs.Operations.{Mop, Operation}
use Rattle.hist_types.specs.Reading.{Reading, Step, is_operation_place, in_operation_place, at_top, may_open, only_opens, refuse_waiting, entries_at_close, close, step_by, step, refuse_unfinished, ending_fault, and_then_read, reading_from, nothing_open}
use Rattle.hist_types.specs.Tokens.{Item, ItemKind, Opener, Closer, Drop, Tag, byte_fault}
use Rattle.hist_types.specs.declared.types.Fault.{Fault}
use Rattle.hist_types.specs.declared.types.Refusal.TheVariants.{NotAMap}
use Rattle.reading_laws.proofs.MovedForms.{item_moved, form_moved, forms_of-moved, mop_moved, fault_moved, result_moved, entry_at, entry_of-moved}

-- ---- what is open

abbrev pub collection_moved : (ℕ → ℕ) → OpenCollection → OpenCollection
collection_moved to c =
    record { opener = item_moved to c.opener; members = map (form_moved to) c.members; marks = map (item_moved to) c.marks }

abbrev pub open_moved : (ℕ → ℕ) → Open → Open
open_moved to o = record { marks = map (item_moved to) o.marks; collections = map (collection_moved to) o.collections }

has_drop-moved : (to : ℕ → ℕ) (marks : List Item) → has_drop (map (item_moved to) marks) ≡ has_drop marks
has_drop-moved to [] = refl
has_drop-moved to (mark ∷ marks) = ap (λ b. is_drop mark || b) (has_drop-moved to marks)

place-moved : (to : ℕ → ℕ) (marks : List Item) (collections : List OpenCollection)
    → is_operation_place (map (item_moved to) marks) (map (collection_moved to) collections) ≡ is_operation_place marks collections
place-moved to marks [] = ap not (has_drop-moved to marks)
place-moved to marks (c ∷ []) =
    ap₂ (λ a b. is_vector_or_list c.opener && not a && not b) (has_drop-moved to marks) (has_drop-moved to c.marks)
place-moved to marks (c ∷ d ∷ more) = refl

at_top-moved : (to : ℕ → ℕ) (collections : List OpenCollection) → at_top (map (collection_moved to) collections) ≡ at_top collections
at_top-moved to [] = refl
at_top-moved to (c ∷ outer) = refl

may_open-moved : (to : ℕ → ℕ) (o : Open) (t : Item) → may_open (open_moved to o) (item_moved to t) ≡ may_open o t
may_open-moved to o t =
    ap₂ (λ a b. not a || is_map t || (b && is_vector_or_list t)) (place-moved to o.marks o.collections) (at_top-moved to o.collections)

if_settled : (to : ℕ → ℕ) (drops : Bool) (x y : Option Form) → y ≡ option_map (form_moved to) x
    → (if drops then None else y) ≡ option_map (form_moved to) (if drops then None else x)
if_settled to true x y same = refl
if_settled to false x y same = same

settled-moved : (to : ℕ → ℕ) (marks : List Item) (f : Form)
    → settled (map (item_moved to) marks) (form_moved to f) ≡ option_map (form_moved to) (settled marks f)
settled-moved to [] f = refl
settled-moved to (mark ∷ marks) f =
    if_settled to (is_drop mark) (settled marks (tagged mark f)) _ (settled-moved to marks (tagged mark f))

if_waiting : (to : ℕ → ℕ) (drops : Bool) (marks xs ys : List Item) → ys ≡ map (item_moved to) xs
    → (if drops then map (item_moved to) marks else ys) ≡ map (item_moved to) (if drops then marks else xs)
if_waiting to true marks xs ys same = refl
if_waiting to false marks xs ys same = same

still_waiting-moved : (to : ℕ → ℕ) (marks : List Item) → still_waiting (map (item_moved to) marks) ≡ map (item_moved to) (still_waiting marks)
still_waiting-moved to [] = refl
still_waiting-moved to (mark ∷ marks) =
    if_waiting to (is_drop mark) marks (still_waiting marks) _ (still_waiting-moved to marks)

with_member-moved : (to : ℕ → ℕ) (o : Option Form) (fs : List Form)
    → with_member (option_map (form_moved to) o) (map (form_moved to) fs) ≡ map (form_moved to) (with_member o fs)
with_member-moved to None fs = refl
with_member-moved to (Some f) fs = sym (map-append (form_moved to) fs (f ∷ []))

abbrev pub open_collection : Item → List Form → List Item → OpenCollection
open_collection opener members marks = record { opener = opener; members = members; marks = marks }

pub with_form_in-moved : (to : ℕ → ℕ) (f : Form) (c : OpenCollection)
    → with_form_in (form_moved to f) (collection_moved to c) ≡ collection_moved to (with_form_in f c)
with_form_in-moved to f c =
    let opener = item_moved to c.opener in
    ap₂ (open_collection opener)
    (ap (λ (o : Option Form). with_member o (map (form_moved to) c.members)) (settled-moved to c.marks f)
    ∙ with_member-moved to (settled c.marks f) c.members)
    (still_waiting-moved to c.marks)

with_form-moved : (to : ℕ → ℕ) (f : Form) (marks : List Item) (collections : List OpenCollection)
    → with_form (form_moved to f) (map (item_moved to) marks) (map (collection_moved to) collections) ≡ open_moved to (with_form f marks collections)
with_form-moved to f marks [] =
    ap (λ (ms : List Item). let o : Open = record { marks = ms; collections = [] } in o) (still_waiting-moved to marks)
with_form-moved to f marks (inner ∷ outer) =
    ap (λ (c : OpenCollection). let o : Open = record { marks = map (item_moved to) marks; collections = c ∷ map (collection_moved to) outer } in o)
    (with_form_in-moved to f inner)

with_mark-moved : (to : ℕ → ℕ) (t : Item) (marks : List Item) (collections : List OpenCollection)
    → with_mark (item_moved to t) (map (item_moved to) marks) (map (collection_moved to) collections) ≡ open_moved to (with_mark t marks collections)
with_mark-moved to t marks [] = refl
with_mark-moved to t marks (inner ∷ outer) = refl

pub form_of-moved : (to : ℕ → ℕ) (c : OpenCollection) (closer : Item) → form_of (collection_moved to c) (item_moved to closer) ≡ form_moved to (form_of c closer)
form_of-moved to c closer = ap (collection (item_moved to c.opener) (item_moved to closer)) (forms_of-moved to c.members)

-- ---- one token

-- the same operations, and as much open behind them
abbrev StepsAlike : (ℕ → ℕ) → Step → Step → Type 0
StepsAlike to s t = (t.after ≡ open_moved to s.after) × (operations_of t.entries ≡ operations_of s.entries)

-- a step at another place does the same, or its fault is there
abbrev Alike : (ℕ → ℕ) → Result Step Fault → Result Step Fault → Type 0
Alike to (Ok s) (Ok t) = StepsAlike to s t
Alike to (Ok s) (Err g) = ⊥
Alike to (Err f) (Ok t) = ⊥
Alike to (Err f) (Err g) = g ≡ fault_moved to f

goes_alike : (to : ℕ → ℕ) (o p : Open) → p ≡ open_moved to o → Alike to (Ok (only_opens o)) (Ok (only_opens p))
goes_alike to o p is = (is, refl)

opens_alike : (to : ℕ → ℕ) (test other : Bool) (o p : Open) (n : ℕ) → other ≡ test → p ≡ open_moved to o
    → Alike to (if test then Ok (only_opens o) else Err (byte_fault NotAMap n)) (if other then Ok (only_opens p) else Err (byte_fault NotAMap (to n)))
opens_alike to true other o p n same is =
    subst (λ b. Alike to (Ok (only_opens o)) (if b then Ok (only_opens p) else Err (byte_fault NotAMap (to n)))) (sym same) (goes_alike to o p is)
opens_alike to false other o p n same is =
    subst (λ b. Alike to (Err (byte_fault NotAMap n)) (if b then Ok (only_opens p) else Err (byte_fault NotAMap (to n)))) (sym same) refl

plain_alike : (to : ℕ → ℕ) (test other : Bool) (o p : Open) (n : ℕ) → other ≡ test → p ≡ open_moved to o
    → Alike to (refuse_if test NotAMap n >>= λ _. Ok (only_opens o)) (refuse_if other NotAMap (to n) >>= λ _. Ok (only_opens p))
plain_alike to true other o p n same is =
    subst (λ b. Alike to (Err (byte_fault NotAMap n)) (refuse_if b NotAMap (to n) >>= λ _. Ok (only_opens p))) (sym same) refl
plain_alike to false other o p n same is =
    subst (λ b. Alike to (Ok (only_opens o)) (refuse_if b NotAMap (to n) >>= λ _. Ok (only_opens p))) (sym same) (goes_alike to o p is)

same_mops : (to : ℕ → ℕ) (ms : List PlacedMop) → map (λ (m : PlacedMop). m.mop) (map (mop_moved to) ms) ≡ map (λ (m : PlacedMop). m.mop) ms
same_mops to [] = refl
same_mops to (m ∷ ms) = ap (λ xs. m.mop ∷ xs) (same_mops to ms)

same_operation : (to : ℕ → ℕ) (start end : ℕ) (e : Entry) → operations_of (entry_at to start end e ∷ []) ≡ operations_of (e ∷ [])
same_operation to start end (operation o) =
    ap (λ (mops : List Mop). let x : Operation = record { kind = o.kind; process = o.process; mops = mops } in x ∷ []) (same_mops to o.mops)
same_operation to start end skipped = refl

-- what a closer gives, by the entry of its map
entry_alike : (to : ℕ → ℕ) (start end : ℕ) (test other : Bool) (r s : Result Entry Fault) (o p : Open) → other ≡ test
    → s ≡ result_moved to (entry_at to start end) r → p ≡ open_moved to o
    → Alike to ((if test then (r >>= λ entry. Ok (entry ∷ [])) else Ok []) >>= λ entries. Ok (record { entries = entries; after = o }))
    ((if other then (s >>= λ entry. Ok (entry ∷ [])) else Ok []) >>= λ entries. Ok (record { entries = entries; after = p }))
entry_alike to start end test other r s o p same moved is = rw (same, moved) (by test r)
  where
    by : (test : Bool) (r : Result Entry Fault)
        → Alike to ((if test then (r >>= λ entry. Ok (entry ∷ [])) else Ok []) >>= λ entries. Ok (record { entries = entries; after = o }))
        ((if test then (result_moved to (entry_at to start end) r >>= λ entry. Ok (entry ∷ [])) else Ok []) >>= λ entries. Ok (record { entries = entries; after = p }))
    by true (Ok entry) = (is, same_operation to start end entry)
    by true (Err f) = refl
    by false r = (is, refl)

-- the places of a closed map are moved alike
abbrev KeepsLengths : (ℕ → ℕ) → Type 0
KeepsLengths to = (opener closer : Item) → (end_of (item_moved to closer) - to opener.start) ≡ (end_of closer - opener.start)

close_alike : (to : ℕ → ℕ) → KeepsLengths to → (t : Item) (marks : List Item) (collections : List OpenCollection)
    → Alike to (close t marks collections) (close (item_moved to t) (map (item_moved to) marks) (map (collection_moved to) collections))
close_alike to lengths t marks [] = refl
close_alike to lengths t marks (c ∷ outer) = by c.marks
  where
    by : (waits : List Item)
        → Alike to (refuse_waiting waits >>= λ _. entries_at_close c t marks outer >>= λ entries. Ok (record { entries = entries; after = with_form (form_of c t) marks outer }))
        (refuse_waiting (map (item_moved to) waits) >>= λ _. entries_at_close (collection_moved to c) (item_moved to t) (map (item_moved to) marks) (map (collection_moved to) outer) >>= λ entries.
        Ok (record { entries = entries; after = with_form (form_of (collection_moved to c) (item_moved to t)) (map (item_moved to) marks) (map (collection_moved to) outer) }))
    by [] =
        entry_alike to (to c.opener.start) (end_of (item_moved to t)) (is_map c.opener && is_operation_place marks outer) _
        (entry_of c.opener t c.members) _ _ _
        (ap (λ b. is_map c.opener && b) (place-moved to marks outer))
        (entry_of-moved to c.opener t c.members (lengths c.opener t))
        (ap (λ f. with_form f (map (item_moved to) marks) (map (collection_moved to) outer)) (form_of-moved to c t) ∙ with_form-moved to (form_of c t) marks outer)
    by (mark ∷ waits) = refl

abbrev AlikeBy : (ℕ → ℕ) → ItemKind → Open → Item → Type 0
AlikeBy to kind o t = Alike to (step_by kind o t) (step_by kind (open_moved to o) (item_moved to t))

alone_alike : (to : ℕ → ℕ) (o : Open) (t : Item)
    → Alike to (refuse_if (in_operation_place o) NotAMap t.start >>= λ _. Ok (only_opens (with_form (plain t) o.marks o.collections)))
    (refuse_if (in_operation_place (open_moved to o)) NotAMap (to t.start) >>= λ _.
    Ok (only_opens (with_form (plain (item_moved to t)) (map (item_moved to) o.marks) (map (collection_moved to) o.collections))))
alone_alike to o t =
    plain_alike to (in_operation_place o) _ (with_form (plain t) o.marks o.collections) _ t.start (place-moved to o.marks o.collections)
    (with_form-moved to (plain t) o.marks o.collections)

step_alike : (to : ℕ → ℕ) → KeepsLengths to → (kind : ItemKind) (o : Open) (t : Item) → AlikeBy to kind o t
step_alike to lengths Opener o t = opens_alike to (may_open o t) _ (with_opener t o) _ t.start (may_open-moved to o t) refl
step_alike to lengths Closer o t = close_alike to lengths t o.marks o.collections
step_alike to lengths Tag o t = goes_alike to (with_mark t o.marks o.collections) _ (with_mark-moved to t o.marks o.collections)
step_alike to lengths Drop o t = goes_alike to (with_mark t o.marks o.collections) _ (with_mark-moved to t o.marks o.collections)
step_alike to lengths kind o t = alone_alike to o t

-- ---- all tokens

waiting-moved : (to : ℕ → ℕ) (marks : List Item) (collections : List OpenCollection)
    → waiting (map (item_moved to) marks) (map (collection_moved to) collections) ≡ map (item_moved to) (waiting marks collections)
waiting-moved to marks [] = refl
waiting-moved to marks (inner ∷ outer) = refl

end-moved : (to : ℕ → ℕ) (ending : Option Fault) (o : Open)
    → ending_fault (option_map (fault_moved to) ending) (open_moved to o) ≡ option_map (fault_moved to) (ending_fault ending o)
end-moved to (Some fault) o = refl
end-moved to None o =
    ap (λ ms. refuse_unfinished ms (map (collection_moved to) o.collections)) (waiting-moved to o.marks o.collections) ∙ by (waiting o.marks o.collections) o.collections
  where
    by : (marks : List Item) (collections : List OpenCollection)
        → refuse_unfinished (map (item_moved to) marks) (map (collection_moved to) collections) ≡ option_map (fault_moved to) (refuse_unfinished marks collections)
    by [] [] = refl
    by [] (c ∷ outer) = refl
    by (mark ∷ marks) collections = refl

-- the same operations, and the fault at its other place
abbrev pub ReadAlike : (ℕ → ℕ) → Reading → Reading → Type 0
ReadAlike to r s = (operations_of s.entries ≡ operations_of r.entries) × (s.fault ≡ option_map (fault_moved to) r.fault)

pub operations_append : (xs ys : List Entry) → operations_of (xs ++ ys) ≡ operations_of xs ++ operations_of ys
operations_append [] ys = refl
operations_append (operation o ∷ xs) ys = ap (λ os. operation_of o ∷ os) (operations_append xs ys)
operations_append (skipped ∷ xs) ys = operations_append xs ys

then_alike : (to : ℕ → ℕ) (r s : Result Step Fault) (rest further : Open → Reading) → Alike to r s
    → ((o : Open) → ReadAlike to (rest o) (further (open_moved to o))) → ReadAlike to (and_then_read r rest) (and_then_read s further)
then_alike to (Ok x) (Ok y) rest further alike later =
    let next = later x.after in
    let same : further y.after ≡ further (open_moved to x.after) = ap further alike.0 in (
      operations_append y.entries (further y.after).entries
          ∙ (ap₂ (λ xs ys. xs ++ ys) alike.1 (ap (λ (r : Reading). operations_of r.entries) same ∙ next.0)
          ∙ sym (operations_append x.entries (rest x.after).entries)),
      ap (λ (r : Reading). r.fault) same ∙ next.1,
    )
then_alike to (Ok x) (Err g) rest further alike later = absurd alike
then_alike to (Err f) (Ok y) rest further alike later = absurd alike
then_alike to (Err f) (Err g) rest further alike later = (refl, ap Some alike)

reading_alike : (to : ℕ → ℕ) → KeepsLengths to → (ts : List Item) (ending : Option Fault) (o : Open)
    → ReadAlike to (reading_from o ts ending) (reading_from (open_moved to o) (map (item_moved to) ts) (option_map (fault_moved to) ending))
reading_alike to lengths [] ending o = (refl, end-moved to ending o)
reading_alike to lengths (t ∷ ts) ending o =
    then_alike to (step o t) _ _ (λ after. reading_from after (map (item_moved to) ts) (option_map (fault_moved to) ending))
    (step_alike to lengths t.kind o t) (λ after. reading_alike to lengths ts ending after)

-- a text's tokens, further on
pub reading_on : (k : ℕ) (ts : List Item) (ending : Option Fault)
    → ReadAlike (λ n. k + n) (reading_from nothing_open ts ending)
    (reading_from nothing_open (map (item_moved (λ n. k + n)) ts) (option_map (fault_moved (λ n. k + n)) ending))
reading_on k ts ending = reading_alike (λ n. k + n) (λ opener closer. omega arith) ts ending nothing_open
