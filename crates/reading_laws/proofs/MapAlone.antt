-- The map of an operation, read alone, gives the operation.
use Rattle.std.proofs.Common.{◌≡◌, inl, inr, ℕ, suc, ◌+◌, ◌-◌, ◌≤◌, ◌<◌, ◌%◌, List, [], ◌∷◌, ◌++◌, length, take, drop, map, Bool, true, false, ◌&&◌, ◌==◌, if◌then◌else◌, Option, Some, None, Result, Ok, Err, refl, sym, ◌∙◌, ap, subst, arith, append_assoc, length-append, length-drop, length-take-le, drop-drop, codes}
use Rattle.std.specs.Prelude.{ℤ, nat_le, nat_lt}
use Rattle.std.specs.List.{Contains}
use Rattle.std.proofs.lemmas.Bool.{and_parts, leb-false, lt-leb}
use Rattle.std.proofs.lemmas.List.{map-append}
use Rattle.std.proofs.lemmas.Option.{none-some}
use Rattle.hist_types.specs.AtomTokens.{process_of}
use Rattle.hist_types.specs.Entries.{PlacedMop, PlacedOperation, Entry, operation, skipped, ◌>>=◌, refuse_if, or_refuse, field, kind_of, mops_of, pairs_of, int_of, entry_by, end_of, entry_of}
use Rattle.hist_types.specs.Forms.{Form, place_of, OpenCollection, Open, is_map, with_form, with_mark}
use Rattle.reading_laws.specs.Placed.{item_from, mop_from, from_its_start, between, IsIn}
use Rattle.hist_types.specs.Reading.{Reading, is_operation_place, in_operation_place, may_open, Step, only_opens, refuse_waiting, entries_at_close, close, step_by, step, and_then_read, reading_from, reading_of, nothing_open, Reads, ReadsFrom}
use Rattle.hist_types.specs.Tokens.{Item, ItemKind, Blank, Comment, Opener, Closer, Drop, Tag, open_after, nesting_refusal, is_token, tokens_of, IsCut}
use Rattle.hist_types.specs.declared.limits.TheConstants.{MAX_OPEN_COLLECTIONS, MAX_OPERATION_BYTES}
use Rattle.hist_types.specs.declared.types.Fault.{Fault}
use Rattle.hist_types.specs.declared.types.OpKind.{OpKind}
use Rattle.hist_types.specs.declared.types.Refusal.{Refusal}
use Rattle.hist_types.specs.declared.types.Refusal.TheVariants.{TooDeep, OddMap, BadProcess, BadType, TooLong}
use Rattle.reading_laws.proofs.Checks.{ok_then, ok_is}
use Rattle.hist_types.proofs.Members.{In, in_append, in_from_Contains}
use Rattle.reading_laws.proofs.MovedForms.{entry_at, entry_of-moved, follows_value}
use Rattle.reading_laws.proofs.MovedReading.{collection_from, opened, inside, Runs, Runs-reading, Histories, tokens_of-gap, tokens_of-token, tokens_of-token_last, Histories-gap, Histories-step, closed, closes_as, went_on_if, went_on_unless, same_step, no_step, none_given}
use Rattle.reading_laws.proofs.PartCuts.{item_fault-elsewhere, width, closers_after, IsCut-front, IsCut-back, IsCut-within, IsCut-moved}

-- ---- where an entry comes from

-- The operation's map among the items: its opener, what is in it, and its closer, with what is then open in the map alone.
pub record Found (items : List Item) (o : PlacedOperation) : Type 0 where
  pub before : List Item
  pub within : List Item
  pub after : List Item
  pub c : OpenCollection
  pub closer : Item
  pub parts : items ≡ (before ++ (c.opener ∷ within)) ++ (closer ∷ after)
  pub opens : c.opener.kind ≡ Opener
  pub closes : closer.kind ≡ Closer
  pub is_a_map : is_map c.opener ≡ true
  pub none_waits : c.marks ≡ []
  pub gives : entry_of c.opener closer c.members ≡ Ok (operation o)
  pub runs :
      Runs nothing_open (map (item_from c.opener.start) (c.opener ∷ tokens_of within)) (inside c.opener.start [] c)

same_entries : (es fs : List Entry) → (let r : Result (List Entry) Fault = Ok es in r ≡ Ok fs) → es ≡ fs
same_entries es fs e = cc

no_entries : (f : Fault) (es : List Entry) → (let r : Result (List Entry) Fault = Err f in r ≡ Ok es) → ⊥
no_entries f es e = cc

-- a map in an operation's place, which gave the one entry
pub record GivenBy (c : OpenCollection) (t : Item) (marks : List Item) (outer : List OpenCollection)
    (o : PlacedOperation) : Type 0 where
  pub is_a_map : is_map c.opener ≡ true
  pub place : is_operation_place marks outer ≡ true
  pub gives : entry_of c.opener t c.members ≡ Ok (operation o)

the_entry :
    (o : PlacedOperation) (es : List Entry) (r : Result Entry Fault)
    → (r >>= λ entry. Ok (entry ∷ [])) ≡ Ok es
    → In (operation o) es
    → r ≡ Ok (operation o)
the_entry o es (Ok entry) e i =
    elim (subst (In (operation o)) (sym (same_entries (entry ∷ []) es e)) i) [
      | inl same ↦ (let ok : Entry → Result Entry Fault = λ x. Ok x in ap ok same)
      | inr none ↦ absurd none
    ]
the_entry o es (Err f) e i = absurd (no_entries f es e)

given_if :
    (c : OpenCollection) (t : Item) (marks : List Item) (outer : List OpenCollection)
    (o : PlacedOperation) (es : List Entry) (test : Bool)
    → (is_map c.opener && is_operation_place marks outer) ≡ test
    → (if test then (entry_of c.opener t c.members >>= λ entry. Ok (entry ∷ [])) else Ok []) ≡ Ok es
    → In (operation o) es
    → GivenBy c t marks outer o
given_if c t marks outer o es true holds e i =
    let both = and_parts (is_map c.opener) (is_operation_place marks outer) holds in
    record { is_a_map = both.0; place = both.1; gives = the_entry o es (entry_of c.opener t c.members) e i }
given_if c t marks outer o es false holds e i = absurd (subst (In (operation o)) (sym (same_entries [] es e)) i)

found_by_closer :
    (done items : List Item) (marks : List Item) (collections : List OpenCollection) (t : Item) (s : Step)
    (o : PlacedOperation)
    → t.kind ≡ Closer
    → Histories done (opened marks collections)
    → close t marks collections ≡ Ok s
    → In (operation o) s.entries
    → Found (done ++ (t ∷ items)) o
found_by_closer done items marks [] t s o closes all e i = absurd (no_step _ s e)
found_by_closer done items marks (c ∷ outer) t s o closes all e i =
    let taken = closed c t marks outer s e in
    let by = given_if c t marks outer o s.entries (is_map c.opener && is_operation_place marks outer) refl taken.given i in
    let h = all [] c outer refl by.is_a_map by.place in
    record {
      before = h.before;
      within = h.within;
      after = items;
      c = c;
      closer = t;
      parts = ap (λ xs. xs ++ (t ∷ items)) h.done_is;
      opens = h.opens;
      closes = closes;
      is_a_map = by.is_a_map;
      none_waits = taken.none_waits;
      gives = by.gives;
      runs = h.runs;
    }

found_by :
    (kind : ItemKind) (done items : List Item) (p : Open) (t : Item) (s : Step) (o : PlacedOperation)
    → t.kind ≡ kind
    → Histories done p
    → step_by kind p t ≡ Ok s
    → In (operation o) s.entries
    → Found (done ++ (t ∷ items)) o
found_by Opener done items p t s o is all e i = absurd (none_given o _ s (went_on_if (may_open p t) _ _ s e) i)
found_by Closer done items p t s o is all e i = found_by_closer done items p.marks p.collections t s o is all e i
found_by Tag done items p t s o is all e i =
    absurd (none_given o (with_mark t p.marks p.collections) s (same_step _ s e) i)
found_by Drop done items p t s o is all e i =
    absurd (none_given o (with_mark t p.marks p.collections) s (same_step _ s e) i)
found_by kind done items p t s o is all e i =
    absurd (none_given o _ s (went_on_unless (in_operation_place p) _ t.start s e) i)

-- in what is left behind one token
Behind : List Item → List Item → Item → Option Fault → PlacedOperation → Type 0
Behind done items t ending o =
    (q : Open)
    → Histories (done ++ (t ∷ [])) q
    → In (operation o) (reading_from q (tokens_of items) ending).entries
    → Found (done ++ (t ∷ items)) o

found_after :
    (done items : List Item) (p : Open) (t : Item) (ending : Option Fault) (o : PlacedOperation) (r : Result Step Fault)
    → is_token t.kind ≡ true
    → Behind done items t ending o
    → Histories done p
    → step p t ≡ r
    → In (operation o) (and_then_read r (λ after. reading_from after (tokens_of items) ending)).entries
    → Found (done ++ (t ∷ items)) o
unfolding Behind
found_after done items p t ending o (Ok s) token further all e i =
    elim (in_append (operation o) s.entries _ i) [
      | inl here ↦ found_by t.kind done items p t s o refl all e here
      | inr later ↦ further s.after (Histories-step t.kind done p t s refl token all e) later
    ]
found_after done items p t ending o (Err f) token further all e i = absurd i

found_at :
    (done items : List Item) (p : Open) (t : Item) (ending : Option Fault) (o : PlacedOperation) (token : Bool)
    → is_token t.kind ≡ token
    → Behind done items t ending o
    → Histories done p
    → In (operation o) (reading_from p (tokens_of (t ∷ items)) ending).entries
    → Found (done ++ (t ∷ items)) o
unfolding Behind
found_at done items p t ending o true token further all i =
    found_after done items p t ending o (step p t) token further all refl
    (subst (λ ts. In (operation o) (reading_from p ts ending).entries) (tokens_of-token t items token) i)
found_at done items p t ending o false gap further all i =
    further p (Histories-gap done p t gap all)
    (subst (λ ts. In (operation o) (reading_from p ts ending).entries) (tokens_of-gap t items gap) i)

found_in :
    (items done : List Item) (p : Open) (ending : Option Fault) (o : PlacedOperation)
    → Histories done p
    → In (operation o) (reading_from p (tokens_of items) ending).entries
    → Found (done ++ items) o
unfolding Behind
found_in [] done p ending o all i = absurd i
found_in (t ∷ items) done p ending o all i =
    found_at done items p t ending o (is_token t.kind) refl
    (λ q kept later. subst (λ xs. Found xs o) (append_assoc done (t ∷ []) items)
    (found_in items (done ++ (t ∷ [])) q ending o kept later)) all i

nothing_yet : Histories [] nothing_open
nothing_yet [] m outer e = absurd (let none : [] ≡ m ∷ outer = e in cc)
nothing_yet (x ∷ inner) m outer e = absurd (let none : [] ≡ x ∷ (inner ++ (m ∷ outer)) = e in cc)

-- ---- inside a map, the collections around it don't matter

-- an item that stands inside the inner and the outer collections stands inside the inner ones alone
pub record Nested (kind : ItemKind) (bytes inner outer : List ℕ) (n : ℕ) : Type 0 where
  pub stands : nesting_refusal kind bytes (inner ++ outer) ≡ None → nesting_refusal kind bytes inner ≡ None
  pub after : open_after kind bytes (inner ++ outer) ≡ open_after kind bytes inner ++ outer
  pub deep : n ≡ length (open_after kind bytes inner)

not_deep :
    (deep less : Bool)
    → (deep ≡ false → less ≡ false)
    → (let o : Option Refusal = if deep then Some TooDeep else None in o ≡ None)
    → (let o : Option Refusal = if less then Some TooDeep else None in o ≡ None)
not_deep true less fewer e = absurd (none-some TooDeep (sym e))
not_deep false less fewer e = ap (λ b. let o : Option Refusal = if b then Some TooDeep else None in o) (fewer refl)

less_deep :
    (inner outer : List ℕ)
    → nat_le MAX_OPEN_COLLECTIONS (length (inner ++ outer)) ≡ false
    → nat_le MAX_OPEN_COLLECTIONS (length inner) ≡ false
less_deep inner outer e =
    let all : length (inner ++ outer) ≡ length inner + length outer = length-append inner outer in
    let few : length (inner ++ outer) < MAX_OPEN_COLLECTIONS =
    leb-false MAX_OPEN_COLLECTIONS (length (inner ++ outer)) e in
    lt-leb MAX_OPEN_COLLECTIONS (length inner) (omega arith)

nested_opener : (bytes inner outer : List ℕ) (n : ℕ) → n ≡ suc (length inner) → Nested Opener bytes inner outer n
nested_opener bytes inner outer n deep =
    record { stands = not_deep _ _ (less_deep inner outer); after = refl; deep = deep }

nested_closer :
    (bytes inner outer : List ℕ) (marks : List Item) (collections : List OpenCollection) (t : Item) (s : Step)
    → close t marks collections ≡ Ok s
    → length collections ≡ length inner
    → Nested Closer bytes inner outer (length s.after.collections)
nested_closer bytes inner outer marks [] t s e len = absurd (no_step _ s e)
nested_closer bytes [] outer marks (c ∷ around) t s e len = absurd (omega arith)
nested_closer bytes (b ∷ inner) outer marks (c ∷ []) t s e len =
    let taken = closed c t marks [] s e in
    let none : s.after.collections ≡ [] = ap (λ (x : Open). x.collections) taken.after in
    let count : length s.after.collections ≡ 0 = ap length none in
    record { stands = λ x. x; after = refl; deep = omega arith }
nested_closer bytes (b ∷ inner) outer marks (c ∷ d ∷ around) t s e len =
    let taken = closed c t marks (d ∷ around) s e in
    let count : length s.after.collections ≡ suc (length around) =
    ap (λ (x : Open). length x.collections) taken.after in
    record { stands = λ x. x; after = refl; deep = omega arith }

marked_len :
    (t : Item) (marks : List Item) (collections : List OpenCollection)
    → length (with_mark t marks collections).collections ≡ length collections
marked_len t marks [] = refl
marked_len t marks (c ∷ outer) = refl

formed_len :
    (f : Form) (marks : List Item) (collections : List OpenCollection)
    → length (with_form f marks collections).collections ≡ length collections
formed_len f marks [] = refl
formed_len f marks (c ∷ outer) = refl

how_deep : (p : Open) (s : Step) (n : ℕ) → only_opens p ≡ s → length p.collections ≡ n → length s.after.collections ≡ n
how_deep p s n same len = sym (ap (λ (x : Step). length x.after.collections) same) ∙ len

nested :
    (kind : ItemKind) (bytes inner outer : List ℕ) (p : Open) (t : Item) (s : Step)
    → step_by kind p t ≡ Ok s
    → length p.collections ≡ length inner
    → Nested kind bytes inner outer (length s.after.collections)
nested Opener bytes inner outer p t s e len =
    nested_opener bytes inner outer _ (how_deep _ s _ (went_on_if (may_open p t) _ _ s e) (ap suc len))
nested Closer bytes inner outer p t s e len = nested_closer bytes inner outer p.marks p.collections t s e len
nested Tag bytes inner outer p t s e len =
    record {
      stands = λ x. x;
      after = refl;
      deep = how_deep (with_mark t p.marks p.collections) s _ (same_step _ s e)
          (marked_len t p.marks p.collections ∙ len);
    }
nested Drop bytes inner outer p t s e len =
    record {
      stands = λ x. x;
      after = refl;
      deep = how_deep (with_mark t p.marks p.collections) s _ (same_step _ s e)
          (marked_len t p.marks p.collections ∙ len);
    }
nested kind bytes inner outer p t s e len =
    record {
      stands = λ x. x;
      after = refl;
      deep = how_deep _ s _ (went_on_unless (in_operation_place p) _ t.start s e)
          (formed_len _ p.marks p.collections ∙ len);
    }

nested_gap :
    (kind : ItemKind) (bytes inner outer : List ℕ) (n : ℕ)
    → is_token kind ≡ false
    → n ≡ length inner
    → Nested kind bytes inner outer n
nested_gap Blank bytes inner outer n gap len = record { stands = λ x. x; after = refl; deep = len }
nested_gap Comment bytes inner outer n gap len = record { stands = λ x. x; after = refl; deep = len }
nested_gap kind bytes inner outer n gap len = absurd (let no : true ≡ false = gap in cc)

-- the items are read without a fault, where these are open
abbrev pub ReadsOn : Open → List Item → Type 0
ReadsOn p ts = (reading_from p ts None).fault ≡ None

-- what is open behind one item, and that the others are read on there
abbrev pub ReadsBehind : Item → List Item → Open → (inner outer : List ℕ) → Type 0
ReadsBehind t items p inner outer =
    (q : Open) × Nested t.kind t.bytes inner outer (length q.collections) × ReadsOn q (tokens_of items)

behind_step :
    (t : Item) (items : List Item) (p : Open) (inner outer : List ℕ) (r : Result Step Fault)
    → step p t ≡ r
    → length p.collections ≡ length inner
    → (and_then_read r (λ after. reading_from after (tokens_of items) None)).fault ≡ None
    → ReadsBehind t items p inner outer
behind_step t items p inner outer (Ok s) e len reads = (s.after, nested t.kind t.bytes inner outer p t s e len, reads)
behind_step t items p inner outer (Err f) e len reads = absurd (none-some f (sym reads))

pub behind :
    (t : Item) (items : List Item) (p : Open) (inner outer : List ℕ) (token : Bool)
    → is_token t.kind ≡ token
    → length p.collections ≡ length inner
    → ReadsOn p (tokens_of (t ∷ items))
    → ReadsBehind t items p inner outer
behind t items p inner outer true token len reads =
    behind_step t items p inner outer (step p t) refl len (subst (ReadsOn p) (tokens_of-token t items token) reads)
behind t items p inner outer false gap len reads =
    (p, nested_gap t.kind t.bytes inner outer _ gap len, subst (ReadsOn p) (tokens_of-gap t items gap) reads)

IsCut-inner :
    (items : List Item) (text : List ℕ) (offset : ℕ) (inner outer : List ℕ) (p : Open)
    → IsCut text offset (inner ++ outer) items None
    → length p.collections ≡ length inner
    → ReadsOn p (tokens_of items)
    → IsCut text offset inner items None
IsCut-inner [] text offset inner outer p cut len reads = cut
IsCut-inner (t ∷ items) text offset inner outer p cut len reads =
    let later = behind t items p inner outer (is_token t.kind) refl len reads in
    let nest = later.1 in (
      cut.0,
      cut.1,
      item_fault-elsewhere t.kind offset offset t.bytes (inner ++ outer) inner nest.stands cut.2,
      IsCut-inner items (drop (length t.bytes) text) (offset + length t.bytes)
          (open_after t.kind t.bytes inner) outer later.0
          (subst (λ closers. IsCut (drop (length t.bytes) text)
          (offset + length t.bytes) closers items None) nest.after cut.3) nest.deep later.2,
    )

-- ---- where an entry says that it is

abbrev IsAt : (start end : ℕ) → Entry → Type 0
IsAt start end (operation o) = (o.start ≡ start) × (o.end ≡ end)
IsAt start end skipped = Unit {0}

entry_by-at :
    (number : Option ℤ) (place start end : ℕ) (ps : List (Form × Form)) (entry : Entry)
    → entry_by number place start end ps ≡ Ok entry
    → IsAt start end entry
entry_by-at None place start end ps entry e = ok_is (IsAt start end) skipped entry tt e
entry_by-at (Some number) place start end ps entry e =
    let P = IsAt start end in
    ok_then P (or_refuse (process_of number) BadProcess place) _ (λ process _.
    ok_then P (refuse_if (nat_lt MAX_OPERATION_BYTES (end - start)) TooLong start) _ (λ u _.
    ok_then P (field (codes ":type") start ps) _ (λ type _.
    ok_then P (or_refuse (kind_of type) BadType (place_of type)) _ (λ kind _.
    ok_then P (mops_of kind start ps) _ (λ mops _ y.
    ok_is P (operation (record { kind = kind; process = process; mops = mops; start = start; end = end })) y
    (refl, refl)))))) entry e

entry_of-at :
    (opener closer : Item) (fs : List Form) (entry : Entry)
    → entry_of opener closer fs ≡ Ok entry
    → IsAt opener.start (end_of closer) entry
entry_of-at opener closer fs entry e =
    let P = IsAt opener.start (end_of closer) in
    ok_then P (refuse_if (length fs % 2 == 1) OddMap opener.start) _ (λ u _.
    ok_then P (field (codes ":process") opener.start (pairs_of fs)) _ (λ process _.
    entry_by-at (int_of process) (place_of process) opener.start (end_of closer) (pairs_of fs))) entry e

-- ---- the map alone

width-append : (xs ys : List Item) → width (xs ++ ys) ≡ width xs + width ys
width-append [] ys = omega arith
width-append (x ∷ xs) ys = let rest = width-append xs ys in omega arith

kept_token :
    (k : ℕ) (token : Bool) (t : Item) (ts us : List Item)
    → us ≡ map (item_from k) ts
    → (if token then item_from k t ∷ us else us) ≡ map (item_from k) (if token then t ∷ ts else ts)
kept_token k true t ts us same = ap (λ xs. item_from k t ∷ xs) same
kept_token k false t ts us same = same

tokens_of-from : (k : ℕ) (items : List Item) → tokens_of (map (item_from k) items) ≡ map (item_from k) (tokens_of items)
tokens_of-from k [] = refl
tokens_of-from k (t ∷ items) = kept_token k (is_token t.kind) t (tokens_of items) _ (tokens_of-from k items)

placed : OpKind → ℕ → List PlacedMop → (start end : ℕ) → PlacedOperation
placed kind process mops start end = record { kind = kind; process = process; mops = mops; start = start; end = end }

-- the places of an operation counted from where its map begins
from_start :
    (k end : ℕ) (o : PlacedOperation)
    → o.start ≡ k
    → end ≡ o.end - o.start
    → entry_at (λ n. n - k) (k - k) end (operation o) ≡ operation (from_its_start o)
unfolding placed
from_start k end o start len =
    let none : (k - k) ≡ 0 = omega arith in
    ap (λ n. operation (placed o.kind o.process (map (mop_from k) o.mops) n end)) none
    ∙ (ap (λ n. operation (placed o.kind o.process (map (mop_from k) o.mops) 0 n)) len
    ∙ ap (λ n. operation (placed o.kind o.process (map (mop_from n) o.mops) 0 (o.end - o.start))) (sym start))

-- the closer of the map alone gives the operation
closes_alone :
    (c : OpenCollection) (t : Item) (o : PlacedOperation)
    → t.kind ≡ Closer
    → is_map c.opener ≡ true
    → c.marks ≡ []
    → entry_of c.opener t c.members ≡ Ok (operation o)
    → c.opener.start ≤ t.start
    → step (inside c.opener.start [] c) (item_from c.opener.start t)
    ≡ Ok (record { entries = operation (from_its_start o) ∷ []; after = nothing_open })
closes_alone c t o closes is none gives order =
    let k = c.opener.start in
    let u = item_from k t in
    let d = collection_from k c in
    let at : (o.start ≡ k) × (o.end ≡ end_of t) = entry_of-at c.opener t c.members (operation o) gives in
    let begins : o.start ≡ k = at.0 in
    let ends : o.end ≡ t.start + length t.bytes = at.1 in
    let moved = follows_value _ _ _ _ (operation o) (entry_of-moved (λ n. n - k) c.opener t c.members (omega arith)) gives in
    let same = from_start k (end_of u) o begins (omega arith) in
    let entry : entry_of d.opener u d.members ≡ Ok (operation (from_its_start o)) =
    moved ∙ (let ok : Entry → Result Entry Fault = λ x. Ok x in ap ok same) in
    ap (λ kind. step_by kind (inside k [] c) u) closes
    ∙ (ap (λ (ms : List Item). closes_as (refuse_waiting (map (item_from k) ms)) (entries_at_close d u [] []) nothing_open) none
    ∙ (ap (λ (b : Bool). closes_as (Ok tt)
    (if b && true then (entry_of d.opener u d.members >>= λ x. Ok (x ∷ [])) else Ok []) nothing_open) is
    ∙ ap (λ (r : Result Entry Fault). closes_as (Ok tt) (r >>= λ x. Ok (x ∷ [])) nothing_open) entry))

-- the items of the map, from its opener to its closer
abbrev map_items : {items : List Item} {o : PlacedOperation} → Found items o → List Item
map_items f = f.c.opener ∷ (f.within ++ (f.closer ∷ []))

abbrev one_entry : Entry → Reading
one_entry entry = record { entries = entry ∷ []; fault = None }

reads_alone :
    (items : List Item) (o : PlacedOperation) (f : Found items o)
    → f.c.opener.start ≤ f.closer.start
    → reading_of (tokens_of (map (item_from f.c.opener.start) (map_items f))) None
    ≡ one_entry (operation (from_its_start o))
reads_alone items o f order =
    let k = f.c.opener.start in
    let front = f.c.opener ∷ tokens_of f.within in
    let mid = f.c.opener ∷ (f.within ++ (f.closer ∷ [])) in
    let tokens : tokens_of mid ≡ front ++ (f.closer ∷ []) =
    tokens_of-token f.c.opener (f.within ++ (f.closer ∷ [])) (ap is_token f.opens) ∙ ap (λ ts. f.c.opener ∷ ts)
    (tokens_of-token_last f.within f.closer (ap is_token f.closes)) in
    let all : tokens_of (map (item_from k) mid) ≡ map (item_from k) front ++ (item_from k f.closer ∷ []) =
    tokens_of-from k mid ∙ (ap (map (item_from k)) tokens ∙ map-append (item_from k) front (f.closer ∷ [])) in
    let last = closes_alone f.c f.closer o f.closes f.is_a_map f.none_waits f.gives order in
    ap (λ ts. reading_of ts None) all
    ∙ (Runs-reading (map (item_from k) front) (item_from k f.closer ∷ []) nothing_open (inside k [] f.c) None f.runs
    ∙ ap (λ (r : Result Step Fault). and_then_read r (λ after. reading_from after [] None)) last)

-- what is left behind the items in front
left_over : (w offset : ℕ) (text : List ℕ) → offset ≤ length text → w ≤ length (drop offset text) → offset + w ≤ length text
left_over w offset text low fits = let left : length (drop offset text) ≡ length text - offset = length-drop offset text in omega arith

found_alone :
    (text : List ℕ) (offset : ℕ) (items : List Item) (ending : Option Fault) (o : PlacedOperation)
    → offset ≤ length text
    → IsCut (drop offset text) offset [] items ending
    → Found items o
    → IsIn text o
found_alone text offset items ending o low cut f =
    let k = f.c.opener.start in
    let front = f.c.opener ∷ f.within in
    let mid = f.c.opener ∷ (f.within ++ (f.closer ∷ [])) in
    let w = width f.before in
    let text_on = drop w (drop offset text) in
    let split : items ≡ f.before ++ (front ++ (f.closer ∷ f.after)) =
    f.parts ∙ append_assoc f.before front (f.closer ∷ f.after) in
    let cut_split : IsCut (drop offset text) offset [] (f.before ++ (front ++ (f.closer ∷ f.after))) ending =
    subst (λ xs. IsCut (drop offset text) offset [] xs ending) split cut in
    let closers = closers_after f.before [] in
    let cut_on = IsCut-back f.before (front ++ (f.closer ∷ f.after)) (drop offset text) offset [] ending cut_split in
    let begins : k ≡ offset + w = cut_on.1 in
    let cut_closer = IsCut-back front (f.closer ∷ f.after) text_on (offset + w) closers ending cut_on in
    let closer_start : f.closer.start ≡ (offset + w) + width front = cut_closer.1 in
    let cut_mid : IsCut text_on (offset + w) closers (mid ++ f.after) ending =
    subst (λ xs. IsCut text_on (offset + w) closers xs ending) (sym (append_assoc front (f.closer ∷ []) f.after)) cut_on in
    let before_fits : w ≤ length (drop offset text) = IsCut-within f.before _ (drop offset text) offset [] ending cut_split in
    let starts_in : offset + w ≤ length text = left_over w offset text low before_fits in
    let mid_fits : width mid ≤ length text_on = IsCut-within mid f.after text_on (offset + w) closers ending cut_mid in
    let on : text_on ≡ drop (offset + w) text = drop-drop w offset text in
    let left : length text_on ≡ length text - (offset + w) = ap length on ∙ length-drop (offset + w) text in
    let wide : width mid ≡ width front + (length f.closer.bytes + 0) = width-append front (f.closer ∷ []) in
    let alone = IsCut-front mid f.after text_on (offset + w) closers ending cut_mid in
    let there = take (width mid) text_on in
    let moved = IsCut-moved k mid there 0 closers
    (subst (λ n. IsCut there n closers mid None) (let same : offset + w ≡ k + 0 = omega arith in same) alone) in
    let order : k ≤ f.closer.start = omega arith in
    let reads = reads_alone items o f order in
    let inner : IsCut there 0 [] (map (item_from k) mid) None =
    IsCut-inner (map (item_from k) mid) there 0 [] closers nothing_open moved refl
    (ap (λ (r : Reading). r.fault) reads) in
    let at : (o.start ≡ k) × (o.end ≡ end_of f.closer) =
    entry_of-at f.c.opener f.closer f.c.members (operation o) f.gives in
    let starts : o.start ≡ k = at.0 in
    let ends : o.end ≡ f.closer.start + length f.closer.bytes = at.1 in
    let len : length there ≡ width mid = length-take-le (width mid) text_on mid_fits in
    let from : o.start ≡ offset + w = omega arith in
    let long : o.end - o.start ≡ width mid = omega arith in
    let same : there ≡ between text o.start o.end =
    ap (λ n. take n text_on) (sym long)
    ∙ (ap (λ t. take (o.end - o.start) t) on ∙ ap (λ n. take (o.end - o.start) (drop n text)) (sym from)) in
    let end_fits : o.end ≤ length text = omega arith in
    let in_order : o.start ≤ o.end = omega arith in
    let long_there : o.end - o.start ≡ length there = omega arith in
    let within : Reads there (operation (from_its_start o) ∷ []) None =
    (tokens_of (map (item_from k) mid), None, (map (item_from k) mid, inner, refl), reads) in (
      in_order,
      end_fits,
      (
        refl,
        long_there ∙ ap length same,
        subst (λ t. Reads t (operation (from_its_start o) ∷ []) None) same within,
      ),
    )

-- each operation that tokens read as has its map among the items that they come from
found_in_items :
    (items tokens : List Item) (entries : List Entry) (ending fault : Option Fault) (o : PlacedOperation)
    → tokens ≡ tokens_of items
    → reading_of tokens ending ≡ record { entries = entries; fault = fault }
    → In (operation o) entries
    → Found items o
found_in_items items tokens entries ending fault o from reads i =
    let same : (reading_of tokens ending).entries ≡ entries = ap (λ (r : Reading). r.entries) reads in
    let among = subst (In (operation o)) (sym same) i in
    let of_items = subst (λ ts. In (operation o) (reading_of ts ending).entries) from among in
    found_in items [] nothing_open ending o nothing_yet of_items

-- each operation of a text's reading has its map among the text's items
pub found_in_text :
    (text : List ℕ) (entries : List Entry) (fault : Option Fault) (o : PlacedOperation)
    → (reads : Reads text entries fault)
    → In (operation o) entries
    → Found reads.2.0 o
found_in_text text entries fault o reads i =
    found_in_items reads.2.0 reads.0 entries reads.1 fault o reads.2.2 reads.3 i

pub read_alone_from :
    (text : List ℕ) (offset : ℕ) (entries : List Entry) (fault : Option Fault) (o : PlacedOperation)
    → offset ≤ length text
    → ReadsFrom offset text entries fault
    → Contains entries (operation o)
    → IsIn text o
read_alone_from text offset entries fault o low reads contains =
    found_alone text offset reads.2.0 reads.1 o low reads.2.1
    (found_in_items reads.2.0 reads.0 entries reads.1 fault o reads.2.2 reads.3
    (in_from_Contains (operation o) entries contains))

pub read_alone :
    (text : List ℕ) (entries : List Entry) (fault : Option Fault) (o : PlacedOperation)
    → Reads text entries fault
    → Contains entries (operation o)
    → IsIn text o
read_alone text entries fault o reads = read_alone_from text 0 entries fault o (omega arith) reads
