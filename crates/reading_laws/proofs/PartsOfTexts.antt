-- A part of a text is read as it is by itself.
use Rattle.std.proofs.Common.{◌≡◌, ◌⊎◌, inl, inr, ℕ, zero, suc, ◌+◌, ◌<◌, ◌≤◌, List, [], ◌∷◌, ◌++◌, length, drop, map, Bool, true, false, Option, Some, None, option_map, Result, Ok, Err, refl, sym, ◌∙◌, ap, ap₂, subst, arith, append_assoc, drop-drop, length-drop}
use Rattle.std.specs.Prelude.{nat_lt}
use Rattle.std.specs.Bool.{if◌then◌else◌}
use Rattle.std.specs.Str.Lossy.{utf8_valid_len}
use Rattle.std.proofs.Math.Seq.{drop-append_seam}
use Rattle.std.proofs.lemmas.List.{append-nil, drop-append-le}
use Rattle.std.proofs.lemmas.Option.{none-some, same_Some}
use Rattle.hist_types.specs.Entries.{Entry, operations_of}
use Rattle.hist_types.specs.Forms.{Open, OpenCollection, waiting}
use Rattle.hist_types.specs.Operations.{Operation}
use Rattle.hist_types.specs.Reading.{GivesOperations, GivesFrom, GivesFault, FailsFrom, Reading, Step, step, fault_at_end, refuse_unfinished, ending_fault, after_entries, and_then_read, reading_from, nothing_open}
use Rattle.hist_types.specs.Tokens.{Item, ItemKind, open_after, is_token, tokens_of, front, IsCut, BeginsWith, BeginsWithFault, byte_fault, nesting_refusal}
use Rattle.hist_types.specs.declared.types.At.{At}
use Rattle.hist_types.specs.declared.types.At.TheVariants.{Byte, Event, Nowhere}
use Rattle.hist_types.specs.declared.types.Fault.{Fault}
use Rattle.hist_types.specs.declared.types.Refusal.{Refusal}
use Rattle.hist_types.specs.declared.types.Refusal.TheVariants.{BadUtf8}
use Rattle.reading_laws.specs.Parts.{HasPartAt, EndsLine, fault_behind, can_come_at_end}
use Rattle.reading_laws.proofs.EachCut.{each_cut}
use Rattle.reading_laws.proofs.FrontsGrown.{EndsSo, item_ends, BeginsWith-more, ends_so_behind}
use Rattle.reading_laws.proofs.MapAlone.{ReadsOn, behind}
use Rattle.reading_laws.proofs.MovedForms.{item_moved, fault_moved}
use Rattle.reading_laws.proofs.MovedReading.{tokens_of-append}
use Rattle.reading_laws.proofs.MovedSteps.{operations_append, reading_on}
use Rattle.reading_laws.proofs.PartCuts.{item_fault-elsewhere, width, closers_after, IsCut-within, BeginsWith-len}

-- ---- the cut

-- a part behind which a text goes on only where its last item ends
abbrev Stands : (part more : List ℕ) → Type 0
Stands part more = (more ≡ []) ⊎ ((part ≡ []) ⊎ EndsSo part)

item_stands :
    (part more : List ℕ) (kind : ItemKind) (bytes : List ℕ) → Stands part more → BeginsWith part kind bytes → BeginsWith (part ++ more) kind bytes
item_stands part more kind bytes (inl none) begins =
    subst (λ t. BeginsWith t kind bytes) (sym (ap (λ ys. part ++ ys) none ∙ append-nil part)) begins
item_stands part more kind bytes (inr (inl none)) begins = absurd (subst (λ t. BeginsWith t kind bytes) none begins)
item_stands part more kind bytes (inr (inr ends)) begins = BeginsWith-more part more kind bytes (item_ends part kind bytes ends begins) begins

stands_behind :
    (part more : List ℕ) (kind : ItemKind) (bytes : List ℕ) → Stands part more → BeginsWith part kind bytes → Stands (drop (length bytes) part) more
stands_behind part more kind bytes (inl none) begins = inl none
stands_behind part more kind bytes (inr (inl none)) begins = absurd (subst (λ t. BeginsWith t kind bytes) none begins)
stands_behind part more kind bytes (inr (inr ends)) begins =
    let some = (BeginsWith-len part kind bytes begins).0 in
    elim (item_ends part kind bytes ends begins) [
      | inl less ↦ inr (inr (ends_so_behind part (length bytes) ends less some))
      | inr line ↦ inr (inl (all_dropped part bytes (ap length line) some))
    ]
  where
    all_dropped : (part bytes : List ℕ) → length part ≡ 1 → 0 < length bytes → drop (length bytes) part ≡ []
    all_dropped [] (b ∷ bytes) long some = absurd (omega arith)
    all_dropped part [] long some = absurd (omega arith)
    all_dropped (x ∷ []) (b ∷ bytes) long some = drop_none (length bytes)
      where
        drop_none : (n : ℕ) → (let none : List ℕ = [] in drop n none ≡ none)
        drop_none zero = refl
        drop_none (suc n) = refl
    all_dropped (x ∷ y ∷ more) (b ∷ bytes) long some = absurd (omega arith)

-- what is left of the part behind some of its items
left_over : (xs : List Item) (part more : List ℕ) (offset : ℕ) (closers : List ℕ) (ending : Option Fault)
    → Stands part more → IsCut part offset closers xs ending
    → Stands (drop (width xs) part) more × IsCut (drop (width xs) part) (offset + width xs) (closers_after xs closers) [] ending
left_over [] part more offset closers ending stands cut = (stands, subst (λ n. IsCut part n closers [] ending) (omega arith) cut)
left_over (x ∷ xs) part more offset closers ending stands cut =
    let n = length x.bytes in
    let after = open_after x.kind x.bytes closers in
    let (still, rest) = left_over xs (drop n part) more (offset + n) after ending (stands_behind part more x.kind x.bytes stands cut.0) cut.3 in
    let same : drop (width xs) (drop n part) ≡ drop (n + width xs) part = drop-drop (width xs) n part in (
      subst (λ t. Stands t more) same still,
      subst (λ t. IsCut t (offset + (n + width xs)) (closers_after xs after) [] ending) same
          (subst (λ m. IsCut (drop (width xs) (drop n part)) m (closers_after xs after) [] ending) (omega arith) rest),
    )

-- the part's items in the text, and then those of a cut of what is left of both
cut_on :
    (xs : List Item) (part more : List ℕ) (k offset : ℕ) (closers : List ℕ) (ending : Option Fault) (ys : List Item) (later : Option Fault)
    → Stands part more
    → IsCut part offset closers xs ending
    → IsCut (drop (width xs) part ++ more) (k + (offset + width xs)) (closers_after xs closers) ys later
    → IsCut (part ++ more) (k + offset) closers (map (item_moved (λ n. k + n)) xs ++ ys) later
cut_on [] part more k offset closers ending ys later stands cut rest = subst (λ n. IsCut (part ++ more) n closers ys later) (omega arith) rest
cut_on (x ∷ xs) part more k offset closers ending ys later stands cut rest =
    let n = length x.bytes in
    let fits : n ≤ length part = (BeginsWith-len part x.kind x.bytes cut.0).1 in
    let start : x.start ≡ offset = cut.1 in
    let after = open_after x.kind x.bytes closers in
    let items = map (item_moved (λ m. k + m)) xs ++ ys in
    let there : IsCut (drop (width xs) (drop n part) ++ more) (k + ((offset + n) + width xs)) (closers_after xs after) ys later =
    subst (λ t. IsCut (t ++ more) (k + ((offset + n) + width xs)) (closers_after xs after) ys later) (sym (drop-drop (width xs) n part))
    (subst (λ m. IsCut (drop (n + width xs) part ++ more) m (closers_after xs after) ys later) (omega arith) rest) in
    let all = cut_on xs (drop n part) more k (offset + n) after ending ys later (stands_behind part more x.kind x.bytes stands cut.0) cut.3 there in (
      item_stands part more x.kind x.bytes stands cut.0,
      omega arith,
      item_fault-elsewhere x.kind offset (k + offset) x.bytes closers closers (λ e. e) cut.2,
      subst (λ t. IsCut t (k + offset + n) after items later) (sym (drop-append-le n part more fits))
          (subst (λ m. IsCut (drop n part ++ more) m after items later) (omega arith) all),
    )

-- an item's fault is as far behind its start anywhere
same_fault :
    (invalid : Bool) (refused : Option Refusal) (k offset n : ℕ) (f : Fault)
    → (if invalid then Some (byte_fault BadUtf8 (offset + n)) else option_map (λ refusal. byte_fault refusal offset) refused) ≡ Some f
    → (if invalid then Some (byte_fault BadUtf8 (k + offset + n)) else option_map (λ refusal. byte_fault refusal (k + offset)) refused) ≡ Some (fault_behind k f)
same_fault true refused k offset n f e =
    let sum : k + offset + n ≡ k + (offset + n) = omega arith in
    ap (λ m. Some (byte_fault BadUtf8 m)) sum ∙ ap (option_map (fault_behind k)) e
same_fault false None k offset n f e = absurd (none-some f e)
same_fault false (Some refusal) k offset n f e = ap (option_map (fault_behind k)) e

-- the fault at the front of what is left of a part, unless a string may be closed further on
fault_stands :
    (part more : List ℕ) (k offset : ℕ) (closers : List ℕ) (f : Fault)
    → Stands part more
    → (more ≡ []) ⊎ (can_come_at_end f.refusal ≡ false)
    → BeginsWithFault part offset closers f
    → BeginsWithFault (part ++ more) (k + offset) closers (fault_behind k f)
fault_stands [] more k offset closers f stands known fails = absurd fails
fault_stands (b ∷ rest) more k offset closers f stands (inl none) (inl (open_string, is)) =
    subst (λ ys. BeginsWithFault (b ∷ rest ++ ys) (k + offset) closers (fault_behind k f)) (sym none)
    (inl (ap (front b) (append-nil rest) ∙ open_string, ap (fault_behind k) is))
fault_stands (b ∷ rest) more k offset closers f stands (inr early) (inl (open_string, is)) =
    absurd (never (ap (λ (g : Fault). can_come_at_end g.refusal) (sym is) ∙ early))
  where
    never : true ≡ false → ⊥
    never e = cc
fault_stands (b ∷ rest) more k offset closers f stands known (inr (kind, bytes, begins, bad)) =
    inr (
      kind,
      bytes,
      item_stands (b ∷ rest) more kind bytes stands begins,
      same_fault (nat_lt (utf8_valid_len bytes) (length bytes)) (nesting_refusal kind bytes closers) k offset (utf8_valid_len bytes) f bad,
    )

-- ---- nothing is open behind the part

none_open : (marks : List Item) (collections : List OpenCollection) → fault_at_end (record { marks = marks; collections = collections }) ≡ None → length collections ≡ 0
none_open marks [] e = refl
none_open marks (c ∷ outer) e = absurd (by c.marks e)
  where
    by : (waits : List Item) → refuse_unfinished waits (c ∷ outer) ≡ None → ⊥
    by [] h = none-some _ (sym h)
    by (m ∷ ms) h = none-some _ (sym h)

no_closers : (closers : List ℕ) → length closers ≡ 0 → closers ≡ []
no_closers [] e = refl
no_closers (c ∷ cs) e = absurd (omega arith)

balanced : (items : List Item) (p : Open) (closers : List ℕ) → length p.collections ≡ length closers → ReadsOn p (tokens_of items) → closers_after items closers ≡ []
balanced [] p closers deep reads = no_closers closers (sym deep ∙ none_open p.marks p.collections reads)
balanced (t ∷ items) p closers deep reads =
    let (q, nest, later) = behind t items p closers [] (is_token t.kind) refl deep reads in
    balanced items q (open_after t.kind t.bytes closers) nest.deep later

-- ---- tokens at other places

tokens_moved : (to : ℕ → ℕ) (items : List Item) → tokens_of (map (item_moved to) items) ≡ map (item_moved to) (tokens_of items)
tokens_moved to [] = refl
tokens_moved to (i ∷ items) = by (is_token i.kind) (tokens_of (map (item_moved to) items)) (tokens_of items) (tokens_moved to items)
  where
    by : (token : Bool) (xs ys : List Item) → xs ≡ map (item_moved to) ys → (if token then item_moved to i ∷ xs else xs) ≡ map (item_moved to) (if token then i ∷ ys else ys)
    by true xs ys e = ap (λ zs. item_moved to i ∷ zs) e
    by false xs ys e = e

-- ---- what tokens give, and then what comes behind them

-- a fault of one of the tokens, whatever comes behind them
abbrev Fails : Open → List Item → List Entry → Fault → Type 0
Fails o ts es f = (us : List Item) (ending : Option Fault) → reading_from o (ts ++ us) ending ≡ record { entries = es; fault = Some f }

-- no fault, and p is open behind them
abbrev Passes : Open → List Item → List Entry → Open → Type 0
Passes o ts es p = (us : List Item) (ending : Option Fault) → reading_from o (ts ++ us) ending ≡ after_entries es (reading_from p us ending)

abbrev EachReading : Open → List Item → Type 0
EachReading o ts = ((es : List Entry) × (f : Fault) × Fails o ts es f) ⊎ ((es : List Entry) × (p : Open) × Passes o ts es p)

read_on : (t : Item) (ts : List Item) (o : Open) (r : Result Step Fault) → step o t ≡ r → ((after : Open) → EachReading after ts) → EachReading o (t ∷ ts)
read_on t ts o (Err f) is each = inl ([], f, λ us ending. ap (λ r. and_then_read r (λ after. reading_from after (ts ++ us) ending)) is)
read_on t ts o (Ok s) is each = elim (each s.after) [
  | inl (es, f, fails) ↦ inl (
    s.entries ++ es,
    f,
    λ us ending.
        ap (λ r. and_then_read r (λ after. reading_from after (ts ++ us) ending)) is ∙ ap (after_entries s.entries) (fails us ending),
  )
  | inr (es, p, passes) ↦ inr (
    s.entries ++ es,
    p,
    λ us ending.
        ap (λ r. and_then_read r (λ after. reading_from after (ts ++ us) ending)) is ∙ (ap (after_entries s.entries) (passes us ending)
        ∙ ap (λ (xs : List Entry). let r : Reading = record { entries = xs; fault = (reading_from p us ending).fault } in r)
        (sym (append_assoc s.entries es (reading_from p us ending).entries))),
  )
]

each_reading : (ts : List Item) (o : Open) → EachReading o ts
each_reading [] o = inr ([], o, λ us ending. refl)
each_reading (t ∷ ts) o = read_on t ts o (step o t) refl (λ after. each_reading ts after)

-- where no fault comes at the end, nothing is open
nothing_left : (p : Open) → fault_at_end p ≡ None → p ≡ nothing_open
nothing_left p e = by p.marks p.collections e
  where
    by : (marks : List Item) (collections : List OpenCollection) → fault_at_end (record { marks = marks; collections = collections }) ≡ None
        → (let o : Open = record { marks = marks; collections = collections } in o ≡ nothing_open)
    by [] [] e = refl
    by (m ∷ ms) [] e = absurd (none-some _ (sym e))
    by marks (c ∷ outer) e = absurd (in_it c.marks e)
      where
        in_it : (waits : List Item) → refuse_unfinished waits (c ∷ outer) ≡ None → ⊥
        in_it [] h = none-some _ (sym h)
        in_it (m ∷ ms) h = none-some _ (sym h)

-- a fault of the end is refused as one
at_end : (p : Open) (f : Fault) → fault_at_end p ≡ Some f → can_come_at_end f.refusal ≡ true
at_end p f e = by (waiting p.marks p.collections) p.collections e
  where
    by : (marks : List Item) (collections : List OpenCollection) → refuse_unfinished marks collections ≡ Some f → can_come_at_end f.refusal ≡ true
    by [] [] e = absurd (none-some f e)
    by [] (c ∷ outer) e = ap (λ (g : Fault). can_come_at_end g.refusal) (sym (same_Some _ f e))
    by (m ∷ ms) collections e = ap (λ (g : Fault). can_come_at_end g.refusal) (sym (same_Some _ f e))

-- ---- a part of a text

same_place : (k : ℕ) (f : Fault) → fault_moved (λ n. k + n) f ≡ fault_behind k f
same_place k f = by f.at
  where
    by : (at : At) → (let g : Fault = record { refusal = f.refusal; at = at } in fault_moved (λ n. k + n) g ≡ fault_behind k g)
    by (Byte n) = refl
    by (Event n) = refl
    by Nowhere = refl

same_places : (k : ℕ) (f : Option Fault) → option_map (fault_moved (λ n. k + n)) f ≡ option_map (fault_behind k) f
same_places k None = refl
same_places k (Some f) = ap Some (same_place k f)

-- the text from the offset on, by a cut of what is behind the part's items, and what tokens give
in_text :
    (text part more : List ℕ) (offset : ℕ) (items ys : List Item) (ending later : Option Fault) (es : List Entry) (fault : Option Fault)
    → HasPartAt text offset part more
    → Stands part more
    → IsCut part 0 [] items ending
    → IsCut (drop (width items) part ++ more) (offset + (0 + width items)) (closers_after items []) ys later
    → reading_from nothing_open (map (item_moved (λ n. offset + n)) (tokens_of items) ++ tokens_of ys) later ≡ record { entries = es; fault = fault }
    → GivesFrom text offset (operations_of es) fault
in_text text part more offset items ys ending later es fault has stands cut rest reading =
    let to : ℕ → ℕ = λ n. offset + n in
    let whole = cut_on items part more offset 0 [] ending ys later stands cut rest in
    let placed : IsCut (drop offset text) offset [] (map (item_moved to) items ++ ys) later =
    subst (λ t. IsCut t offset [] (map (item_moved to) items ++ ys) later) (sym has)
    (subst (λ n. IsCut (part ++ more) n [] (map (item_moved to) items ++ ys) later) (omega arith) whole) in
    let row : map (item_moved to) (tokens_of items) ++ tokens_of ys ≡ tokens_of (map (item_moved to) items ++ ys) =
    ap (λ ts. ts ++ tokens_of ys) (sym (tokens_moved to items)) ∙ sym (tokens_of-append (map (item_moved to) items) ys) in
    record {
      entries = es;
      read = (map (item_moved to) (tokens_of items) ++ tokens_of ys, later, (map (item_moved to) items ++ ys, placed, row), reading);
      given = refl;
    }

-- the part's own ending behind its items, if it stays
own_ending :
    (part more : List ℕ) (offset : ℕ) (items : List Item) (ending : Option Fault)
    → Stands part more
    → IsCut part 0 [] items ending
    → (more ≡ []) ⊎ ((f : Fault) × (ending ≡ Some f) × (can_come_at_end f.refusal ≡ false))
    → IsCut (drop (width items) part ++ more) (offset + (0 + width items)) (closers_after items []) [] (option_map (fault_behind offset) ending)
own_ending part more offset items ending stands cut stays =
    let (still, rest) = left_over items part more 0 [] ending stands cut in
    by ending stays still rest
  where
    by : (ending : Option Fault) → (more ≡ []) ⊎ ((f : Fault) × (ending ≡ Some f) × (can_come_at_end f.refusal ≡ false))
        → Stands (drop (width items) part) more → IsCut (drop (width items) part) (0 + width items) (closers_after items []) [] ending
        → IsCut (drop (width items) part ++ more) (offset + (0 + width items)) (closers_after items []) [] (option_map (fault_behind offset) ending)
    by None (inl none) still rest = ap₂ (λ xs ys. xs ++ ys) rest none
    by None (inr (f, is, early)) still rest = absurd (none-some f is)
    by (Some g) (inl none) still rest = fault_stands (drop (width items) part) more offset (0 + width items) (closers_after items []) g still (inl none) rest
    by (Some g) (inr (f, is, early)) still rest =
        fault_stands (drop (width items) part) more offset (0 + width items) (closers_after items []) g still
        (inr (ap (λ (h : Fault). can_come_at_end h.refusal) (same_Some g f is) ∙ early)) rest

-- what the tokens of items give further on
abbrev further : ℕ → List Item → Option Fault → Reading
further k items ending =
    reading_from nothing_open (map (item_moved (λ n. k + n)) (tokens_of items)) (option_map (fault_moved (λ n. k + n)) ending)

-- a part that is read by itself: its items, and that they give as much further on
record Further (k : ℕ) (part : List ℕ) (os : List Operation) (fault : Option Fault) : Type 0 where
  pub items : List Item
  pub ending : Option Fault
  pub cut : IsCut part 0 [] items ending
  pub alone : (reading_from nothing_open (tokens_of items) ending).fault ≡ fault
  pub given : operations_of (further k items ending).entries ≡ os
  pub failed : (further k items ending).fault ≡ option_map (fault_behind k) fault

read_further : (k : ℕ) (part : List ℕ) (os : List Operation) (fault : Option Fault) → GivesFrom part 0 os fault → Further k part os fault
read_further k part os fault gives =
    let (tokens, ending, (items, cut, is), reading) = gives.read in
    let (same, moved) = reading_on k (tokens_of items) ending in
    let alone : reading_from nothing_open (tokens_of items) ending ≡ record { entries = gives.entries; fault = fault } =
    ap (λ ts. reading_from nothing_open ts ending) (sym is) ∙ reading in
    record {
      items = items;
      ending = ending;
      cut = cut;
      alone = ap (λ (r : Reading). r.fault) alone;
      given = same ∙ (ap (λ (r : Reading). operations_of r.entries) alone ∙ gives.given);
      failed = moved ∙ (ap (λ (r : Reading). option_map (fault_moved (λ n. k + n)) r.fault) alone ∙ same_places k fault);
    }

-- a part whose own ending is the text's
with_own_ending :
    (text part more : List ℕ) (offset : ℕ) (items : List Item) (ending : Option Fault)
    → HasPartAt text offset part more
    → Stands part more
    → IsCut part 0 [] items ending
    → (more ≡ []) ⊎ ((f : Fault) × (ending ≡ Some f) × (can_come_at_end f.refusal ≡ false))
    → GivesFrom text offset (operations_of (further offset items ending).entries) (further offset items ending).fault
with_own_ending text part more offset items ending has stands cut stays =
    let s = further offset items ending in
    in_text text part more offset items [] ending _ s.entries s.fault has stands cut (own_ending part more offset items ending stands cut stays)
    (ap₂ (reading_from nothing_open) (append-nil (map (item_moved (λ n. offset + n)) (tokens_of items))) (sym (same_places offset ending)))

-- What is left of a text gives what it gives by itself.
pub rest_reads :
    (text part : List ℕ) (offset : ℕ) (os : List Operation) (fault : Option Fault)
    → HasPartAt text offset part []
    → GivesFrom part 0 os fault
    → GivesFrom text offset os (option_map (fault_behind offset) fault)
rest_reads text part offset os fault has gives =
    let there = read_further offset part os fault gives in
    subst (λ f. GivesFrom text offset os f) there.failed
    (subst (λ xs. GivesFrom text offset xs (further offset there.items there.ending).fault) there.given
    (with_own_ending text part [] offset there.items there.ending has (inl refl) there.cut (inl refl)))

-- the moved reading, by what its tokens do
fails_so : (ts : List Item) (ending : Option Fault) (es : List Entry) (f : Fault) → Fails nothing_open ts es f
    → (reading_from nothing_open ts ending).fault ≡ Some f
fails_so ts ending es f fails =
    ap (λ us. (reading_from nothing_open us ending).fault) (sym (append-nil ts)) ∙ ap (λ (r : Reading). r.fault) (fails [] ending)

passes_so : (ts : List Item) (ending : Option Fault) (es : List Entry) (p : Open) → Passes nothing_open ts es p
    → reading_from nothing_open ts ending ≡ record { entries = es; fault = ending_fault ending p }
passes_so ts ending es p passes =
    ap (λ us. reading_from nothing_open us ending) (sym (append-nil ts)) ∙ (passes [] ending
    ∙ ap (λ (xs : List Entry). let r : Reading = record { entries = xs; fault = ending_fault ending p } in r) (append-nil es))

-- Lines whose fault more of the text can't change have it in the text.
pub fault_reads :
    (text part behind : List ℕ) (offset : ℕ) (fault : Fault)
    → HasPartAt text offset part behind
    → EndsLine part
    → can_come_at_end fault.refusal ≡ false
    → GivesFault part fault
    → FailsFrom text offset (fault_behind offset fault)
fault_reads text part behind offset fault has ends early (os, gives) =
    let there = read_further offset part os (Some fault) gives in
    let ts = map (item_moved (λ n. offset + n)) (tokens_of there.items) in
    let stands : Stands part behind = inr (inr (inr ends)) in
    elim (each_reading ts nothing_open) [
      | inl (es, f, fails) ↦
          let (ys, later, rest) = each_cut (drop (width there.items) part ++ behind) (offset + (0 + width there.items)) (closers_after there.items []) in
          let is : Some f ≡ Some (fault_behind offset fault) = sym (fails_so ts _ es f fails) ∙ there.failed in (
            operations_of es,
            subst (λ g. GivesFrom text offset (operations_of es) g) is
                (in_text text part behind offset there.items ys there.ending later es (Some f) has stands there.cut rest (fails (tokens_of ys) later)),
          )
      | inr (es, p, passes) ↦
          let is : ending_fault (option_map (fault_moved (λ n. offset + n)) there.ending) p ≡ Some (fault_behind offset fault) =
          sym (ap (λ (r : Reading). r.fault) (passes_so ts _ es p passes)) ∙ there.failed in (
            _,
            subst (λ g. GivesFrom text offset (operations_of (further offset there.items there.ending).entries) g) there.failed
                (with_own_ending text part behind offset there.items there.ending has stands there.cut (inr (known there.ending p is))),
          )
    ]
  where
    known : (ending : Option Fault) (p : Open) → ending_fault (option_map (fault_moved (λ n. offset + n)) ending) p ≡ Some (fault_behind offset fault)
        → (f : Fault) × (ending ≡ Some f) × (can_come_at_end f.refusal ≡ false)
    known None p is = absurd (never (sym (at_end p (fault_behind offset fault) is) ∙ early))
      where
        never : true ≡ false → ⊥
        never e = cc
    known (Some f) p is = (f, refl, ap (λ (g : Fault). can_come_at_end g.refusal) (same_Some _ (fault_behind offset fault) is) ∙ early)

-- ---- a part without a fault

no_ending : (ending : Option Fault) (p : Open) (k : ℕ) → ending_fault (option_map (fault_moved (λ n. k + n)) ending) p ≡ None
    → (ending ≡ None) × (p ≡ nothing_open)
no_ending None p k e = (refl, nothing_left p e)
no_ending (Some f) p k e = absurd (none-some _ (sym e))

-- nothing is left of a part behind all its items
all_cut : (items : List Item) (part : List ℕ) → IsCut part 0 [] items None → (drop (width items) part ≡ []) × (width items ≡ length part)
all_cut items part cut =
    let none : drop (width items) part ≡ [] = (left_over items part [] 0 [] None (inl refl) cut).1 in
    let within = IsCut-within items [] part 0 [] None (subst (λ xs. IsCut part 0 [] xs None) (sym (append-nil items)) cut) in
    let left : length (drop (width items) part) ≡ 0 = ap length none in
    (none, omega (arith, length-drop (width items) part))

-- Behind a part that reads by itself, and ends a line, the text is read on.
pub part_reads :
    (text part behind : List ℕ) (offset : ℕ) (os later : List Operation) (fault : Option Fault)
    → HasPartAt text offset part behind
    → EndsLine part
    → GivesOperations part os
    → GivesFrom text (offset + length part) later fault
    → GivesFrom text offset (os ++ later) fault
part_reads text part behind offset os later fault has ends gives rest =
    let there = read_further offset part os None gives in
    let ts = map (item_moved (λ n. offset + n)) (tokens_of there.items) in
    elim (each_reading ts nothing_open) [
      | inl (es, f, fails) ↦ absurd (none-some f (sym there.failed ∙ fails_so ts _ es f fails))
      | inr (es, p, passes) ↦
          let s_is = passes_so ts (option_map (fault_moved (λ n. offset + n)) there.ending) es p passes in
          let (none, closed) = no_ending there.ending p offset (sym (ap (λ (r : Reading). r.fault) s_is) ∙ there.failed) in
          let given : operations_of es ≡ os = sym (ap (λ (r : Reading). operations_of r.entries) s_is) ∙ there.given in
          let cut : IsCut part 0 [] there.items None = subst (IsCut part 0 [] there.items) none there.cut in
          let (nothing, long) = all_cut there.items part cut in
          let reads : ReadsOn nothing_open (tokens_of there.items) =
          ap (λ e. (reading_from nothing_open (tokens_of there.items) e).fault) (sym none) ∙ there.alone in
          let (tokens, ending, (ys, cut', is), reading) = rest.read in
          let behind_is : drop (offset + length part) text ≡ behind = sym (drop-drop (length part) offset text) ∙ (ap (drop (length part)) has ∙ drop-append_seam part behind) in
          let after : IsCut (drop (width there.items) part ++ behind) (offset + (0 + width there.items)) (closers_after there.items []) ys ending =
          subst (λ closers. IsCut (drop (width there.items) part ++ behind) (offset + (0 + width there.items)) closers ys ending) (sym (balanced there.items nothing_open [] refl reads))
          (subst (λ t. IsCut (t ++ behind) (offset + (0 + width there.items)) [] ys ending) (sym nothing)
          (subst (λ n. IsCut behind n [] ys ending) (omega arith) (subst (λ t. IsCut t (offset + length part) [] ys ending) behind_is cut'))) in
          let all : reading_from nothing_open (ts ++ tokens_of ys) ending ≡ record { entries = es ++ rest.entries; fault = fault } =
          passes (tokens_of ys) ending ∙ ap (after_entries es)
          (ap₂ (λ o us. reading_from o us ending) closed (sym is) ∙ reading) in
          let os_is : operations_of (es ++ rest.entries) ≡ os ++ later = operations_append es rest.entries ∙ ap₂ (λ xs ys. xs ++ ys) given rest.given in
          subst (λ xs. GivesFrom text offset xs fault) os_is
          (in_text text part behind offset there.items ys None ending (es ++ rest.entries) fault has (inr (inr (inr ends))) cut after all)
    ]
