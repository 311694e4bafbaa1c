-- What happens inside a map in an operation's place is what happens inside the map alone.
use Rattle.std.proofs.Common.{◌≡◌, ◌⊎◌, inl, inr, ℕ, ◌-◌, List, [], ◌∷◌, ◌++◌, map, Bool, true, false, not, ◌&&◌, ◌||◌, if◌then◌else◌, Option, Result, Ok, Err, refl, sym, ◌∙◌, ap, subst, append_assoc}
use Rattle.std.specs.Prelude.{bytes_eq, nat_eq}
use Rattle.std.proofs.lemmas.Bool.{and_parts, and_right, eqb-true}
use Rattle.std.proofs.lemmas.List.{map-append, append-nil}
use Rattle.std.proofs.lemmas.List.Elements.{filter-append}
use Rattle.hist_types.specs.Entries.{PlacedOperation, Entry, operation, entry_of, ◌>>=◌, refuse_if}
use Rattle.hist_types.specs.Forms.{Form, plain, OpenCollection, Open, is_map, has_drop, still_waiting, with_form_in, with_form, with_mark, with_opener, form_of}
use Rattle.reading_laws.specs.Placed.{item_from}
use Rattle.hist_types.specs.Reading.{is_operation_place, in_operation_place, may_open, Step, only_opens, refuse_waiting, entries_at_close, close, step_by, step, and_then_read, reading_from, nothing_open}
use Rattle.hist_types.specs.Tokens.{Item, ItemKind, Opener, Closer, Drop, Tag, is_token, tokens_of, byte_fault}
use Rattle.hist_types.specs.declared.types.Fault.{Fault}
use Rattle.hist_types.specs.declared.types.Refusal.TheVariants.{NotAMap}
use Rattle.hist_types.proofs.Members.{In}
use Rattle.reading_laws.proofs.MovedForms.{form_from}
use Rattle.reading_laws.proofs.MovedSteps.{open_collection, collection_moved, with_form_in-moved, form_of-moved}

-- ---- open collections with their places counted from a later offset

abbrev pub opened : List Item → List OpenCollection → Open
opened marks collections = record { marks = marks; collections = collections }

abbrev pub collection_from : ℕ → OpenCollection → OpenCollection
collection_from k c = collection_moved (λ n. n - k) c

-- what is open inside a map alone, of the collections inside it and of the map itself
abbrev pub inside : ℕ → List OpenCollection → OpenCollection → Open
inside k inner m = opened [] (map (collection_from k) (inner ++ (m ∷ [])))

map_no_row :
    (bytes : List ℕ)
    → bytes_eq bytes (123 ∷ []) ≡ true
    → (bytes_eq bytes (91 ∷ []) || bytes_eq bytes (40 ∷ [])) ≡ false
map_no_row [] e = absurd (cc)
map_no_row (b ∷ bytes) e =
    let is : b ≡ 123 = eqb-true b 123 (and_parts (nat_eq b 123) (bytes_eq bytes []) e).0 in
    ap (λ x. (nat_eq x 91 && bytes_eq bytes []) || (nat_eq x 40 && bytes_eq bytes [])) is

-- nothing inside a map is in an operation's place
not_in_place :
    (k : ℕ) (inner : List OpenCollection) (m : OpenCollection)
    → is_map m.opener ≡ true
    → is_operation_place [] (map (collection_from k) (inner ++ (m ∷ []))) ≡ false
not_in_place k [] m is =
    ap (λ b. b && not (has_drop []) && not (has_drop (map (item_from k) m.marks))) (map_no_row m.opener.bytes is)
not_in_place k (x ∷ []) m is = refl
not_in_place k (x ∷ y ∷ inner) m is = refl

-- ---- steps that give nothing

abbrev pub Runs : Open → List Item → Open → Type 0
Runs o [] p = o ≡ p
Runs o (t ∷ ts) p = (q : Open) × (step o t ≡ Ok (only_opens q)) × Runs q ts p

Runs-more :
    (ts : List Item) (o p q : Open) (t : Item)
    → Runs o ts p
    → step p t ≡ Ok (only_opens q)
    → Runs o (ts ++ (t ∷ [])) q
Runs-more [] o p q t same e = (q, ap (λ x. step x t) same ∙ e, refl)
Runs-more (u ∷ ts) o p q t runs e = (runs.0, runs.1, Runs-more ts runs.0 p q t runs.2 e)

pub Runs-reading :
    (ts us : List Item) (o p : Open) (ending : Option Fault)
    → Runs o ts p
    → reading_from o (ts ++ us) ending ≡ reading_from p us ending
Runs-reading [] us o p ending same = ap (λ x. reading_from x us ending) same
Runs-reading (t ∷ ts) us o p ending runs =
    ap (λ (r : Result Step Fault). and_then_read r (λ after. reading_from after (ts ++ us) ending)) runs.1
    ∙ Runs-reading ts us runs.0 p ending runs.2

-- a step without a fault, by what is open behind it inside a map alone
abbrev went_on : List OpenCollection → Result Step Fault
went_on collections = Ok (only_opens (opened [] collections))

-- ---- what has been read since a map opened

-- The map m is open, with these collections inside it, and the tokens from its opener on lead there alone.
pub record History (done : List Item) (inner : List OpenCollection) (m : OpenCollection) : Type 0 where
  pub before : List Item
  pub within : List Item
  pub done_is : done ≡ before ++ (m.opener ∷ within)
  pub opens : m.opener.kind ≡ Opener
  pub runs :
      Runs nothing_open (map (item_from m.opener.start) (m.opener ∷ tokens_of within)) (inside m.opener.start inner m)

-- Each open map in an operation's place has such a history.
abbrev pub Histories : List Item → Open → Type 0
Histories done o =
    (inner : List OpenCollection) → (m : OpenCollection) → (outer : List OpenCollection)
    → o.collections ≡ inner ++ (m ∷ outer)
    → is_map m.opener ≡ true
    → is_operation_place o.marks outer ≡ true
    → History done inner m

pub tokens_of-append : (xs ys : List Item) → tokens_of (xs ++ ys) ≡ tokens_of xs ++ tokens_of ys
tokens_of-append xs ys = filter-append (λ (i : Item). is_token i.kind) xs ys

pub tokens_of-gap : (i : Item) (xs : List Item) → is_token i.kind ≡ false → tokens_of (i ∷ xs) ≡ tokens_of xs
tokens_of-gap i xs h = rw h refl

pub tokens_of-token : (i : Item) (xs : List Item) → is_token i.kind ≡ true → tokens_of (i ∷ xs) ≡ i ∷ tokens_of xs
tokens_of-token i xs h = rw h refl

pub tokens_of-gap_last :
    (xs : List Item) (t : Item)
    → is_token t.kind ≡ false
    → tokens_of (xs ++ (t ∷ [])) ≡ tokens_of xs
tokens_of-gap_last xs t gap =
    tokens_of-append xs (t ∷ []) ∙ (ap (λ ts. tokens_of xs ++ ts) (tokens_of-gap t [] gap) ∙ append-nil (tokens_of xs))

pub tokens_of-token_last :
    (xs : List Item) (t : Item)
    → is_token t.kind ≡ true
    → tokens_of (xs ++ (t ∷ [])) ≡ tokens_of xs ++ (t ∷ [])
tokens_of-token_last xs t token =
    tokens_of-append xs (t ∷ []) ∙ ap (λ ts. tokens_of xs ++ ts) (tokens_of-token t [] token)

done_more :
    (done before within : List Item) (opener t : Item)
    → done ≡ before ++ (opener ∷ within)
    → done ++ (t ∷ []) ≡ before ++ (opener ∷ (within ++ (t ∷ [])))
done_more done before within opener t e = ap (λ xs. xs ++ (t ∷ [])) e ∙ append_assoc before (opener ∷ within) (t ∷ [])

History-gap :
    (done : List Item) (inner : List OpenCollection) (m : OpenCollection) (t : Item)
    → is_token t.kind ≡ false
    → History done inner m
    → History (done ++ (t ∷ [])) inner m
History-gap done inner m t gap h =
    let k = m.opener.start in
    record {
      before = h.before;
      within = h.within ++ (t ∷ []);
      done_is = done_more done h.before h.within m.opener t h.done_is;
      opens = h.opens;
      runs =
          subst (λ ts. Runs nothing_open (map (item_from k) (m.opener ∷ ts)) (inside k inner m))
          (sym (tokens_of-gap_last h.within t gap)) h.runs;
    }

History-token :
    (done : List Item) (inner later : List OpenCollection) (m : OpenCollection)
    (members : List Form) (marks : List Item) (t : Item)
    → is_token t.kind ≡ true
    → History done inner m
    → step (inside m.opener.start inner m) (item_from m.opener.start t)
    ≡ Ok (only_opens (inside m.opener.start later (open_collection m.opener members marks)))
    → History (done ++ (t ∷ [])) later (open_collection m.opener members marks)
History-token done inner later m members marks t token h goes =
    let k = m.opener.start in
    let n = open_collection m.opener members marks in
    let ts = m.opener ∷ tokens_of h.within in
    let more : Runs nothing_open (map (item_from k) ts ++ (item_from k t ∷ [])) (inside k later n) =
    Runs-more (map (item_from k) ts) nothing_open (inside k inner m) (inside k later n) (item_from k t) h.runs goes in
    record {
      before = h.before;
      within = h.within ++ (t ∷ []);
      done_is = done_more done h.before h.within m.opener t h.done_is;
      opens = h.opens;
      runs =
          subst (λ us. Runs nothing_open (map (item_from k) (m.opener ∷ us)) (inside k later n))
          (sym (tokens_of-token_last h.within t token))
          (subst (λ us. Runs nothing_open us (inside k later n)) (sym (map-append (item_from k) ts (t ∷ []))) more);
    }

-- ---- each step keeps the histories

no_room :
    (inner : List OpenCollection) (m : OpenCollection) (outer : List OpenCollection)
    → [] ≡ inner ++ (m ∷ outer)
    → ⊥
no_room [] m outer e = cc
no_room (x ∷ inner) m outer e = cc

first_of_both : (x y : OpenCollection) (xs ys : List OpenCollection) → (x ∷ xs) ≡ (y ∷ ys) → x ≡ y
first_of_both x y xs ys e = cc

rest_of_both : (x y : OpenCollection) (xs ys : List OpenCollection) → (x ∷ xs) ≡ (y ∷ ys) → xs ≡ ys
rest_of_both x y xs ys e = cc

Histories-none : (done : List Item) (marks : List Item) → Histories done (opened marks [])
Histories-none done marks inner m outer e = absurd (no_room inner m outer e)

pub Histories-gap :
    (done : List Item) (o : Open) (t : Item)
    → is_token t.kind ≡ false
    → Histories done o
    → Histories (done ++ (t ∷ [])) o
Histories-gap done o t gap all inner m outer e is place = History-gap done inner m t gap (all inner m outer e is place)

-- a step that changes the innermost collection, in the text and in the map alone
abbrev Changes : Item → OpenCollection → OpenCollection → Type 0
Changes t c d =
    (k : ℕ) → (rest : List OpenCollection)
    → is_operation_place [] (map (collection_from k) (c ∷ rest)) ≡ false
    → step (opened [] (map (collection_from k) (c ∷ rest))) (item_from k t)
    ≡ Ok (only_opens (opened [] (map (collection_from k) (d ∷ rest))))

Histories-changed :
    (done marks : List Item) (c : OpenCollection) (outer : List OpenCollection) (members : List Form)
    (waiting : List Item) (t : Item)
    → is_token t.kind ≡ true
    → Changes t c (open_collection c.opener members waiting)
    → Histories done (opened marks (c ∷ outer))
    → Histories (done ++ (t ∷ [])) (opened marks (open_collection c.opener members waiting ∷ outer))
Histories-changed done marks c outer members waiting t token changes all [] m os e is place =
    let d = open_collection c.opener members waiting in
    let same : d ≡ m = first_of_both d m outer os e in
    let rest : outer ≡ os = rest_of_both d m outer os e in
    let was : is_map c.opener ≡ true = subst (λ (x : OpenCollection). is_map x.opener ≡ true) (sym same) is in
    let h = all [] c outer refl was (subst (λ xs. is_operation_place marks xs ≡ true) (sym rest) place) in
    subst (History (done ++ (t ∷ [])) []) same
    (History-token done [] [] c members waiting t token h
    (changes c.opener.start [] (not_in_place c.opener.start [] c was)))
Histories-changed done marks c outer members waiting t token changes all (x ∷ inner) m os e is place =
    let d = open_collection c.opener members waiting in
    let same : d ≡ x = first_of_both d x outer (inner ++ (m ∷ os)) e in
    let rest : outer ≡ inner ++ (m ∷ os) = rest_of_both d x outer (inner ++ (m ∷ os)) e in
    let h = all (c ∷ inner) m os (ap (λ xs. c ∷ xs) rest) is place in
    let k = m.opener.start in
    subst (λ y. History (done ++ (t ∷ [])) (y ∷ inner) m) same
    (History-token done (c ∷ inner) (d ∷ inner) m m.members m.marks t token h
    (changes k (inner ++ (m ∷ [])) (not_in_place k (c ∷ inner) m is)))

may_open_map : (t : Item) (k : ℕ) → is_map t ≡ true → may_open nothing_open (item_from k t) ≡ true
may_open_map t k is = rw is refl

Histories-opened :
    (done : List Item) (o : Open) (t : Item)
    → t.kind ≡ Opener
    → Histories done o
    → Histories (done ++ (t ∷ [])) (with_opener t o)
Histories-opened done o t opens all [] m os e is place =
    let new = open_collection t [] [] in
    let k = t.start in
    let same : new ≡ m = first_of_both new m o.collections os e in
    let was : is_map t ≡ true = subst (λ (x : OpenCollection). is_map x.opener ≡ true) (sym same) is in
    let goes : step nothing_open (item_from k t) ≡ Ok (only_opens (inside k [] new)) =
    ap (λ kind. step_by kind nothing_open (item_from k t)) opens
    ∙ ap (λ (b : Bool). if b then went_on (collection_from k new ∷ []) else Err (byte_fault NotAMap (k - k)))
    (may_open_map t k was) in
    subst (History (done ++ (t ∷ [])) []) same
    (record { before = done; within = []; done_is = refl; opens = opens; runs = (inside k [] new, goes, refl) })
Histories-opened done o t opens all (x ∷ inner) m os e is place =
    let new = open_collection t [] [] in
    let k = m.opener.start in
    let same : new ≡ x = first_of_both new x o.collections (inner ++ (m ∷ os)) e in
    let rest : o.collections ≡ inner ++ (m ∷ os) = rest_of_both new x o.collections (inner ++ (m ∷ os)) e in
    let h = all inner m os rest is place in
    let there : in_operation_place (inside k inner m) ≡ false = not_in_place k inner m is in
    let goes : step (inside k inner m) (item_from k t) ≡ Ok (only_opens (inside k (new ∷ inner) m)) =
    ap (λ kind. step_by kind (inside k inner m) (item_from k t)) opens
    ∙ (rw there refl) in
    subst (λ y. History (done ++ (t ∷ [])) (y ∷ inner) m) same
    (History-token done inner (new ∷ inner) m m.members m.marks t (ap is_token opens) h goes)

-- ---- closers

abbrev pub closes_as : Result (Unit {0}) Fault → Result (List Entry) Fault → Open → Result Step Fault
closes_as waits given after = waits >>= λ _. given >>= λ entries. Ok (record { entries = entries; after = after })

abbrev given_if : Bool → Result Entry Fault → Result (List Entry) Fault
given_if test r = if test then (r >>= λ entry. Ok (entry ∷ [])) else Ok []

abbrev step_of : List Entry → Open → Step
step_of entries after = record { entries = entries; after = after }

-- inside a map, what a closer gives is nothing
closes_inside :
    (k : ℕ) (c d : OpenCollection) (rest : List OpenCollection) (t : Item)
    → t.kind ≡ Closer
    → c.marks ≡ []
    → is_operation_place [] (map (collection_from k) (d ∷ rest)) ≡ false
    → step (opened [] (map (collection_from k) (c ∷ d ∷ rest))) (item_from k t)
    ≡ Ok (only_opens (opened [] (map (collection_from k) (with_form_in (form_of c t) d ∷ rest))))
closes_inside k c d rest t closes none place =
    let u = item_from k t in
    let outer = map (collection_from k) rest in
    let e = collection_from k d in
    let f = form_of (collection_from k c) u in
    let given : entries_at_close (collection_from k c) u [] (e ∷ outer) ≡ Ok [] =
    ap (λ b. given_if b (entry_of (item_from k c.opener) u (map (form_from k) c.members)))
    (and_right (is_map c.opener) (is_operation_place [] (e ∷ outer)) place) in
    ap (λ kind. step_by kind (opened [] (map (collection_from k) (c ∷ d ∷ rest))) u) closes
    ∙ (ap (λ (ms : List Item). closes_as (refuse_waiting (map (item_from k) ms))
    (entries_at_close (collection_from k c) u [] (e ∷ outer)) (with_form f [] (e ∷ outer))) none
    ∙ (ap (λ (r : Result (List Entry) Fault). closes_as (Ok tt) r (with_form f [] (e ∷ outer))) given
    ∙ (ap (λ (g : Form). went_on (with_form_in g e ∷ outer)) (form_of-moved (λ n. n - k) c t)
    ∙ ap (λ (x : OpenCollection). went_on (x ∷ outer)) (with_form_in-moved (λ n. n - k) (form_of c t) d))))

Histories-closed_inside :
    (done marks : List Item) (c d : OpenCollection) (outer : List OpenCollection) (t : Item)
    → t.kind ≡ Closer
    → c.marks ≡ []
    → Histories done (opened marks (c ∷ d ∷ outer))
    → Histories (done ++ (t ∷ [])) (opened marks (with_form_in (form_of c t) d ∷ outer))
Histories-closed_inside done marks c d outer t closes none all [] m os e is place =
    let n = with_form_in (form_of c t) d in
    let same : n ≡ m = first_of_both n m outer os e in
    let rest : outer ≡ os = rest_of_both n m outer os e in
    let was : is_map d.opener ≡ true = subst (λ (x : OpenCollection). is_map x.opener ≡ true) (sym same) is in
    let h = all (c ∷ []) d outer refl was (subst (λ xs. is_operation_place marks xs ≡ true) (sym rest) place) in
    let k = d.opener.start in
    subst (History (done ++ (t ∷ [])) []) same
    (History-token done (c ∷ []) [] d n.members n.marks t (ap is_token closes) h
    (closes_inside k c d [] t closes none (not_in_place k [] d was)))
Histories-closed_inside done marks c d outer t closes none all (x ∷ inner) m os e is place =
    let n = with_form_in (form_of c t) d in
    let same : n ≡ x = first_of_both n x outer (inner ++ (m ∷ os)) e in
    let rest : outer ≡ inner ++ (m ∷ os) = rest_of_both n x outer (inner ++ (m ∷ os)) e in
    let h = all (c ∷ d ∷ inner) m os (ap (λ xs. c ∷ d ∷ xs) rest) is place in
    let k = m.opener.start in
    subst (λ y. History (done ++ (t ∷ [])) (y ∷ inner) m) same
    (History-token done (c ∷ d ∷ inner) (n ∷ inner) m m.members m.marks t (ap is_token closes) h
    (closes_inside k c d (inner ++ (m ∷ [])) t closes none (not_in_place k (d ∷ inner) m is)))

Histories-closed :
    (done marks : List Item) (c : OpenCollection) (outer : List OpenCollection) (t : Item)
    → t.kind ≡ Closer
    → c.marks ≡ []
    → Histories done (opened marks (c ∷ outer))
    → Histories (done ++ (t ∷ [])) (with_form (form_of c t) marks outer)
Histories-closed done marks c [] t closes none all = Histories-none (done ++ (t ∷ [])) (still_waiting marks)
Histories-closed done marks c (d ∷ outer) t closes none all =
    Histories-closed_inside done marks c d outer t closes none all

-- ---- one token

pub same_step : (s t : Step) → (let r : Result Step Fault = Ok s in r ≡ Ok t) → s ≡ t
same_step s t e = cc

pub no_step : (f : Fault) (s : Step) → (let r : Result Step Fault = Err f in r ≡ Ok s) → ⊥
no_step f s e = cc

-- what gives no entries gives no operation
pub none_given : (o : PlacedOperation) (p : Open) (s : Step) → only_opens p ≡ s → In (operation o) s.entries → ⊥
none_given o p s same i = subst (λ (x : Step). In (operation o) x.entries) (sym same) i

pub went_on_if :
    (test : Bool) (o : Open) (f : Fault) (s : Step)
    → (let r : Result Step Fault = if test then Ok (only_opens o) else Err f in r ≡ Ok s)
    → only_opens o ≡ s
went_on_if true o f s e = same_step (only_opens o) s e
went_on_if false o f s e = absurd (no_step f s e)

pub went_on_unless :
    (test : Bool) (o : Open) (n : ℕ) (s : Step)
    → (let r : Result Step Fault = refuse_if test NotAMap n >>= λ _. Ok (only_opens o) in r ≡ Ok s)
    → only_opens o ≡ s
went_on_unless true o n s e = absurd (no_step _ s e)
went_on_unless false o n s e = same_step (only_opens o) s e

-- a closer that was taken: no mark waited, and these entries were given
pub record Closed (c : OpenCollection) (t : Item) (marks : List Item) (outer : List OpenCollection)
    (s : Step) : Type 0 where
  pub none_waits : c.marks ≡ []
  pub given : entries_at_close c t marks outer ≡ Ok s.entries
  pub after : s.after ≡ with_form (form_of c t) marks outer

closed_as :
    (c : OpenCollection) (t : Item) (marks : List Item) (outer : List OpenCollection) (s : Step)
    (waiting : List Item) (r : Result (List Entry) Fault)
    → c.marks ≡ waiting
    → entries_at_close c t marks outer ≡ r
    → closes_as (refuse_waiting waiting) r (with_form (form_of c t) marks outer) ≡ Ok s
    → Closed c t marks outer s
closed_as c t marks outer s [] (Ok entries) none given e =
    let is : step_of entries (with_form (form_of c t) marks outer) ≡ s =
    same_step (step_of entries (with_form (form_of c t) marks outer)) s e in
    record {
      none_waits = none;
      given = given ∙ ap (λ (x : Step). let g : Result (List Entry) Fault = Ok x.entries in g) is;
      after = sym (ap (λ (x : Step). x.after) is);
    }
closed_as c t marks outer s [] (Err f) none given e = absurd (no_step f s e)
closed_as c t marks outer s (w ∷ waiting) r none given e = absurd (no_step _ s e)

pub closed :
    (c : OpenCollection) (t : Item) (marks : List Item) (outer : List OpenCollection) (s : Step)
    → close t marks (c ∷ outer) ≡ Ok s
    → Closed c t marks outer s
closed c t marks outer s e = closed_as c t marks outer s c.marks (entries_at_close c t marks outer) refl refl e

Histories-by_closer :
    (done marks : List Item) (collections : List OpenCollection) (t : Item) (s : Step)
    → t.kind ≡ Closer
    → Histories done (opened marks collections)
    → close t marks collections ≡ Ok s
    → Histories (done ++ (t ∷ [])) s.after
Histories-by_closer done marks [] t s closes all e = absurd (no_step _ s e)
Histories-by_closer done marks (c ∷ outer) t s closes all e =
    let taken = closed c t marks outer s e in
    subst (Histories (done ++ (t ∷ []))) (sym taken.after)
    (Histories-closed done marks c outer t closes taken.none_waits all)

Histories-by_mark :
    (done marks : List Item) (collections : List OpenCollection) (t : Item)
    → (t.kind ≡ Tag) ⊎ (t.kind ≡ Drop)
    → Histories done (opened marks collections)
    → Histories (done ++ (t ∷ [])) (with_mark t marks collections)
Histories-by_mark done marks [] t is all = Histories-none (done ++ (t ∷ [])) (t ∷ marks)
Histories-by_mark done marks (c ∷ outer) t (inl is) all =
    Histories-changed done marks c outer c.members (t ∷ c.marks) t (ap is_token is)
    (λ k rest place. ap (λ kind. step_by kind (opened [] (map (collection_from k) (c ∷ rest))) (item_from k t)) is) all
Histories-by_mark done marks (c ∷ outer) t (inr is) all =
    Histories-changed done marks c outer c.members (t ∷ c.marks) t (ap is_token is)
    (λ k rest place. ap (λ kind. step_by kind (opened [] (map (collection_from k) (c ∷ rest))) (item_from k t)) is) all

-- a step with a token that stands alone
abbrev plain_step : Open → Item → Result Step Fault
plain_step o t =
    refuse_if (in_operation_place o) NotAMap t.start >>= λ _. Ok (only_opens (with_form (plain t) o.marks o.collections))

plain_changes :
    (t : Item) (c : OpenCollection)
    → ((o : Open) → (u : Item) → u.kind ≡ t.kind → step o u ≡ plain_step o u)
    → Changes t c (with_form_in (plain t) c)
plain_changes t c alone k rest place =
    let u = item_from k t in
    let outer = map (collection_from k) rest in
    alone (opened [] (map (collection_from k) (c ∷ rest))) u refl
    ∙ (ap (λ (b : Bool). refuse_if b NotAMap u.start >>= λ _. went_on (with_form_in (plain u) (collection_from k c) ∷ outer))
    place
    ∙ ap (λ (x : OpenCollection). went_on (x ∷ outer)) (with_form_in-moved (λ n. n - k) (plain t) c))

Histories-by_plain :
    (done marks : List Item) (collections : List OpenCollection) (t : Item)
    → is_token t.kind ≡ true
    → ((o : Open) → (u : Item) → u.kind ≡ t.kind → step o u ≡ plain_step o u)
    → Histories done (opened marks collections)
    → Histories (done ++ (t ∷ [])) (with_form (plain t) marks collections)
Histories-by_plain done marks [] t token alone all = Histories-none (done ++ (t ∷ [])) (still_waiting marks)
Histories-by_plain done marks (c ∷ outer) t token alone all =
    let d = with_form_in (plain t) c in
    Histories-changed done marks c outer d.members d.marks t token (plain_changes t c alone) all

pub Histories-step :
    (kind : ItemKind) (done : List Item) (o : Open) (t : Item) (s : Step)
    → t.kind ≡ kind
    → is_token kind ≡ true
    → Histories done o
    → step_by kind o t ≡ Ok s
    → Histories (done ++ (t ∷ [])) s.after
Histories-step Opener done o t s is token all e =
    subst (λ (x : Step). Histories (done ++ (t ∷ [])) x.after) (went_on_if (may_open o t) (with_opener t o) _ s e)
    (Histories-opened done o t is all)
Histories-step Closer done o t s is token all e = Histories-by_closer done o.marks o.collections t s is all e
Histories-step Tag done o t s is token all e =
    subst (λ (x : Step). Histories (done ++ (t ∷ [])) x.after)
    (same_step (only_opens (with_mark t o.marks o.collections)) s e)
    (Histories-by_mark done o.marks o.collections t (inl is) all)
Histories-step Drop done o t s is token all e =
    subst (λ (x : Step). Histories (done ++ (t ∷ [])) x.after)
    (same_step (only_opens (with_mark t o.marks o.collections)) s e)
    (Histories-by_mark done o.marks o.collections t (inr is) all)
Histories-step kind done o t s is token all e =
    subst (λ (x : Step). Histories (done ++ (t ∷ [])) x.after)
    (went_on_unless (in_operation_place o) (with_form (plain t) o.marks o.collections) t.start s e)
    (Histories-by_plain done o.marks o.collections t (ap is_token is ∙ token)
    (λ p u same. ap (λ x. step_by x p u) (same ∙ is)) all)
