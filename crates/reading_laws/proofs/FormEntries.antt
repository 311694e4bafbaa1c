-- A text without a fault reads as the entries that its forms give.
use Rattle.std.proofs.Common.{◌≡◌, ℕ, List, [], ◌∷◌, ◌++◌, map, Bool, true, false, not, ◌&&◌, ◌||◌, if◌then◌else◌, Option, Some, None, option_map, Result, Ok, Err, refl, sym, ◌∙◌, ap, subst, append_assoc}
use Rattle.std.specs.Prelude.{flat_map, bytes_eq, nat_eq}
use Rattle.std.specs.Result.{result_ok}
use Rattle.std.proofs.lemmas.Bool.{and_parts, eqb-true}
use Rattle.std.proofs.lemmas.List.{append-nil}
use Rattle.std.proofs.lemmas.List.Concat.{flat_map_single}
use Rattle.std.proofs.lemmas.Option.{none-some, same_Some}
use Rattle.hist_types.specs.Entries.{Entry, entry_of, ◌>>=◌}
use Rattle.hist_types.specs.Forms.{Form, plain, collection, tagged, Forms, forms_of, list_of, OpenCollection, Open, is_map, is_vector_or_list, is_drop_kind, is_drop, has_drop, still_waiting, with_form, with_mark, with_opener, waiting}
use Rattle.reading_laws.specs.Nesting.{AreForms, nothing, alone, nested, with_tag, without, open_after_all, with_forms, entry_by_form, entries_by_form, IsOfForms}
use Rattle.hist_types.specs.Reading.{Reading, is_operation_place, in_operation_place, may_open, at_top, Step, only_opens, step_by, step, fault_at_end, refuse_unfinished, ending_fault, after_entries, and_then_read, reading_from, nothing_open, Reads}
use Rattle.hist_types.specs.Tokens.{Item, Opener, Closer, HasTokens}
use Rattle.hist_types.specs.declared.types.Fault.{Fault}
use Rattle.reading_laws.proofs.MovedSteps.{open_collection}
use Rattle.reading_laws.proofs.MovedReading.{Runs, opened, closes_as}
use Rattle.reading_laws.proofs.Nesting.{settle, IsInside, inside_opener, step-plain, step-plain_refused, step-opener, step-opener_refused, given_if, step-closer, Runs-collection, runs_inside, with_forms-members, form_after_tag, form_left_out, are_forms}

-- ---- entries that are all there

abbrev one_more : {A : Type 0} → Option A → Option (List A) → Option (List A)
one_more None rest = None
one_more (Some x) rest = option_map (λ xs. x ∷ xs) rest

-- the values, where each is there
abbrev pub all_some : {A : Type 0} → List (Option A) → Option (List A)
all_some [] = Some []
all_some (o ∷ os) = one_more o (all_some os)

abbrev both : {A : Type 0} → Option (List A) → Option (List A) → Option (List A)
both None ys = None
both (Some xs) ys = option_map (λ zs. xs ++ zs) ys

option_map-same : {A : Type 0} (o : Option A) → option_map (λ (x : A). x) o ≡ o
option_map-same None = refl
option_map-same (Some x) = refl

one_more-both : {A : Type 0} (o : Option A) (xs ys : Option (List A)) → one_more o (both xs ys) ≡ both (one_more o xs) ys
one_more-both None xs ys = refl
one_more-both (Some x) None ys = refl
one_more-both (Some x) (Some xs) None = refl
one_more-both (Some x) (Some xs) (Some ys) = refl

all_some-append : {A : Type 0} (xs ys : List (Option A)) → all_some (xs ++ ys) ≡ both (all_some xs) (all_some ys)
all_some-append [] ys = sym (option_map-same (all_some ys))
all_some-append (o ∷ os) ys = ap (one_more o) (all_some-append os ys) ∙ one_more-both o (all_some os) (all_some ys)

both-none : {A : Type 0} (o : Option (List A)) → both o (Some []) ≡ o
both-none None = refl
both-none (Some xs) = ap (λ ys. Some ys) (append-nil xs)

pub all_some-map : {A : Type 0} (xs : List A) → all_some (map (λ x. Some x) xs) ≡ Some xs
all_some-map [] = refl
all_some-map (x ∷ xs) = ap (option_map (λ ys. x ∷ ys)) (all_some-map xs)

map-all_some : {A : Type 0} (os : List (Option A)) (xs : List A) → all_some os ≡ Some xs → os ≡ map (λ x. Some x) xs
map-all_some [] xs e = ap (map (λ x. Some x)) (same_Some [] xs e)
map-all_some (None ∷ os) xs e = absurd (none-some xs e)
map-all_some {A} (Some x ∷ os) xs e = by (all_some os) (λ ys same. map-all_some os ys same) e
  where
    by :
        (r : Option (List A))
        → ((ys : List A) → r ≡ Some ys → os ≡ map (λ y. Some y) ys)
        → option_map (λ ys. x ∷ ys) r ≡ Some xs
        → (Some x ∷ os) ≡ map (λ y. Some y) xs
    by None later h = absurd (none-some xs h)
    by (Some ys) later h = ap (λ zs. Some x ∷ zs) (later ys refl) ∙ ap (map (λ y. Some y)) (same_Some (x ∷ ys) xs h)

-- ---- what tokens give

abbrev pub prefix : List Entry → List Entry × Open → List Entry × Open
prefix es p = (es ++ p.0, p.1)

abbrev pub run_after : Result Step Fault → (Open → Option (List Entry × Open)) → Option (List Entry × Open)
run_after (Ok s) next = option_map (prefix s.entries) (next s.after)
run_after (Err f) next = None

-- the entries that tokens give and what is then open, if they are read without a fault
abbrev pub run : Open → List Item → Option (List Entry × Open)
run o [] = Some ([], o)
run o (t ∷ ts) = run_after (step o t) (λ after. run after ts)

abbrev and_run : Option (List Entry × Open) → List Item → Option (List Entry × Open)
and_run None ts = None
and_run (Some r) ts = option_map (prefix r.0) (run r.1 ts)

abbrev pub give : Option (List Entry) → Open → Option (List Entry × Open)
give None o = None
give (Some es) o = Some (es, o)

prefix-twice :
    (es fs : List Entry) (o : Option (List Entry × Open))
    → option_map (prefix es) (option_map (prefix fs) o)
    ≡ option_map (prefix (es ++ fs)) o
prefix-twice es fs None = refl
prefix-twice es fs (Some p) = ap (λ xs. Some (xs, p.1)) (sym (append_assoc es fs p.0))

nothing_before : (o : Option (List Entry × Open)) → option_map (prefix []) o ≡ o
nothing_before None = refl
nothing_before (Some p) = refl

and_run-prefix :
    (es : List Entry) (o : Option (List Entry × Open)) (us : List Item)
    → option_map (prefix es) (and_run o us) ≡ and_run (option_map (prefix es) o) us
and_run-prefix es None us = refl
and_run-prefix es (Some r) us = prefix-twice es r.0 (run r.1 us)

run-append : (ts us : List Item) (o : Open) → run o (ts ++ us) ≡ and_run (run o ts) us
run-append [] us o = sym (nothing_before (run o us))
run-append (t ∷ ts) us o = by (step o t) (λ q. run-append ts us q)
  where
    by :
        (r : Result Step Fault)
        → ((q : Open) → run q (ts ++ us) ≡ and_run (run q ts) us)
        → run_after r (λ after. run after (ts ++ us)) ≡ and_run (run_after r (λ after. run after ts)) us
    by (Err f) later = refl
    by (Ok s) later =
        ap (option_map (prefix s.entries)) (later s.after)
        ∙ and_run-prefix s.entries (run s.after ts) us

run-goes : (o q : Open) (t : Item) (ts : List Item) → step o t ≡ Ok (only_opens q) → run o (t ∷ ts) ≡ run q ts
run-goes o q t ts e = ap (λ r. run_after r (λ after. run after ts)) e ∙ nothing_before (run q ts)

run-fails : (o : Open) (t : Item) (ts : List Item) (f : Fault) → step o t ≡ Err f → run o (t ∷ ts) ≡ None
run-fails o t ts f e = ap (λ r. run_after r (λ after. run after ts)) e

run-Runs : (ts : List Item) (o p : Open) → Runs o ts p → run o ts ≡ Some ([], p)
run-Runs [] o p same = ap (λ x. Some ([], x)) same
run-Runs (t ∷ ts) o p runs = run-goes o runs.0 t ts runs.1 ∙ run-Runs ts runs.0 p runs.2

and_run-give :
    (a b : Option (List Entry)) (q p : Open) (us : List Item)
    → run q us ≡ give b p
    → and_run (give a q) us ≡ give (both a b) p
and_run-give None b q p us e = refl
and_run-give (Some es) b q p us e = ap (option_map (prefix es)) e ∙ by b
  where
    by : (c : Option (List Entry)) → option_map (prefix es) (give c p) ≡ give (option_map (λ fs. es ++ fs) c) p
    by None = refl
    by (Some fs) = refl

-- ---- marks

abbrev tags_on : List Item → Form → Form
tags_on [] f = f
tags_on (m ∷ ms) f = tags_on ms (tagged m f)

settle-out :
    (marks : List Item) (f : Form) (fs : List Form)
    → has_drop marks ≡ true
    → settle marks (f ∷ fs) ≡ settle (still_waiting marks) fs
settle-out [] f fs e = absurd (let no : false ≡ true = e in cc)
settle-out (m ∷ ms) f fs e = by (is_drop m) (λ later. settle-out ms (tagged m f) fs later) e
  where
    by :
        (drops : Bool)
        → (has_drop ms ≡ true → settle ms (tagged m f ∷ fs) ≡ settle (still_waiting ms) fs)
        → (drops || has_drop ms) ≡ true
        → settle ms (if drops then fs else tagged m f ∷ fs) ≡ settle (if drops then ms else still_waiting ms) fs
    by true later h = refl
    by false later h = later h

settle-in :
    (marks : List Item) (f : Form) (fs : List Form)
    → has_drop marks ≡ false
    → settle marks (f ∷ fs) ≡ Some (tags_on marks f ∷ fs)
settle-in [] f fs e = refl
settle-in (m ∷ ms) f fs e = by (is_drop m) (λ later. settle-in ms (tagged m f) fs later) e
  where
    by :
        (drops : Bool)
        → (has_drop ms ≡ false → settle ms (tagged m f ∷ fs) ≡ Some (tags_on ms (tagged m f) ∷ fs))
        → (drops || has_drop ms) ≡ false
        → settle ms (if drops then fs else tagged m f ∷ fs) ≡ Some (tags_on ms (tagged m f) ∷ fs)
    by true later h = absurd (let no : true ≡ false = h in cc)
    by false later h = later h

still-none : (marks : List Item) → has_drop marks ≡ false → still_waiting marks ≡ []
still-none [] e = refl
still-none (m ∷ ms) e = by (is_drop m) (λ later. still-none ms later) e
  where
    by :
        (drops : Bool)
        → (has_drop ms ≡ false → still_waiting ms ≡ [])
        → (drops || has_drop ms) ≡ false
        → (if drops then ms else still_waiting ms) ≡ []
    by true later h = absurd (let no : true ≡ false = h in cc)
    by false later h = later h

-- ---- where operations may be

-- the top level, and a vector or list there that no mark leaves out
abbrev MayHold : List Item → List OpenCollection → Type 0
MayHold marks [] = Unit {0}
MayHold marks (c ∷ []) = (is_vector_or_list c.opener ≡ true) × (has_drop marks ≡ false)
MayHold marks (c ∷ d ∷ outer) = ⊥

-- what a form gives there
abbrev gives : List OpenCollection → Form → List (Option Entry)
gives [] f = entries_by_form f
gives (c ∷ outer) f = entry_by_form f ∷ []

entries_by_form-tags : (marks : List Item) (f : Form) → entries_by_form (tags_on marks f) ≡ entries_by_form f
entries_by_form-tags [] f = refl
entries_by_form-tags (m ∷ ms) f = entries_by_form-tags ms (tagged m f)

entry_by_form-tags : (marks : List Item) (f : Form) → entry_by_form (tags_on marks f) ≡ entry_by_form f
entry_by_form-tags [] f = refl
entry_by_form-tags (m ∷ ms) f = entry_by_form-tags ms (tagged m f)

gives-tags :
    (collections : List OpenCollection) (marks : List Item) (f : Form)
    → gives collections (tags_on marks f) ≡ gives collections f
gives-tags [] marks f = entries_by_form-tags marks f
gives-tags (c ∷ outer) marks f = ap (λ x. x ∷ []) (entry_by_form-tags marks f)

place-hold :
    (marks : List Item) (collections : List OpenCollection)
    → MayHold marks collections
    → is_operation_place marks collections ≡ not (has_drop (waiting marks collections))
place-hold marks [] may = refl
place-hold marks (c ∷ []) may =
    ap (λ b. b && not (has_drop marks) && not (has_drop c.marks)) may.0
    ∙ ap (λ b. not b && not (has_drop c.marks)) may.1
place-hold marks (c ∷ d ∷ outer) may = absurd may

-- what a form or a mark leaves of this
pub record Stays (marks : List Item) (collections : List OpenCollection) (o : Open) (still : List Item) : Type 0 where
  pub may : MayHold o.marks o.collections
  pub waits : waiting o.marks o.collections ≡ still
  pub gives_same : gives o.collections ≡ gives collections

stays-form :
    (f : Form) (marks : List Item) (collections : List OpenCollection)
    → MayHold marks collections
    → Stays marks collections (with_form f marks collections) (still_waiting (waiting marks collections))
stays-form f marks [] may = record { may = tt; waits = refl; gives_same = refl }
stays-form f marks (c ∷ []) may = record { may = may; waits = refl; gives_same = refl }
stays-form f marks (c ∷ d ∷ outer) may = absurd may

stays-mark :
    (t : Item) (marks : List Item) (collections : List OpenCollection)
    → MayHold marks collections
    → Stays marks collections (with_mark t marks collections) (t ∷ waiting marks collections)
stays-mark t marks [] may = record { may = tt; waits = refl; gives_same = refl }
stays-mark t marks (c ∷ []) may = record { may = may; waits = refl; gives_same = refl }
stays-mark t marks (c ∷ d ∷ outer) may = absurd may

list_of-forms_of : (fs : List Form) → list_of (forms_of fs) ≡ fs
list_of-forms_of [] = refl
list_of-forms_of (f ∷ fs) = ap (λ gs. f ∷ gs) (list_of-forms_of fs)

map_no_row : (opener : Item) → is_map opener ≡ true → is_vector_or_list opener ≡ false
map_no_row opener e = by opener.bytes e
  where
    by : (bytes : List ℕ) → bytes_eq bytes (123 ∷ []) ≡ true → (bytes_eq bytes (91 ∷ []) || bytes_eq bytes (40 ∷ [])) ≡ false
    by [] h = absurd (let no : false ≡ true = h in cc)
    by (b ∷ bytes) h =
        let is : b ≡ 123 = eqb-true b 123 (and_parts (nat_eq b 123) (bytes_eq bytes []) h).0 in
        ap (λ x. (nat_eq x 91 && bytes_eq bytes []) || (nat_eq x 40 && bytes_eq bytes [])) is

-- ---- a collection in an operation's place

closer-quiet :
    (opener closer : Item) (members : List Form) (marks : List Item) (outer : List OpenCollection)
    → closer.kind ≡ Closer
    → is_map opener ≡ false
    → run (opened marks (open_collection opener members [] ∷ outer)) (closer ∷ [])
    ≡ give (Some []) (with_form (collection opener closer (forms_of members)) marks outer)
closer-quiet opener closer members marks outer closes other =
    run-goes _ (with_form (collection opener closer (forms_of members)) marks outer) closer []
    (step-closer opener closer members marks outer false closes (ap (λ b. b && is_operation_place marks outer) other))

closer-map :
    (opener closer : Item) (members : List Form) (marks : List Item) (outer : List OpenCollection)
    → closer.kind ≡ Closer
    → is_map opener ≡ true
    → is_operation_place marks outer ≡ true
    → run (opened marks (open_collection opener members [] ∷ outer)) (closer ∷ [])
    ≡ give (all_some (result_ok (entry_of opener closer members) ∷ []))
    (with_form (collection opener closer (forms_of members)) marks outer)
closer-map opener closer members marks outer closes is place =
    let after = with_form (collection opener closer (forms_of members)) marks outer in
    ap (λ r. run_after r (λ q. run q []))
    (step-closer opener closer members marks outer true closes
    (ap (λ b. b && is_operation_place marks outer) is ∙ ap (λ b. true && b) place))
    ∙ by (entry_of opener closer members) after
  where
    by :
        (r : Result Entry Fault) (after : Open)
        → run_after (closes_as (Ok tt) (given_if true r) after) (λ q. run q []) ≡ give (all_some (result_ok r ∷ [])) after
    by (Ok entry) after = refl
    by (Err f) after = refl

-- what tokens after an opener give, once its closer comes
collection-run :
    (opener closer : Item) (between : List Item) (members : List Form) (o : Open) (inner last : Option (List Entry))
    → opener.kind ≡ Opener
    → may_open o opener ≡ true
    → run (with_opener opener o) between ≡ give inner (with_forms members (with_opener opener o))
    → run (opened o.marks (open_collection opener members [] ∷ o.collections)) (closer ∷ [])
    ≡ give last (with_form (collection opener closer (forms_of members)) o.marks o.collections)
    → run o (opener ∷ (between ++ (closer ∷ [])))
    ≡ give (both inner last) (with_form (collection opener closer (forms_of members)) o.marks o.collections)
collection-run opener closer between members o inner last opens may first rest =
    let q = opened o.marks (open_collection opener members [] ∷ o.collections) in
    run-goes o (with_opener opener o) opener (between ++ (closer ∷ [])) (step-opener o opener opens may)
    ∙ (run-append between (closer ∷ []) (with_opener opener o)
    ∙ (ap (λ r. and_run r (closer ∷ [])) (first ∙ ap (give inner) (with_forms-members members opener [] o.marks o.collections))
    ∙ and_run-give inner last q _ (closer ∷ []) rest))

may_open-map : (o : Open) (t : Item) → in_operation_place o ≡ true → is_map t ≡ true → may_open o t ≡ true
may_open-map o t place is = rw (place, is) refl

may_open-row :
    (marks : List Item) (t : Item) → is_vector_or_list t ≡ true → may_open (opened marks []) t ≡ true
may_open-row marks t is = by (not (has_drop marks)) (is_map t) (is_vector_or_list t) is
  where
    by : (a b c : Bool) → c ≡ true → (not a || b || (true && c)) ≡ true
    by true true c e = refl
    by true false c e = e
    by false true c e = refl
    by false false c e = refl

may_open-none :
    (marks : List Item) (collections : List OpenCollection) (t : Item)
    → is_operation_place marks collections ≡ true
    → is_map t ≡ false
    → (at_top collections && is_vector_or_list t) ≡ false
    → may_open (opened marks collections) t ≡ false
may_open-none marks collections t place other none = rw (place, other) none

gives-map_inside :
    (opener closer : Item) (members : List Form)
    → is_map opener ≡ true
    → (entry_by_form (collection opener closer (forms_of members)) ∷ []) ≡ result_ok (entry_of opener closer members) ∷ []
gives-map_inside opener closer members is =
    ap (λ (b : Bool). (if b then result_ok (entry_of opener closer (list_of (forms_of members))) else None) ∷ []) is
    ∙ ap (λ fs. result_ok (entry_of opener closer fs) ∷ []) (list_of-forms_of members)

gives-map :
    (collections : List OpenCollection) (opener closer : Item) (members : List Form)
    → is_map opener ≡ true
    → gives collections (collection opener closer (forms_of members)) ≡ result_ok (entry_of opener closer members) ∷ []
gives-map [] opener closer members is =
    ap (λ (b : Bool). if b then map entry_by_form (list_of (forms_of members)) else entry_by_form (collection opener closer (forms_of members)) ∷ [])
    (map_no_row opener is)
    ∙ gives-map_inside opener closer members is
gives-map (c ∷ outer) opener closer members is = gives-map_inside opener closer members is

gives-other :
    (c : OpenCollection) (outer : List OpenCollection) (opener closer : Item) (members : Forms)
    → is_map opener ≡ false
    → gives (c ∷ outer) (collection opener closer members) ≡ None ∷ []
gives-other c outer opener closer members other =
    ap (λ (b : Bool). (if b then result_ok (entry_of opener closer (list_of members)) else None) ∷ []) other

gives-row :
    (opener closer : Item) (members : List Form)
    → is_vector_or_list opener ≡ true
    → gives [] (collection opener closer (forms_of members)) ≡ map entry_by_form members
gives-row opener closer members row =
    ap (λ (b : Bool). if b then map entry_by_form (list_of (forms_of members)) else entry_by_form (collection opener closer (forms_of members)) ∷ []) row
    ∙ ap (map entry_by_form) (list_of-forms_of members)

gives-set :
    (opener closer : Item) (members : Forms)
    → is_map opener ≡ false
    → is_vector_or_list opener ≡ false
    → gives [] (collection opener closer members) ≡ None ∷ []
gives-set opener closer members other set =
    ap (λ (b : Bool). if b then map entry_by_form (list_of members) else entry_by_form (collection opener closer members) ∷ []) set
    ∙ ap (λ (b : Bool). (if b then result_ok (entry_of opener closer (list_of members)) else None) ∷ []) other

-- what tokens give there that are forms
abbrev GivesThere : List Item → List Form → Open → Type 0
GivesThere tokens fs o =
    (gs : List Form)
    → settle (waiting o.marks o.collections) fs ≡ Some gs
    → run o tokens ≡ give (all_some (flat_map (gives o.collections) gs)) (with_forms fs o)

-- wherever operations may be, tokens give what the forms give
abbrev GivesAll : List Item → List Form → Type 0
GivesAll tokens fs = (o : Open) → MayHold o.marks o.collections → GivesThere tokens fs o

-- the tokens of one collection give what it gives
abbrev GivesForm : List Item → Form → Open → Type 0
GivesForm tokens f o = run o tokens ≡ give (all_some (gives o.collections f)) (with_form f o.marks o.collections)

map-collection :
    (opener closer : Item) (between : List Item) (members : List Form) (o : Open)
    → opener.kind ≡ Opener
    → closer.kind ≡ Closer
    → in_operation_place o ≡ true
    → is_map opener ≡ true
    → IsInside o.marks (open_collection opener [] [] ∷ o.collections)
    → AreForms between members
    → GivesForm (opener ∷ (between ++ (closer ∷ []))) (collection opener closer (forms_of members)) o
map-collection opener closer between members o opens closes place is inside inner =
    let found = all_some (result_ok (entry_of opener closer members) ∷ []) in
    let after = with_form (collection opener closer (forms_of members)) o.marks o.collections in
    collection-run opener closer between members o (Some []) found opens (may_open-map o opener place is)
    (run-Runs between (with_opener opener o) _ (runs_inside between members inner (with_opener opener o) inside))
    (closer-map opener closer members o.marks o.collections closes is place)
    ∙ (ap (λ x. give x after) (option_map-same found)
    ∙ ap (λ x. give (all_some x) after) (sym (gives-map o.collections opener closer members is)))

inside_map :
    (opener : Item) (marks : List Item) (collections : List OpenCollection)
    → is_map opener ≡ true
    → IsInside marks (open_collection opener [] [] ∷ collections)
inside_map opener marks [] is = ap (λ b. b && not (has_drop marks)) (map_no_row opener is)
inside_map opener marks (c ∷ outer) is = tt

row-collection :
    (opener closer : Item) (between : List Item) (members : List Form) (marks : List Item)
    → opener.kind ≡ Opener
    → closer.kind ≡ Closer
    → has_drop marks ≡ false
    → is_map opener ≡ false
    → is_vector_or_list opener ≡ true
    → GivesAll between members
    → GivesForm (opener ∷ (between ++ (closer ∷ []))) (collection opener closer (forms_of members)) (opened marks [])
row-collection opener closer between members marks opens closes kept other row inner =
    let o = opened marks [] in
    let after = with_form (collection opener closer (forms_of members)) marks [] in
    let found = all_some (flat_map (λ (f : Form). entry_by_form f ∷ []) members) in
    collection-run opener closer between members o found (Some []) opens (may_open-row marks opener row)
    (inner (with_opener opener o) (row, kept) members refl)
    (closer-quiet opener closer members marks [] closes other)
    ∙ (ap (λ x. give x after) (both-none found)
    ∙ (ap (λ x. give (all_some x) after) (flat_map_single entry_by_form members)
    ∙ ap (λ x. give (all_some x) after) (sym (gives-row opener closer members row))))

refused-collection :
    (opener closer : Item) (tokens : List Item) (f : Form) (o : Open)
    → opener.kind ≡ Opener
    → may_open o opener ≡ false
    → gives o.collections f ≡ None ∷ []
    → GivesForm (opener ∷ tokens) f o
refused-collection opener closer tokens f o opens may none =
    run-fails o opener tokens _ (step-opener_refused o opener opens may)
    ∙ ap (λ x. give (all_some x) (with_form f o.marks o.collections)) (sym none)

one-collection :
    (opener closer : Item) (between : List Item) (members : List Form) (marks : List Item) (collections : List OpenCollection)
    (is row : Bool)
    → is_map opener ≡ is
    → is_vector_or_list opener ≡ row
    → opener.kind ≡ Opener
    → closer.kind ≡ Closer
    → MayHold marks collections
    → has_drop (waiting marks collections) ≡ false
    → AreForms between members
    → GivesAll between members
    → GivesForm (opener ∷ (between ++ (closer ∷ []))) (collection opener closer (forms_of members)) (opened marks collections)
one-collection opener closer between members marks collections true row is same opens closes may kept are inner =
    map-collection opener closer between members (opened marks collections) opens closes
    (place-hold marks collections may ∙ ap not kept) is (inside_map opener marks collections is) are
one-collection opener closer between members marks [] false true other row opens closes may kept are inner =
    row-collection opener closer between members marks opens closes kept other row inner
one-collection opener closer between members marks [] false false other set opens closes may kept are inner =
    refused-collection opener closer (between ++ (closer ∷ [])) (collection opener closer (forms_of members)) (opened marks []) opens
    (may_open-none marks [] opener (place-hold marks [] may ∙ ap not kept) other set)
    (gives-set opener closer (forms_of members) other set)
one-collection opener closer between members marks (c ∷ outer) false row other same opens closes may kept are inner =
    refused-collection opener closer (between ++ (closer ∷ [])) (collection opener closer (forms_of members)) (opened marks (c ∷ outer)) opens
    (may_open-none marks (c ∷ outer) opener (place-hold marks (c ∷ outer) may ∙ ap not kept) other refl)
    (gives-other c outer opener closer (forms_of members) other)

-- ---- a row of forms

-- one form, by whether a mark leaves it out, and the others after it
form_then :
    (us rest : List Item) (f : Form) (fs : List Form) (o : Open) (out : Bool)
    → has_drop (waiting o.marks o.collections) ≡ out
    → MayHold o.marks o.collections
    → (has_drop (waiting o.marks o.collections) ≡ true → Runs o us (with_form f o.marks o.collections))
    → (has_drop (waiting o.marks o.collections) ≡ false → GivesForm us f o)
    → GivesAll rest fs
    → GivesThere (us ++ rest) (f ∷ fs) o
form_then us rest f fs o true out may quiet loud next gs e =
    let ws = waiting o.marks o.collections in
    let q = with_form f o.marks o.collections in
    let st = stays-form f o.marks o.collections may in
    let later : settle (waiting q.marks q.collections) fs ≡ Some gs =
    ap (λ xs. settle xs fs) st.waits ∙ (sym (settle-out ws f fs out) ∙ e) in
    run-append us rest o
    ∙ (ap (λ r. and_run r rest) (run-Runs us o q (quiet out))
    ∙ (nothing_before (run q rest)
    ∙ (next q st.may gs later
    ∙ ap (λ (g : Form → List (Option Entry)). give (all_some (flat_map g gs)) (with_forms fs q)) st.gives_same)))
form_then us rest f fs o false out may quiet loud next gs e =
    let ws = waiting o.marks o.collections in
    let q = with_form f o.marks o.collections in
    let p = with_forms fs q in
    let g = gives o.collections in
    let st = stays-form f o.marks o.collections may in
    let same : (tags_on ws f ∷ fs) ≡ gs = same_Some (tags_on ws f ∷ fs) gs (sym (settle-in ws f fs out) ∙ e) in
    let none : settle (waiting q.marks q.collections) fs ≡ Some fs =
    ap (λ xs. settle xs fs) (st.waits ∙ still-none ws out) in
    let later : run q rest ≡ give (all_some (flat_map g fs)) p =
    next q st.may fs none
    ∙ ap (λ (h : Form → List (Option Entry)). give (all_some (flat_map h fs)) p) st.gives_same in
    run-append us rest o
    ∙ (ap (λ r. and_run r rest) (loud out)
    ∙ (and_run-give (all_some (g f)) (all_some (flat_map g fs)) q p rest later
    ∙ (ap (λ x. give x p) (sym (all_some-append (g f) (flat_map g fs)))
    ∙ (ap (λ x. give (all_some (x ++ flat_map g fs)) p) (sym (gives-tags o.collections ws f))
    ∙ ap (λ xs. give (all_some (flat_map g xs)) p) same))))

settle-nothing : (marks : List Item) (gs : List Form) → settle marks [] ≡ Some gs → [] ≡ gs
settle-nothing [] gs e = same_Some [] gs e
settle-nothing (m ∷ ms) gs e = absurd (none-some gs e)

gives-plain : (collections : List OpenCollection) (t : Item) → gives collections (plain t) ≡ None ∷ []
gives-plain [] t = refl
gives-plain (c ∷ outer) t = refl

-- a mark, and the forms after it
mark_then :
    (mark : Item) (rest : List Item) (first : Form) (forms fs : List Form) (o : Open)
    → step o mark ≡ Ok (only_opens (with_mark mark o.marks o.collections))
    → with_forms (first ∷ forms) (with_mark mark o.marks o.collections) ≡ with_forms fs o
    → (if is_drop mark then forms else tagged mark first ∷ forms) ≡ fs
    → MayHold o.marks o.collections
    → GivesAll rest (first ∷ forms)
    → GivesThere (mark ∷ rest) fs o
mark_then mark rest first forms fs o goes act same may next gs e =
    let q = with_mark mark o.marks o.collections in
    let st = stays-mark mark o.marks o.collections may in
    let later : settle (waiting q.marks q.collections) (first ∷ forms) ≡ Some gs =
    ap (λ xs. settle xs (first ∷ forms)) st.waits ∙ (ap (settle (waiting o.marks o.collections)) same ∙ e) in
    run-goes o q mark rest goes
    ∙ (next q st.may gs later
    ∙ (ap (λ (h : Form → List (Option Entry)). give (all_some (flat_map h gs)) (with_forms (first ∷ forms) q)) st.gives_same
    ∙ ap (give (all_some (flat_map (gives o.collections) gs))) act))

gives_all : (tokens : List Item) (fs : List Form) → AreForms tokens fs → GivesAll tokens fs
gives_all _ _ nothing o may =
    λ gs e. ap (λ (xs : List Form). give (all_some (flat_map (gives o.collections) xs)) o)
    (settle-nothing (waiting o.marks o.collections) gs e)
gives_all _ _ (alone t rest forms h more) o may =
    let place = place-hold o.marks o.collections may in
    form_then (t ∷ []) rest (plain t) forms o (has_drop (waiting o.marks o.collections)) refl may
    (λ out. (with_form (plain t) o.marks o.collections, step-plain o t h (place ∙ ap not out), refl))
    (λ kept. run-fails o t [] _ (step-plain_refused o t h (place ∙ ap not kept))
    ∙ ap (λ x. give (all_some x) (with_form (plain t) o.marks o.collections)) (sym (gives-plain o.collections t)))
    (gives_all rest forms more)
gives_all _ _ (nested opener closer between rest members forms opens closes inner more) o may =
    let f = collection opener closer (forms_of members) in
    let place = place-hold o.marks o.collections may in
    subst (λ ts. GivesThere (opener ∷ ts) (f ∷ forms) o) (append_assoc between (closer ∷ []) rest)
    (form_then (opener ∷ (between ++ (closer ∷ []))) rest f forms o (has_drop (waiting o.marks o.collections)) refl may
    (λ out. Runs-collection opener closer between members o opens closes (place ∙ ap not out)
    (runs_inside between members inner (with_opener opener o)
    (inside_opener (open_collection opener [] []) o.marks o.collections (place ∙ ap not out))))
    (λ kept. one-collection opener closer between members o.marks o.collections (is_map opener)
    (is_vector_or_list opener) refl refl opens closes may kept inner (gives_all between members inner))
    (gives_all rest forms more))
gives_all _ _ (with_tag tag rest f forms is more) o may =
    mark_then tag rest f forms (tagged tag f ∷ forms) o (ap (λ kind. step_by kind o tag) is)
    (ap (with_forms forms) (form_after_tag o.marks o.collections tag f is))
    (ap (λ (b : Bool). if b then forms else tagged tag f ∷ forms) (ap is_drop_kind is)) may
    (gives_all rest (f ∷ forms) more)
gives_all _ _ (without drop rest f forms is more) o may =
    mark_then drop rest f forms forms o (ap (λ kind. step_by kind o drop) is)
    (ap (with_forms forms) (form_left_out o.marks o.collections drop f is))
    (ap (λ (b : Bool). if b then forms else tagged drop f ∷ forms) (ap is_drop_kind is)) may
    (gives_all rest (f ∷ forms) more)

-- ---- a whole text

with_forms-nothing : (fs : List Form) → with_forms fs nothing_open ≡ nothing_open
with_forms-nothing [] = refl
with_forms-nothing (f ∷ fs) = with_forms-nothing fs

-- what tokens that are forms give from where a text begins
pub run-forms :
    (tokens : List Item) (fs : List Form)
    → AreForms tokens fs
    → run nothing_open tokens ≡ give (all_some (flat_map entries_by_form fs)) nothing_open
run-forms tokens fs are =
    gives_all tokens fs are nothing_open tt fs refl
    ∙ ap (give (all_some (flat_map entries_by_form fs))) (with_forms-nothing fs)

abbrev pub faultless : List Entry → Reading
faultless entries = record { entries = entries; fault = None }

pub reading-run :
    (ts : List Item) (o p : Open) (es : List Entry)
    → run o ts ≡ Some (es, p)
    → fault_at_end p ≡ None
    → reading_from o ts None ≡ faultless es
reading-run [] o p es e ends =
    let same : ([], o) ≡ (es, p) = same_Some ([], o) (es, p) e in
    ap (λ (x : Open). let r : Reading = record { entries = []; fault = fault_at_end x } in r) (ap (λ (x : List Entry × Open). x.1) same)
    ∙ (ap (λ (f : Option Fault). let r : Reading = record { entries = []; fault = f } in r) ends
    ∙ ap (λ (x : List Entry × Open). faultless x.0) same)
reading-run (t ∷ ts) o p es e ends = by (step o t) (λ q fs later. reading-run ts q p fs later ends) e
  where
    by_rest :
        (s : Step) (r : Option (List Entry × Open))
        → ((fs : List Entry) → r ≡ Some (fs, p) → reading_from s.after ts None ≡ faultless fs)
        → option_map (prefix s.entries) r ≡ Some (es, p)
        → after_entries s.entries (reading_from s.after ts None) ≡ faultless es
    by_rest s None later h = absurd (none-some (es, p) h)
    by_rest s (Some x) later h =
        let same : (s.entries ++ x.0, x.1) ≡ (es, p) = same_Some (s.entries ++ x.0, x.1) (es, p) h in
        ap (after_entries s.entries)
        (later x.0 (ap (λ (q : Open). Some (x.0, q)) (ap (λ (y : List Entry × Open). y.1) same)))
        ∙ ap (λ (y : List Entry × Open). faultless y.0) same

    by :
        (r : Result Step Fault)
        → ((q : Open) (fs : List Entry) → run q ts ≡ Some (fs, p) → reading_from q ts None ≡ faultless fs)
        → run_after r (λ after. run after ts) ≡ Some (es, p)
        → and_then_read r (λ after. reading_from after ts None) ≡ faultless es
    by (Err f) later h = absurd (none-some (es, p) h)
    by (Ok s) later h = by_rest s (run s.after ts) (later s.after) h

-- what a reading without a fault gave, and what was open at its end
record Ran (o : Open) (ts : List Item) (ending : Option Fault) (es : List Entry) : Type 0 where
  pub p : Open
  pub run_is : run o ts ≡ Some (es, p)
  pub open_is : open_after_all o ts ≡ Ok p
  pub ends : ending_fault ending p ≡ None

ran :
    (ts : List Item) (o : Open) (ending : Option Fault) (es : List Entry)
    → reading_from o ts ending ≡ faultless es
    → Ran o ts ending es
ran [] o ending es e =
    record {
      p = o;
      run_is = ap (λ (r : Reading). Some (r.entries, o)) e;
      open_is = refl;
      ends = ap (λ (r : Reading). r.fault) e;
    }
ran (t ∷ ts) o ending es e = by (step o t) refl (λ q fs. ran ts q ending fs) e
  where
    by :
        (r : Result Step Fault)
        → step o t ≡ r
        → ((q : Open) (fs : List Entry) → reading_from q ts ending ≡ faultless fs → Ran q ts ending fs)
        → and_then_read r (λ after. reading_from after ts ending) ≡ faultless es
        → Ran o (t ∷ ts) ending es
    by (Err f) is later h = absurd (none-some f (sym (ap (λ (r : Reading). r.fault) h)))
    by (Ok s) is later h =
        let rest = reading_from s.after ts ending in
        let none : rest.fault ≡ None = ap (λ (r : Reading). r.fault) h in
        let on = later s.after rest.entries
        (ap (λ (f : Option Fault). let r : Reading = record { entries = rest.entries; fault = f } in r) none) in
        record {
          p = on.p;
          run_is =
              ap (λ r. run_after r (λ after. run after ts)) is
              ∙ (ap (option_map (prefix s.entries)) on.run_is
              ∙ ap (λ (r : Reading). Some (r.entries, on.p)) h);
          open_is = ap (λ (r : Result Step Fault). r >>= λ x. open_after_all x.after ts) is ∙ on.open_is;
          ends = on.ends;
        }

ends-none : (ending : Option Fault) (o : Open) → ending_fault ending o ≡ None → ending ≡ None
ends-none None o e = refl
ends-none (Some f) o e = e

ends-nothing : (marks : List Item) (collections : List OpenCollection) → fault_at_end (opened marks collections) ≡ None → opened marks collections ≡ nothing_open
ends-nothing [] [] e = refl
ends-nothing (m ∷ ms) [] e = absurd (none-some _ (sym e))
ends-nothing marks (c ∷ outer) e = absurd (by c.marks e)
  where
    by : (waits : List Item) → refuse_unfinished waits (c ∷ outer) ≡ None → ⊥
    by [] h = none-some _ (sym h)
    by (m ∷ ms) h = none-some _ (sym h)

gave-all :
    (r : Option (List Entry)) (es : List Entry)
    → give r nothing_open ≡ Some (es, nothing_open)
    → r ≡ Some es
gave-all None es e = absurd (none-some _ e)
gave-all (Some fs) es e = ap (λ (x : List Entry × Open). Some x.0) (same_Some (fs, nothing_open) (es, nothing_open) e)

of_tokens :
    (text : List ℕ) (tokens : List Item) (entries : List Entry)
    → HasTokens text tokens None
    → (ran : Ran nothing_open tokens None entries)
    → IsOfForms text entries
of_tokens text tokens entries has r =
    let at_end : r.p ≡ nothing_open = ends-nothing r.p.marks r.p.collections r.ends in
    let (forms, are) = are_forms tokens (r.open_is ∙ ap (λ x. Ok x) at_end) in
    let all : all_some (flat_map entries_by_form forms) ≡ Some entries =
    gave-all _ entries
    (sym (run-forms tokens forms are) ∙ (r.run_is ∙ ap (λ (x : Open). Some (entries, x)) at_end)) in
    (tokens, forms, has, are, map-all_some (flat_map entries_by_form forms) entries all)

-- A text that reads without a fault is of forms that give its entries.
pub read_forms : (text : List ℕ) (entries : List Entry) → Reads text entries None → IsOfForms text entries
read_forms text entries (tokens, ending, has, reads) =
    let r = ran tokens nothing_open ending entries reads in
    let none : ending ≡ None = ends-none ending r.p r.ends in
    of_tokens text tokens entries (subst (HasTokens text tokens) none has)
    (subst (λ x. Ran nothing_open tokens x entries) none r)

-- A text of forms that give entries reads as these.
pub forms_read : (text : List ℕ) (entries : List Entry) → IsOfForms text entries → Reads text entries None
forms_read text entries (tokens, forms, has, are, all) = (
  tokens,
  None,
  has,
  reading-run tokens nothing_open nothing_open entries
      (run-forms tokens forms are
      ∙ ap (λ x. give x nothing_open) (ap all_some all ∙ all_some-map entries)) refl,
)
