-- Tokens that are forms act as these forms, and what is open holds the forms of the tokens after its opener.
use Rattle.std.proofs.Common.{◌≡◌, ◌⊎◌, inl, inr, List, [], ◌∷◌, ◌++◌, Bool, true, false, not, ◌&&◌, if◌then◌else◌, Option, Some, None, Result, Ok, Err, refl, sym, ◌∙◌, ap, subst, append_assoc}
use Rattle.std.specs.Prelude.{IsTrue}
use Rattle.std.proofs.lemmas.Bool.{and_right, false≢true}
use Rattle.std.proofs.lemmas.List.{append-nil}
use Rattle.std.proofs.lemmas.Option.{none-some, same_Some}
use Rattle.hist_types.specs.Entries.{Entry, entry_of, ◌>>=◌, refuse_if}
use Rattle.hist_types.specs.Forms.{Form, plain, collection, tagged, forms_of, OpenCollection, Open, is_map, is_vector_or_list, is_drop_kind, is_drop, has_drop, settled, still_waiting, with_member, with_form, with_mark, with_opener, form_of}
use Rattle.reading_laws.specs.Nesting.{is_form_by_itself, AreForms, nothing, alone, nested, with_tag, without, open_after_all, with_forms, ActAs, FillAnyCollection, alone_with, FillAlone, HoldWhatIsBetween}
use Rattle.hist_types.specs.Reading.{is_operation_place, in_operation_place, may_open, Step, only_opens, close, step_by, step, nothing_open}
use Rattle.hist_types.specs.Tokens.{Item, ItemKind, Opener, Closer, Drop, Tag, byte_fault}
use Rattle.hist_types.specs.declared.types.Fault.{Fault}
use Rattle.hist_types.specs.declared.types.Refusal.TheVariants.{NotAMap}
use Rattle.reading_laws.proofs.Checks.{no_ok, same_ok}
use Rattle.reading_laws.proofs.MovedSteps.{open_collection}
use Rattle.reading_laws.proofs.MovedReading.{Runs, opened, closes_as, same_step, no_step, went_on_if, went_on_unless, closed}

-- ---- one token after the other

-- a step that was taken, and the tokens after it
pub record Taken (o : Open) (t : Item) (ts : List Item) (p : Open) : Type 0 where
  pub s : Step
  pub first : step o t ≡ Ok s
  pub rest : open_after_all s.after ts ≡ Ok p

taken_as :
    (o : Open) (t : Item) (ts : List Item) (p : Open) (r : Result Step Fault)
    → step o t ≡ r
    → (r >>= λ s. open_after_all s.after ts) ≡ Ok p
    → Taken o t ts p
taken_as o t ts p (Ok s) first e = record { s = s; first = first; rest = e }
taken_as o t ts p (Err f) first e = absurd (no_ok f p e)

pub taken : (o : Open) (t : Item) (ts : List Item) (p : Open) → open_after_all o (t ∷ ts) ≡ Ok p → Taken o t ts p
taken o t ts p e = taken_as o t ts p (step o t) refl e

-- what is open between two parts of the tokens
pub record Halves (o : Open) (ts us : List Item) (p : Open) : Type 0 where
  pub middle : Open
  pub first : open_after_all o ts ≡ Ok middle
  pub rest : open_after_all middle us ≡ Ok p

pub halves : (ts us : List Item) (o p : Open) → open_after_all o (ts ++ us) ≡ Ok p → Halves o ts us p
halves [] us o p e = record { middle = o; first = refl; rest = e }
halves (t ∷ ts) us o p e =
    let first = taken o t (ts ++ us) p e in
    let later = halves ts us first.s.after p first.rest in
    record {
      middle = later.middle;
      first =
          ap (λ (r : Result Step Fault). r >>= λ s. open_after_all s.after ts) first.first ∙ later.first;
      rest = later.rest;
    }

pub joined :
    (ts us : List Item) (o q p : Open)
    → open_after_all o ts ≡ Ok q
    → open_after_all q us ≡ Ok p
    → open_after_all o (ts ++ us) ≡ Ok p
joined [] us o q p first rest = ap (λ x. open_after_all x us) (same_ok o q first) ∙ rest
joined (t ∷ ts) us o q p first rest =
    let one = taken o t ts q first in
    ap (λ (r : Result Step Fault). r >>= λ s. open_after_all s.after (ts ++ us)) one.first
    ∙ joined ts us one.s.after q p one.rest rest

pub one_step : (o : Open) (t : Item) (s : Step) → step o t ≡ Ok s → open_after_all o (t ∷ []) ≡ Ok s.after
one_step o t s e = ap (λ (r : Result Step Fault). r >>= λ s. open_after_all s.after []) e

-- ---- what each kind of token does

-- a step with a token that stands alone
abbrev plain_step : Open → Item → Result Step Fault
plain_step o t =
    refuse_if (in_operation_place o) NotAMap t.start >>= λ _. Ok (only_opens (with_form (plain t) o.marks o.collections))

step_by-plain : (kind : ItemKind) (o : Open) (t : Item) → IsTrue (is_form_by_itself kind) → step_by kind o t ≡ plain_step o t
step_by-plain Opener o t h = absurd (false≢true h)
step_by-plain Closer o t h = absurd (false≢true h)
step_by-plain Drop o t h = absurd (false≢true h)
step_by-plain Tag o t h = absurd (false≢true h)
step_by-plain kind o t h = refl

pub after_plain :
    (o : Open) (t : Item) (s : Step)
    → IsTrue (is_form_by_itself t.kind)
    → step o t ≡ Ok s
    → only_opens (with_form (plain t) o.marks o.collections) ≡ s
after_plain o t s h e =
    went_on_unless (in_operation_place o) (with_form (plain t) o.marks o.collections) t.start s
    (sym (step_by-plain t.kind o t h) ∙ e)

pub after_opener : (o : Open) (t : Item) (s : Step) → t.kind ≡ Opener → step o t ≡ Ok s → only_opens (with_opener t o) ≡ s
after_opener o t s is e =
    went_on_if (may_open o t) (with_opener t o) (byte_fault NotAMap t.start) s
    (sym (ap (λ kind. step_by kind o t) is) ∙ e)

pub after_tag :
    (o : Open) (t : Item) (s : Step)
    → t.kind ≡ Tag
    → step o t ≡ Ok s
    → only_opens (with_mark t o.marks o.collections) ≡ s
after_tag o t s is e = same_step _ s (sym (ap (λ kind. step_by kind o t) is) ∙ e)

pub after_closer :
    (o : Open) (t : Item) (s : Step)
    → t.kind ≡ Closer
    → step o t ≡ Ok s
    → close t o.marks o.collections ≡ Ok s
after_closer o t s is e = sym (ap (λ kind. step_by kind o t) is) ∙ e

pub after_drop :
    (o : Open) (t : Item) (s : Step)
    → t.kind ≡ Drop
    → step o t ≡ Ok s
    → only_opens (with_mark t o.marks o.collections) ≡ s
after_drop o t s is e = same_step _ s (sym (ap (λ kind. step_by kind o t) is) ∙ e)

-- ---- what is open after each kind of token

past :
    (o q : Open) (t : Item) (rest : List Item) (p : Open)
    → ((s : Step) → step o t ≡ Ok s → q ≡ s.after)
    → open_after_all o (t ∷ rest) ≡ Ok p
    → open_after_all q rest ≡ Ok p
past o q t rest p same e =
    let first = taken o t rest p e in
    subst (λ x. open_after_all x rest ≡ Ok p) (sym (same first.s first.first)) first.rest

past_plain :
    (o : Open) (t : Item) (rest : List Item) (p : Open)
    → IsTrue (is_form_by_itself t.kind)
    → open_after_all o (t ∷ rest) ≡ Ok p
    → open_after_all (with_form (plain t) o.marks o.collections) rest ≡ Ok p
past_plain o t rest p h = past o _ t rest p (λ s e. ap (λ (x : Step). x.after) (after_plain o t s h e))

past_opener :
    (o : Open) (t : Item) (rest : List Item) (p : Open)
    → t.kind ≡ Opener
    → open_after_all o (t ∷ rest) ≡ Ok p
    → open_after_all (with_opener t o) rest ≡ Ok p
past_opener o t rest p is = past o _ t rest p (λ s e. ap (λ (x : Step). x.after) (after_opener o t s is e))

past_tag :
    (o : Open) (t : Item) (rest : List Item) (p : Open)
    → t.kind ≡ Tag
    → open_after_all o (t ∷ rest) ≡ Ok p
    → open_after_all (with_mark t o.marks o.collections) rest ≡ Ok p
past_tag o t rest p is = past o _ t rest p (λ s e. ap (λ (x : Step). x.after) (after_tag o t s is e))

past_drop :
    (o : Open) (t : Item) (rest : List Item) (p : Open)
    → t.kind ≡ Drop
    → open_after_all o (t ∷ rest) ≡ Ok p
    → open_after_all (with_mark t o.marks o.collections) rest ≡ Ok p
past_drop o t rest p is = past o _ t rest p (λ s e. ap (λ (x : Step). x.after) (after_drop o t s is e))

past_closer :
    (opener closer : Item) (members : List Form) (marks : List Item) (outer : List OpenCollection) (rest : List Item)
    (p : Open)
    → closer.kind ≡ Closer
    → open_after_all (opened marks (open_collection opener members [] ∷ outer)) (closer ∷ rest) ≡ Ok p
    → open_after_all (with_form (collection opener closer (forms_of members)) marks outer) rest ≡ Ok p
past_closer opener closer members marks outer rest p is =
    let c = open_collection opener members [] in
    let o = opened marks (c ∷ outer) in
    past o (with_form (collection opener closer (forms_of members)) marks outer) closer rest p
    (λ s e. sym (closed c closer marks outer s (after_closer o closer s is e)).after)

-- ---- tokens that are forms act as these forms

-- a form after a tag is the tagged form
pub form_after_tag :
    (marks : List Item) (collections : List OpenCollection) (tag : Item) (f : Form)
    → tag.kind ≡ Tag
    → (let o = with_mark tag marks collections in with_form f o.marks o.collections)
    ≡ with_form (tagged tag f) marks collections
form_after_tag marks [] tag f is =
    ap (λ (b : Bool). opened (if b then marks else still_waiting marks) []) (ap is_drop_kind is)
form_after_tag marks (c ∷ outer) tag f is =
    ap (λ (b : Bool). opened marks (open_collection c.opener (with_member (if b then None else settled c.marks (tagged tag f)) c.members) (if b then c.marks else still_waiting c.marks) ∷ outer)) (ap is_drop_kind is)

-- a form after a `#_` leaves things as they were
pub form_left_out :
    (marks : List Item) (collections : List OpenCollection) (drop : Item) (f : Form)
    → drop.kind ≡ Drop
    → (let o = with_mark drop marks collections in with_form f o.marks o.collections) ≡ opened marks collections
form_left_out marks [] drop f is =
    ap (λ (b : Bool). opened (if b then marks else still_waiting marks) []) (ap is_drop_kind is)
form_left_out marks (c ∷ outer) drop f is =
    ap (λ (b : Bool). opened marks (open_collection c.opener (with_member (if b then None else settled c.marks (tagged drop f)) c.members) (if b then c.marks else still_waiting c.marks) ∷ outer)) (ap is_drop_kind is)

-- the forms are the next members where no mark waits
pub with_forms-members :
    (fs : List Form) (opener : Item) (members : List Form) (marks : List Item) (outer : List OpenCollection)
    → with_forms fs (opened marks (open_collection opener members [] ∷ outer))
    ≡ opened marks (open_collection opener (members ++ fs) [] ∷ outer)
with_forms-members [] opener members marks outer =
    ap (λ xs. opened marks (open_collection opener xs [] ∷ outer)) (sym (append-nil members))
with_forms-members (f ∷ fs) opener members marks outer =
    with_forms-members fs opener (members ++ (f ∷ [])) marks outer
    ∙ ap (λ xs. opened marks (open_collection opener xs [] ∷ outer)) (append_assoc members (f ∷ []) fs)

pub acts : (tokens : List Item) (forms : List Form) → AreForms tokens forms → ActAs tokens forms
acts _ _ nothing o p e = sym (same_ok o p e)
acts _ _ (alone t rest forms h more) o p e = acts rest forms more _ p (past_plain o t rest p h e)
acts _ _ (nested opener closer between rest members forms opens closes inner more) o p e =
    let q = opened o.marks (open_collection opener members [] ∷ o.collections) in
    let parts = halves between (closer ∷ rest) (with_opener opener o) p
    (past_opener o opener (between ++ (closer ∷ rest)) p opens e) in
    let full : parts.middle ≡ q =
    acts between members inner (with_opener opener o) parts.middle parts.first
    ∙ with_forms-members members opener [] o.marks o.collections in
    let ends : open_after_all q (closer ∷ rest) ≡ Ok p = subst (λ x. open_after_all x (closer ∷ rest) ≡ Ok p) full parts.rest in
    acts rest forms more _ p (past_closer opener closer members o.marks o.collections rest p closes ends)
acts _ _ (with_tag tag rest f forms is more) o p e =
    acts rest (f ∷ forms) more _ p (past_tag o tag rest p is e)
    ∙ ap (with_forms forms) (form_after_tag o.marks o.collections tag f is)
acts _ _ (without drop rest f forms is more) o p e =
    acts rest (f ∷ forms) more _ p (past_drop o drop rest p is e)
    ∙ ap (with_forms forms) (form_left_out o.marks o.collections drop f is)

pub fill_any_collection :
    (tokens : List Item) (members : List Form) → AreForms tokens members → FillAnyCollection tokens members
fill_any_collection tokens members forms opener closer opens closes =
    acts _ _ (nested opener closer tokens [] members [] opens closes forms nothing)

-- ---- where nothing is in an operation's place, tokens that are forms are read without a fault

-- no token directly in these collections is in an operation's place, also when forms have come and marks wait
abbrev pub IsInside : List Item → List OpenCollection → Type 0
IsInside marks [] = ⊥
IsInside marks (c ∷ []) = (is_vector_or_list c.opener && not (has_drop marks)) ≡ false
IsInside marks (c ∷ d ∷ outer) = Unit {0}

not_in_place :
    (marks : List Item) (collections : List OpenCollection)
    → IsInside marks collections
    → is_operation_place marks collections ≡ false
not_in_place marks [] inside = absurd inside
not_in_place marks (c ∷ []) inside = ap (λ b. b && not (has_drop c.marks)) inside
not_in_place marks (c ∷ d ∷ outer) inside = refl

inside_form :
    (f : Form) (marks : List Item) (collections : List OpenCollection)
    → IsInside marks collections
    → (let o = with_form f marks collections in IsInside o.marks o.collections)
inside_form f marks [] inside = absurd inside
inside_form f marks (c ∷ []) inside = inside
inside_form f marks (c ∷ d ∷ outer) inside = tt

inside_mark :
    (t : Item) (marks : List Item) (collections : List OpenCollection)
    → IsInside marks collections
    → (let o = with_mark t marks collections in IsInside o.marks o.collections)
inside_mark t marks [] inside = absurd inside
inside_mark t marks (c ∷ []) inside = inside
inside_mark t marks (c ∷ d ∷ outer) inside = tt

-- what opens where nothing is in an operation's place
pub inside_opener :
    (c : OpenCollection) (marks : List Item) (outer : List OpenCollection)
    → is_operation_place marks outer ≡ false
    → IsInside marks (c ∷ outer)
inside_opener c marks [] none = and_right (is_vector_or_list c.opener) (not (has_drop marks)) none
inside_opener c marks (d ∷ outer) none = tt

pub Runs-join : (ts us : List Item) (o q p : Open) → Runs o ts q → Runs q us p → Runs o (ts ++ us) p
Runs-join [] us o q p same rest = subst (λ x. Runs x us p) (sym same) rest
Runs-join (t ∷ ts) us o q p first rest = (first.0, first.1, Runs-join ts us first.0 q p first.2 rest)

pub Runs-end : (ts : List Item) (o p q : Open) → p ≡ q → Runs o ts p → Runs o ts q
Runs-end ts o p q same = subst (Runs o ts) same

pub step-plain :
    (o : Open) (t : Item)
    → IsTrue (is_form_by_itself t.kind)
    → in_operation_place o ≡ false
    → step o t ≡ Ok (only_opens (with_form (plain t) o.marks o.collections))
step-plain o t h none =
    step_by-plain t.kind o t h
    ∙ ap (λ (b : Bool). refuse_if b NotAMap t.start >>= λ _. Ok (only_opens (with_form (plain t) o.marks o.collections)))
    none

pub step-plain_refused :
    (o : Open) (t : Item)
    → IsTrue (is_form_by_itself t.kind)
    → in_operation_place o ≡ true
    → step o t ≡ Err (byte_fault NotAMap t.start)
step-plain_refused o t h place =
    step_by-plain t.kind o t h
    ∙ ap (λ (b : Bool). refuse_if b NotAMap t.start >>= λ _. Ok (only_opens (with_form (plain t) o.marks o.collections)))
    place

pub step-opener_refused :
    (o : Open) (t : Item) → t.kind ≡ Opener → may_open o t ≡ false → step o t ≡ Err (byte_fault NotAMap t.start)
step-opener_refused o t is may =
    ap (λ kind. step_by kind o t) is
    ∙ (rw may refl)

pub step-opener :
    (o : Open) (t : Item) → t.kind ≡ Opener → may_open o t ≡ true → step o t ≡ Ok (only_opens (with_opener t o))
step-opener o t is may =
    ap (λ kind. step_by kind o t) is
    ∙ (rw may refl)

opener_may : (o : Open) (t : Item) → in_operation_place o ≡ false → may_open o t ≡ true
opener_may o t none = rw none refl

abbrev pub given_if : Bool → Result Entry Fault → Result (List Entry) Fault
given_if test r = if test then (r >>= λ entry. Ok (entry ∷ [])) else Ok []

-- a closer after these members where no mark waits
pub step-closer :
    (opener closer : Item) (members : List Form) (marks : List Item) (outer : List OpenCollection) (test : Bool)
    → closer.kind ≡ Closer
    → (is_map opener && is_operation_place marks outer) ≡ test
    → step (opened marks (open_collection opener members [] ∷ outer)) closer
    ≡ closes_as (Ok tt) (given_if test (entry_of opener closer members))
    (with_form (collection opener closer (forms_of members)) marks outer)
step-closer opener closer members marks outer test is place =
    let o = opened marks (open_collection opener members [] ∷ outer) in
    let after = with_form (collection opener closer (forms_of members)) marks outer in
    ap (λ kind. step_by kind o closer) is
    ∙ ap (λ (b : Bool). closes_as (Ok tt) (given_if b (entry_of opener closer members)) after) place

-- a collection that gives no entry
pub Runs-collection :
    (opener closer : Item) (between : List Item) (members : List Form) (o : Open)
    → opener.kind ≡ Opener
    → closer.kind ≡ Closer
    → in_operation_place o ≡ false
    → Runs (with_opener opener o) between (with_forms members (with_opener opener o))
    → Runs o (opener ∷ (between ++ (closer ∷ [])))
    (with_form (collection opener closer (forms_of members)) o.marks o.collections)
Runs-collection opener closer between members o opens closes none inner =
    let q = opened o.marks (open_collection opener members [] ∷ o.collections) in
    let after = with_form (collection opener closer (forms_of members)) o.marks o.collections in
    let full : Runs (with_opener opener o) between q =
    Runs-end between (with_opener opener o) (with_forms members (with_opener opener o)) q
    (with_forms-members members opener [] o.marks o.collections) inner in
    let ends : step q closer ≡ Ok (only_opens after) =
    step-closer opener closer members o.marks o.collections false closes
    (and_right (is_map opener) (is_operation_place o.marks o.collections) none) in (
      with_opener opener o,
      step-opener o opener opens (opener_may o opener none),
      Runs-join between (closer ∷ []) (with_opener opener o) q after full (after, ends, refl),
    )

pub runs_inside :
    (tokens : List Item) (forms : List Form)
    → AreForms tokens forms
    → (o : Open)
    → IsInside o.marks o.collections
    → Runs o tokens (with_forms forms o)
runs_inside _ _ nothing o inside = refl
runs_inside _ _ (alone t rest forms h more) o inside = (
  with_form (plain t) o.marks o.collections,
  step-plain o t h (not_in_place o.marks o.collections inside),
  runs_inside rest forms more _ (inside_form (plain t) o.marks o.collections inside),
)
runs_inside _ _ (nested opener closer between rest members forms opens closes inner more) o inside =
    let f = collection opener closer (forms_of members) in
    let none : is_operation_place o.marks o.collections ≡ false = not_in_place o.marks o.collections inside in
    let c = open_collection opener [] [] in
    subst (λ ts. Runs o (opener ∷ ts) (with_forms forms (with_form f o.marks o.collections)))
    (append_assoc between (closer ∷ []) rest)
    (Runs-join (opener ∷ (between ++ (closer ∷ []))) rest o (with_form f o.marks o.collections) _
    (Runs-collection opener closer between members o opens closes none
    (runs_inside between members inner (with_opener opener o) (inside_opener c o.marks o.collections none)))
    (runs_inside rest forms more _ (inside_form f o.marks o.collections inside)))
runs_inside _ _ (with_tag tag rest f forms is more) o inside = (
  with_mark tag o.marks o.collections,
  ap (λ kind. step_by kind o tag) is,
  Runs-end rest _ _ _ (ap (with_forms forms) (form_after_tag o.marks o.collections tag f is))
      (runs_inside rest (f ∷ forms) more _ (inside_mark tag o.marks o.collections inside)),
)
runs_inside _ _ (without drop rest f forms is more) o inside = (
  with_mark drop o.marks o.collections,
  ap (λ kind. step_by kind o drop) is,
  Runs-end rest _ _ _ (ap (with_forms forms) (form_left_out o.marks o.collections drop f is))
      (runs_inside rest (f ∷ forms) more _ (inside_mark drop o.marks o.collections inside)),
)

Runs-open : (ts : List Item) (o p : Open) → Runs o ts p → open_after_all o ts ≡ Ok p
Runs-open [] o p same = ap (λ x. Ok x) same
Runs-open (t ∷ ts) o p runs =
    ap (λ (r : Result Step Fault). r >>= λ s. open_after_all s.after ts) runs.1 ∙ Runs-open ts runs.0 p runs.2

pub fill_alone : (tokens : List Item) (forms : List Form) → AreForms tokens forms → FillAlone tokens forms
fill_alone tokens forms are opener other =
    Runs-open tokens (alone_with opener []) (alone_with opener forms)
    (Runs-end tokens _ _ _ (with_forms-members forms opener [] [] [])
    (runs_inside tokens forms are (alone_with opener []) (ap (λ b. b && true) other)))

-- the members of the innermost open collection
members_in : List OpenCollection → List Form
members_in [] = []
members_in (c ∷ outer) = c.members

-- no tokens are two rows of forms
pub one_row : (tokens : List Item) (forms others : List Form) → AreForms tokens forms → AreForms tokens others → forms ≡ others
unfolding members_in
one_row tokens forms others are also =
    let opener : Item = record { kind = Opener; start = 0; bytes = [] } in
    ap (λ (o : Open). members_in o.collections)
    (same_ok (alone_with opener forms) (alone_with opener others)
    (sym (fill_alone tokens forms are opener refl) ∙ fill_alone tokens others also opener refl))

-- ---- what is open holds the forms of the tokens after its opener

-- the forms, of which the first ones settle against the marks, if there are as many as that takes
abbrev pub settle : List Item → List Form → Option (List Form)
settle [] fs = Some fs
settle (m ∷ ms) [] = None
settle (m ∷ ms) (f ∷ fs) = settle ms (if is_drop m then fs else tagged m f ∷ fs)

-- whatever forms follow, the tokens make these members and the marks that wait for them
Holds : List Item → List Form → List Item → Type 0
Holds tokens members marks =
    (rest : List Item) (fs gs : List Form)
    → AreForms rest fs
    → settle marks fs ≡ Some gs
    → AreForms (tokens ++ rest) (members ++ gs)

-- the tokens make one form, whatever follows
abbrev IsOne : List Item → Form → Type 0
IsOne tokens f = (rest : List Item) (fs : List Form) → AreForms rest fs → AreForms (tokens ++ rest) (f ∷ fs)

abbrev put : Option Form → List Form → List Form
put None gs = gs
put (Some f) gs = f ∷ gs

pub settle-form :
    (marks : List Item) (f : Form) (fs gs : List Form)
    → settle (still_waiting marks) fs ≡ Some gs
    → settle marks (f ∷ fs) ≡ Some (put (settled marks f) gs)
settle-form [] f fs gs e = ap (λ xs. Some (f ∷ xs)) (same_Some fs gs e)
settle-form (m ∷ ms) f fs gs e = by (is_drop m) (λ later. settle-form ms (tagged m f) fs gs later) e
  where
    by :
        (drops : Bool)
        → (settle (still_waiting ms) fs ≡ Some gs → settle ms (tagged m f ∷ fs) ≡ Some (put (settled ms (tagged m f)) gs))
        → settle (if drops then ms else still_waiting ms) fs ≡ Some gs
        → settle ms (if drops then fs else tagged m f ∷ fs) ≡ Some (put (if drops then None else settled ms (tagged m f)) gs)
    by true more h = h
    by false more h = more h

with_member-put :
    (o : Option Form) (members gs : List Form)
    → members ++ put o gs ≡ with_member o members ++ gs
with_member-put None members gs = refl
with_member-put (Some f) members gs = sym (append_assoc members (f ∷ []) gs)

Holds-none : Holds [] [] []
unfolding Holds
Holds-none rest fs gs are e = subst (AreForms rest) (same_Some fs gs e) are

Holds-form :
    (tokens us : List Item) (members : List Form) (marks : List Item) (f : Form)
    → IsOne us f
    → Holds tokens members marks
    → Holds (tokens ++ us) (with_member (settled marks f) members) (still_waiting marks)
unfolding Holds
Holds-form tokens us members marks f one holds rest fs gs are e =
    subst (λ xs. AreForms xs (with_member (settled marks f) members ++ gs)) (sym (append_assoc tokens us rest))
    (subst (AreForms (tokens ++ (us ++ rest))) (with_member-put (settled marks f) members gs)
    (holds (us ++ rest) (f ∷ fs) (put (settled marks f) gs) (one rest fs are) (settle-form marks f fs gs e)))

IsMark : Item → Type 0
IsMark t = (t.kind ≡ Tag) ⊎ (t.kind ≡ Drop)

marked :
    (mark : Item) (rest : List Item) (f : Form) (fs : List Form)
    → IsMark mark
    → AreForms rest (f ∷ fs)
    → AreForms (mark ∷ rest) (if is_drop mark then fs else tagged mark f ∷ fs)
unfolding IsMark
marked mark rest f fs (inl is) are =
    subst (λ (b : Bool). AreForms (mark ∷ rest) (if b then fs else tagged mark f ∷ fs)) (sym (ap is_drop_kind is))
    (with_tag mark rest f fs is are)
marked mark rest f fs (inr is) are =
    subst (λ (b : Bool). AreForms (mark ∷ rest) (if b then fs else tagged mark f ∷ fs)) (sym (ap is_drop_kind is))
    (without mark rest f fs is are)

Holds-mark :
    (tokens : List Item) (members : List Form) (marks : List Item) (mark : Item)
    → IsMark mark
    → Holds tokens members marks
    → Holds (tokens ++ (mark ∷ [])) members (mark ∷ marks)
unfolding Holds
Holds-mark tokens members marks mark is holds rest [] gs are e = absurd (none-some gs e)
Holds-mark tokens members marks mark is holds rest (f ∷ fs) gs are e =
    subst (λ xs. AreForms xs (members ++ gs)) (sym (append_assoc tokens (mark ∷ []) rest))
    (holds (mark ∷ rest) _ gs (marked mark rest f fs is are) e)

Holds-all : (tokens : List Item) (members : List Form) → Holds tokens members [] → AreForms tokens members
unfolding Holds
Holds-all tokens members holds =
    subst (λ xs. AreForms xs members) (append-nil tokens)
    (subst (AreForms (tokens ++ [])) (append-nil members) (holds [] [] [] nothing refl))

-- what the tokens have made of each open collection, and of the top level
Made : List Item → List Item → List OpenCollection → Type 0
Made tokens marks [] = (forms : List Form) × Holds tokens forms marks
Made tokens marks (c ∷ outer) =
    (before : List Item)
    × (between : List Item)
    × (tokens ≡ before ++ (c.opener ∷ between))
    × (c.opener.kind ≡ Opener)
    × Holds between c.members c.marks
    × (open_after_all nothing_open before ≡ Ok (opened marks outer))
    × Made before marks outer

Made-form :
    (tokens us : List Item) (marks : List Item) (collections : List OpenCollection) (f : Form)
    → IsOne us f
    → Made tokens marks collections
    → Made (tokens ++ us) (with_form f marks collections).marks (with_form f marks collections).collections
unfolding Made
Made-form tokens us marks [] f one (forms, holds) =
    (with_member (settled marks f) forms, Holds-form tokens us forms marks f one holds)
Made-form tokens us marks (c ∷ outer) f one (before, between, split, opens, holds, leads, made) = (
  before,
  between ++ us,
  ap (λ xs. xs ++ us) split ∙ append_assoc before (c.opener ∷ between) us,
  opens,
  Holds-form between us c.members c.marks f one holds,
  leads,
  made,
)

Made-mark :
    (tokens : List Item) (marks : List Item) (collections : List OpenCollection) (mark : Item)
    → IsMark mark
    → Made tokens marks collections
    → Made (tokens ++ (mark ∷ [])) (with_mark mark marks collections).marks (with_mark mark marks collections).collections
unfolding Made
Made-mark tokens marks [] mark is (forms, holds) = (forms, Holds-mark tokens forms marks mark is holds)
Made-mark tokens marks (c ∷ outer) mark is (before, between, split, opens, holds, leads, made) = (
  before,
  between ++ (mark ∷ []),
  ap (λ xs. xs ++ (mark ∷ [])) split ∙ append_assoc before (c.opener ∷ between) (mark ∷ []),
  opens,
  Holds-mark between c.members c.marks mark is holds,
  leads,
  made,
)

Made-opener :
    (tokens : List Item) (o : Open) (opener : Item)
    → opener.kind ≡ Opener
    → open_after_all nothing_open tokens ≡ Ok o
    → Made tokens o.marks o.collections
    → Made (tokens ++ (opener ∷ [])) o.marks (with_opener opener o).collections
unfolding Made
Made-opener tokens o opener opens leads made = (tokens, [], refl, opens, Holds-none, leads, made)

Made-closer :
    (tokens : List Item) (marks : List Item) (c : OpenCollection) (outer : List OpenCollection) (closer : Item)
    → closer.kind ≡ Closer
    → c.marks ≡ []
    → Made tokens marks (c ∷ outer)
    → Made (tokens ++ (closer ∷ [])) (with_form (form_of c closer) marks outer).marks
    (with_form (form_of c closer) marks outer).collections
unfolding Made
Made-closer tokens marks c outer closer closes none (before, between, split, opens, holds, leads, made) =
    let all : AreForms between c.members = Holds-all between c.members (subst (Holds between c.members) none holds) in
    let us = c.opener ∷ (between ++ (closer ∷ [])) in
    let one : IsOne us (form_of c closer) =
    λ rest fs are. subst (λ xs. AreForms (c.opener ∷ xs) (form_of c closer ∷ fs))
    (sym (append_assoc between (closer ∷ []) rest))
    (nested c.opener closer between rest c.members fs opens closes all are) in
    let same : before ++ us ≡ tokens ++ (closer ∷ []) =
    sym (ap (λ xs. xs ++ (closer ∷ [])) split ∙ append_assoc before (c.opener ∷ between) (closer ∷ [])) in
    subst (λ xs. Made xs (with_form (form_of c closer) marks outer).marks
    (with_form (form_of c closer) marks outer).collections) same
    (Made-form before us marks outer (form_of c closer) one made)

Made-closes :
    (tokens : List Item) (marks : List Item) (collections : List OpenCollection) (closer : Item) (s : Step)
    → closer.kind ≡ Closer
    → close closer marks collections ≡ Ok s
    → Made tokens marks collections
    → Made (tokens ++ (closer ∷ [])) s.after.marks s.after.collections
Made-closes tokens marks [] closer s closes e made = absurd (no_step _ s e)
Made-closes tokens marks (c ∷ outer) closer s closes e made =
    let ends = closed c closer marks outer s e in
    subst (λ (x : Open). Made (tokens ++ (closer ∷ [])) x.marks x.collections) (sym ends.after)
    (Made-closer tokens marks c outer closer closes ends.none_waits made)

Made-plain :
    (tokens : List Item) (o : Open) (t : Item) (s : Step)
    → IsTrue (is_form_by_itself t.kind)
    → step o t ≡ Ok s
    → Made tokens o.marks o.collections
    → Made (tokens ++ (t ∷ [])) s.after.marks s.after.collections
Made-plain tokens o t s h e made =
    subst (λ (x : Step). Made (tokens ++ (t ∷ [])) x.after.marks x.after.collections) (after_plain o t s h e)
    (Made-form tokens (t ∷ []) o.marks o.collections (plain t) (λ rest fs are. alone t rest fs h are) made)

Made-step :
    (kind : ItemKind) (tokens : List Item) (o : Open) (t : Item) (s : Step)
    → t.kind ≡ kind
    → step o t ≡ Ok s
    → open_after_all nothing_open tokens ≡ Ok o
    → Made tokens o.marks o.collections
    → Made (tokens ++ (t ∷ [])) s.after.marks s.after.collections
unfolding IsMark
Made-step Opener tokens o t s is e leads made =
    subst (λ (x : Step). Made (tokens ++ (t ∷ [])) x.after.marks x.after.collections) (after_opener o t s is e)
    (Made-opener tokens o t is leads made)
Made-step Closer tokens o t s is e leads made =
    Made-closes tokens o.marks o.collections t s is (after_closer o t s is e) made
Made-step Tag tokens o t s is e leads made =
    subst (λ (x : Step). Made (tokens ++ (t ∷ [])) x.after.marks x.after.collections) (after_tag o t s is e)
    (Made-mark tokens o.marks o.collections t (inl is) made)
Made-step Drop tokens o t s is e leads made =
    subst (λ (x : Step). Made (tokens ++ (t ∷ [])) x.after.marks x.after.collections) (after_drop o t s is e)
    (Made-mark tokens o.marks o.collections t (inr is) made)
Made-step kind tokens o t s is e leads made = Made-plain tokens o t s (ap (λ k. is_form_by_itself k) is) e made

Made-more :
    (ts done : List Item) (o p : Open)
    → open_after_all nothing_open done ≡ Ok o
    → Made done o.marks o.collections
    → open_after_all o ts ≡ Ok p
    → Made (done ++ ts) p.marks p.collections
Made-more [] done o p leads made e =
    subst (λ xs. Made xs p.marks p.collections) (sym (append-nil done))
    (subst (λ (x : Open). Made done x.marks x.collections) (same_ok o p e) made)
Made-more (t ∷ ts) done o p leads made e =
    let first = taken o t ts p e in
    let on = joined done (t ∷ []) nothing_open o first.s.after leads (one_step o t first.s first.first) in
    let next = Made-step t.kind done o t first.s refl first.first leads made in
    subst (λ xs. Made xs p.marks p.collections) (append_assoc done (t ∷ []) ts)
    (Made-more ts (done ++ (t ∷ [])) first.s.after p on next first.rest)

made : (tokens : List Item) (o : Open) → open_after_all nothing_open tokens ≡ Ok o → Made tokens o.marks o.collections
unfolding Made
made tokens o e = Made-more tokens [] nothing_open o refl ([], Holds-none) e

pub hold_what_is_between : (tokens : List Item) → HoldWhatIsBetween tokens
unfolding Made
hold_what_is_between tokens c marks outer e none =
    let (before, between, split, opens, holds, leads, _) = made tokens (opened marks (c ∷ outer)) e in
    record {
      before = before;
      between = between;
      split = split;
      opens = opens;
      members = Holds-all between c.members (subst (Holds between c.members) none holds);
      around = leads;
    }

-- where tokens leave nothing open, they are forms
pub are_forms :
    (tokens : List Item) → open_after_all nothing_open tokens ≡ Ok nothing_open → (forms : List Form) × AreForms tokens forms
unfolding Made
are_forms tokens e =
    let (forms, holds) = made tokens nothing_open e in
    (forms, Holds-all tokens forms holds)
