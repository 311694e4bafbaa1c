-- Each operation that is read from a text is a map among its tokens.
use Rattle.std.proofs.Common.{◌≡◌, inl, inr, ℕ, List, [], ◌∷◌, ◌++◌, Bool, true, false, ◌&&◌, Option, Result, Ok, Err, refl, sym, ◌∙◌, ap, subst, append_assoc}
use Rattle.hist_types.specs.Entries.{PlacedOperation, Entry, operation, entry_of}
use Rattle.hist_types.specs.Forms.{Form, plain, OpenCollection, Open, is_map, with_form, with_mark, with_opener}
use Rattle.reading_laws.specs.Nesting.{is_form_by_itself, open_after_all, IsMapAmong, IsMapOfForms}
use Rattle.hist_types.specs.Reading.{Reading, is_operation_place, Step, close, step, and_then_read, reading_from, reading_of, nothing_open}
use Rattle.hist_types.specs.Tokens.{Item, ItemKind, Opener, Closer, Drop, Tag}
use Rattle.hist_types.specs.declared.types.Fault.{Fault}
use Rattle.reading_laws.proofs.MovedReading.{opened, no_step, closed, none_given}
use Rattle.hist_types.proofs.Members.{In, in_append, in_from_Contains}
use Rattle.reading_laws.proofs.Checks.{no_ok, same_ok}
use Rattle.reading_laws.specs.Readings.{IsReadIn}
use Rattle.reading_laws.proofs.Nesting.{given_if, joined, one_step, after_plain, after_opener, after_closer, after_tag, after_drop, hold_what_is_between}

-- the closer that gave the operation, and what was open before it
record GivenAt (tokens : List Item) (o : PlacedOperation) : Type 0 where
  pub done : List Item
  pub closer : Item
  pub rest : List Item
  pub p : Open
  pub s : Step
  pub split : tokens ≡ done ++ (closer ∷ rest)
  pub leads : open_after_all nothing_open done ≡ Ok p
  pub taken : step p closer ≡ Ok s
  pub gives : In (operation o) s.entries

given_at :
    (ts done : List Item) (p : Open) (ending : Option Fault) (o : PlacedOperation)
    → open_after_all nothing_open done ≡ Ok p
    → In (operation o) (reading_from p ts ending).entries
    → GivenAt (done ++ ts) o
given_at [] done p ending o leads i = absurd i
given_at (t ∷ ts) done p ending o leads i = by (step p t) refl (λ q on later. given_at ts (done ++ (t ∷ [])) q ending o on later) i
  where
    by :
        (r : Result Step Fault)
        → step p t ≡ r
        → ((q : Open) → open_after_all nothing_open (done ++ (t ∷ [])) ≡ Ok q → In (operation o) (reading_from q ts ending).entries → GivenAt ((done ++ (t ∷ [])) ++ ts) o)
        → In (operation o) (and_then_read r (λ after. reading_from after ts ending)).entries
        → GivenAt (done ++ (t ∷ ts)) o
    by (Err f) is next j = absurd j
    by (Ok s) is next j =
        elim (in_append (operation o) s.entries _ j) [
          | inl here ↦ record { done = done; closer = t; rest = ts; p = p; s = s; split = refl; leads = leads; taken = is; gives = here }
          | inr later ↦ subst (λ xs. GivenAt xs o) (append_assoc done (t ∷ []) ts)
              (next s.after (joined done (t ∷ []) nothing_open p s.after leads (one_step p t s is)) later)
        ]

-- what is given by a map's closer
record MapGives (opener closer : Item) (members : List Form) (o : PlacedOperation) : Type 0 where
  pub is_a_map : is_map opener ≡ true
  pub gives : entry_of opener closer members ≡ Ok (operation o)

map_gives :
    (opener closer : Item) (members : List Form) (place : Bool) (es : List Entry) (o : PlacedOperation)
    → given_if (is_map opener && place) (entry_of opener closer members) ≡ Ok es
    → In (operation o) es
    → MapGives opener closer members o
map_gives opener closer members place es o e i = by (is_map opener) place (entry_of opener closer members) refl refl e
  where
    by :
        (is place_is : Bool) (r : Result Entry Fault)
        → is_map opener ≡ is
        → entry_of opener closer members ≡ r
        → given_if (is && place_is) r ≡ Ok es
        → MapGives opener closer members o
    by true true (Ok entry) is from h =
        elim (subst (In (operation o)) (sym (same_ok (entry ∷ []) es h)) i) [
          | inl same ↦ record { is_a_map = is; gives = from ∙ ap (λ (x : Entry). let r : Result Entry Fault = Ok x in r) same }
          | inr none ↦ absurd none
        ]
    by true true (Err f) is from h = absurd (no_ok f es h)
    by true false r is from h = absurd (subst (In (operation o)) (sym (same_ok [] es h)) i)
    by false place_is r is from h = absurd (subst (In (operation o)) (sym (same_ok [] es h)) i)

by_closer :
    (tokens done rest : List Item) (marks : List Item) (collections : List OpenCollection) (closer : Item) (s : Step)
    (o : PlacedOperation)
    → closer.kind ≡ Closer
    → tokens ≡ done ++ (closer ∷ rest)
    → open_after_all nothing_open done ≡ Ok (opened marks collections)
    → close closer marks collections ≡ Ok s
    → In (operation o) s.entries
    → IsMapAmong tokens o
by_closer tokens done rest marks [] closer s o is split leads e i = absurd (no_step _ s e)
by_closer tokens done rest marks (c ∷ outer) closer s o is split leads e i =
    let ends = closed c closer marks outer s e in
    let gave = map_gives c.opener closer c.members (is_operation_place marks outer) s.entries o ends.given i in
    let within = hold_what_is_between done c marks outer leads ends.none_waits in
    record {
      before = within.before;
      opener = c.opener;
      between = within.between;
      closer = closer;
      rest = rest;
      members = c.members;
      split =
          split ∙ ap (λ xs. xs ++ (closer ∷ rest)) within.split;
      opens = within.opens;
      closes = is;
      is_a_map = gave.is_a_map;
      holds = within.members;
      gives = gave.gives;
    }

by_kind :
    (kind : ItemKind) (tokens done rest : List Item) (p : Open) (t : Item) (s : Step) (o : PlacedOperation)
    → t.kind ≡ kind
    → tokens ≡ done ++ (t ∷ rest)
    → open_after_all nothing_open done ≡ Ok p
    → step p t ≡ Ok s
    → In (operation o) s.entries
    → IsMapAmong tokens o
by_kind Opener tokens done rest p t s o is split leads e i =
    absurd (none_given o (with_opener t p) s (after_opener p t s is e) i)
by_kind Closer tokens done rest p t s o is split leads e i =
    by_closer tokens done rest p.marks p.collections t s o is split leads (after_closer p t s is e) i
by_kind Tag tokens done rest p t s o is split leads e i =
    absurd (none_given o (with_mark t p.marks p.collections) s (after_tag p t s is e) i)
by_kind Drop tokens done rest p t s o is split leads e i =
    absurd (none_given o (with_mark t p.marks p.collections) s (after_drop p t s is e) i)
by_kind kind tokens done rest p t s o is split leads e i =
    absurd (none_given o (with_form (plain t) p.marks p.collections) s
    (after_plain p t s (ap (λ k. is_form_by_itself k) is) e) i)

-- Each operation that is read from a text is a map among its tokens.
pub maps_of_forms : (text : List ℕ) (o : PlacedOperation) → IsReadIn text o → IsMapOfForms text o
maps_of_forms text o (entries, fault, (tokens, ending, has, reads), contains) =
    let among : In (operation o) (reading_of tokens ending).entries =
    subst (In (operation o)) (sym (ap (λ (r : Reading). r.entries) reads))
    (in_from_Contains (operation o) entries contains) in
    let at = given_at tokens [] nothing_open ending o refl among in
    (tokens, ending, has, by_kind at.closer.kind tokens at.done at.rest at.p at.closer at.s o refl at.split at.leads at.taken at.gives)
