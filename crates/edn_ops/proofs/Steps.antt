-- How reading goes on: one token, and one stretch after the other.
use Rattle.std.proofs.Common.{◌≡◌, ℕ, suc, ◌+◌, ◌<◌, List, [], ◌∷◌, ◌++◌, length, drop, Bool, true, false, Some, None, Result, Ok, Err, refl, sym, ◌∙◌, ap, arith, append_assoc, ◌-◌, length-drop, length-take-le}
use Rattle.std.specs.Bool.{if◌then◌else◌}
use Rattle.hist_types.specs.Entries.{Entry, ◌>>=◌, refuse_if}
use Rattle.hist_types.specs.Forms.{Form, plain, OpenCollection, Open, with_form, with_mark, with_opener, form_of}
use Rattle.hist_types.specs.Reading.{Reading, Step, step, step_by, close, entries_at_close, refuse_waiting, may_open, in_operation_place, after_entries, and_then_read, fault_at_end, reading_from, only_opens}
use Rattle.hist_types.specs.Tokens.{Item, ItemKind, Blank, Comment, Opener, Closer, Str, Char, Drop, Tag, Nil, True, False, Int, Keyword, Symbol, Other, open_after, nesting_refusal, byte_fault}
use Rattle.hist_types.specs.declared.types.Fault.{Fault}
use Rattle.hist_types.specs.declared.types.Refusal.{Refusal}
use Rattle.hist_types.specs.declared.types.Refusal.TheVariants.{NotAMap, StrayCloser}
use Rattle.edn_lex.specs.declared.types.Token.{Token}
use Rattle.edn_lex.specs.Kinds.{item_of}
use Rattle.edn_lex.specs.State.{State, GivesToken, GivesFault, GivesEnd}
use Rattle.edn_ops.specs.Leads.{SameDepth, Leads, ReadsAs, Stops}

-- ---- one stretch after the other

pub Leads-refl : (s : State) (o : Open) → Leads s o [] s o
Leads-refl s o =
    record { text = refl; forward = omega arith; depth = refl; reads = λ tokens ending rest. (tokens, rest, refl) }

-- what comes in front of what comes in front
in_front-in_front : (g h : List Entry) (r : Reading) → after_entries g (after_entries h r) ≡ after_entries (g ++ h) r
in_front-in_front g h r = ap (λ es. let x : Reading = record { entries = es; fault = r.fault } in x) (sym (append_assoc g h r.entries))

pub Leads-append : (s t u : State) (o p q : Open) (g h : List Entry) → Leads s o g t p → Leads t p h u q → Leads s o (g ++ h) u q
Leads-append s t u o p q g h first second =
    let low = first.forward in
    let high = second.forward in
    let one = first.depth in
    let other = second.depth in
    record {
      text = second.text ∙ first.text;
      forward = omega arith;
      depth = omega arith;
      reads = λ tokens ending rest.
          let x = first.reads tokens ending rest in
          let y = second.reads x.0 ending x.1 in
          (y.0, y.1, x.2 ∙ ap (after_entries g) y.2 ∙ in_front-in_front g h (reading_from q y.0 ending));
    }

-- where the first stretch gives nothing
pub Leads-then : (s t u : State) (o p q : Open) (h : List Entry) → Leads s o [] t p → Leads t p h u q → Leads s o h u q
Leads-then s t u o p q h first second = Leads-append s t u o p q [] h first second

pub Leads-stops : (s t : State) (o p : Open) (fault : Fault) → Leads s o [] t p → Stops t p fault → Stops s o fault
Leads-stops s t o p fault first stops =
    λ depth tokens ending rest.
    let x = first.reads tokens ending rest in
    let same : SameDepth t p = (let e = first.depth in omega arith) in
    x.2 ∙ ap (after_entries []) (stops same x.0 ending x.1)

pub Leads-reads : (s t : State) (o p : Open) (g : List Entry) (r : Reading) → Leads s o g t p → ReadsAs t p r → ReadsAs s o (after_entries g r)
Leads-reads s t o p g r first reads =
    λ tokens ending rest.
    let x = first.reads tokens ending rest in
    x.2 ∙ ap (after_entries g) (reads x.0 ending x.1)

pub Leads-depth : (s t : State) (o p : Open) (g : List Entry) → Leads s o g t p → SameDepth s o → SameDepth t p
Leads-depth s t o p g first same = let e = first.depth in omega arith

-- ---- one token

-- as many collections are open behind a token for the lexer as for reading
abbrev KeepsDepth : ItemKind → List ℕ → List ℕ → Open → Open → Type 0
KeepsDepth kind bytes closers o p = length (open_after kind bytes closers) + length o.collections ≡ length closers + length p.collections

with_form-depth : (f : Form) (marks : List Item) (cs : List OpenCollection) → length (with_form f marks cs).collections ≡ length cs
with_form-depth f marks cs = grind arith

with_mark-depth : (m : Item) (marks : List Item) (cs : List OpenCollection) → length (with_mark m marks cs).collections ≡ length cs
with_mark-depth m marks cs = grind arith

-- a step that goes on
abbrev step_to : Open → Result Step Fault
step_to p = Ok (only_opens p)

-- what two steps that go on leave open
after_of : (st : Step) (p : Open) → step_to p ≡ Ok st → p ≡ st.after
after_of st p h = let e : only_opens p ≡ st = cc in ap (λ (x : Step). x.after) e

-- a closer ends a collection that is open for the lexer
pub closer-depth : (bytes closers : List ℕ) → 0 < length bytes → nesting_refusal Closer bytes closers ≡ None → length closers ≡ suc (length (open_after Closer bytes closers))
closer-depth [] closers some fine = absurd (omega arith)
closer-depth (b ∷ bs) [] some fine = absurd (let clash : Some StrayCloser ≡ None = fine in cc)
closer-depth (b ∷ bs) (c ∷ cs) some fine = omega (arith, length-drop 1 (c ∷ cs))

-- a step that a check lets go on
goes_if :
    (b : Bool) (fault : Fault) (p : Open) (st : Step) → (if b then Ok (only_opens p) else Err fault) ≡ Ok st → p ≡ st.after
goes_if true fault p st h = after_of st p h
goes_if false fault p st h = cc

goes_unless :
    (b : Bool) (refusal : Refusal) (offset : ℕ) (p : Open) (st : Step) → (refuse_if b refusal offset >>= λ _. Ok (only_opens p)) ≡ Ok st → p ≡ st.after
goes_unless true refusal offset p st h = cc
goes_unless false refusal offset p st h = after_of st p h

-- what a closed collection leaves open
close-given :
    (given : Result (List Entry) Fault) (p : Open) (st : Step) →
    (given >>= λ entries. Ok (let x : Step = record { entries = entries; after = p } in x)) ≡ Ok st → p ≡ st.after
close-given (Ok entries) p st h =
    let x : Step = record { entries = entries; after = p } in let e : x ≡ st = cc in ap (λ (y : Step). y.after) e
close-given (Err fault) p st h = cc

close-waiting :
    (waiting : List Item) (given : Result (List Entry) Fault) (p : Open) (st : Step) →
    (refuse_waiting waiting >>= λ _. given >>= λ entries. Ok (let x : Step = record { entries = entries; after = p } in x)) ≡ Ok st → p ≡ st.after
close-waiting [] given p st h = close-given given p st h
close-waiting (mark ∷ waiting) given p st h = cc

close-depth :
    (t : Item) (bytes closers : List ℕ) (marks : List Item) (cs : List OpenCollection) (st : Step) →
    0 < length bytes → nesting_refusal Closer bytes closers ≡ None → close t marks cs ≡ Ok st →
    length (open_after Closer bytes closers) + length cs ≡ length closers + length st.after.collections
close-depth t bytes closers marks [] st some fine h = cc
close-depth t bytes closers marks (c ∷ outer) st some fine h =
    let one = closer-depth bytes closers some fine in
    let same = close-waiting c.marks (entries_at_close c t marks outer) (with_form (form_of c t) marks outer) st h in
    let two : length st.after.collections ≡ length outer =
    ap (λ (p : Open). length p.collections) (sym same) ∙ with_form-depth (form_of c t) marks outer in
    omega arith

-- a token that is a form
plain-depth :
    (t : Item) (n : ℕ) (o : Open) (st : Step) →
    (refuse_if (in_operation_place o) NotAMap t.start >>= λ _. Ok (only_opens (with_form (plain t) o.marks o.collections))) ≡ Ok st →
    n + length o.collections ≡ n + length st.after.collections
plain-depth t n o st h =
    let same = goes_unless (in_operation_place o) NotAMap t.start _ st h in
    let two : length st.after.collections ≡ length o.collections =
    ap (λ (p : Open). length p.collections) (sym same) ∙ with_form-depth (plain t) o.marks o.collections in
    omega arith

mark-depth :
    (t : Item) (n : ℕ) (o : Open) (st : Step) → step_to (with_mark t o.marks o.collections) ≡ Ok st →
    n + length o.collections ≡ n + length st.after.collections
mark-depth t n o st h =
    let same = after_of st _ h in
    let two : length st.after.collections ≡ length o.collections =
    ap (λ (p : Open). length p.collections) (sym same) ∙ with_mark-depth t o.marks o.collections in
    omega arith

step-depth :
    (kind : ItemKind) (t : Item) (bytes closers : List ℕ) (o : Open) (st : Step) →
    0 < length bytes → nesting_refusal kind bytes closers ≡ None → step_by kind o t ≡ Ok st → KeepsDepth kind bytes closers o st.after
step-depth kind t bytes closers o st some = elim kind as (λ k. nesting_refusal k bytes closers ≡ None → step_by k o t ≡ Ok st → KeepsDepth k bytes closers o st.after) [
  | Blank ↦ λ fine h. plain-depth t (length closers) o st h
  | Comment ↦ λ fine h. plain-depth t (length closers) o st h
  | Opener ↦ λ fine h.
      let same = goes_if (may_open o t) (byte_fault NotAMap t.start) (with_opener t o) st h in
      let two : length st.after.collections ≡ suc (length o.collections) = ap (λ (p : Open). length p.collections) (sym same) in
      omega arith
  | Closer ↦ λ fine h. close-depth t bytes closers o.marks o.collections st some fine h
  | Str ↦ λ fine h. plain-depth t (length closers) o st h
  | Char ↦ λ fine h. plain-depth t (length closers) o st h
  | Drop ↦ λ fine h. mark-depth t (length closers) o st h
  | Tag ↦ λ fine h. mark-depth t (length closers) o st h
  | Nil ↦ λ fine h. plain-depth t (length closers) o st h
  | True ↦ λ fine h. plain-depth t (length closers) o st h
  | False ↦ λ fine h. plain-depth t (length closers) o st h
  | Int ↦ λ fine h. plain-depth t (length closers) o st h
  | Keyword ↦ λ fine h. plain-depth t (length closers) o st h
  | Symbol ↦ λ fine h. plain-depth t (length closers) o st h
  | Other ↦ λ fine h. plain-depth t (length closers) o st h
]

-- ---- a call of the lexer

-- a token has bytes
pub token-some : (s : State) (token : Token) (t : State) → GivesToken s token t → 0 < length (item_of s.text token).bytes
token-some s token t g =
    let some = g.some in
    let fits = g.fits in
    omega (arith, length-drop token.start s.text, length-take-le (token.end - token.start) (drop token.start s.text) (omega (arith, length-drop token.start s.text)))

pub Leads-step :
    (s t : State) (token : Token) (o : Open) (st : Step) → GivesToken s token t → step o (item_of s.text token) ≡ Ok st → Leads s o st.entries t st.after
Leads-step s t token o st g h =
    let low = g.low in
    let some = g.some in
    let next = g.next in
    let i = item_of s.text token in
    let depth = step-depth i.kind i i.bytes s.closers o st (token-some s token t g) g.nests h in
    record {
      text = g.text;
      forward = omega arith;
      depth = ap (λ (cs : List ℕ). length cs + length o.collections) g.closers ∙ depth;
      reads = λ tokens ending rest.
          let x = g.only tokens ending rest in (
            x.0,
            x.2,
            ap (λ ts. reading_from o ts ending) x.1 ∙ ap (λ r. and_then_read r (λ after. reading_from after x.0 ending)) h,
          );
    }

pub Stops-step :
    (s t : State) (token : Token) (o : Open) (fault : Fault) → GivesToken s token t → step o (item_of s.text token) ≡ Err fault → Stops s o fault
Stops-step s t token o fault g h =
    λ depth tokens ending rest.
    let x = g.only tokens ending rest in
    ap (λ ts. reading_from o ts ending) x.1 ∙ ap (λ r. and_then_read r (λ after. reading_from after x.0 ending)) h

pub Stops-fault : (s t : State) (o : Open) (fault : Fault) → GivesFault s fault t → Stops s o fault
Stops-fault s t o fault g =
    λ depth tokens ending rest.
    let x = g.only tokens ending rest in
    ap (λ ts. reading_from o ts ending) x.0 ∙ ap (λ e. reading_from o [] e) x.1

pub ReadsAs-end : (s t : State) (o : Open) → GivesEnd s t → ReadsAs s o (record { entries = []; fault = fault_at_end o })
ReadsAs-end s t o g =
    λ tokens ending rest.
    let x = g.only tokens ending rest in
    ap (λ ts. reading_from o ts ending) x.0 ∙ ap (λ e. reading_from o [] e) x.1
