-- From one operation to the next.
use Rattle.std.proofs.Common.{◌≡◌, ℕ, zero, suc, ◌+◌, ◌<◌, ◌≤◌, List, [], ◌∷◌, ◌++◌, length, Bool, true, false, not, ◌&&◌, ◌||◌, bytes_eq, Option, Some, None, Result, Ok, Err, refl, sym, ◌∙◌, ap, arith, subst, ◌⊎◌, inl, inr}
use Rattle.std.specs.Option.{is_some}
use Rattle.std.specs.Bool.{if◌then◌else◌}
use Rattle.std.proofs.lemmas.Slice.Eq.{bytes_eq-Decides}
use Rattle.hist_types.specs.Bytes.{open_round, open_square, open_brace}
use Rattle.hist_types.specs.Entries.{Entry, PlacedOperation, operation, skipped}
use Rattle.hist_types.specs.Forms.{Form, collection, forms_of, Open, is_map, is_vector_or_list, has_drop, with_form, with_opener}
use Rattle.hist_types.specs.Reading.{step, step_by, may_open, is_operation_place, in_operation_place, only_opens, nothing_open}
use Rattle.hist_types.specs.Tokens.{Item, Opener, Closer, byte_fault, nesting_refusal}
use Rattle.hist_types.specs.declared.types.Fault.{Fault}
use Rattle.hist_types.specs.declared.types.Refusal.TheVariants.{NotAMap, Unclosed}
use Rattle.edn_lex.specs.declared.types.Token.{Token}
use Rattle.edn_lex.specs.declared.types.TokenKind.{TokenKind}
use Rattle.edn_lex.specs.declared.types.TokenKind.TheVariants as kinds
use Rattle.edn_lex.specs.Kinds.{kind_of, item_of}
use Rattle.edn_lex.specs.State.{State}
use Rattle.edn_ops.specs.declared.forms.Member.{Member}
use Rattle.edn_ops.specs.declared.types.OpShape.{OpShape}
use Rattle.edn_ops.specs.Leads.{SameDepth, Leads, ReadsAs, Stops, inside, behind, with_marks, is_mark_kind, GivesMember, GivesNoMember}
use Rattle.edn_ops.specs.Fields.{IsEntry}
use Rattle.edn_ops.specs.Shapes.{IsShapeOf}
use Rattle.edn_ops.specs.Collections.{ReadsMap}
use Rattle.edn_ops.specs.Reader.{OpenWith, AreOpen, skips, Goes, EndsWith}
use Rattle.edn_ops.proofs.Steps.{Leads-refl, Leads-append, Leads-then, Leads-stops, Leads-reads, Leads-depth, Leads-step, Stops-step, closer-depth, token-some}
use Rattle.edn_ops.proofs.Levels.{nothing_waits, with_form-behind, step-opener, Leads-closer}

-- ---- what is open

-- where the list is open no mark waits, and the next form is in an operation's place behind tags
in_place_behind : (text : List ℕ) (list : Option Token) (o : Open) (tags : List Item) → OpenWith text list o → has_drop tags ≡ false →
    in_operation_place (with_marks tags o) ≡ true
in_place_behind text None o tags is out =
    subst (λ (p : Open). in_operation_place (with_marks tags p) ≡ true) (sym is) (rw out refl)
in_place_behind text (Some opener) o tags is out =
    subst (λ (p : Open). in_operation_place (with_marks tags p) ≡ true) (sym is.4) (rw (is.3, is.2, out) refl)

no_marks : (text : List ℕ) (list : Option Token) (o : Open) → OpenWith text list o → with_marks [] o ≡ o
no_marks text None o is = subst (λ (p : Open). with_marks [] p ≡ p) (sym is) refl
no_marks text (Some opener) o is = subst (λ (p : Open). with_marks [] p ≡ p) (sym is.4) refl

-- behind a form the same is open
after_form : (text : List ℕ) (list : Option Token) (o : Open) (tags : List Item) (f : Form) → OpenWith text list o → has_drop tags ≡ false →
    (let p = with_marks tags o in OpenWith text list (with_form f p.marks p.collections))
after_form text None o tags f is out =
    let P : Open → Type 0 = λ q. let p = with_marks tags q in with_form f p.marks p.collections ≡ nothing_open in
    let e : with_form f tags [] ≡ nothing_open = ap (λ (ks : List Item). let x : Open = record { marks = ks; collections = [] } in x) (nothing_waits tags out) in
    subst P (sym is) e
after_form text (Some opener) o tags f is out =
    let i = item_of text opener in
    let around : Open = record { marks = is.1; collections = [] } in
    let P : Open → Type 0 = λ q. let p = with_marks tags q in with_form f p.marks p.collections ≡ inside i (is.0 ++ behind tags f ∷ []) [] around in
    (is.0 ++ behind tags f ∷ [], is.1, is.2, is.3, subst P (sym is.4) (with_form-behind i is.0 tags around f out))

bracket_no_brace : (b : Bool) (bytes : List ℕ) → bytes_eq bytes (open_square ∷ []) ≡ b → (b || bytes_eq bytes (open_round ∷ [])) ≡ true → bytes_eq bytes (open_brace ∷ []) ≡ false
bracket_no_brace true bytes is h = ap (λ (xs : List ℕ). bytes_eq xs (open_brace ∷ [])) ((bytes_eq-Decides bytes (open_square ∷ [])).0 is)
bracket_no_brace false bytes is h = ap (λ (xs : List ℕ). bytes_eq xs (open_brace ∷ [])) ((bytes_eq-Decides bytes (open_round ∷ [])).0 h)

-- a vector or list is no map
vector_no_map : (bytes : List ℕ) → (bytes_eq bytes (open_square ∷ []) || bytes_eq bytes (open_round ∷ [])) ≡ true → bytes_eq bytes (open_brace ∷ []) ≡ false
vector_no_map bytes h = bracket_no_brace (bytes_eq bytes (open_square ∷ [])) bytes refl h

-- ---- one member

-- up to the token
to_token : (s t : State) (m : Member) (h : GivesMember s m t) (list : Option Token) (o : Open) → OpenWith s.text list o → Leads s o [] h.before (with_marks h.tags o)
to_token s t m h list o is = subst (λ (p : Open). Leads s p [] h.before (with_marks h.tags o)) (no_marks s.text list o is) (h.leads o)

same_item : (s t : State) (m : Member) (h : GivesMember s m t) → item_of h.before.text m.token ≡ item_of s.text m.token
same_item s t m h = ap (λ text. item_of text m.token) (h.leads nothing_open).text

-- the opener of a map in an operation's place
may_map : (b c : Bool) → (not b || true || c) ≡ true
may_map b c = grind arith

-- a map has been read
pub map_read :
    (s t u : State) (m : Member) (h : GivesMember s m t) (list : Option Token) (o : Open) (opener closer : Item) (members : List Form) (entry : Entry) →
    OpenWith s.text list o → kind_of m.token.kind ≡ Opener → is_map (item_of s.text m.token) ≡ true → opener ≡ item_of s.text m.token →
    ((p : Open) → in_operation_place p ≡ true → Leads t (with_opener opener p) (entry ∷ []) u (with_form (collection opener closer (forms_of members)) p.marks p.collections)) →
    (q : Open) × OpenWith s.text list q × Leads s o (entry ∷ []) u q
map_read s t u m h list o opener closer members entry is kind map same leads =
    let i = item_of s.text m.token in
    let p = with_marks h.tags o in
    let f = collection opener closer (forms_of members) in
    let q = with_form f p.marks p.collections in
    let may : may_open p i ≡ true = rw map (may_map (in_operation_place p) _) in
    let goes : step p i ≡ Ok (only_opens (with_opener i p)) = step-opener i.kind i p kind may in
    let first : Leads h.before p [] t (with_opener i p) = Leads-step h.before t m.token p (only_opens (with_opener i p)) h.token (ap (step p) (same_item s t m h) ∙ goes) in
    let second : Leads t (with_opener i p) (entry ∷ []) u q =
    subst (λ (j : Item). Leads t (with_opener j p) (entry ∷ []) u q) same (leads p (in_place_behind s.text list o h.tags is h.no_drop)) in (
      q,
      after_form s.text list o h.tags f is h.no_drop,
      Leads-then s h.before u o p q (entry ∷ []) (to_token s t m h list o is) (Leads-then h.before t u p (with_opener i p) q (entry ∷ []) first second),
    )

-- a map stops
pub map_stops :
    (s t : State) (m : Member) (h : GivesMember s m t) (list : Option Token) (o : Open) (opener : Item) (fault : Fault) →
    OpenWith s.text list o → kind_of m.token.kind ≡ Opener → is_map (item_of s.text m.token) ≡ true → opener ≡ item_of s.text m.token →
    ((p : Open) → in_operation_place p ≡ true → Stops t (with_opener opener p) fault) → Stops s o fault
map_stops s t m h list o opener fault is kind map same stops =
    let i = item_of s.text m.token in
    let p = with_marks h.tags o in
    let may : may_open p i ≡ true = rw map (may_map (in_operation_place p) _) in
    let goes : step p i ≡ Ok (only_opens (with_opener i p)) = step-opener i.kind i p kind may in
    let first : Leads h.before p [] t (with_opener i p) = Leads-step h.before t m.token p (only_opens (with_opener i p)) h.token (ap (step p) (same_item s t m h) ∙ goes) in
    let second : Stops t (with_opener i p) fault =
    subst (λ (j : Item). Stops t (with_opener j p) fault) same (stops p (in_place_behind s.text list o h.tags is h.no_drop)) in
    Leads-stops s h.before o p fault (to_token s t m h list o is) (Leads-stops h.before t p (with_opener i p) fault first second)

may_list : (a b : Bool) → (not a || b || (true && true)) ≡ true
may_list a b = grind arith

-- a list is opened at the top level
pub list_opened :
    (s t : State) (m : Member) (h : GivesMember s m t) (o : Open) →
    OpenWith s.text None o → kind_of m.token.kind ≡ Opener → is_vector_or_list (item_of s.text m.token) ≡ true →
    (q : Open) × OpenWith s.text (Some m.token) q × Leads s o [] t q
list_opened s t m h o is kind list =
    let i = item_of s.text m.token in
    let p : Open = record { marks = h.tags; collections = [] } in
    let may : may_open p i ≡ true = rw list (may_list (in_operation_place p) (is_map i)) in
    let goes : step p i ≡ Ok (only_opens (with_opener i p)) = step-opener i.kind i p kind may in
    let first : Leads h.before p [] t (with_opener i p) = Leads-step h.before t m.token p (only_opens (with_opener i p)) h.token (ap (step p) (same_item s t m h) ∙ goes) in
    let start : Leads s o [] h.before p = subst (λ (q : Open). Leads s o [] h.before (with_marks h.tags q)) is (to_token s t m h None o is) in
    (with_opener i p, ([], h.tags, h.no_drop, list, refl), Leads-then s h.before t o p (with_opener i p) [] start first)

closes_none : (n m : ℕ) → n ≡ 0 → n ≡ suc m → ⊥
closes_none n m a b = omega arith

-- no closer is where nothing is open
pub no_closer : (s t : State) (m : Member) (h : GivesMember s m t) (o : Open) → AreOpen s None o → kind_of m.token.kind ≡ Closer → ⊥
no_closer s t m h o is kind =
    let i = item_of h.before.text m.token in
    let p : Open = record { marks = h.tags; collections = [] } in
    let start : Leads s o [] h.before p = subst (λ (q : Open). Leads s o [] h.before (with_marks h.tags q)) is.0 (to_token s t m h None o is.0) in
    let depth : SameDepth h.before p = Leads-depth s h.before o p [] start is.1 in
    let nests : nesting_refusal Closer i.bytes h.before.closers ≡ None = ap (λ k. nesting_refusal k i.bytes h.before.closers) (sym kind) ∙ h.token.nests in
    closes_none (length h.before.closers) _ depth (closer-depth i.bytes h.before.closers (token-some h.before m.token t h.token) nests)

given_vector : (b c : Bool) (given : Result (List Entry) Fault) → b ≡ false → (if b && c then given else Ok []) ≡ Ok []
given_vector b c given h = rw h refl

-- the list is closed
pub list_closed :
    (s t : State) (m : Member) (h : GivesMember s m t) (opener : Token) (o : Open) →
    OpenWith s.text (Some opener) o → kind_of m.token.kind ≡ Closer →
    (q : Open) × OpenWith s.text None q × Leads s o [] t q
list_closed s t m h opener o is kind =
    let i = item_of s.text opener in
    let around : Open = record { marks = is.1; collections = [] } in
    let f = collection i (item_of s.text m.token) (forms_of is.0) in
    let none = given_vector (is_map i) (is_operation_place around.marks around.collections) _ (vector_no_map i.bytes is.3) in
    let e : with_form f is.1 [] ≡ nothing_open = ap (λ (ks : List Item). let x : Open = record { marks = ks; collections = [] } in x) (nothing_waits is.1 is.2) in
    let lead : Leads s (inside i is.0 [] around) [] t (with_form f is.1 []) = Leads-closer s t m h i is.0 around [] kind none in (
      nothing_open,
      refl,
      subst (λ (p : Open). Leads s p [] t nothing_open) (sym is.4) (subst (λ (q : Open). Leads s (inside i is.0 [] around) [] t q) e lead),
    )

-- ---- 27

refused_plain : (kind : TokenKind) (i : Item) (p : Open) → is_mark_kind (kind_of kind) ≡ false → (kind ≡ kinds.Close → ⊥) → in_operation_place p ≡ true →
    (kind ≡ kinds.Open → may_open p i ≡ false) →
    step_by (kind_of kind) p i ≡ Err (byte_fault NotAMap i.start)
refused_plain kind i p none a place may =
    elim kind as (λ k. is_mark_kind (kind_of k) ≡ false → (k ≡ kinds.Close → ⊥) → (k ≡ kinds.Open → may_open p i ≡ false) → step_by (kind_of k) p i ≡ Err (byte_fault NotAMap i.start)) [
      | kinds.Open ↦ λ none a may. rw (may refl) refl
      | kinds.Close ↦ λ none a may. absurd (a refl)
      | kinds.Str ↦ λ none a may. rw place refl
      | kinds.Char ↦ λ none a may. rw place refl
      | kinds.Drop ↦ λ none a may. cc
      | kinds.Tag ↦ λ none a may. cc
      | kinds.Nil ↦ λ none a may. rw place refl
      | kinds.True ↦ λ none a may. rw place refl
      | kinds.False ↦ λ none a may. rw place refl
      | kinds.Int ↦ λ none a may. rw place refl
      | kinds.Keyword ↦ λ none a may. rw place refl
      | kinds.Symbol ↦ λ none a may. rw place refl
      | kinds.Other ↦ λ none a may. rw place refl
    ] none a may

-- at the top level a vector or list may be opened beside a map, and within one only a map
may_not : (text : List ℕ) (list : Option Token) (o : Open) (tags : List Item) (i : Item) → OpenWith text list o → has_drop tags ≡ false →
    is_map i ≡ false → (list ≡ None → is_vector_or_list i ≡ false) → may_open (with_marks tags o) i ≡ false
may_not text None o tags i is out map vector =
    subst (λ (p : Open). may_open (with_marks tags p) i ≡ false) (sym is) (rw (out, map, vector refl) refl)
may_not text (Some opener) o tags i is out map vector =
    subst (λ (p : Open). may_open (with_marks tags p) i ≡ false) (sym is.4) (rw (is.3, is.2, out, map) refl)

pub not_a_map :
    (s t : State) (m : Member) (h : GivesMember s m t) (list : Option Token) (o : Open) → OpenWith s.text list o → (m.token.kind ≡ kinds.Close → ⊥) →
    (m.token.kind ≡ kinds.Open → is_map (item_of s.text m.token) ≡ false) →
    (m.token.kind ≡ kinds.Open → list ≡ None → is_vector_or_list (item_of s.text m.token) ≡ false) →
    Stops s o (byte_fault NotAMap m.token.start)
not_a_map s t m h list o is closer map vector =
    let i = item_of s.text m.token in
    let p = with_marks h.tags o in
    let refused = refused_plain m.token.kind i p h.no_mark closer (in_place_behind s.text list o h.tags is h.no_drop)
    (λ at. may_not s.text list o h.tags i is h.no_drop (map at) (vector at)) in
    Leads-stops s h.before o p (byte_fault NotAMap m.token.start) (to_token s t m h list o is)
    (Stops-step h.before t m.token p (byte_fault NotAMap m.token.start) h.token (ap (step p) (same_item s t m h) ∙ refused))

-- ---- the end

pub end_reads : (s t : State) (h : GivesNoMember s t) (o : Open) → OpenWith s.text None o → ReadsAs s o (record { entries = []; fault = None })
end_reads s t h o is = subst (λ (p : Open). ReadsAs s p (record { entries = []; fault = None })) (sym is) (h.reads nothing_open)

pub end_unclosed : (s t : State) (h : GivesNoMember s t) (opener : Token) (o : Open) → OpenWith s.text (Some opener) o →
    ReadsAs s o (record { entries = []; fault = Some (byte_fault Unclosed opener.start) })
end_unclosed s t h opener o is =
    subst (λ (p : Open). ReadsAs s p (record { entries = []; fault = Some (byte_fault Unclosed opener.start) })) (sym is.4)
    (h.reads (inside (item_of s.text opener) is.0 [] (record { marks = is.1; collections = [] })))

-- a fault at the next member
pub member_stops : (s : State) (list : Option Token) (o : Open) (fault : Fault) → OpenWith s.text list o → ((p : Open) → Stops s (with_marks [] p) fault) → Stops s o fault
member_stops s list o fault is stops = subst (λ (p : Open). Stops s p fault) (no_marks s.text list o is) (stops o)

-- ---- from place to place

-- so many operations have been skipped from s to t
pub record Passed (s : State) (list : Option Token) (before : ℕ) (t : State) (list' : Option Token) (now : ℕ) : Type 0 where
  pub more : ℕ
  pub count : now ≡ before + more
  pub few : now ≤ t.offset
  pub text : t.text ≡ s.text
  pub goes : Goes s list (skips more) t list'

pub Passed-start : (s : State) (list : Option Token) (n : ℕ) → n ≤ s.offset → Passed s list n s list n
Passed-start s list n few =
    record { more = 0; count = omega arith; few = few; text = refl; goes = λ o is. (o, is, Leads-refl s o) }

pub Goes-append :
    (s t u : State) (a b c : Option Token) (g h : List Entry) → Goes s a g t b → Goes t b h u c → Goes s a (g ++ h) u c
Goes-append s t u a b c g h first second =
    λ o is.
    let x = first o is in
    let y = second x.0 x.1 in
    (y.0, y.1, Leads-append s t u o x.0 y.0 g h x.2 y.2)

skips-none : (n : ℕ) → skips n ++ [] ≡ skips n
skips-none zero = refl
skips-none (suc n) = ap (λ xs. skipped ∷ xs) (skips-none n)

skips-more : (n : ℕ) → skips n ++ skipped ∷ [] ≡ skips (suc n)
skips-more zero = refl
skips-more (suc n) = ap (λ xs. skipped ∷ xs) (skips-more n)

-- what leads on from each that is open
abbrev pub LeadsOn : State → Option Token → List Entry → State → Option Token → Type 0
LeadsOn s list given t list' = (o : Open) → AreOpen s list o → (q : Open) × OpenWith s.text list' q × Leads s o given t q

pub Goes-on : (s t : State) (list list' : Option Token) (given : List Entry) → LeadsOn s list given t list' → Goes s list given t list'
Goes-on s t list list' given leads =
    λ o is.
    let x = leads o is in
    (x.0, (subst (λ text. OpenWith text list' x.0) (sym x.2.text) x.1, Leads-depth s t o x.0 given x.2 is.1), x.2)

-- a list opened or closed
pub Passed-list :
    (s t u : State) (a b c : Option Token) (n m : ℕ) → Passed s a n t b m → t.offset ≤ u.offset → u.text ≡ t.text → LeadsOn t b [] u c → Passed s a n u c m
Passed-list s t u a b c n m p further text leads =
    let few = p.few in
    record {
      more = p.more;
      count = p.count;
      few = omega arith;
      text = text ∙ p.text;
      goes = subst (λ (es : List Entry). Goes s a es u c) (skips-none p.more) (Goes-append s t u a b c (skips p.more) [] p.goes (Goes-on t u b c [] leads));
    }

-- one operation skipped more
pub Passed-skipped :
    (s t u : State) (a b c : Option Token) (n m : ℕ) → Passed s a n t b m → t.offset < u.offset → u.text ≡ t.text → LeadsOn t b (skipped ∷ []) u c → Passed s a n u c (m + 1)
Passed-skipped s t u a b c n m p further text leads =
    let few = p.few in
    let count = p.count in
    record {
      more = suc p.more;
      count = omega arith;
      few = omega arith;
      text = text ∙ p.text;
      goes = subst (λ (es : List Entry). Goes s a es u c) (skips-more p.more) (Goes-append s t u a b c (skips p.more) (skipped ∷ []) p.goes (Goes-on t u b c (skipped ∷ []) leads));
    }

-- an operation
pub Passed-op :
    (s t u : State) (a b c : Option Token) (n m : ℕ) (p : Passed s a n t b m) (entry : Entry) → LeadsOn t b (entry ∷ []) u c → Goes s a (skips p.more ++ entry ∷ []) u c
Passed-op s t u a b c n m p entry leads = Goes-append s t u a b c (skips p.more) (entry ∷ []) p.goes (Goes-on t u b c (entry ∷ []) leads)

-- the end, or a fault
pub Passed-ends :
    (s t : State) (a b : Option Token) (n m : ℕ) (p : Passed s a n t b m) (fault : Option Fault) →
    ((o : Open) → AreOpen t b o → ReadsAs t o (record { entries = []; fault = fault })) → EndsWith s a (skips p.more) fault
Passed-ends s t a b n m p fault reads =
    λ o is.
    let x = p.goes o is in
    subst (λ (es : List Entry). ReadsAs s o (record { entries = es; fault = fault })) (skips-none p.more)
    (Leads-reads s t o x.0 (skips p.more) (record { entries = []; fault = fault }) x.2 (reads x.0 x.1))

-- ---- what a call of the reader does with a member

pub closes_on : (s t : State) (m : Member) (h : GivesMember s m t) (list : Option Token) → kind_of m.token.kind ≡ Closer → LeadsOn s list [] t None
closes_on s t m h None kind = λ o is. absurd (no_closer s t m h o is kind)
closes_on s t m h (Some opener) kind = λ o is. list_closed s t m h opener o is.0 kind

pub opens_on :
    (s t : State) (m : Member) (h : GivesMember s m t) (list : Option Token) → is_some list ≡ false → kind_of m.token.kind ≡ Opener →
    is_vector_or_list (item_of s.text m.token) ≡ true → LeadsOn s list [] t (Some m.token)
opens_on s t m h None none kind vector = λ o is. list_opened s t m h o is.0 kind vector
opens_on s t m h (Some opener) none kind vector = cc

is_op : (entry : Entry) (shape : OpShape) → IsEntry (Ok (Some shape)) (Ok entry) → (read : PlacedOperation) × (entry ≡ operation read) × IsShapeOf shape read
is_op entry shape read = grind arith

is_skip : (entry : Entry) → IsEntry (Ok None) (Ok entry) → entry ≡ skipped
is_skip entry h = grind arith

-- a map that is an operation
pub op_on :
    (s t u : State) (m : Member) (h : GivesMember s m t) (list : Option Token) (opener : Item) (shape : OpShape) → kind_of m.token.kind ≡ Opener →
    is_map (item_of s.text m.token) ≡ true → opener ≡ item_of s.text m.token → ReadsMap t opener (Ok (Some shape)) u →
    (read : PlacedOperation) × IsShapeOf shape read × LeadsOn s list (operation read ∷ []) u list
op_on s t u m h list opener shape kind map same reads =
    let x = is_op reads.0 shape reads.3 in (
      x.0,
      x.2,
      λ o is.
          subst (λ (e : Entry). (q : Open) × OpenWith s.text list q × Leads s o (e ∷ []) u q) x.1
          (map_read s t u m h list o opener reads.2 reads.1 reads.0 is.0 kind map same reads.6),
    )

-- a map that is skipped
pub skip_on :
    (s t u : State) (m : Member) (h : GivesMember s m t) (list : Option Token) (opener : Item) → kind_of m.token.kind ≡ Opener →
    is_map (item_of s.text m.token) ≡ true → opener ≡ item_of s.text m.token → ReadsMap t opener (Ok None) u →
    LeadsOn s list (skipped ∷ []) u list
skip_on s t u m h list opener kind map same reads =
    λ o is.
    subst (λ (e : Entry). (q : Open) × OpenWith s.text list q × Leads s o (e ∷ []) u q) (is_skip reads.0 reads.3)
    (map_read s t u m h list o opener reads.2 reads.1 reads.0 is.0 kind map same reads.6)

-- what stops gives the fault
pub stops_with : (s : State) (list : Option Token) (fault : Fault) → ((o : Open) → OpenWith s.text list o → Stops s o fault) →
    (o : Open) → AreOpen s list o → ReadsAs s o (record { entries = []; fault = Some fault })
stops_with s list fault stops o is = stops o is.0 is.1

none_is : (list : Option Token) → list ≡ None → is_some list ≡ false
none_is list h = ap is_some h

not_vector_at : (m : Member) (s : State) (list : Option Token) →
    (is_some list ≡ true) ⊎ (m.token.kind ≡ kinds.Open → is_vector_or_list (item_of s.text m.token) ≡ false) →
    m.token.kind ≡ kinds.Open → list ≡ None → is_vector_or_list (item_of s.text m.token) ≡ false
not_vector_at m s list (inl some) at none = absurd (let clash : false ≡ true = sym (none_is list none) ∙ some in cc)
not_vector_at m s list (inr vector) at none = vector at

-- 27
pub refuses_on :
    (s t : State) (m : Member) (h : GivesMember s m t) (list : Option Token) → (m.token.kind ≡ kinds.Close → ⊥) →
    (m.token.kind ≡ kinds.Open → is_map (item_of s.text m.token) ≡ false) →
    (is_some list ≡ true) ⊎ (m.token.kind ≡ kinds.Open → is_vector_or_list (item_of s.text m.token) ≡ false) →
    (o : Open) → AreOpen s list o → ReadsAs s o (record { entries = []; fault = Some (byte_fault NotAMap m.token.start) })
refuses_on s t m h list closer map vector =
    stops_with s list (byte_fault NotAMap m.token.start) (λ o is. not_a_map s t m h list o is closer map (λ at none. not_vector_at m s list vector at none))
