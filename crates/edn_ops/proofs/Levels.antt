-- The members of one level: an open collection, or the top level.
use Rattle.std.proofs.Common.{◌≡◌, ℕ, ◌<◌, ◌≤◌, List, [], ◌∷◌, ◌++◌, length, Bool, true, false, not, ◌&&◌, ◌||◌, Option, Some, Result, Ok, Err, refl, sym, ◌∙◌, ap, arith, subst, unwrap_or}
use Rattle.std.specs.Bool.{if◌then◌else◌}
use Rattle.hist_types.specs.Entries.{Entry, ◌>>=◌}
use Rattle.hist_types.specs.Forms.{Form, plain, collection, tagged, forms_of, OpenCollection, Open, is_drop, is_map, is_vector_or_list, has_drop, settled, still_waiting, with_member, with_form, with_opener}
use Rattle.hist_types.specs.Reading.{Step, step, step_by, entries_at_close, may_open, is_operation_place, in_operation_place, only_opens}
use Rattle.hist_types.specs.Tokens.{Item, ItemKind, Blank, Comment, Opener, Closer, Str, Char, Drop, Tag, Nil, True, False, Int, Keyword, Symbol, Other, byte_fault}
use Rattle.hist_types.specs.declared.types.Fault.{Fault}
use Rattle.hist_types.specs.declared.types.Refusal.TheVariants.{Unclosed}
use Rattle.edn_lex.specs.Kinds.{kind_of, item_of}
use Rattle.edn_lex.specs.State.{State}
use Rattle.edn_ops.specs.declared.forms.Member.{Member}
use Rattle.edn_ops.specs.Leads.{Leads, Stops, inside, NoPlaceIn, first_place, behind, IsBehind, is_plain_kind, GivesMember, GivesNoMember, PassesCollection}
use Rattle.edn_ops.proofs.Steps.{Leads-step, Leads-then, Leads-stops, Stops-step}

-- ---- tags

or_false : (a b : Bool) → (a || b) ≡ false → (a ≡ false) × (b ≡ false)
or_false a b h = grind arith

-- a form behind tags is a member, and nothing waits any more
pub settled_behind : (tags : List Item) (f : Form) → has_drop tags ≡ false → settled tags f ≡ Some (behind tags f)
settled_behind [] f h = refl
settled_behind (tag ∷ tags) f h =
    let x = or_false (is_drop tag) (has_drop tags) h in
    rw x.0 (settled_behind tags (tagged tag f) x.1)

pub nothing_waits : (tags : List Item) → has_drop tags ≡ false → still_waiting tags ≡ []
nothing_waits [] h = refl
nothing_waits (tag ∷ tags) h =
    let x = or_false (is_drop tag) (has_drop tags) h in
    rw x.0 (nothing_waits tags x.1)

-- the outermost tag is the first
tagged_first :
    (tags : List Item) (tag : Item) (f : Form) →
    (outer : Item) × (inner : Form) × (behind tags (tagged tag f) ≡ tagged outer inner) × (outer.start ≡ unwrap_or (first_place tags) tag.start)
tagged_first [] tag f = (tag, f, refl, refl)
tagged_first (next ∷ tags) tag f = tagged_first tags next (tagged tag f)

pub behind_is : (tags : List Item) (f : Form) → IsBehind (first_place tags) f (behind tags f)
behind_is [] f = refl
behind_is (tag ∷ tags) f = tagged_first tags tag f

-- the form that a member's first token or collection makes with the tags before it
pub behind_member : (s t : State) (m : Member) (h : GivesMember s m t) (f : Form) → IsBehind m.tag f (behind h.tags f)
behind_member s t m h f = let P : Option ℕ → Type 0 = λ place. IsBehind place f (behind h.tags f) in subst P (sym h.first) (behind_is h.tags f)

-- ---- no operation's place

not_vector : (a b c : Bool) → a ≡ false → (a && b && c) ≡ false
not_vector a b c h = rw h refl

-- within a map or a set
pub NoPlaceIn-map : (opener : Item) (marks : List Item) (cs : List OpenCollection) → is_vector_or_list opener ≡ false →
    (let around : Open = record { marks = marks; collections = cs } in NoPlaceIn opener around)
NoPlaceIn-map opener marks [] h = λ ms ks. not_vector (is_vector_or_list opener) (not (has_drop marks)) (not (has_drop ks)) h
NoPlaceIn-map opener marks (c ∷ cs) h = λ ms ks. refl

left_out : (b : Bool) → not b ≡ false → b ≡ true
left_out true h = refl
left_out false h = sym h

none_between : (a b c : Bool) → b ≡ true → (a && not b && c) ≡ false
none_between true b c h = rw h refl
none_between false b c h = refl

-- within a collection that is in no operation's place
NoPlaceIn-outside-at : (opener : Item) (marks : List Item) (cs : List OpenCollection) → is_operation_place marks cs ≡ false →
    (let around : Open = record { marks = marks; collections = cs } in NoPlaceIn opener around)
NoPlaceIn-outside-at opener marks [] h =
    λ ms ks. none_between (is_vector_or_list opener) (has_drop marks) (not (has_drop ks)) (left_out (has_drop marks) h)
NoPlaceIn-outside-at opener marks (c ∷ cs) h = λ ms ks. refl

pub NoPlaceIn-outside : (opener : Item) (around : Open) → in_operation_place around ≡ false → NoPlaceIn opener around
NoPlaceIn-outside opener around h = NoPlaceIn-outside-at opener around.marks around.collections h

-- ---- members

-- a form behind tags is one member more
pub with_form-behind :
    (opener : Item) (members : List Form) (tags : List Item) (around : Open) (f : Form) → has_drop tags ≡ false →
    (let o = inside opener members tags around in with_form f o.marks o.collections ≡ inside opener (members ++ behind tags f ∷ []) [] around)
with_form-behind opener members tags around f h =
    ap (λ (x : Option Form). inside opener (with_member x members) (still_waiting tags) around) (settled_behind tags f h)
    ∙ ap (λ ks. inside opener (members ++ behind tags f ∷ []) ks around) (nothing_waits tags h)

-- a form in no operation's place
pub step-plain :
    (kind : ItemKind) (i : Item) (o : Open) → is_plain_kind kind ≡ true → in_operation_place o ≡ false →
    step_by kind o i ≡ Ok (only_opens (with_form (plain i) o.marks o.collections))
step-plain kind i o = elim kind as (λ k. is_plain_kind k ≡ true → in_operation_place o ≡ false → step_by k o i ≡ Ok (only_opens (with_form (plain i) o.marks o.collections))) [
  | Blank ↦ λ is no. rw no refl
  | Comment ↦ λ is no. rw no refl
  | Opener ↦ λ is no. cc
  | Closer ↦ λ is no. cc
  | Str ↦ λ is no. rw no refl
  | Char ↦ λ is no. rw no refl
  | Drop ↦ λ is no. cc
  | Tag ↦ λ is no. cc
  | Nil ↦ λ is no. rw no refl
  | True ↦ λ is no. rw no refl
  | False ↦ λ is no. rw no refl
  | Int ↦ λ is no. rw no refl
  | Keyword ↦ λ is no. rw no refl
  | Symbol ↦ λ is no. rw no refl
  | Other ↦ λ is no. rw no refl
]

pub step-opener : (kind : ItemKind) (i : Item) (o : Open) → kind ≡ Opener → may_open o i ≡ true → step_by kind o i ≡ Ok (only_opens (with_opener i o))
step-opener kind i o is may = ap (λ k. step_by k o i) is ∙ rw may refl

-- the member's text is the whole text
text_before : (s t : State) (m : Member) (h : GivesMember s m t) → h.before.text ≡ s.text
text_before s t m h = (h.leads (record { marks = []; collections = [] })).text

-- a member that is a token
pub Leads-plain :
    (s t : State) (m : Member) (h : GivesMember s m t) (opener : Item) (members : List Form) (around : Open) →
    is_plain_kind (kind_of m.token.kind) ≡ true → NoPlaceIn opener around →
    Leads s (inside opener members [] around) [] t (inside opener (members ++ behind h.tags (plain (item_of s.text m.token)) ∷ []) [] around)
Leads-plain s t m h opener members around plain_kind out =
    let i = item_of s.text m.token in
    let o = inside opener members h.tags around in
    let p = with_form (plain i) o.marks o.collections in
    let same : item_of h.before.text m.token ≡ i = ap (λ text. item_of text m.token) (text_before s t m h) in
    let is : step o i ≡ Ok (only_opens p) = step-plain i.kind i o plain_kind (out members h.tags) in
    let first = h.leads (inside opener members [] around) in
    let second : Leads h.before o [] t p = Leads-step h.before t m.token o (only_opens p) h.token (ap (step o) same ∙ is) in
    subst (λ (q : Open). Leads s (inside opener members [] around) [] t q) (with_form-behind opener members h.tags around (plain i) h.no_drop)
    (Leads-then s h.before t (inside opener members [] around) o p [] first second)

-- a member that is a collection, up to behind its opener
pub Leads-opener :
    (s t : State) (m : Member) (h : GivesMember s m t) (opener : Item) (members : List Form) (around : Open) →
    kind_of m.token.kind ≡ Opener → NoPlaceIn opener around →
    Leads s (inside opener members [] around) [] t (with_opener (item_of s.text m.token) (inside opener members h.tags around))
Leads-opener s t m h opener members around is out =
    let i = item_of s.text m.token in
    let o = inside opener members h.tags around in
    let same : item_of h.before.text m.token ≡ i = ap (λ text. item_of text m.token) (text_before s t m h) in
    let may : may_open o i ≡ true = rw (out members h.tags) refl in
    let goes : step o i ≡ Ok (only_opens (with_opener i o)) = step-opener i.kind i o is may in
    let first = h.leads (inside opener members [] around) in
    let second : Leads h.before o [] t (with_opener i o) = Leads-step h.before t m.token o (only_opens (with_opener i o)) h.token (ap (step o) same ∙ goes) in
    Leads-then s h.before t (inside opener members [] around) o (with_opener i o) [] first second

-- and once it is closed
pub Leads-member :
    (s t u : State) (m : Member) (h : GivesMember s m t) (opener closer : Item) (members ms : List Form) (around : Open) →
    kind_of m.token.kind ≡ Opener → NoPlaceIn opener around →
    (let i = item_of s.text m.token in
    let o = inside opener members h.tags around in
    Leads t (with_opener i o) [] u (with_form (collection i closer (forms_of ms)) o.marks o.collections)) →
    Leads s (inside opener members [] around) [] u (inside opener (members ++ behind h.tags (collection (item_of s.text m.token) closer (forms_of ms)) ∷ []) [] around)
Leads-member s t u m h opener closer members ms around is out within =
    let i = item_of s.text m.token in
    let o = inside opener members h.tags around in
    let f = collection i closer (forms_of ms) in
    let first = Leads-opener s t m h opener members around is out in
    subst (λ (q : Open). Leads s (inside opener members [] around) [] u q) (with_form-behind opener members h.tags around f h.no_drop)
    (Leads-then s t u (inside opener members [] around) (with_opener i o) (with_form f o.marks o.collections) [] first within)

-- a collection that was passed over
pub Leads-skipped :
    (s t u : State) (m : Member) (h : GivesMember s m t) (opener : Item) (members : List Form) (around : Open) →
    kind_of m.token.kind ≡ Opener → NoPlaceIn opener around → (p : PassesCollection t (item_of t.text m.token) u) →
    Leads s (inside opener members [] around) [] u
    (inside opener (members ++ behind h.tags (collection (item_of s.text m.token) p.closer (forms_of p.members)) ∷ []) [] around)
Leads-skipped s t u m h opener members around is out p =
    let o = inside opener members h.tags around in
    let same : item_of t.text m.token ≡ item_of s.text m.token = ap (λ text. item_of text m.token) (h.token.text ∙ text_before s t m h) in
    let P : Item → Type 0 = λ i. Leads t (with_opener i o) [] u (with_form (collection i p.closer (forms_of p.members)) o.marks o.collections) in
    Leads-member s t u m h opener p.closer members p.members around is out (subst P same (p.leads o (out members h.tags)))

-- the closer
pub Leads-closer :
    (s t : State) (m : Member) (h : GivesMember s m t) (opener : Item) (members : List Form) (around : Open) (given : List Entry) →
    kind_of m.token.kind ≡ Closer →
    entries_at_close (record { opener = opener; members = members; marks = [] }) (item_of s.text m.token) around.marks around.collections ≡ Ok given →
    Leads s (inside opener members [] around) given t (with_form (collection opener (item_of s.text m.token) (forms_of members)) around.marks around.collections)
Leads-closer s t m h opener members around given is gives =
    let i = item_of s.text m.token in
    let o = inside opener members [] around in
    let p = with_form (collection opener i (forms_of members)) around.marks around.collections in
    let same : item_of h.before.text m.token ≡ i = ap (λ text. item_of text m.token) (text_before s t m h) in
    let st : Step = record { entries = given; after = p } in
    let goes : step o i ≡ Ok st = ap (λ k. step_by k o i) is ∙ ap (λ g. g >>= λ entries. Ok (let x : Step = record { entries = entries; after = p } in x)) gives in
    let first : Leads s o [] h.before o = subst (λ (ks : List Item). Leads s o [] h.before (inside opener members ks around)) (h.closer is) (h.leads o) in
    let second : Leads h.before o given t p = Leads-step h.before t m.token o st h.token (ap (step o) same ∙ goes) in
    Leads-then s h.before t o o p given first second

-- the closer, where the collection is refused
pub Stops-closer :
    (s t : State) (m : Member) (h : GivesMember s m t) (opener : Item) (members : List Form) (around : Open) (fault : Fault) →
    kind_of m.token.kind ≡ Closer →
    entries_at_close (record { opener = opener; members = members; marks = [] }) (item_of s.text m.token) around.marks around.collections ≡ Err fault →
    Stops s (inside opener members [] around) fault
Stops-closer s t m h opener members around fault is gives =
    let i = item_of s.text m.token in
    let o = inside opener members [] around in
    let p = with_form (collection opener i (forms_of members)) around.marks around.collections in
    let same : item_of h.before.text m.token ≡ i = ap (λ text. item_of text m.token) (text_before s t m h) in
    let goes : step o i ≡ Err fault = ap (λ k. step_by k o i) is ∙ ap (λ g. g >>= λ entries. Ok (let x : Step = record { entries = entries; after = p } in x)) gives in
    let first : Leads s o [] h.before o = subst (λ (ks : List Item). Leads s o [] h.before (inside opener members ks around)) (h.closer is) (h.leads o) in
    let second : Stops h.before o fault = Stops-step h.before t m.token o fault h.token (ap (step o) same ∙ goes) in
    Leads-stops s h.before o o fault first second

given_none : (b c : Bool) (given : Result (List Entry) Fault) → c ≡ false → (if b && c then given else Ok []) ≡ Ok []
given_none true c given h = rw h refl
given_none false c given h = refl

-- the closer of a collection that is in no operation's place
pub given_outside : (c : OpenCollection) (closer : Item) (around : Open) → in_operation_place around ≡ false → entries_at_close c closer around.marks around.collections ≡ Ok []
given_outside c closer around h = given_none (is_map c.opener) (is_operation_place around.marks around.collections) _ h

-- the text ends in a collection
pub Stops-unclosed :
    (s t : State) (h : GivesNoMember s t) (opener : Item) (members : List Form) (around : Open) →
    Stops s (inside opener members [] around) (byte_fault Unclosed opener.start)
Stops-unclosed s t h opener members around = λ depth. h.reads (inside opener members [] around)

-- less is left behind a member
pub GivesMember-shorter : (s t : State) (m : Member) → GivesMember s m t → (s.offset < t.offset) × (t.offset ≤ length s.text) × (t.text ≡ s.text)
GivesMember-shorter s t m h =
    let start : Open = record { marks = []; collections = [] } in
    let low = (h.leads start).forward in
    let text = (h.leads start).text in
    let some = h.token.some in
    let above = h.token.low in
    let next = h.token.next in
    let fits : m.token.end ≤ length s.text = subst (λ xs. m.token.end ≤ length xs) text h.token.fits in
    (omega arith, omega arith, h.token.text ∙ text)

-- its token ends behind what had been passed
pub GivesMember-end : (s t : State) (m : Member) → GivesMember s m t → s.offset < m.token.end
GivesMember-end s t m h =
    let low = (h.leads (record { marks = []; collections = [] })).forward in
    let above = h.token.low in
    let some = h.token.some in
    omega arith
