-- Marks that wait, and the forms that they leave out.
use Rattle.std.proofs.Common.{◌≡◌, ℕ, zero, suc, ◌+◌, ◌-◌, ◌<◌, ◌≤◌, List, [], ◌∷◌, length, Bool, true, false, cond, not, ◌&&◌, ◌||◌, Option, Some, None, Ok, refl, sym, ◌∙◌, ap, arith, subst}
use Rattle.std.specs.Bool.{if◌then◌else◌}
use Rattle.hist_types.specs.Forms.{Form, plain, collection, tagged, forms_of, OpenCollection, Open, is_drop, has_drop, is_vector_or_list, settled, still_waiting, with_member, with_form, with_mark, with_opener}
use Rattle.hist_types.specs.Reading.{Reading, step_by, may_open, in_operation_place, fault_at_end, only_opens}
use Rattle.hist_types.specs.Tokens.{Item, ItemKind, Blank, Comment, Opener, Closer, Str, Char, Drop, Tag, Nil, True, False, Int, Keyword, Symbol, Other, byte_fault, nesting_refusal}
use Rattle.hist_types.specs.declared.types.Fault.{Fault}
use Rattle.hist_types.specs.declared.types.Refusal.TheVariants.{DanglingTag}
use Rattle.edn_lex.specs.declared.types.Token.{Token}
use Rattle.edn_lex.specs.Kinds.{kind_of, item_of}
use Rattle.edn_lex.specs.State.{State, GivesToken, GivesEnd}
use Rattle.edn_ops.specs.LevelEnds.{waits, stands, role_of, SameLevel, WaitAtEnd}
use Rattle.edn_ops.specs.Leads.{Leads, Stops, marks_among, with_marks, is_mark_kind, is_plain_kind, GivesMember, GivesNoMember, PassesCollection}
use Rattle.edn_ops.specs.Marks.{Waits, any_mark, drops_among}
use Rattle.edn_ops.proofs.Steps.{Leads-refl, Leads-then, Leads-stops, Leads-reads, Leads-step, Stops-step, ReadsAs-end, closer-depth, token-some}
use Rattle.edn_ops.proofs.Levels.{step-plain, step-opener}
use Rattle.edn_ops.proofs.LevelSteps.{InLevel-refl, InLevel-step, InLevel-collection, SameLevel-then, passes, WaitAtEnd-closer, WaitAtEnd-end}
use Rattle.edn_ops.proofs.LastMark.{role-mark}
use Rattle.edn_ops.proofs.MarksKept.{Waits-drops}

-- ---- a mark more

step-mark : (kind : ItemKind) (i : Item) (o : Open) → is_mark_kind kind ≡ true → step_by kind o i ≡ Ok (only_opens (with_mark i o.marks o.collections))
step-mark kind i o = elim kind as (λ k. is_mark_kind k ≡ true → step_by k o i ≡ Ok (only_opens (with_mark i o.marks o.collections))) [
  | Blank ↦ λ h. cc
  | Comment ↦ λ h. cc
  | Opener ↦ λ h. cc
  | Closer ↦ λ h. cc
  | Str ↦ λ h. cc
  | Char ↦ λ h. cc
  | Drop ↦ λ h. refl
  | Tag ↦ λ h. refl
  | Nil ↦ λ h. cc
  | True ↦ λ h. cc
  | False ↦ λ h. cc
  | Int ↦ λ h. cc
  | Keyword ↦ λ h. cc
  | Symbol ↦ λ h. cc
  | Other ↦ λ h. cc
]

marked : (i : Item) (marks ms : List Item) (cs : List OpenCollection) →
    (let o = marks_among marks ms cs in with_mark i o.marks o.collections ≡ marks_among (i ∷ marks) ms cs)
marked i marks ms cs = grind arith

pub Leads-mark :
    (s t : State) (token : Token) (marks : List Item) (o : Open) → GivesToken s token t → is_mark_kind (kind_of token.kind) ≡ true →
    Leads s (with_marks marks o) [] t (with_marks (item_of s.text token ∷ marks) o)
Leads-mark s t token marks o g is =
    let i = item_of s.text token in
    let p = with_marks marks o in
    subst (λ (q : Open). Leads s p [] t q) (marked i marks o.marks o.collections)
    (Leads-step s t token p (only_opens (with_mark i p.marks p.collections)) g (step-mark i.kind i p is))

-- ---- a form that is left out

hidden_last : (a b : Bool) → (a && b && false) ≡ false
hidden_last a b = grind arith

-- where a `#_` waits no operation's place is
hidden : (marks ms : List Item) (cs : List OpenCollection) → has_drop marks ≡ true → in_operation_place (marks_among marks ms cs) ≡ false
hidden marks ms [] h = rw h refl
hidden marks ms (c ∷ []) h = rw h (hidden_last (is_vector_or_list c.opener) (not (has_drop ms)))
hidden marks ms (c ∷ d ∷ outer) h = refl

settled_none : (marks : List Item) (f : Form) → has_drop marks ≡ true → settled marks f ≡ None
settled_none [] f h = cc
settled_none (m ∷ marks) f h =
    elim (is_drop m) as (λ b. (b || has_drop marks) ≡ true → (if b then None else settled marks (tagged m f)) ≡ None) [
      | true ↦ λ h. refl
      | false ↦ λ h. settled_none marks (tagged m f) h
    ] h

-- a form settles against marks that leave it out
left_out : (f : Form) (marks ms : List Item) (cs : List OpenCollection) → has_drop marks ≡ true →
    (let o = marks_among marks ms cs in with_form f o.marks o.collections ≡ marks_among (still_waiting marks) ms cs)
left_out f marks ms [] h = refl
left_out f marks ms (c ∷ outer) h =
    ap (λ (x : Option Form). let o : Open = record { marks = ms; collections = record { opener = c.opener; members = with_member x c.members; marks = still_waiting marks } ∷ outer } in o)
    (settled_none marks f h)

pub Leads-left_out :
    (s t : State) (token : Token) (marks : List Item) (o : Open) → GivesToken s token t → is_plain_kind (kind_of token.kind) ≡ true → has_drop marks ≡ true →
    Leads s (with_marks marks o) [] t (with_marks (still_waiting marks) o)
Leads-left_out s t token marks o g is h =
    let i = item_of s.text token in
    let p = with_marks marks o in
    subst (λ (q : Open). Leads s p [] t q) (left_out (plain i) marks o.marks o.collections h)
    (Leads-step s t token p (only_opens (with_form (plain i) p.marks p.collections)) g
    (step-plain i.kind i p is (hidden marks o.marks o.collections h)))

pub Leads-left_out_collection :
    (s t u : State) (token : Token) (marks : List Item) (o : Open) → GivesToken s token t → kind_of token.kind ≡ Opener → has_drop marks ≡ true →
    PassesCollection t (item_of t.text token) u →
    Leads s (with_marks marks o) [] u (with_marks (still_waiting marks) o)
Leads-left_out_collection s t u token marks o g is h passed =
    let i = item_of s.text token in
    let p = with_marks marks o in
    let out = hidden marks o.marks o.collections h in
    let f = collection i passed.closer (forms_of passed.members) in
    let same : item_of t.text token ≡ i = ap (λ text. item_of text token) g.text in
    let P : Item → Type 0 = λ j. Leads t (with_opener j p) [] u (with_form (collection j passed.closer (forms_of passed.members)) p.marks p.collections) in
    let within = subst P same (passed.leads p out) in
    let may : may_open p i ≡ true = rw out refl in
    let first = Leads-step s t token p (only_opens (with_opener i p)) g (step-opener i.kind i p is may) in
    subst (λ (q : Open). Leads s p [] u q) (left_out f marks o.marks o.collections h)
    (Leads-then s t u p (with_opener i p) (with_form f p.marks p.collections) [] first within)

-- ---- marks that wait at the end

closes_nothing : (closers : List ℕ) (n : ℕ) → length closers ≡ 0 → length closers ≡ suc n → ⊥
closes_nothing closers n none some = omega arith

Stops-dangling_at :
    (s t : State) (token : Token) (m : Item) (marks ms : List Item) (cs : List OpenCollection) → GivesToken s token t → kind_of token.kind ≡ Closer →
    Stops s (marks_among (m ∷ marks) ms cs) (byte_fault DanglingTag m.start)
Stops-dangling_at s t token m marks ms [] g is =
    λ depth. absurd (
    let i = item_of s.text token in
    let nests : nesting_refusal Closer i.bytes s.closers ≡ None = ap (λ k. nesting_refusal k i.bytes s.closers) (sym is) ∙ g.nests in
    closes_nothing s.closers _ depth (closer-depth i.bytes s.closers (token-some s token t g) nests)
    )
Stops-dangling_at s t token m marks ms (c ∷ outer) g is =
    let i = item_of s.text token in
    let o = marks_among (m ∷ marks) ms (c ∷ outer) in
    Stops-step s t token o (byte_fault DanglingTag m.start) g (ap (λ k. step_by k o i) is)

pub Stops-dangling :
    (s t : State) (token : Token) (m : Item) (marks : List Item) (o : Open) → GivesToken s token t → kind_of token.kind ≡ Closer →
    Stops s (with_marks (m ∷ marks) o) (byte_fault DanglingTag m.start)
Stops-dangling s t token m marks o g is = Stops-dangling_at s t token m marks o.marks o.collections g is

waiting_at_end : (m : Item) (marks ms : List Item) (cs : List OpenCollection) → fault_at_end (marks_among (m ∷ marks) ms cs) ≡ Some (byte_fault DanglingTag m.start)
waiting_at_end m marks ms cs = grind arith

pub Stops-dangling_end :
    (s t : State) (m : Item) (marks : List Item) (o : Open) → GivesEnd s t → Stops s (with_marks (m ∷ marks) o) (byte_fault DanglingTag m.start)
Stops-dangling_end s t m marks o g =
    λ depth tokens ending rest.
    ReadsAs-end s t (with_marks (m ∷ marks) o) g tokens ending rest
    ∙ ap (λ f. let r : Reading = record { entries = []; fault = f } in r) (waiting_at_end m marks o.marks o.collections)

-- ---- what is kept of marks

-- From s, behind the first mark, so many `#_` wait at t.
pub record Behind (s : State) (first : Item) (t : State) (drops : ℕ) (tag : Option ℕ) : Type 0 where
  pub marks : List Item
  pub waits : Waits drops tag marks
  pub few : drops ≤ t.offset
  pub forward : s.offset ≤ t.offset
  pub text : t.text ≡ s.text
  pub leads : (o : Open) → Leads s (with_marks (first ∷ []) o) [] t (with_marks marks o)
  pub level : SameLevel s (first ∷ []) t marks

pub Behind-start : (s : State) (first : Item) (drops : ℕ) (tag : Option ℕ) → Waits drops tag (first ∷ []) → drops ≤ s.offset → Behind s first s drops tag
Behind-start s first drops tag h few =
    record {
      marks = first ∷ [];
      waits = h;
      few = few;
      forward = omega arith;
      text = refl;
      leads = λ o. Leads-refl s (with_marks (first ∷ []) o);
      level = InLevel-refl s (first ∷ []);
    }

pub Behind-mark :
    (s t u : State) (first : Item) (token : Token) (drops : ℕ) (tag : Option ℕ) (drops' : ℕ) (tag' : Option ℕ) → Behind s first t drops tag → GivesToken t token u →
    is_mark_kind (kind_of token.kind) ≡ true →
    ((text : List ℕ) (marks : List Item) → Waits drops tag marks → Waits drops' tag' (item_of text token ∷ marks)) → drops' ≤ drops + 1 →
    Behind s first u drops' tag'
Behind-mark s t u first token drops tag drops' tag' b g is more most =
    let i = item_of t.text token in
    let low = g.low in
    let some = g.some in
    let next = g.next in
    let few = b.few in
    let forward = b.forward in
    record {
      marks = i ∷ b.marks;
      waits = more t.text b.marks b.waits;
      few = omega arith;
      forward = omega arith;
      text = g.text ∙ b.text;
      leads = λ o. Leads-then s t u (with_marks (first ∷ []) o) (with_marks b.marks o) (with_marks (i ∷ b.marks) o) [] (b.leads o) (Leads-mark t u token b.marks o g is);
      level = InLevel-step s t u token (first ∷ []) [] b.marks [] (i ∷ b.marks) b.level g (λ ts. passes i ts [] b.marks waits (role-mark i.kind is));
    }

-- a form takes the last `#_`
taken : (drops : ℕ) (tag : Option ℕ) (marks : List Item) → 0 < drops → Waits drops tag marks → (has_drop marks ≡ true) × Waits (drops - 1) tag (still_waiting marks)
taken zero tag marks some h = absurd (omega arith)
taken (suc drops) tag marks some h =
    let e : suc drops - 1 ≡ drops = omega arith in
    (h.0, subst (λ n. Waits n tag (still_waiting marks)) (sym e) h.1)

pub Behind-form :
    (s t u : State) (first : Item) (token : Token) (drops : ℕ) (tag : Option ℕ) → Behind s first t drops tag → GivesToken t token u →
    is_plain_kind (kind_of token.kind) ≡ true → role_of (kind_of token.kind) ≡ stands → 0 < drops →
    Behind s first u (drops - 1) tag
Behind-form s t u first token drops tag b g is role some =
    let i = item_of t.text token in
    let low = g.low in
    let more = g.some in
    let next = g.next in
    let few = b.few in
    let forward = b.forward in
    let w = taken drops tag b.marks some b.waits in
    record {
      marks = still_waiting b.marks;
      waits = w.1;
      few = omega arith;
      forward = omega arith;
      text = g.text ∙ b.text;
      leads = λ o. Leads-then s t u (with_marks (first ∷ []) o) (with_marks b.marks o) (with_marks (still_waiting b.marks) o) [] (b.leads o) (Leads-left_out t u token b.marks o g is w.0);
      level = InLevel-step s t u token (first ∷ []) [] b.marks [] (still_waiting b.marks) b.level g (λ ts. passes i ts [] b.marks stands role);
    }

pub Behind-collection :
    (s t u v : State) (first : Item) (token : Token) (drops : ℕ) (tag : Option ℕ) → Behind s first t drops tag → GivesToken t token u →
    kind_of token.kind ≡ Opener → PassesCollection u (item_of u.text token) v → 0 < drops →
    Behind s first v (drops - 1) tag
Behind-collection s t u v first token drops tag b g is passed some =
    let i = item_of t.text token in
    let low = g.low in
    let more = g.some in
    let next = g.next in
    let few = b.few in
    let forward = b.forward in
    let w = taken drops tag b.marks some b.waits in
    let nothing : Open = record { marks = []; collections = [] } in
    let lead : (o : Open) → Leads t (with_marks b.marks o) [] v (with_marks (still_waiting b.marks) o) =
    λ o. Leads-left_out_collection t u v token b.marks o g is w.0 passed in
    let further = (lead nothing).forward in
    record {
      marks = still_waiting b.marks;
      waits = w.1;
      few = omega arith;
      forward = omega arith;
      text = (lead nothing).text ∙ b.text;
      leads = λ o. Leads-then s t v (with_marks (first ∷ []) o) (with_marks b.marks o) (with_marks (still_waiting b.marks) o) [] (b.leads o) (lead o);
      level = InLevel-collection s t u v token (first ∷ []) [] b.marks b.level g (ap role_of is) passed.level [] (still_waiting b.marks) (λ later. refl);
    }

-- ---- what a call that passes over marks gives

pub no_mark_waits : (marks : List Item) → any_mark marks ≡ false → marks ≡ []
no_mark_waits marks h = grind arith

-- s begins with the first mark, behind which is t
module _ (s t : State) (mark : Token) (g : GivesToken s mark t) (is : is_mark_kind (kind_of mark.kind) ≡ true) where
  at_first : (o : Open) → Leads s (with_marks [] o) [] t (with_marks (item_of t.text mark ∷ []) o)
  at_first o =
      let P : Item → Type 0 = λ i. Leads s (with_marks [] o) [] t (with_marks (i ∷ []) o) in
      subst P (ap (λ text. item_of text mark) (sym g.text)) (Leads-mark s t mark [] o g is)

  at_first-level : SameLevel s [] t (item_of t.text mark ∷ [])
  at_first-level =
      let i = item_of s.text mark in
      let P : Item → Type 0 = λ j. SameLevel s [] t (j ∷ []) in
      subst P (ap (λ text. item_of text mark) (sym g.text))
      (InLevel-step s s t mark [] [] [] [] (i ∷ []) (InLevel-refl s []) g (λ ts. passes i ts [] [] waits (role-mark i.kind is)))

  pub Stops-behind :
      (u : State) (drops : ℕ) (tag : Option ℕ) (b : Behind t (item_of t.text mark) u drops tag) (fault : Fault) →
      ((o : Open) → Stops u (with_marks b.marks o) fault) → (o : Open) → Stops s (with_marks [] o) fault
  Stops-behind u drops tag b fault stops o =
      Leads-stops s t (with_marks [] o) (with_marks (item_of t.text mark ∷ []) o) fault (at_first o)
      (Leads-stops t u (with_marks (item_of t.text mark ∷ []) o) (with_marks b.marks o) fault (b.leads o) (stops o))

  pub GivesMember-behind :
      (u v : State) (token : Token) (tag : Option ℕ) → Behind t (item_of t.text mark) u 0 tag → GivesToken u token v →
      is_mark_kind (kind_of token.kind) ≡ false → (kind_of token.kind ≡ Closer → ⊥) →
      GivesMember s (record { token = token; tag = tag }) v
  GivesMember-behind u v token tag b next none closer =
      record {
        tags = b.marks;
        no_drop = b.waits.0;
        first = b.waits.1;
        before = u;
        leads = λ o. Leads-then s t u (with_marks [] o) (with_marks (item_of t.text mark ∷ []) o) (with_marks b.marks o) [] (at_first o) (b.leads o);
        level = SameLevel-then s t u [] (item_of t.text mark ∷ []) b.marks at_first-level b.level;
        token = next;
        no_mark = none;
        closer = λ h. absurd (closer h);
      }

  pub GivesNoMember-behind :
      (u v : State) (drops : ℕ) (tag : Option ℕ) → (b : Behind t (item_of t.text mark) u drops tag) → GivesEnd u v → any_mark b.marks ≡ false → GivesNoMember s v
  GivesNoMember-behind u v drops tag b end none =
      let empty = no_mark_waits b.marks none in
      let lead : (o : Open) → Leads s (with_marks [] o) [] u (with_marks [] o) =
      λ o. Leads-then s t u (with_marks [] o) (with_marks (item_of t.text mark ∷ []) o) (with_marks [] o) [] (at_first o)
      (subst (λ (ks : List Item). Leads t (with_marks (item_of t.text mark ∷ []) o) [] u (with_marks ks o)) empty (b.leads o)) in
      let nothing : Open = record { marks = []; collections = [] } in
      record {
        text = end.text ∙ (lead nothing).text;
        forward = (let low = (lead nothing).forward in let high = end.low in omega arith);
        reads = λ o. Leads-reads s u (with_marks [] o) (with_marks [] o) [] _ (lead o) (ReadsAs-end u v (with_marks [] o) end);
        after = end.after;
      }

-- the marks that wait at the end of the level
pub WaitAtEnd-behind :
    (s t u : State) (first : Item) (token : Token) (drops : ℕ) (tag : Option ℕ) (b : Behind s first t drops tag) → GivesToken t token u →
    kind_of token.kind ≡ Closer → WaitAtEnd s (first ∷ []) b.marks
WaitAtEnd-behind s t u first token drops tag b g is = WaitAtEnd-closer s t u token (first ∷ []) b.marks b.level g (ap role_of is)

pub WaitAtEnd-behind_end :
    (s t u : State) (first : Item) (drops : ℕ) (tag : Option ℕ) (b : Behind s first t drops tag) → GivesEnd t u → WaitAtEnd s (first ∷ []) b.marks
WaitAtEnd-behind_end s t u first drops tag b g = WaitAtEnd-end s t (first ∷ []) [] b.marks b.level (λ tokens ending rest. (g.only tokens ending rest).0)

-- ---- where no mark is

pub GivesMember-first :
    (s t : State) (token : Token) → GivesToken s token t → is_mark_kind (kind_of token.kind) ≡ false → GivesMember s (record { token = token; tag = None }) t
GivesMember-first s t token g none =
    record {
      tags = [];
      no_drop = refl;
      first = refl;
      before = s;
      leads = λ o. Leads-refl s (with_marks [] o);
      level = InLevel-refl s [];
      token = g;
      no_mark = none;
      closer = λ h. refl;
    }

-- ---- refused at a mark

some_mark : (marks : List Item) → any_mark marks ≡ true → (m : Item) × (ms : List Item) × (marks ≡ m ∷ ms)
some_mark [] h = cc
some_mark (m ∷ ms) h = (m, ms, refl)

-- what is told of the marks that wait at the end of the level behind a copy
abbrev TellsMark : State → Token → ℕ → Fault → Type 0
TellsMark copy mark drops fault =
    (m : Item) (ms : List Item) → drops_among (m ∷ ms) ≡ drops → WaitAtEnd copy (item_of copy.text mark ∷ []) (m ∷ ms) → fault ≡ byte_fault DanglingTag m.start

told :
    (t u : State) (mark : Token) (drops : ℕ) (tag : Option ℕ) (b : Behind t (item_of t.text mark) u drops tag) → any_mark b.marks ≡ true →
    WaitAtEnd t (item_of t.text mark ∷ []) b.marks → (copy : State) → copy ≡ t → (fault : Fault) → TellsMark copy mark drops fault →
    ((m : Item) (ms : List Item) (o : Open) → Stops u (with_marks (m ∷ ms) o) (byte_fault DanglingTag m.start)) →
    (o : Open) → Stops u (with_marks b.marks o) fault
told t u mark drops tag b some wait copy same fault tells stops o =
    let x = some_mark b.marks some in
    let tells_t = subst (λ (c : State). TellsMark c mark drops fault) same tells in
    let count : drops_among (x.0 ∷ x.1) ≡ drops = ap drops_among (sym x.2) ∙ Waits-drops drops tag b.marks b.waits in
    let is = tells_t x.0 x.1 count (subst (λ (ms : List Item). WaitAtEnd t (item_of t.text mark ∷ []) ms) x.2 wait) in
    subst (λ (ms : List Item). Stops u (with_marks ms o) fault) (sym x.2)
    (subst (λ f. Stops u (with_marks (x.0 ∷ x.1) o) f) (sym is) (stops x.0 x.1 o))

pub Stops-told :
    (t u v : State) (mark token : Token) (drops : ℕ) (tag : Option ℕ) (b : Behind t (item_of t.text mark) u drops tag) → GivesToken u token v →
    kind_of token.kind ≡ Closer → any_mark b.marks ≡ true → (copy : State) → copy ≡ t → (fault : Fault) → TellsMark copy mark drops fault →
    (o : Open) → Stops u (with_marks b.marks o) fault
Stops-told t u v mark token drops tag b g is some copy same fault tells =
    told t u mark drops tag b some (WaitAtEnd-behind t u v (item_of t.text mark) token drops tag b g is) copy same fault tells
    (λ m ms o. Stops-dangling u v token m ms o g is)

pub Stops-told_end :
    (t u v : State) (mark : Token) (drops : ℕ) (tag : Option ℕ) (b : Behind t (item_of t.text mark) u drops tag) → GivesEnd u v →
    any_mark b.marks ≡ true → (copy : State) → copy ≡ t → (fault : Fault) → TellsMark copy mark drops fault →
    (o : Open) → Stops u (with_marks b.marks o) fault
Stops-told_end t u v mark drops tag b g some copy same fault tells =
    told t u mark drops tag b some (WaitAtEnd-behind_end t u v (item_of t.text mark) drops tag b g) copy same fault tells
    (λ m ms o. Stops-dangling_end u v m ms o g)

-- a fault within a collection that is left out
pub Stops-left_out :
    (s t u : State) (first : Item) (token : Token) (drops : ℕ) (tag : Option ℕ) (b : Behind s first t drops tag) → GivesToken t token u →
    kind_of token.kind ≡ Opener → 0 < drops → (fault : Fault) →
    ((o : Open) → in_operation_place o ≡ false → Stops u (with_opener (item_of u.text token) o) fault) →
    (o : Open) → Stops t (with_marks b.marks o) fault
Stops-left_out s t u first token drops tag b g is some fault stops o =
    let i = item_of t.text token in
    let p = with_marks b.marks o in
    let out = hidden b.marks o.marks o.collections (taken drops tag b.marks some b.waits).0 in
    let same : item_of u.text token ≡ i = ap (λ text. item_of text token) g.text in
    let may : may_open p i ≡ true = rw out refl in
    Leads-stops t u p (with_opener i p) fault (Leads-step t u token p (only_opens (with_opener i p)) g (step-opener i.kind i p is may))
    (subst (λ (j : Item). Stops u (with_opener j p) fault) same (stops p out))

-- the closer, where no mark waits
module _ (s t : State) (mark : Token) (g : GivesToken s mark t) (is : is_mark_kind (kind_of mark.kind) ≡ true) where
  pub GivesMember-closer :
      (u v : State) (token : Token) (drops : ℕ) (tag : Option ℕ) → (b : Behind t (item_of t.text mark) u drops tag) → GivesToken u token v →
      is_mark_kind (kind_of token.kind) ≡ false → any_mark b.marks ≡ false →
      GivesMember s (record { token = token; tag = None }) v
  GivesMember-closer u v token drops tag b next none empty =
      let nothing = no_mark_waits b.marks empty in
      record {
        tags = [];
        no_drop = refl;
        first = refl;
        before = u;
        leads = λ o. Leads-then s t u (with_marks [] o) (with_marks (item_of t.text mark ∷ []) o) (with_marks [] o) [] (at_first s t mark g is o)
            (subst (λ (ks : List Item). Leads t (with_marks (item_of t.text mark ∷ []) o) [] u (with_marks ks o)) nothing (b.leads o));
        level = SameLevel-then s t u [] (item_of t.text mark ∷ []) [] (at_first-level s t mark g is)
            (subst (λ (ks : List Item). SameLevel t (item_of t.text mark ∷ []) u ks) nothing b.level);
        token = next;
        no_mark = none;
        closer = λ h. refl;
      }

-- ---- less is left

cond_less : (b : Bool) (m n : ℕ) → m < n → cond b 0 m < n
cond_less true m n h = omega arith
cond_less false m n h = h

-- fewer calls of the lexer are left
pub fewer_calls : (s t u : State) (token : Token) → GivesToken s token t → t.offset ≤ u.offset → u.text ≡ s.text →
    cond u.ended 0 (length u.text - u.offset + 1) < cond s.ended 0 (length s.text - s.offset + 1)
fewer_calls s t u token g further same =
    let low = g.low in
    let some = g.some in
    let next = g.next in
    let fits = g.fits in
    let less : length s.text - u.offset + 1 < length s.text - s.offset + 1 = omega arith in
    subst (λ b. cond u.ended 0 (length u.text - u.offset + 1) < cond b 0 (length s.text - s.offset + 1)) (sym g.going)
    (subst (λ (xs : List ℕ). cond u.ended 0 (length xs - u.offset + 1) < length s.text - s.offset + 1) (sym same) (cond_less u.ended _ _ less))
