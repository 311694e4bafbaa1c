-- Collections read member by member.
use Rattle.std.proofs.Common.{◌≡◌, ◌≢◌, ℕ, ◌-◌, ◌<◌, ◌≤◌, List, [], ◌∷◌, ◌++◌, length, take, map, Bool, true, false, ◌==◌, inl, inr, Option, Some, Result, Ok, Err, refl, sym, ◌∙◌, ap, arith, subst, length-take}
use Rattle.std.specs.Prelude.{IsErrAnd}
use Rattle.std.specs.List.{AllByRecursion}
use Rattle.std.proofs.lemmas.Bool.{eqb-true, eq-eqb, cases_eq}
use Rattle.std.proofs.lemmas.List.{length-map, length-append, take_all, take-append-le, map_push}
use Rattle.hist_types.specs.Forms.{Form, collection, forms_of, Open, with_form, with_opener}
use Rattle.hist_types.specs.Tokens.{Item, Closer, byte_fault}
use Rattle.hist_types.specs.declared.types.Fault.{Fault}
use Rattle.hist_types.specs.declared.types.Refusal.TheVariants.{Unclosed}
use Rattle.arrayvec.specs.ArrayVec.{ArrayVec}
use Rattle.edn_lex.specs.Kinds.{kind_of, item_of}
use Rattle.edn_lex.specs.State.{State}
use Rattle.edn_ops.specs.declared.forms.Member.{Member}
use Rattle.edn_ops.specs.declared.outline.Outline.{Outline}
use Rattle.edn_ops.specs.Leads.{Leads, Stops, inside, NoPlaceIn, GivesMember, GivesNoMember, NextMember}
use Rattle.edn_ops.specs.Outlines.{outline, outline_of, IsOutlineIn}
use Rattle.edn_ops.specs.Collections.{ReadsMember, HasOutline, PassesMember, ReadsMembers, ReadsCollection, StopsBehind, AreFirstForms, ReadsFirstForms}
use Rattle.edn_lex.specs.declared.types.TokenKind.{TokenKind}
use Rattle.edn_lex.specs.declared.types.TokenKind.TheVariants as kinds
use Rattle.edn_ops.proofs.Collected.{closer_kind}
use Rattle.edn_ops.proofs.Steps.{Leads-refl, Leads-then, Leads-stops}
use Rattle.edn_ops.proofs.Levels.{Leads-closer, Stops-unclosed, given_outside, NoPlaceIn-outside, GivesMember-shorter}

pub nothing_read : (s : State) (opener : Item) → ReadsMembers s opener [] s
nothing_read s opener = record { text = refl; forward = omega arith; leads = λ o no_place. Leads-refl s (with_opener opener o) }

pub one_read : (s t u : State) (opener : Item) (members : List Form) (form : Form) → ReadsMembers s opener members t → ReadsMember t form u → ReadsMembers s opener (members ++ form ∷ []) u
one_read s t u opener members form front one =
    let low = front.forward in
    let high = one.forward in
    record {
      text = one.text ∙ front.text;
      forward = omega arith;
      leads = λ o no_place.
          Leads-then s t u (with_opener opener o) (inside opener members [] o) (inside opener (members ++ form ∷ []) [] o) [] (front.leads o no_place) (one.leads opener members o no_place);
    }

pub closed : (s t u : State) (m : Member) (opener : Item) (members : List Form) → ReadsMembers s opener members t → GivesMember t m u → kind_of m.token.kind ≡ Closer → ReadsCollection s opener members (item_of s.text m.token) u
closed s t u m opener members front h is =
    let low = front.forward in
    let shorter = GivesMember-shorter t u m h in
    let high = shorter.0 in
    let same : item_of t.text m.token ≡ item_of s.text m.token = ap (λ text. item_of text m.token) front.text in
    record {
      text = shorter.2 ∙ front.text;
      forward = omega arith;
      leads = λ o outside.
          let no_place = NoPlaceIn-outside opener o outside in
          let last = Leads-closer t u m h opener members o [] is (given_outside (record { opener = opener; members = members; marks = [] }) (item_of t.text m.token) o outside) in
          let P : Item → Type 0 = λ closer. Leads s (with_opener opener o) [] u (with_form (collection opener closer (forms_of members)) o.marks o.collections) in
          subst P same
          (Leads-then s t u (with_opener opener o) (inside opener members [] o) (with_form (collection opener (item_of t.text m.token) (forms_of members)) o.marks o.collections) [] (front.leads o no_place) last);
    }

-- where the next member is refused
pub next_stops : (s t : State) (opener : Item) (members : List Form) (fault : Fault) → ReadsMembers s opener members t → ((o : Open) → NoPlaceIn opener o → Stops t (inside opener members [] o) fault) → StopsBehind s opener fault
next_stops s t opener members fault front stops o outside =
    let no_place = NoPlaceIn-outside opener o outside in
    Leads-stops s t (with_opener opener o) (inside opener members [] o) fault (front.leads o no_place) (stops o no_place)

-- and where the text ends
pub unclosed : (s t u : State) (opener : Item) (members : List Form) → ReadsMembers s opener members t → GivesNoMember t u → StopsBehind s opener (byte_fault Unclosed opener.start)
unclosed s t u opener members front h = next_stops s t opener members (byte_fault Unclosed opener.start) front (λ o no_place. Stops-unclosed t u h opener members o)

-- what is left gets shorter
pub shorter_member : (s t : State) (form : Form) → ReadsMember s form t → s.offset < length s.text → length t.text - t.offset < length s.text - s.offset
shorter_member s t form one some =
    let less = one.forward in
    let text = one.text in
    subst (λ (xs : List ℕ). length xs - t.offset < length s.text - s.offset) (sym text) (omega arith)

-- ---- first forms

pub first_none : (text : List ℕ) → AreFirstForms text [] []
first_none text = record { outlines_are = refl; within = tt }

all_more : (P : Outline → Type 0) (os : List Outline) (o : Outline) → AllByRecursion P os → P o → AllByRecursion P (os ++ o ∷ [])
all_more P [] o all h = (h, tt)
all_more P (x ∷ os) o all h = (all.0, all_more P os o all.1 h)

same_length : (text : List ℕ) (os : List Outline) (members : List Form) → AreFirstForms text os members → length (take 4 members) ≡ length os
same_length text os members h = sym (length-map (take 4 members) outline) ∙ ap length h.outlines_are ∙ length-map os (outline_of text)

pub first_more : (text : List ℕ) (os : List Outline) (members : List Form) (form : Form) (o : Outline) → AreFirstForms text os members → HasOutline text form o → length os < 4 → AreFirstForms text (os ++ o ∷ []) (members ++ form ∷ [])
first_more text os members form o h has room =
    let n = same_length text os members h in
    let few : length members < 4 = omega (arith, length-take 4 members) in
    let all : take 4 members ≡ members = take_all 4 members (omega arith) in
    let whole : take 4 (members ++ form ∷ []) ≡ members ++ form ∷ [] = take_all 4 (members ++ form ∷ []) (omega (arith, length-append members (form ∷ []))) in
    record {
      outlines_are =
          ap (map outline) whole ∙ map_push outline members form ∙ ap (λ (fs : List Form). fs ++ outline form ∷ []) (ap (map outline) (sym all) ∙ h.outlines_are)
          ∙ ap (λ (f : Form). map (outline_of text) os ++ f ∷ []) has.outline_is ∙ sym (map_push (outline_of text) os o);
      within = all_more (IsOutlineIn text) os o h.within has.within;
    }

pub first_same : (text : List ℕ) (os : List Outline) (members : List Form) (form : Form) → AreFirstForms text os members → 4 ≤ length os → AreFirstForms text os (members ++ form ∷ [])
first_same text os members form h full =
    let n = same_length text os members h in
    let many : 4 ≤ length members = omega (arith, length-take 4 members) in
    record { outlines_are = ap (map outline) (take-append-le 4 members (form ∷ []) many) ∙ h.outlines_are; within = h.within }

-- ---- calls

pub next_given : (s t : State) (o : Option Member) (m : Member) → o ≡ Some m → NextMember s (Ok o) t → GivesMember s m t
next_given s t o m e h = let P : Option Member → Type 0 = λ x. NextMember s (Ok x) t in subst P e h

pub next_none : (s t : State) (o : Option Member) → ((m : Member) → o ≡ Some m → ⊥) → NextMember s (Ok o) t → GivesNoMember s t
next_none s t o h g = grind arith

-- a member is not behind the text's end
pub member_some : (s t : State) (m : Member) → GivesMember s m t → s.offset < length s.text
member_some s t m h = let x = GivesMember-shorter s t m h in let low = x.0 in let high = x.1 in omega arith

pub not_closer : (k : TokenKind) → (k ≡ kinds.Close → ⊥) → kind_of k ≢ Closer
not_closer k never e = never (closer_kind k e)

pub first_fails :
    (s u : State) (opener : Item) (fault : Fault) (result : Result (ArrayVec Outline) Fault) → IsErrAnd result (λ e. e ≡ fault) →
    StopsBehind s opener fault → ReadsFirstForms s opener result u
first_fails s u opener fault (Ok v) h stops = absurd h
first_fails s u opener fault (Err other) h stops = subst (StopsBehind s opener) (sym h) stops

pub stops_at : (s : State) (opener : Item) (fault other : Fault) → other ≡ fault → StopsBehind s opener fault → StopsBehind s opener other
stops_at s opener fault other e stops = subst (StopsBehind s opener) (sym e) stops

-- a member that was passed over
pub record Passed (s : State) (o : Outline) (u : State) : Type 0 where
  pub form : Form
  pub one : ReadsMember s form u
  pub has : HasOutline s.text form o

pub passed : (s u : State) (o : Outline) → PassesMember s (Ok o) u → Passed s o u
passed s u o h = record { form = h.0; one = h.1; has = h.2 }

-- whether there is room for one more of four
pub has_room : (full : Bool) (n : ℕ) → full ≡ (n == 4) → n ≤ 4 → full ≡ false → n < 4
has_room full n is fits e =
    let differ : (n == 4) ≡ false = sym is ∙ e in
    elim (cases_eq n 4) [ inl same ↦ absurd (let again : (n == 4) ≡ true = eq-eqb n 4 same in cc) | inr other ↦ omega arith ]

pub is_filled : (full : Bool) (n : ℕ) → full ≡ (n == 4) → full ≡ true → 4 ≤ n
is_filled full n is e = let same : n ≡ 4 = eqb-true n 4 (sym is ∙ e) in omega arith

pub outline_at : (s t : State) (form : Form) (o : Outline) → t.text ≡ s.text → HasOutline t.text form o → HasOutline s.text form o
outline_at s t form o e h = subst (λ (text : List ℕ). HasOutline text form o) e h
