-- A collection that is passed over.
use Rattle.std.proofs.Common.{◌≡◌, ◌≤◌, List, [], ◌∷◌, ◌++◌, false, refl, ◌∙◌, ap, arith, subst}
use Rattle.hist_types.specs.Forms.{Form, plain, collection, forms_of, Open, with_form, with_opener}
use Rattle.hist_types.specs.Reading.{in_operation_place}
use Rattle.hist_types.specs.Tokens.{Item, Opener, Closer, byte_fault}
use Rattle.hist_types.specs.declared.types.Fault.{Fault}
use Rattle.hist_types.specs.declared.types.Refusal.TheVariants.{Unclosed}
use Rattle.edn_lex.specs.declared.types.TokenKind.TheVariants as kinds
use Rattle.edn_lex.specs.Kinds.{kind_of, item_of}
use Rattle.edn_lex.specs.State.{State}
use Rattle.edn_ops.specs.declared.forms.Member.{Member}
use Rattle.edn_ops.specs.LevelEnds.{stands, role_of, level_end, SameLevel}
use Rattle.edn_ops.specs.Leads.{Leads, Stops, inside, behind, with_marks, GivesMember, GivesNoMember, PassesCollection}
use Rattle.edn_ops.proofs.Steps.{Leads-then, Leads-stops}
use Rattle.edn_ops.proofs.Levels.{nothing_waits, NoPlaceIn-outside, Leads-plain, Leads-opener, Leads-skipped, Leads-closer, given_outside, Stops-unclosed}
use Rattle.edn_ops.proofs.LevelSteps.{InLevel-step, InLevel-collection, SameLevel-then, LevelEnds-closer, passes}
use Rattle.edn_ops.proofs.LastMark.{role-form, plain-form}

-- From s, behind the opener, the members up to t have been passed over.
pub record Within (s : State) (opener : Item) (t : State) : Type 0 where
  pub members : List Form
  pub forward : s.offset ≤ t.offset
  pub text : t.text ≡ s.text
  pub leads : (o : Open) → in_operation_place o ≡ false → Leads s (with_opener opener o) [] t (inside opener members [] o)
  pub level : SameLevel s [] t []

nothing_open : Open
nothing_open = record { marks = []; collections = [] }

-- no operation's place is within a map
elsewhere : Open
elsewhere = inside (record { kind = Opener; start = 0; bytes = [] }) [] [] nothing_open

outside : in_operation_place elsewhere ≡ false
unfolding elsewhere nothing_open
outside = refl

-- a member that is a token
pub Within-plain :
    (s t u : State) (opener : Item) (m : Member) → Within s opener t → GivesMember t m u →
    (m.token.kind ≡ kinds.Open → ⊥) → (m.token.kind ≡ kinds.Close → ⊥) → Within s opener u
Within-plain s t u opener m w h a b =
    let i = item_of h.before.text m.token in
    let role : role_of i.kind ≡ stands = role-form m.token.kind h.no_mark a b in
    let is = plain-form m.token.kind h.no_mark a b in
    let members = w.members ++ behind h.tags (plain (item_of t.text m.token)) ∷ [] in
    let lead = λ (o : Open) (out : in_operation_place o ≡ false).
    Leads-then s t u (with_opener opener o) (inside opener w.members [] o) (inside opener members [] o) [] (w.leads o out)
    (Leads-plain t u m h opener w.members o is (NoPlaceIn-outside opener o out)) in
    let start = h.leads nothing_open in
    let low = w.forward in
    let middle = start.forward in
    let above = h.token.low in
    let some = h.token.some in
    let next = h.token.next in
    record {
      members = members;
      forward = omega arith;
      text = h.token.text ∙ start.text ∙ w.text;
      leads = lead;
      level = SameLevel-then s t u [] [] [] w.level
          (InLevel-step t h.before u m.token [] [] h.tags [] [] h.level h.token
          (λ ts. passes i ts [] h.tags stands role ∙ ap (λ ks. level_end [] ks ts) (nothing_waits h.tags h.no_drop)));
    }

-- a member that is a collection
pub Within-collection :
    (s t u v : State) (opener : Item) (m : Member) → Within s opener t → GivesMember t m u → m.token.kind ≡ kinds.Open →
    PassesCollection u (item_of u.text m.token) v → Within s opener v
Within-collection s t u v opener m w h is passed =
    let kind : kind_of m.token.kind ≡ Opener = ap kind_of is in
    let members = w.members ++ behind h.tags (collection (item_of t.text m.token) passed.closer (forms_of passed.members)) ∷ [] in
    let lead : (o : Open) → in_operation_place o ≡ false → Leads t (inside opener w.members [] o) [] v (inside opener members [] o) =
    λ o out. Leads-skipped t u v m h opener w.members o kind (NoPlaceIn-outside opener o out) passed in
    let start = h.leads nothing_open in
    let low = w.forward in
    let middle = start.forward in
    let above = h.token.low in
    let some = h.token.some in
    let next = h.token.next in
    let further = (lead elsewhere outside).forward in
    record {
      members = members;
      forward = omega arith;
      text = (lead elsewhere outside).text ∙ w.text;
      leads = λ o out.
          Leads-then s t v (with_opener opener o) (inside opener w.members [] o) (inside opener members [] o) [] (w.leads o out) (lead o out);
      level = SameLevel-then s t v [] [] [] w.level
          (InLevel-collection t h.before u v m.token [] [] h.tags h.level h.token (ap role_of kind) passed.level [] []
          (λ later. ap (λ ks. level_end [] ks later) (nothing_waits h.tags h.no_drop)));
    }

-- the closer
pub PassesCollection-closer :
    (s t u : State) (opener : Item) (m : Member) → Within s opener t → GivesMember t m u → m.token.kind ≡ kinds.Close → PassesCollection s opener u
PassesCollection-closer s t u opener m w h is =
    let kind : kind_of m.token.kind ≡ Closer = ap kind_of is in
    let closer = item_of t.text m.token in
    let none = h.closer kind in
    record {
      members = w.members;
      closer = closer;
      level = LevelEnds-closer s h.before u m.token [] h.tags (SameLevel-then s t h.before [] [] h.tags w.level h.level) h.token (ap role_of kind);
      leads = λ o out.
          Leads-then s t u (with_opener opener o) (inside opener w.members [] o) (with_form (collection opener closer (forms_of w.members)) o.marks o.collections) []
          (w.leads o out)
          (Leads-closer t u m h opener w.members o [] kind (given_outside (record { opener = opener; members = w.members; marks = [] }) closer o out));
    }

-- ---- faults

pub Stops-within :
    (s t : State) (opener : Item) (fault : Fault) → Within s opener t → ((o : Open) → Stops t (with_marks [] o) fault) →
    (o : Open) → in_operation_place o ≡ false → Stops s (with_opener opener o) fault
Stops-within s t opener fault w stops o out =
    Leads-stops s t (with_opener opener o) (inside opener w.members [] o) fault (w.leads o out) (stops (inside opener w.members [] o))

pub Stops-within_collection :
    (s t u : State) (opener : Item) (m : Member) (fault : Fault) → Within s opener t → GivesMember t m u → m.token.kind ≡ kinds.Open →
    ((o : Open) → in_operation_place o ≡ false → Stops u (with_opener (item_of u.text m.token) o) fault) →
    (o : Open) → in_operation_place o ≡ false → Stops s (with_opener opener o) fault
Stops-within_collection s t u opener m fault w h is stops o out =
    let i = item_of t.text m.token in
    let none = NoPlaceIn-outside opener o out in
    let p = inside opener w.members h.tags o in
    let same : item_of u.text m.token ≡ i = ap (λ text. item_of text m.token) (h.token.text ∙ (h.leads nothing_open).text) in
    let P : Item → Type 0 = λ j. Stops u (with_opener j p) fault in
    Leads-stops s t (with_opener opener o) (inside opener w.members [] o) fault (w.leads o out)
    (Leads-stops t u (inside opener w.members [] o) (with_opener i p) fault (Leads-opener t u m h opener w.members o (ap kind_of is) none)
    (subst P same (stops p (none w.members h.tags))))

pub Stops-within_end :
    (s t u : State) (opener : Item) → Within s opener t → GivesNoMember t u →
    (o : Open) → in_operation_place o ≡ false → Stops s (with_opener opener o) (byte_fault Unclosed opener.start)
Stops-within_end s t u opener w h o out =
    Leads-stops s t (with_opener opener o) (inside opener w.members [] o) (byte_fault Unclosed opener.start) (w.leads o out)
    (Stops-unclosed t u h opener w.members o)

-- nothing is gone back over
pub PassesCollection-forward : (s t : State) (opener : Item) → PassesCollection s opener t → (s.offset ≤ t.offset) × (t.text ≡ s.text)
PassesCollection-forward s t opener p = let lead = p.leads elsewhere outside in (lead.forward, lead.text)
