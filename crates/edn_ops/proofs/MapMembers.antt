-- A map of an operation, read member by member.
use Rattle.std.proofs.Common.{◌≡◌, ℕ, ◌-◌, List, [], ◌∷◌, ◌++◌, length, Bool, true, false, cond, ◌||◌, ◌&&◌, Option, Some, None, Result, Ok, Err, refl, sym, ◌∙◌, ap, arith, subst, drop}
use Rattle.std.specs.Prelude.{IsErrAnd, slice_range, bytes_eq}
use Rattle.std.proofs.lemmas.List.{length-take-le, length-drop}
use Rattle.std.proofs.lemmas.Slice.Eq.{bytes_eq-Decides}
use Rattle.hist_types.specs.Bytes.{open_brace, open_square, open_round}
use Rattle.hist_types.specs.Entries.{Entry, ◌>>=◌, or_refuse, elements_of, transaction_of, micro_ops_of, entry_of, end_of}
use Rattle.hist_types.specs.Forms.{Form, Forms, collection, forms_of, place_of, is_map, is_vector_or_list, OpenCollection, Open, with_form, with_opener}
use Rattle.hist_types.specs.Reading.{in_operation_place, is_operation_place, entries_at_close}
use Rattle.hist_types.specs.Tokens.{Item, Opener, Closer, byte_fault}
use Rattle.hist_types.specs.declared.types.Fault.{Fault}
use Rattle.hist_types.specs.declared.types.Refusal.TheVariants.{NotTxn, Unclosed}
use Rattle.edn_lex.specs.declared.types.Token.{Token}
use Rattle.edn_lex.specs.Kinds.{kind_of, item_of}
use Rattle.edn_lex.specs.State.{State}
use Rattle.edn_ops.specs.declared.types.MopShape.{MopShape}
use Rattle.edn_ops.specs.declared.types.OpShape.{OpShape}
use Rattle.edn_ops.specs.declared.fields.Fields.{Fields}
use Rattle.edn_ops.specs.declared.forms.Member.{Member}
use Rattle.edn_ops.specs.declared.outline.Outline.{Outline}
use Rattle.edn_ops.specs.Fields.{mops_result, Gathers, AreFieldsIn, IsEntry}
use Rattle.edn_ops.specs.Leads.{Stops, inside, NoPlaceIn, IsBehind, GivesMember, GivesNoMember}
use Rattle.edn_ops.specs.Outlines.{outline, outline_of, IsTokenIn}
use Rattle.edn_ops.specs.Collections.{UnlessMemory, ReadsMember, StopsInside, PassesMember, ReadsMembers, ReadsCollection, StopsBehind, GathersMember, ReadsMap}
use Rattle.edn_ops.proofs.Collected.{IsBare, bare_member, stops_bare}
use Rattle.edn_ops.proofs.Levels.{GivesMember-shorter, NoPlaceIn-map, Leads-closer, Stops-closer, Stops-unclosed}
use Rattle.edn_ops.proofs.MicroOps.{no_elements, elements}
use Rattle.edn_ops.proofs.OutlineLemmas.{place_of-outline}
use Rattle.edn_ops.proofs.Steps.{Leads-then, Leads-stops}

-- ---- one member

pub gathers_fails : (s u : State) (old new : Fields) (fault : Fault) (result : Result (Unit {0}) Fault) → IsErrAnd result (λ e. e ≡ fault) → UnlessMemory fault (StopsInside s fault) → GathersMember s old result new u
gathers_fails s u old new fault (Ok done) h stops = absurd h
gathers_fails s u old new fault (Err other) h stops = subst (λ (f : Fault). UnlessMemory f (StopsInside s f)) (sym h) stops

-- a member that is no transaction
pub added : (s u : State) (text : List ℕ) (o other : Outline) (old new : Fields) → PassesMember s (Ok o) u → o ≡ other → text ≡ s.text → AreFieldsIn text new
    → ((form : Form) → outline form ≡ outline_of text other → (members : List Form) → Gathers text old members → Gathers text new (members ++ form ∷ [])) → GathersMember s old (Ok tt) new u
added s u text o other old new p same is_text within more =
    let form = p.0 in
    let e : outline form ≡ outline_of text other = p.2.outline_is ∙ ap (outline_of s.text) same ∙ ap (λ (xs : List ℕ). outline_of xs other) (sym is_text) in (
      form,
      p.1,
      subst (λ (xs : List ℕ). AreFieldsIn xs new) is_text within,
      subst (λ (xs : List ℕ). (members : List Form) → Gathers xs old members → Gathers xs new (members ++ form ∷ [])) is_text (more form e),
    )

-- what is no vector or list is no transaction
pub no_transaction : (text : List ℕ) (form : Form) (o : Outline) (fault : Fault) (place : ℕ) → outline form ≡ outline_of text o → elements_of (outline_of text o) ≡ None → place ≡ place_of (outline_of text o) → fault ≡ byte_fault NotTxn place
    → Err fault ≡ mops_result (transaction_of form)
no_transaction text form o fault place e none at is =
    let empty : elements_of form ≡ None = no_elements form (ap elements_of e ∙ none) in
    let here : place ≡ place_of form = at ∙ ap place_of (sym e) ∙ place_of-outline form in
    ap (λ (f : Fault). Err f) (is ∙ ap (byte_fault NotTxn) here) ∙ sym (ap (λ (x : Option (List Form)). mops_result (or_refuse x NotTxn (place_of form) >>= micro_ops_of 0)) empty)

-- a transaction
pub gathered_transaction : (s t u : State) (text : List ℕ) (m : Member) (opener : Token) (closer : Item) (members : List Form) (o : Outline) (old new : Fields) (mops : Result (List MopShape) Fault) → GivesMember s m t → IsBare m opener → text ≡ t.text
    → ReadsCollection t (item_of text opener) members closer u → is_vector_or_list (item_of text opener) ≡ true
    → ((text : List ℕ) (closer : Item) (members : Forms) (form : Form) → kind_of m.token.kind ≡ Opener → IsBehind m.tag (collection (item_of text m.token) closer members) form → outline form ≡ outline_of text o)
    → mops ≡ mops_result (micro_ops_of 0 members) → AreFieldsIn text new
    → ((form : Form) → outline form ≡ outline_of text o → mops ≡ mops_result (transaction_of form) → (before : List Form) → Gathers text old before → Gathers text new (before ++ form ∷ [])) → GathersMember s old (Ok tt) new u
gathered_transaction s t u text m opener closer members o old new mops h b same r sequence outlines is within more =
    let shorter = GivesMember-shorter s t m h in
    let is_text : text ≡ s.text = same ∙ shorter.2 in
    let form = collection (item_of s.text m.token) closer (forms_of members) in
    let here : ReadsCollection t (item_of t.text m.token) members closer u =
    subst (λ (token : Token). ReadsCollection t (item_of t.text token) members closer u) (sym b.token) (subst (λ (xs : List ℕ). ReadsCollection t (item_of xs opener) members closer u) same r) in
    let vector : is_vector_or_list (item_of s.text m.token) ≡ true =
    subst (λ (token : Token). is_vector_or_list (item_of s.text token) ≡ true) (sym b.token) (subst (λ (xs : List ℕ). is_vector_or_list (item_of xs opener) ≡ true) is_text sequence) in
    let behind_none : IsBehind m.tag form form = subst (λ (place : Option ℕ). IsBehind place form form) (sym b.tag) refl in
    let e : outline form ≡ outline_of text o = outlines s.text closer (forms_of members) form b.kind behind_none ∙ ap (λ (xs : List ℕ). outline_of xs o) (sym is_text) in
    let given : mops ≡ mops_result (transaction_of form) =
    is ∙ sym (ap (λ (x : Option (List Form)). mops_result (or_refuse x NotTxn (place_of form) >>= micro_ops_of 0)) (elements (item_of s.text m.token) closer members vector)) in (
      form,
      bare_member s t u m closer members h b.tag b.kind here,
      subst (λ (xs : List ℕ). AreFieldsIn xs new) is_text within,
      subst (λ (xs : List ℕ). (before : List Form) → Gathers xs old before → Gathers xs new (before ++ form ∷ [])) is_text (more form e given),
    )

-- reading stops within it
pub transaction_stops : (s t : State) (text : List ℕ) (m : Member) (opener : Token) (fault : Fault) → GivesMember s m t → IsBare m opener → text ≡ t.text → UnlessMemory fault (StopsBehind t (item_of text opener) fault) → UnlessMemory fault (StopsInside s fault)
transaction_stops s t text m opener fault h b same stops memory =
    stops_bare s t m fault h b.kind
    (subst (λ (token : Token). StopsBehind t (item_of t.text token) fault) (sym b.token) (subst (λ (xs : List ℕ). StopsBehind t (item_of xs opener) fault) same (stops memory)))

-- ---- a whole map

no_sequence : (bytes : List ℕ) → bytes_eq bytes (open_brace ∷ []) ≡ true → (bytes_eq bytes (open_square ∷ []) || bytes_eq bytes (open_round ∷ [])) ≡ false
no_sequence bytes e =
    let same : bytes ≡ open_brace ∷ [] = (bytes_eq-Decides bytes (open_brace ∷ [])).0 e in
    subst (λ (bs : List ℕ). (bytes_eq bs (open_square ∷ []) || bytes_eq bs (open_round ∷ [])) ≡ false) (sym same) refl

-- no operation's place is in a map
map_no_place : (opener : Item) (o : Open) → is_map opener ≡ true → NoPlaceIn opener o
map_no_place opener o is = NoPlaceIn-map opener o.marks o.collections (no_sequence opener.bytes is)

abbrev StopsMap : State → Item → Fault → Type 0
StopsMap s opener fault = (o : Open) → in_operation_place o ≡ true → Stops s (with_opener opener o) fault

pub map_stops : (s t : State) (opener : Item) (members : List Form) (fault : Fault) → is_map opener ≡ true → ReadsMembers s opener members t → ((o : Open) → NoPlaceIn opener o → Stops t (inside opener members [] o) fault) → StopsMap s opener fault
map_stops s t opener members fault is front stops o place =
    let no_place = map_no_place opener o is in
    Leads-stops s t (with_opener opener o) (inside opener members [] o) fault (front.leads o no_place) (stops o no_place)

pub map_fails : (s u : State) (opener : Item) (fault : Fault) (result : Result (Option OpShape) Fault) → IsErrAnd result (λ e. e ≡ fault) → UnlessMemory fault (StopsMap s opener fault) → ReadsMap s opener result u
map_fails s u opener fault (Ok found) h stops = absurd h
map_fails s u opener fault (Err other) h stops = subst (λ (f : Fault). UnlessMemory f (StopsMap s opener f)) (sym h) stops

pub map_unclosed : (s t u : State) (opener : Item) (members : List Form) (fault : Fault) → is_map opener ≡ true → ReadsMembers s opener members t → GivesNoMember t u → fault ≡ byte_fault Unclosed opener.start → StopsMap s opener fault
map_unclosed s t u opener members fault is front h e =
    subst (StopsMap s opener) (sym e) (map_stops s t opener members (byte_fault Unclosed opener.start) is front (λ o no_place. Stops-unclosed t u h opener members o))

pub member_stops : (s t : State) (opener : Item) (members : List Form) (fault : Fault) → is_map opener ≡ true → ReadsMembers s opener members t → UnlessMemory fault (StopsInside t fault) → UnlessMemory fault (StopsMap s opener fault)
member_stops s t opener members fault is front stops memory = map_stops s t opener members fault is front (λ o no_place. stops memory opener members o no_place)

given_in : {A : Type 0} (b c : Bool) (x y : A) → b ≡ true → c ≡ true → cond (b && c) x y ≡ x
given_in b c x y is place = rw (is, place) refl

-- what the map gives in an operation's place
map_given : (opener closer : Item) (members : List Form) (o : Open) (entry : Result Entry Fault) → is_map opener ≡ true → in_operation_place o ≡ true → entry_of opener closer members ≡ entry
    → (let c : OpenCollection = record { opener = opener; members = members; marks = [] } in entries_at_close c closer o.marks o.collections ≡ (entry >>= λ e. Ok (e ∷ [])))
map_given opener closer members o entry is place e =
    given_in (is_map opener) (is_operation_place o.marks o.collections) (entry_of opener closer members >>= λ e. Ok (e ∷ [])) (Ok []) is place ∙ ap (λ (r : Result Entry Fault). r >>= λ e. Ok (e ∷ [])) e

map_ok : (s t u : State) (m : Member) (opener : Item) (members : List Form) (found : Option OpShape) (entry : Entry) → is_map opener ≡ true → ReadsMembers s opener members t → GivesMember t m u → kind_of m.token.kind ≡ Closer
    → entry_of opener (item_of t.text m.token) members ≡ Ok entry → IsEntry (Ok found) (Ok entry) → ReadsMap s opener (Ok found) u
map_ok s t u m opener members found entry is front h closer e shape =
    let low = front.forward in
    let shorter = GivesMember-shorter t u m h in
    let high = shorter.0 in
    let i = item_of t.text m.token in (
      entry,
      members,
      i,
      shape,
      shorter.2 ∙ front.text,
      omega arith,
      λ o place.
          Leads-then s t u (with_opener opener o) (inside opener members [] o) (with_form (collection opener i (forms_of members)) o.marks o.collections) (entry ∷ []) (front.leads o (map_no_place opener o is))
          (Leads-closer t u m h opener members o (entry ∷ []) closer (map_given opener i members o (Ok entry) is place e)),
    )

map_err : (s t u : State) (m : Member) (opener : Item) (members : List Form) (fault : Fault) → is_map opener ≡ true → ReadsMembers s opener members t → GivesMember t m u → kind_of m.token.kind ≡ Closer
    → entry_of opener (item_of t.text m.token) members ≡ Err fault → StopsMap s opener fault
map_err s t u m opener members fault is front h closer e o place =
    Leads-stops s t (with_opener opener o) (inside opener members [] o) fault (front.leads o (map_no_place opener o is))
    (Stops-closer t u m h opener members o fault closer (map_given opener (item_of t.text m.token) members o (Err fault) is place e))

closed_by : (s t u : State) (m : Member) (opener : Item) (members : List Form) (found : Result (Option OpShape) Fault) (r : Result Entry Fault) → is_map opener ≡ true → ReadsMembers s opener members t → GivesMember t m u → kind_of m.token.kind ≡ Closer
    → entry_of opener (item_of t.text m.token) members ≡ r → IsEntry found r → ReadsMap s opener found u
closed_by s t u m opener members (Ok None) (Ok entry) is front h closer e shape = map_ok s t u m opener members None entry is front h closer e shape
closed_by s t u m opener members (Ok (Some x)) (Ok entry) is front h closer e shape = map_ok s t u m opener members (Some x) entry is front h closer e shape
closed_by s t u m opener members (Ok None) (Err fault) is front h closer e shape = absurd shape
closed_by s t u m opener members (Ok (Some x)) (Err fault) is front h closer e shape = absurd shape
closed_by s t u m opener members (Err fault) (Ok entry) is front h closer e shape = absurd shape
closed_by s t u m opener members (Err fault) (Err other) is front h closer e shape =
    λ memory. subst (StopsMap s opener) (sym shape) (map_err s t u m opener members other is front h closer e)

pub map_closed : (s t u : State) (text : List ℕ) (m : Member) (opener : Item) (members : List Form) (found : Result (Option OpShape) Fault) → is_map opener ≡ true → ReadsMembers s opener members t → GivesMember t m u → kind_of m.token.kind ≡ Closer
    → text ≡ t.text → IsEntry found (entry_of opener (item_of text m.token) members) → ReadsMap s opener found u
map_closed s t u text m opener members found is front h closer same shape =
    closed_by s t u m opener members found (entry_of opener (item_of t.text m.token) members) is front h closer refl
    (subst (λ (xs : List ℕ). IsEntry found (entry_of opener (item_of xs m.token) members)) same shape)

pub token_end : (text : List ℕ) (token : Token) → IsTokenIn text token → end_of (item_of text token) ≡ token.end
token_end text token h =
    let ordered = h.ordered in
    let within = h.within in
    let n : length (slice_range text token.start token.end) ≡ token.end - token.start =
    length-take-le (token.end - token.start) (drop token.start text) (omega (arith, length-drop token.start text)) in
    omega (arith, n)

-- a member that was gathered
pub record Gathered (s : State) (text : List ℕ) (old new : Fields) (u : State) : Type 0 where
  pub form : Form
  pub one : ReadsMember s form u
  pub within : AreFieldsIn text new
  pub more : (members : List Form) → Gathers text old members → Gathers text new (members ++ form ∷ [])

pub gathered_one : (s u : State) (text : List ℕ) (old new : Fields) (done : Unit {0}) → s.text ≡ text → GathersMember s old (Ok done) new u → Gathered s text old new u
gathered_one s u text old new done same h =
    record {
      form = h.0;
      one = h.1;
      within = subst (λ (xs : List ℕ). AreFieldsIn xs new) same h.2;
      more = subst (λ (xs : List ℕ). (members : List Form) → Gathers xs old members → Gathers xs new (members ++ h.0 ∷ [])) same h.3;
    }
