-- The fields of a map grow by one member.
use Rattle.std.proofs.Common.{arith, ◌≡◌, ℕ, List, [], ◌∷◌, ◌++◌, Bool, true, false, cond, ◌&&◌, codes, Option, Some, None, Result, refl, sym, ap, subst, ◌∙◌}
use Rattle.std.specs.Prelude.{bytes_eq, IfSome}
use Rattle.std.specs.List.{slice_get}
use Rattle.std.specs.Option.{option_map, is_none, option_map_or}
use Rattle.std.proofs.lemmas.List.{append-nil}
use Rattle.std.proofs.lemmas.List.Elements.{filter-append}
use Rattle.std.proofs.lemmas.Bool.{true≢false, and_parts, false_from_ne_true}
use Rattle.std.proofs.lemmas.Slice.Eq.{bytes_eq-Decides}
use Rattle.hist_types.specs.Entries.{is_named, keyword_of, transaction_of}
use Rattle.hist_types.specs.Forms.{Form, place_of}
use Rattle.hist_types.specs.declared.types.Fault.{Fault}
use Rattle.edn_ops.specs.declared.types.MopShape.{MopShape}
use Rattle.edn_ops.specs.declared.fields.Field.{Field}
use Rattle.edn_ops.specs.declared.fields.Fields.{Fields}
use Rattle.edn_ops.specs.declared.outline.Outline.{Outline}
use Rattle.edn_ops.specs.Outlines.{outline, outline_of}
use Rattle.edn_ops.specs.Fields.{IsField, members_of, fields_named, shapes_result, mops_result, Gathers, awaits_by}
use Rattle.edn_ops.proofs.OutlineLemmas.{is_named-outline, place_of-outline}

-- ---- members and fields

pub key_more : (pairs : List (Form × Form)) (key : Form) → members_of pairs None ++ key ∷ [] ≡ members_of pairs (Some key)
key_more [] key = refl
key_more (pair ∷ pairs) key = ap (λ (fs : List Form). pair.0 ∷ pair.1 ∷ fs) (key_more pairs key)

pub pair_more : (pairs : List (Form × Form)) (key value : Form) → members_of pairs (Some key) ++ value ∷ [] ≡ members_of (pairs ++ (key, value) ∷ []) None
pair_more [] key value = refl
pair_more (pair ∷ pairs) key value = ap (λ (fs : List Form). pair.0 ∷ pair.1 ∷ fs) (pair_more pairs key value)

-- a field where its key has the name
abbrev pub if_named : Bool → Form → Form → List (Form × Form)
if_named test key value = cond test ((key, value) ∷ []) []

pub named_more : (name : List ℕ) (pairs : List (Form × Form)) (key value : Form) → fields_named name (pairs ++ (key, value) ∷ []) ≡ fields_named name pairs ++ if_named (is_named name key) key value
named_more name pairs key value = filter-append (λ pair. is_named name pair.0) pairs ((key, value) ∷ [])

-- ---- names

equal_names : (name other : List ℕ) (k : Option (List ℕ)) → option_map_or (bytes_eq name) k false ≡ true → option_map_or (bytes_eq other) k false ≡ true → name ≡ other
equal_names name other None h k = absurd (true≢false (sym h))
equal_names name other (Some bytes) h k = (bytes_eq-Decides name bytes).0 h ∙ sym ((bytes_eq-Decides other bytes).0 k)

-- a key has at most one name
pub one_name : (name other : List ℕ) (f : Form) → is_named name f ≡ true → is_named other f ≡ true → name ≡ other
one_name name other f h k = equal_names name other (keyword_of f) h k

-- ---- one member more

no_key : (pending : Option Form) → None ≡ option_map outline pending → pending ≡ None
no_key pending h = grind arith

a_key : (o : Form) (pending : Option Form) → Some o ≡ option_map outline pending → (k : Form) × (pending ≡ Some k) × (outline k ≡ o)
a_key o pending k = grind arith

pub nothing_gathered : (text : List ℕ) (fields : Fields) → fields.key ≡ None → IsField text fields.kind [] → IsField text fields.process [] → IsField text fields.value [] → Gathers text fields []
nothing_gathered text fields key kind process value = record {
  pairs = [];
  pending = None;
  all = refl;
  key = ap (option_map (outline_of text)) key;
  kind = kind;
  process = process;
  value = value;
  transaction = tt;
}

pub key_gathered : (text : List ℕ) (fields : Fields) (members : List Form) (member : Outline) (form : Form) → Gathers text fields members → fields.key ≡ None → outline form ≡ outline_of text member → Gathers text (record fields { key = Some member }) (members ++ form ∷ [])
key_gathered text fields members member form g none e =
    let pending : g.pending ≡ None = no_key g.pending (sym (ap (option_map (outline_of text)) none) ∙ g.key) in
    record {
      pairs = g.pairs;
      pending = Some form;
      all = ap (λ (fs : List Form). fs ++ form ∷ []) (g.all ∙ ap (members_of g.pairs) pending) ∙ key_more g.pairs form;
      key = ap (λ (o : Form). Some o) (sym e);
      kind = g.kind;
      process = g.process;
      value = g.value;
      transaction = g.transaction;
    }

-- the field of a name grows by a field where its key has the name
abbrev pub Grows : List ℕ → List ℕ → Field → Field → Outline → Form → Type 0
Grows text name old new key form =
    (found : List (Form × Form)) (k : Form) → outline k ≡ outline_of text key → IsField text old found → IsField text new (found ++ if_named (is_named name (outline_of text key)) k form)

pub not_grown : (text name : List ℕ) (field : Field) (key : Outline) (form : Form) → is_named name (outline_of text key) ≡ false → Grows text name field field key form
not_grown text name field key form other found k e is =
    subst (IsField text field) (sym (append-nil found) ∙ ap (λ (t : Bool). found ++ if_named t k form) (sym other)) is

pub grown : (text name : List ℕ) (old new : Field) (key : Outline) (place : ℕ) (form : Form) → is_named name (outline_of text key) ≡ true → place ≡ place_of (outline_of text key)
    → ((found : List (Form × Form)) (k : Form) → IsField text old found → place_of k ≡ place → IsField text new (found ++ (k, form) ∷ []))
    → Grows text name old new key form
grown text name old new key place form same at adds found k e is =
    let here : place_of k ≡ place = sym (place_of-outline k) ∙ ap place_of e ∙ sym at in
    subst (λ (t : Bool). IsField text new (found ++ if_named t k form)) (sym same) (adds found k is here)

first_kept : (found more : List (Form × Form)) → is_none (slice_get found 0) ≡ false → slice_get (found ++ more) 0 ≡ slice_get found 0
first_kept [] more e = cc
first_kept (x ∷ found) more e = refl

is_none-map : {A B C : Type 0} (f : A → C) (h : B → C) (o : Option A) (p : Option B) → option_map f o ≡ option_map h p → is_none o ≡ is_none p
is_none-map f h o p g = grind arith

-- what holds of the first field holds when more follow it
first_stays : (P : Form × Form → Type 0) (text : List ℕ) (field : Field) (found : List (Form × Form)) (test : Bool) (k form : Form)
    → IsField text field found → (test && is_none field.value) ≡ false → IfSome (slice_get found 0) P → IfSome (slice_get (found ++ if_named test k form) 0) P
first_stays P text field found false k form is e h = subst (λ (xs : List (Form × Form)). IfSome (slice_get xs 0) P) (sym (append-nil found)) h
first_stays P text field found true k form is e h =
    let some : is_none (slice_get found 0) ≡ false = sym (is_none-map (outline_of text) (λ (pair : Form × Form). outline pair.1) field.value (slice_get found 0) is.value) ∙ e in
    subst (λ (o : Option (Form × Form)). IfSome o P) (sym (first_kept found ((k, form) ∷ []) some)) h

-- the fields with one more value
pub record GrowsBy (text : List ℕ) (old new : Fields) (key : Outline) (form : Form) : Type 0 where
  pub done : new.key ≡ None
  pub kind : Grows text (codes ":type") old.kind new.kind key form
  pub process : Grows text (codes ":process") old.process new.process key form
  pub value : Grows text (codes ":value") old.value new.value key form

named_grows : (text name : List ℕ) (old new : Field) (key : Outline) (pairs : List (Form × Form)) (k form : Form) → outline k ≡ outline_of text key → Grows text name old new key form
    → IsField text old (fields_named name pairs) → IsField text new (fields_named name (pairs ++ (k, form) ∷ []))
named_grows text name old new key pairs k form e grows is =
    let named : is_named name (outline_of text key) ≡ is_named name k = ap (is_named name) (sym e) ∙ is_named-outline name k in
    subst (IsField text new) (ap (λ (t : Bool). fields_named name pairs ++ if_named t k form) named ∙ sym (named_more name pairs k form)) (grows (fields_named name pairs) k e is)

pub value_gathered : (text : List ℕ) (old new : Fields) (members : List Form) (key : Outline) (form : Form) → Gathers text old members → old.key ≡ Some key → GrowsBy text old new key form
    → shapes_result new.transaction ≡ shapes_result old.transaction → (is_named (codes ":value") (outline_of text key) && is_none old.value.value) ≡ false → Gathers text new (members ++ form ∷ [])
value_gathered text old new members key form g some grows same waits =
    let found = a_key (outline_of text key) g.pending (sym (ap (option_map (outline_of text)) some) ∙ g.key) in
    let k = found.0 in
    let named : is_named (codes ":value") (outline_of text key) ≡ is_named (codes ":value") k = ap (is_named (codes ":value")) (sym found.2) ∙ is_named-outline (codes ":value") k in
    record {
      pairs = g.pairs ++ (k, form) ∷ [];
      pending = None;
      all = ap (λ (fs : List Form). fs ++ form ∷ []) (g.all ∙ ap (members_of g.pairs) found.1) ∙ pair_more g.pairs k form;
      key = ap (option_map (outline_of text)) grows.done;
      kind = named_grows text (codes ":type") old.kind new.kind key g.pairs k form found.2 grows.kind g.kind;
      process = named_grows text (codes ":process") old.process new.process key g.pairs k form found.2 grows.process g.process;
      value = named_grows text (codes ":value") old.value new.value key g.pairs k form found.2 grows.value g.value;
      transaction =
          let P : Form × Form → Type 0 = λ pair. shapes_result new.transaction ≡ mops_result (transaction_of pair.1) in
          let before : IfSome (slice_get (fields_named (codes ":value") g.pairs) 0) P =
          subst (λ (r : Result (List MopShape) Fault). IfSome (slice_get (fields_named (codes ":value") g.pairs) 0) (λ pair. r ≡ mops_result (transaction_of pair.1))) (sym same) g.transaction in
          subst (λ (xs : List (Form × Form)). IfSome (slice_get xs 0) P) (sym (named_more (codes ":value") g.pairs k form))
          (first_stays P text old.value (fields_named (codes ":value") g.pairs) (is_named (codes ":value") k) k form g.value (ap (λ (t : Bool). t && is_none old.value.value) (sym named) ∙ waits) before);
    }

none_named : (text : List ℕ) (field : Field) (found : List (Form × Form)) → IsField text field found → is_none field.value ≡ true → found ≡ []
none_named text field [] is e = refl
none_named text field (x ∷ found) is e = let some = sym (is_none-map (outline_of text) (λ (pair : Form × Form). outline pair.1) field.value (Some x) is.value) ∙ e in cc

-- the first `:value`
pub transaction_gathered : (text : List ℕ) (old new : Fields) (members : List Form) (key : Outline) (form : Form) → Gathers text old members → old.key ≡ Some key → GrowsBy text old new key form
    → is_named (codes ":value") (outline_of text key) ≡ true → is_none old.value.value ≡ true
    → shapes_result new.transaction ≡ mops_result (transaction_of form) → Gathers text new (members ++ form ∷ [])
transaction_gathered text old new members key form g some grows is_value first is =
    let found = a_key (outline_of text key) g.pending (sym (ap (option_map (outline_of text)) some) ∙ g.key) in
    let k = found.0 in
    let named : is_named (codes ":value") k ≡ true = sym (is_named-outline (codes ":value") k) ∙ ap (is_named (codes ":value")) found.2 ∙ is_value in
    let all : fields_named (codes ":value") (g.pairs ++ (k, form) ∷ []) ≡ (k, form) ∷ [] =
    named_more (codes ":value") g.pairs k form
    ∙ ap (λ (xs : List (Form × Form)). xs ++ if_named (is_named (codes ":value") k) k form) (none_named text old.value (fields_named (codes ":value") g.pairs) g.value first)
    ∙ ap (λ (t : Bool). if_named t k form) named in
    record {
      pairs = g.pairs ++ (k, form) ∷ [];
      pending = None;
      all = ap (λ (fs : List Form). fs ++ form ∷ []) (g.all ∙ ap (members_of g.pairs) found.1) ∙ pair_more g.pairs k form;
      key = ap (option_map (outline_of text)) grows.done;
      kind = named_grows text (codes ":type") old.kind new.kind key g.pairs k form found.2 grows.kind g.kind;
      process = named_grows text (codes ":process") old.process new.process key g.pairs k form found.2 grows.process g.process;
      value = named_grows text (codes ":value") old.value new.value key g.pairs k form found.2 grows.value g.value;
      transaction =
          subst (λ (xs : List (Form × Form)). IfSome (slice_get xs 0) (λ pair. shapes_result new.transaction ≡ mops_result (transaction_of pair.1))) (sym all) is;
    }

-- the key of a value that is awaited
pub awaited : (text : List ℕ) (key : Option Outline) (field : Field) → awaits_by text key field ≡ true → (k : Outline) × (key ≡ Some k) × (is_named (codes ":value") (outline_of text k) ≡ true) × (is_none field.value ≡ true)
awaited text None field e = cc
awaited text (Some key) field e = let parts = and_parts (is_named (codes ":value") (outline_of text key)) (is_none field.value) e in (key, refl, parts.0, parts.1)

-- two names are never one
pub type_process : (f : Form) → is_named (codes ":type") f ≡ true → is_named (codes ":process") f ≡ false
type_process f h = false_from_ne_true (is_named (codes ":process") f) (λ k. let e = one_name (codes ":type") (codes ":process") f h k in cc)

pub type_value : (f : Form) → is_named (codes ":type") f ≡ true → is_named (codes ":value") f ≡ false
type_value f h = false_from_ne_true (is_named (codes ":value") f) (λ k. let e = one_name (codes ":type") (codes ":value") f h k in cc)

pub process_value : (f : Form) → is_named (codes ":process") f ≡ true → is_named (codes ":value") f ≡ false
process_value f h = false_from_ne_true (is_named (codes ":value") f) (λ k. let e = one_name (codes ":process") (codes ":value") f h k in cc)

-- the name of what was called says nothing
pub function_other : (f : Form) → is_named (codes ":f") f ≡ true → (is_named (codes ":type") f ≡ false) × (is_named (codes ":process") f ≡ false) × (is_named (codes ":value") f ≡ false)
function_other f h = (
  false_from_ne_true (is_named (codes ":type") f) (λ k. let e = one_name (codes ":f") (codes ":type") f h k in cc),
  false_from_ne_true (is_named (codes ":process") f) (λ k. let e = one_name (codes ":f") (codes ":process") f h k in cc),
  false_from_ne_true (is_named (codes ":value") f) (λ k. let e = one_name (codes ":f") (codes ":value") f h k in cc),
)

pub value_type : (f : Form) → is_named (codes ":value") f ≡ true → is_named (codes ":type") f ≡ false
value_type f h = false_from_ne_true (is_named (codes ":type") f) (λ k. let e = one_name (codes ":value") (codes ":type") f h k in cc)

pub value_process : (f : Form) → is_named (codes ":value") f ≡ true → is_named (codes ":process") f ≡ false
value_process f h = false_from_ne_true (is_named (codes ":process") f) (λ k. let e = one_name (codes ":value") (codes ":process") f h k in cc)

-- the first field of a name
pub first_grown : (text name : List ℕ) (old : Field) (key value : Outline) (form : Form) → is_named name (outline_of text key) ≡ true → is_none old.value ≡ true → outline form ≡ outline_of text value
    → Grows text name old (record { value = Some value; second = old.second }) key form
first_grown text name old key value form same none e found k ek is =
    let empty : found ≡ [] = none_named text old found is none in
    let new : Field = record { value = Some value; second = old.second } in
    let one : IsField text new ((k, form) ∷ []) = record { value = ap (λ (o : Form). Some o) (sym e); second = is.second ∙ ap (λ (xs : List (Form × Form)). option_map (λ (pair : Form × Form). place_of pair.0) (slice_get xs 1)) empty } in
    subst (IsField text new) (sym (ap (λ (xs : List (Form × Form)). xs ++ if_named (is_named name (outline_of text key)) k form) empty ∙ ap (λ (t : Bool). if_named t k form) same)) one

pub not_awaited : (text : List ℕ) (key : Outline) (pending : Option Outline) (field : Field) → pending ≡ Some key → awaits_by text pending field ≡ false → (is_named (codes ":value") (outline_of text key) && is_none field.value) ≡ false
not_awaited text key pending field e waits = sym (ap (λ (o : Option Outline). awaits_by text o field) e) ∙ waits

pub no_key_is : (o : Option Outline) → ((x : Outline) → o ≡ Some x → ⊥) → o ≡ None
no_key_is o h = grind arith
