-- Maps that are read in one pass over their bytes.
use Rattle.std.proofs.Common.{◌≡◌, ℕ, ℤ, ◌+◌, ◌-◌, ◌<◌, ◌≤◌, ◌⊎◌, List, [], ◌∷◌, ◌++◌, length, Bool, true, false, codes, Option, Some, None, Result, Ok, Err, inl, inr, refl, sym, ◌∙◌, ap, arith, subst, append-nil, nat_lt, lit≤, lit<, drop, take, get_or, length-take}
use Rattle.std.specs.List.{slice_get}
use Rattle.std.specs.Prelude.{IfSome, Vec, slice_range}
use Rattle.std.specs.Global.{Global}
use Rattle.std.specs.Option.{is_some, unwrap_or}
use Rattle.std.proofs.lemmas.Bool.{true≢false, false_from_ne_true, cases_lt}
use Rattle.hist_types.specs.AtomTokens.{int_value, int_of_token, process_of}
use Rattle.hist_types.specs.Bytes.{close_brace, open_square, close_square, is_blank}
use Rattle.hist_types.specs.Entries.{◌>>=◌, is_write_of, or_refuse, the_one, is_named, int_of, kind_of as kind_of_form, micro_ops_of, transaction_of, client_operation, end_of, entry_by, entry_of}
use Rattle.hist_types.specs.Forms.{Form, plain, collection, forms_of, place_of, is_map}
use Rattle.hist_types.specs.Tokens.{Item}
use Rattle.hist_types.specs.declared.limits.TheConstants.{MAX_OPEN_COLLECTIONS, MAX_OPERATION_BYTES, MAX_MICRO_OPS}
use Rattle.hist_types.specs.declared.types.Fault.{Fault}
use Rattle.hist_types.specs.declared.types.OpKind.{OpKind}
use Rattle.hist_types.specs.declared.types.OpKind.TheVariants as op_kinds
use Rattle.hist_types.specs.declared.types.Refusal.TheVariants.{NotTxn}
use Rattle.edn_lex.specs.Ahead.{going_at, IsGap, IsLoneAt, GivesLone, GivesOpener, GivesCloser, GivesTriple}
use Rattle.edn_lex.specs.Kinds.{kind_of, item_of}
use Rattle.edn_lex.specs.declared.ahead.TheConstants.{LEVELS_AHEAD}
use Rattle.edn_lex.specs.declared.ahead.Triple.{Triple}
use Rattle.edn_lex.specs.declared.types.Token.{Token}
use Rattle.edn_lex.specs.declared.types.TokenKind.{TokenKind}
use Rattle.edn_lex.specs.declared.types.TokenKind.TheVariants as kinds
use Rattle.edn_ops.specs.declared.atoms.TheConstants.{LONG_INTEGER}
use Rattle.edn_ops.specs.declared.flat.FlatEntry.{FlatEntry}
use Rattle.edn_ops.specs.declared.flat.FlatFields.{FlatFields}
use Rattle.edn_ops.specs.declared.flat.Owner.{Owner}
use Rattle.edn_ops.specs.declared.flat.Owner.TheVariants as owners
use Rattle.edn_ops.specs.declared.flat.Reached.{Reached}
use Rattle.edn_ops.specs.declared.flat.Reached.TheVariants as reaches
use Rattle.edn_ops.specs.declared.flat.TheConstants.{VALUE_LEVELS}
use Rattle.edn_ops.specs.declared.outline.Outline.{Outline}
use Rattle.edn_ops.specs.declared.types.MopShape.{MopShape}
use Rattle.edn_ops.specs.declared.types.Span.{Span}
use Rattle.edn_ops.specs.declared.types.OpShape.{OpShape}
use Rattle.edn_ops.specs.Collections.{ReadsMap}
use Rattle.edn_ops.specs.Fields.{fields_named, members_of, mops_result, result_outline, IsEntry}
use Rattle.edn_ops.specs.Flat.{ReadsAhead, ReadsUpTo, ReadsInside, ReadsFields, PassesFields, PassesFieldAt, IsOther, ReadsFlatFront, ReadsFirstFields, PassesAhead, IsMopValue, GivesMop, ReadsFlatMop, ReadsFlatTransaction, ReadsFlatValue, ReadsPlainField, ReadsFlatField, HasReached, place_reached, HasKind, NamesOwner, HasOwner, HasMops, may_have_mops, AreFlat, AddsFlat, ReadsFlatMap, AreFlatMops, IsComplete, IsFlatEntry, IsShortOperation, GivesFlatEntry}
use Rattle.edn_ops.specs.Leads.{is_mark_kind}
use Rattle.edn_ops.specs.Outlines.{outline, outline_of, number_of, IsTokenIn}
use Rattle.edn_ops.proofs.Closing.{IsAt, by_process, entry_from, entry_is, entry_skipped, has_value, is_operation, value_mops, bind_ok}
use Rattle.edn_ops.proofs.Collected.{token_in}
use Rattle.edn_ops.proofs.FlatForms.{deeper, lone_form, nothing_up_to, one_up_to, collection_ahead}
use Rattle.edn_ops.proofs.Gathering.{if_named, key_more, pair_more, named_more, type_process, type_value, process_value, value_type, value_process}
use Rattle.edn_ops.proofs.Integers.{short_atom}
use Rattle.edn_ops.proofs.LeftOut.{GivesMember-first}
use Rattle.edn_ops.proofs.MapMembers.{map_closed, token_end}
use Rattle.edn_ops.proofs.MicroOps.{elements, one_micro_op}
use Rattle.edn_ops.proofs.OutlineLemmas.{kind_of-outline}
use Rattle.edn_ops.proofs.Triples.{bare_token, lone_in, triple_form, triple_in, triple_reads, triple_mop, square_is}

-- ---- fields of one name

named_same : (name : List ℕ) (pairs : List (Form × Form)) (key value : Form) → is_named name key ≡ false → fields_named name (pairs ++ (key, value) ∷ []) ≡ fields_named name pairs
named_same name pairs key value other =
    named_more name pairs key value ∙ ap (λ (t : Bool). fields_named name pairs ++ if_named t key value) other ∙ append-nil (fields_named name pairs)

named_first : (name : List ℕ) (pairs : List (Form × Form)) (key value : Form) → is_named name key ≡ true → fields_named name pairs ≡ [] → fields_named name (pairs ++ (key, value) ∷ []) ≡ (key, value) ∷ []
named_first name pairs key value same none =
    named_more name pairs key value ∙ ap (λ (t : Bool). fields_named name pairs ++ if_named t key value) same ∙ ap (λ (found : List (Form × Form)). found ++ (key, value) ∷ []) none

no_kind : (o : Option OpKind) (found : List (Form × Form)) → is_some o ≡ false → HasKind o found → found ≡ []
no_kind o found h g = grind arith

a_kind : (o : Option OpKind) (key value : Form) → is_some o ≡ true → o ≡ kind_of_form value → HasKind o ((key, value) ∷ [])
a_kind None key value e is = cc
a_kind (Some kind) key value e is = ((key, value), refl, is)

no_owner : (o : Option Owner) (found : List (Form × Form)) → is_some o ≡ false → HasOwner o found → found ≡ []
no_owner o found h g = grind arith

no_value : (has : Bool) (shapes : List MopShape) (found : List (Form × Form)) → has ≡ false → HasMops has shapes found → found ≡ []
no_value has shapes found h g = grind arith

may_yet : (o : Option OpKind) → is_some o ≡ false → may_have_mops o ≡ true
may_yet o h = grind arith

-- ---- one field more

pub adds_kind :
    (old : FlatFields) (shapes : List MopShape) (key value : Form) (found : Option OpKind) → is_named (codes ":type") key ≡ true → is_some old.kind ≡ false → found ≡ kind_of_form value → is_some found ≡ true →
    AddsFlat old shapes key value (record old { kind = found }) shapes
adds_kind old shapes key value found named first is some pairs h =
    record {
      kind = subst (HasKind found) (sym (named_first (codes ":type") pairs key value named (no_kind old.kind (fields_named (codes ":type") pairs) first h.kind))) (a_kind found key value some is);
      owner = subst (HasOwner old.owner) (sym (named_same (codes ":process") pairs key value (type_process key named))) h.owner;
      value = λ may. subst (HasMops old.has_value shapes) (sym (named_same (codes ":value") pairs key value (type_value key named))) (h.value (may_yet old.kind first));
      empty = h.empty;
    }

pub adds_owner :
    (old : FlatFields) (shapes : List MopShape) (key value : Form) (owner : Owner) → is_named (codes ":type") key ≡ false → is_named (codes ":process") key ≡ true → is_some old.owner ≡ false → NamesOwner value owner →
    AddsFlat old shapes key value (record old { owner = Some owner }) shapes
adds_owner old shapes key value owner other named first is pairs h =
    record {
      kind = subst (HasKind old.kind) (sym (named_same (codes ":type") pairs key value other)) h.kind;
      owner = subst (HasOwner (Some owner)) (sym (named_first (codes ":process") pairs key value named (no_owner old.owner (fields_named (codes ":process") pairs) first h.owner))) ((key, value), refl, is);
      value = λ may. subst (HasMops old.has_value shapes) (sym (named_same (codes ":value") pairs key value (process_value key named))) (h.value may);
      empty = h.empty;
    }

pub adds_other :
    (old : FlatFields) (shapes : List MopShape) (key value : Form) → is_named (codes ":type") key ≡ false → is_named (codes ":process") key ≡ false → (may_have_mops old.kind ≡ true → is_named (codes ":value") key ≡ false) →
    AddsFlat old shapes key value old shapes
adds_other old shapes key value type process other pairs h =
    record {
      kind = subst (HasKind old.kind) (sym (named_same (codes ":type") pairs key value type)) h.kind;
      owner = subst (HasOwner old.owner) (sym (named_same (codes ":process") pairs key value process)) h.owner;
      value = λ may. subst (HasMops old.has_value shapes) (sym (named_same (codes ":value") pairs key value (other may))) (h.value may);
      empty = h.empty;
    }

pub adds_value :
    (old : FlatFields) (shapes more : List MopShape) (key value : Form) → is_named (codes ":value") key ≡ true → may_have_mops old.kind ≡ true → old.has_value ≡ false → Ok more ≡ mops_result (transaction_of value) →
    AddsFlat old shapes key value (record old { has_value = true }) more
adds_value old shapes more key value named may first is pairs h =
    let none = no_value old.has_value shapes (fields_named (codes ":value") pairs) first (h.value may) in
    record {
      kind = subst (HasKind old.kind) (sym (named_same (codes ":type") pairs key value (value_type key named))) h.kind;
      owner = subst (HasOwner old.owner) (sym (named_same (codes ":process") pairs key value (value_process key named))) h.owner;
      value = λ _. subst (HasMops true more) (sym (named_first (codes ":value") pairs key value named none)) ((key, value), refl, is);
      empty = λ e. cc;
    }

pub process_says :
    (text bytes : List ℕ) (value : Outline) (number : Token) (process : ℕ) → int_of (outline_of text value) ≡ Some (number_of text number) → bytes ≡ slice_range text number.start number.end → Some process ≡ process_of (int_value bytes) →
    NamesOwner (outline_of text value) (owners.Client process)
process_says text bytes value number process int is e = (number_of text number, int, sym (e ∙ ap (λ (bs : List ℕ). process_of (int_value bs)) is))

pub digits_spelled : (text : List ℕ) (start len : ℕ) (token : Token) → token.start ≡ start → token.end ≡ start + len → take len (drop start text) ≡ slice_range text token.start token.end
digits_spelled text start len token begins ends =
    let count : len ≡ token.end - token.start = omega arith in
    ap (λ (n : ℕ). take n (drop start text)) count ∙ ap (λ (s : ℕ). take (token.end - token.start) (drop s text)) (sym begins)

pub digits_say :
    (text bytes : List ℕ) (token : Token) (process : ℕ) → token.kind ≡ kinds.Int → bytes ≡ slice_range text token.start token.end → process_of (int_value bytes) ≡ Some process → NamesOwner (plain (item_of text token)) (owners.Client process)
digits_say text bytes token process int is e =
    let spelled = slice_range text token.start token.end in
    (number_of text token, ap (λ (kind : TokenKind). int_of_token (kind_of kind) spelled) int, sym (ap (λ (bs : List ℕ). process_of (int_value bs)) is) ∙ e)

-- ---- micro-operations

-- a vector of three is one more micro-operation
pub mop_ahead :
    (text : List ℕ) (offset : ℕ) (old : List MopShape) (shape : MopShape) (end : ℕ) (new : List MopShape) → GivesMop text offset shape end → length old < MAX_MICRO_OPS → new ≡ old ++ shape ∷ [] →
    ReadsFlatMop text offset old (Ok (Some end)) new
mop_ahead text offset old shape end new h room pushed =
    let t = h.0 in
    rw h.2 (
      triple_form text t,
      record { further = (triple_reads text offset t [] (lit< tt) h.1).forward; within = h.3; reads = λ closers few. triple_reads text offset t closers (omega arith) h.1 },
      λ members e. ap (λ (xs : List MopShape). Ok xs) pushed ∙ one_micro_op old members (triple_form text t) shape e room (triple_mop text offset t (Ok shape) h.1 h.4),
    )

-- a number of few digits is an atom
pub short_number : (text : List ℕ) (token : Token) → token.kind ≡ kinds.Int → IsTokenIn text token → length (slice_range text token.start token.end) < LONG_INTEGER → IsMopValue true (plain (item_of text token))
short_number text token int h short = grind (arith, short_atom token.kind (slice_range text token.start token.end) int h.spelled short)

pub few_bytes : (text : List ℕ) (start end : ℕ) → end < start + 16 → length (slice_range text start end) < LONG_INTEGER
few_bytes text start end few = omega (arith, length-take (end - start) (drop start text))

-- a vector of a name, an atom and a value
pub mop_given :
    (text : List ℕ) (offset : ℕ) (is_write : Bool) (t : Triple) (key value : Span) → GivesTriple text offset t → t.closer.end ≤ length text → is_write_of (plain (item_of text t.first)) ≡ Some is_write →
    IsMopValue true (plain (item_of text t.second)) → IsMopValue is_write (plain (item_of text t.third)) → key ≡ record { start = t.second.start; end = t.second.end } → value ≡ record { start = t.third.start; end = t.third.end } →
    GivesMop text offset (record { is_write = is_write; key = key; value = value }) t.closer.end
mop_given text offset true t key value given fits name h g key_is value_is =
    let within = triple_in text offset t given in
    (t, given, refl, fits, grind (arith, token_end text t.second within.1, token_end text t.third within.2))
mop_given text offset false t key value given fits name h g key_is value_is =
    let within = triple_in text offset t given in
    (t, given, refl, fits, grind (arith, token_end text t.second within.1, token_end text t.third within.2))

-- two gaps are one
pub gap_more : (text : List ℕ) (offset middle start : ℕ) → IsGap text offset middle → IsGap text middle start → IsGap text offset start
gap_more text offset middle start first second =
    let low = first.low in
    let high = second.low in
    record {
      low = omega arith;
      fits = second.fits;
      blanks = λ k above below. elim (cases_lt k middle) [
        | inl before ↦ first.blanks k above before
        | inr behind ↦ second.blanks k behind below
      ];
    }

-- a blank is a gap
pub blank_here : (text : List ℕ) (at byte : ℕ) → at < length text → get_or text at 0 ≡ byte → is_blank byte ≡ true → IsGap text at (at + 1)
blank_here text at byte within is blank =
    record {
      low = omega arith;
      fits = omega arith;
      blanks = λ k low high. let same : k ≡ at = omega arith in ap is_blank (ap (λ (n : ℕ). get_or text n 0) same ∙ is) ∙ blank;
    }

pub space_here : (text : List ℕ) (at : ℕ) → at < length text → get_or text at 0 ≡ 32 → IsGap text at (at + 1)
space_here text at within is = blank_here text at 32 within is refl

pub comma_here : (text : List ℕ) (at : ℕ) → at < length text → get_or text at 0 ≡ 44 → IsGap text at (at + 1)
comma_here text at within is = blank_here text at 44 within is refl

-- nothing is a gap
pub no_gap : (text : List ℕ) (offset : ℕ) → offset ≤ length text → IsGap text offset offset
no_gap text offset within = record { low = omega arith; fits = within; blanks = λ k low high. absurd (omega arith) }

-- a token that begins at the offset
pub lone_here : (text : List ℕ) (offset : ℕ) (token : Token) → offset ≤ length text → IsLoneAt text offset token → GivesLone text offset token
lone_here text offset token within h = h offset (no_gap text offset within)

pub lone_token_in : (text : List ℕ) (start : ℕ) (token : Token) → start ≤ length text → IsLoneAt text start token → IsTokenIn text token
lone_token_in text start token within h = lone_in text start token (lone_here text start token within h)

-- ---- members of a vector

pub nothing_inside : (text : List ℕ) (opener : Token) (shapes : List MopShape) → opener.end ≤ length text → shapes ≡ [] → ReadsInside text opener [] shapes opener.end
nothing_inside text opener shapes within empty = record { up_to = nothing_up_to text 1 opener.end within; shapes_are = ap (λ (xs : List MopShape). Ok xs) empty }

pub one_inside :
    (text : List ℕ) (opener : Token) (members : List Form) (shapes more : List MopShape) (at end : ℕ) → ReadsInside text opener members shapes at → (r : ReadsFlatMop text at shapes (Ok (Some end)) more) →
    ReadsInside text opener (members ++ r.0 ∷ []) more end
one_inside text opener members shapes more at end front r = record { up_to = one_up_to text 1 opener.end members at r.0 end front.up_to r.1; shapes_are = r.2 members front.shapes_are }

pub transaction_ahead :
    (text : List ℕ) (offset : ℕ) (opener closer : Token) (members : List Form) (shapes : List MopShape) (at : ℕ) → GivesOpener text offset open_square close_square opener → ReadsInside text opener members shapes at →
    GivesCloser text at close_square closer → (form : Form) × ReadsAhead text 2 offset form closer.end × (Ok shapes ≡ mops_result (transaction_of form))
transaction_ahead text offset opener closer members shapes at opens inside closes =
    let form = collection (item_of text opener) (item_of text closer) (forms_of members) in
    let here = elements (item_of text opener) (item_of text closer) members (square_is (item_of text opener) opens.bytes) in (
      form,
      collection_ahead text 1 offset at close_square opener closer members opens.kind opens.gives inside.up_to closes.kind closes.gives,
      inside.shapes_are ∙ sym (ap (λ (x : Option (List Form)). mops_result (or_refuse x NotTxn (place_of form) >>= micro_ops_of 0)) here),
    )

-- ---- maps

pub no_fields : (text : List ℕ) (offset : ℕ) (fields : FlatFields) (shapes : List MopShape) → offset ≤ length text → AreFlat fields shapes [] → ReadsFields text offset [] fields shapes offset
no_fields text offset fields shapes within flat = record { up_to = nothing_up_to text VALUE_LEVELS offset within; flat = flat }

-- a key and its value
pub one_field :
    (text : List ℕ) (offset : ℕ) (pairs : List (Form × Form)) (fields new : FlatFields) (shapes more : List MopShape) (at : ℕ) (key : Token) (end : ℕ) (value : Form) → ReadsFields text offset pairs fields shapes at →
    GivesLone text at key → ReadsAhead text VALUE_LEVELS key.end value end → AddsFlat fields shapes (plain (item_of text key)) value new more →
    ReadsFields text offset (pairs ++ (plain (item_of text key), value) ∷ []) new more end
one_field text offset pairs fields new shapes more at key end value front gives ahead adds =
    let k = plain (item_of text key) in
    let members : (members_of pairs None ++ k ∷ []) ++ value ∷ [] ≡ members_of (pairs ++ (k, value) ∷ []) None =
    ap (λ (ms : List Form). ms ++ value ∷ []) (key_more pairs k) ∙ pair_more pairs k value in
    let within = ahead.within in
    let further = ahead.further in
    let first = one_up_to text VALUE_LEVELS offset (members_of pairs None) at k key.end front.up_to (lone_form text VALUE_LEVELS at key (omega arith) gives) in
    record {
      up_to = subst (λ (ms : List Form). ReadsUpTo text VALUE_LEVELS offset ms end) members (one_up_to text VALUE_LEVELS offset (members_of pairs None ++ k ∷ []) key.end value end first ahead);
      flat = adds pairs front.flat;
    }

pub field_further :
    (text : List ℕ) (at : ℕ) (key : Token) (end : ℕ) (value : Form) → GivesLone text at key → ReadsAhead text VALUE_LEVELS key.end value end → (at < end) × (end ≤ length text)
field_further text at key end value gives ahead =
    let within = ahead.within in
    let high = ahead.further in
    let middle = (lone_form text VALUE_LEVELS at key (omega arith) gives).further in
    (omega arith, within)

process_no_type : (f : Form) → is_named (codes ":process") f ≡ true → is_named (codes ":type") f ≡ false
process_no_type f h = false_from_ne_true (is_named (codes ":type") f) (λ k. true≢false (sym h ∙ type_process f k))

-- ---- fields that say nothing

pub both_passed : (text : List ℕ) (from middle to : ℕ) → PassesFields text from middle → PassesFields text middle to → PassesFields text from to
both_passed text from middle to first second start pairs fields shapes read =
    let one = first start pairs fields shapes read in
    second start one.0 fields shapes one.1

-- a key of such a field and a form by itself
pub field_passed :
    (text : List ℕ) (start : ℕ) (key token : Token) → IsLoneAt text start key → IsOther (plain (item_of text key)) → GivesLone text key.end token → token.end ≤ length text → PassesFieldAt text start token.end
field_passed text start key token lone other gives fits from gap begin pairs fields shapes read =
    let k = plain (item_of text key) in
    let v = plain (item_of text token) in (
      pairs ++ (k, v) ∷ [],
      one_field text begin pairs fields fields shapes shapes from key token.end v read (lone from gap) (lone_form text VALUE_LEVELS key.end token fits gives) (adds_other fields shapes k v other.0 other.1 (λ _. other.2)),
    )

-- and one more, if it comes next
pub one_more_passed :
    (text : List ℕ) (offset at next end : ℕ) (o : Option ℕ) → PassesFields text offset at → IsGap text at next → IfSome o (PassesFieldAt text next) → end ≡ unwrap_or o at → PassesFields text offset end
one_more_passed text offset at next end None first gap more is = subst (PassesFields text offset) (sym is) first
one_more_passed text offset at next end (Some far) first gap more is = subst (PassesFields text offset) (sym is) (both_passed text offset at far first (more at gap))

-- fields that begin with a kind and a process, up to a transaction's opener
pub front_read :
    (text : List ℕ) (offset at : ℕ) (kind_key kind_token owner_key owner_token value_key opener : Token) (old : FlatFields) (kind : OpKind) (owner : Owner) → is_some old.kind ≡ false → is_some old.owner ≡ false →
    old.has_value ≡ false → IsLoneAt text offset kind_key → is_named (codes ":type") (plain (item_of text kind_key)) ≡ true →
    GivesLone text kind_key.end kind_token → kind_token.end ≤ length text → Some kind ≡ kind_of_form (plain (item_of text kind_token)) → may_have_mops (Some kind) ≡ true →
    GivesLone text kind_token.end owner_key → is_named (codes ":process") (plain (item_of text owner_key)) ≡ true →
    GivesLone text owner_key.end owner_token → owner_token.end ≤ length text → NamesOwner (plain (item_of text owner_token)) owner → PassesFields text owner_token.end at →
    GivesLone text at value_key → is_named (codes ":value") (plain (item_of text value_key)) ≡ true → GivesOpener text value_key.end open_square close_square opener →
    ReadsFlatFront text offset old opener (record old { kind = Some kind; owner = Some owner; has_value = true })
front_read text offset at kind_key kind_token owner_key owner_token value_key opener old kind owner no_kind no_owner no_mops kind_key_lone kind_named kind_lone kind_fits kind_is may owner_key_lone owner_named owner_lone owner_fits owner_is passed value_key_lone value_named opens = (
  value_key.end,
  opens,
  λ start from pairs shapes more end gap before read.
      let one : FlatFields = record old { kind = Some kind } in
      let two : FlatFields = record old { kind = Some kind; owner = Some owner } in
      let three : FlatFields = record old { kind = Some kind; owner = Some owner; has_value = true } in
      let k = plain (item_of text kind_key) in
      let o = plain (item_of text owner_key) in
      let v = plain (item_of text value_key) in
      let kv = plain (item_of text kind_token) in
      let ov = plain (item_of text owner_token) in
      let first = one_field text start pairs old one shapes shapes from kind_key kind_token.end kv before (kind_key_lone from gap)
      (lone_form text VALUE_LEVELS kind_key.end kind_token kind_fits kind_lone) (adds_kind old shapes k kv (Some kind) kind_named no_kind kind_is refl) in
      let second = one_field text start (pairs ++ (k, kv) ∷ []) one two shapes shapes kind_token.end owner_key owner_token.end ov first owner_key_lone
      (lone_form text VALUE_LEVELS owner_key.end owner_token owner_fits owner_lone) (adds_owner one shapes o ov owner (process_no_type o owner_named) owner_named no_owner owner_is) in
      let third = passed start ((pairs ++ (k, kv) ∷ []) ++ (o, ov) ∷ []) two shapes second in (
        third.0 ++ (v, read.0) ∷ [],
        one_field text start third.0 two three shapes more at value_key end read.0 third.1 value_key_lone
            (deeper text 2 VALUE_LEVELS value_key.end read.0 end (lit≤ tt) read.1) (adds_value two shapes more v read.0 value_named may no_mops read.2),
      ),
)

-- the fields that a map begins with
pub front_begins :
    (text : List ℕ) (offset at next : ℕ) (old new : FlatFields) (opener : Token) → offset ≤ length text → AreFlat old [] [] → PassesFields text offset at → IsGap text at next →
    ReadsFlatFront text next old opener new → HasReached text offset new [] (reaches.Opener opener)
front_begins text offset at next old new opener within flat passed gap front =
    let before = passed offset [] old [] (no_fields text offset old [] within flat) in
    (refl, front.0, front.1, λ more end read. front.2 offset at before.0 [] more end gap before.1 read)

-- and a transaction after its opener
pub transaction_reached :
    (text : List ℕ) (offset : ℕ) (fields : FlatFields) (shapes more : List MopShape) (opener : Token) (result : Result (Option ℕ) Fault) → HasReached text offset fields shapes (reaches.Opener opener) →
    (shapes ≡ [] → (at : ℕ) → GivesOpener text at open_square close_square opener → ReadsFlatTransaction text at result more) → ReadsFirstFields text offset result fields more
transaction_reached text offset fields shapes more opener (Ok None) has reads = tt
transaction_reached text offset fields shapes more opener (Ok (Some end)) has reads = has.3 more end (reads has.0 has.1 has.2)
transaction_reached text offset fields shapes more opener (Err fault) has reads = reads has.0 has.1 has.2

-- a field is read further
pub field_goes_on :
    (text : List ℕ) (at start : ℕ) (old new : FlatFields) (further : Reached) → IsGap text at start → ReadsFlatField text start old (Some further) new → (place_reached further ≤ length text) × (at < place_reached further)
field_goes_on text at start old new (reaches.End end) gap r =
    let ends = field_further text at r.0 end r.2 (r.1 at gap) r.3 in
    (ends.1, ends.0)
field_goes_on text at start old new (reaches.Opener opener) gap r =
    let key = r.0 in
    let lone = r.1 at gap in
    let opens = r.2.gives [] (lit< tt) in
    let low = opens.low in
    let some = opens.some in
    let fits = r.3 in
    let middle = (lone_form text VALUE_LEVELS at key (omega arith) lone).further in
    (fits, omega arith)

-- one field more
pub field_reached :
    (text : List ℕ) (offset at start : ℕ) (pairs : List (Form × Form)) (old new : FlatFields) (shapes : List MopShape) (further : Reached) → ReadsFields text offset pairs old shapes at → IsGap text at start →
    ReadsFlatField text start old (Some further) new → HasReached text offset new shapes further
field_reached text offset at start pairs old new shapes (reaches.End end) front gap r =
    let key = r.0 in
    (pairs ++ (plain (item_of text key), r.2) ∷ [], one_field text offset pairs old new shapes shapes at key end r.2 front (r.1 at gap) r.3 (r.4 shapes))
field_reached text offset at start pairs old new shapes (reaches.Opener opener) front gap r =
    let key = r.0 in
    let k = plain (item_of text key) in (
      front.flat.empty r.4,
      key.end,
      r.2,
      λ more end read. (
        pairs ++ (k, read.0) ∷ [],
        one_field text offset pairs old new shapes more at key end read.0 front (r.1 at gap) (deeper text 2 VALUE_LEVELS key.end read.0 end (lit≤ tt) read.1) (r.5 shapes more read.0 read.2),
      ),
    )

-- and its closer
pub map_read :
    (text : List ℕ) (offset : ℕ) (pairs : List (Form × Form)) (fields : FlatFields) (shapes : List MopShape) (at : ℕ) (closer : Token) → ReadsFields text offset pairs fields shapes at → GivesCloser text at close_brace closer →
    closer.end ≤ length text → ReadsFlatMap text offset fields shapes closer.end
map_read text offset pairs fields shapes at closer front closes within =
    let last = closes.gives [] in
    let a = front.up_to.forward in
    let b = last.low in
    let c = last.some in
    record { pairs = pairs; inner = at; closer = closer; reads = front.up_to.reads; flat = front.flat; closes = closes; end_is = refl; further = omega arith; within = within }

-- ---- operations

may_of : (kind : OpKind) → (kind ≡ op_kinds.Invoke) ⊎ (kind ≡ op_kinds.Ok) → may_have_mops (Some kind) ≡ true
may_of kind (inl e) = ap (λ (k : OpKind). may_have_mops (Some k)) e
may_of kind (inr e) = ap (λ (k : OpKind). may_have_mops (Some k)) e

-- the transaction of an invoke or an ok
pub flat_mops :
    (fields : FlatFields) (shapes : List MopShape) (kind : OpKind) → fields.kind ≡ Some kind → (kind ≡ op_kinds.Invoke) ⊎ (kind ≡ op_kinds.Ok) → fields.has_value ≡ true → AreFlatMops fields shapes kind shapes
flat_mops fields shapes kind is has value_is pairs start flat =
    let found = fields_named (codes ":value") pairs in
    let may : may_have_mops fields.kind ≡ true = ap may_have_mops is ∙ may_of kind has in
    let v = subst (λ (b : Bool). HasMops b shapes found) value_is (flat.value may) in
    let one : Ok (outline v.0.1) ≡ result_outline (the_one start found) = sym (ap (λ (xs : List (Form × Form)). result_outline (the_one start xs)) v.1) in
    let first : IfSome (slice_get found 0) (λ pair. Ok shapes ≡ mops_result (transaction_of pair.1)) =
    subst (λ (xs : List (Form × Form)). IfSome (slice_get xs 0) (λ pair. Ok shapes ≡ mops_result (transaction_of pair.1))) (sym v.1) v.2 in
    value_mops kind start pairs (outline v.0.1) (Ok shapes) (has_value kind has) one first

complete_mops : (fields : FlatFields) (shapes : List MopShape) (kind : OpKind) → IsComplete fields kind → AreFlatMops fields shapes kind shapes
complete_mops fields shapes op_kinds.Invoke is = flat_mops fields shapes op_kinds.Invoke is.0 (inl refl) is.1
complete_mops fields shapes op_kinds.Ok is = flat_mops fields shapes op_kinds.Ok is.0 (inr refl) is.1
complete_mops fields shapes op_kinds.Fail is = λ pairs start flat. ap (λ (xs : List MopShape). Ok xs) (flat.empty is.1)
complete_mops fields shapes op_kinds.Info is = λ pairs start flat. ap (λ (xs : List MopShape). Ok xs) (flat.empty is.1)

-- what the fields give
flat_shape :
    (fields : FlatFields) (shape : OpShape) (pairs : List (Form × Form)) (opener closer : Item) → AreFlat fields shape.mops.items pairs → fields.owner ≡ Some (owners.Client shape.process) → IsComplete fields shape.kind →
    nat_lt MAX_OPERATION_BYTES (shape.span.end - shape.span.start) ≡ false → IsAt opener closer shape.span.start shape.span.end → IsEntry (Ok (Some shape)) (entry_of opener closer (members_of pairs None))
flat_shape fields shape pairs opener closer flat owner_is is short at =
    let start = shape.span.start in
    let end = shape.span.end in
    let k = subst (λ (o : Option OpKind). HasKind o (fields_named (codes ":type") pairs)) is.0 flat.kind in
    let p = subst (λ (o : Option Owner). HasOwner o (fields_named (codes ":process") pairs)) owner_is flat.owner in
    let number = p.2.0 in
    let process_one : the_one start (fields_named (codes ":process") pairs) ≡ Ok p.0.1 = ap (the_one start) p.1 in
    let type_one : Ok (outline k.0.1) ≡ result_outline (the_one start (fields_named (codes ":type") pairs)) = sym (ap (λ (found : List (Form × Form)). result_outline (the_one start found)) k.1) in
    let given : entry_of opener closer (members_of pairs None) ≡ client_operation number (place_of p.0.1) start end pairs =
    entry_from opener closer start end pairs None at ∙ bind_ok (the_one start (fields_named (codes ":process") pairs)) p.0.1 (by_process start end pairs) process_one
    ∙ ap (λ (x : Option ℤ). entry_by x (place_of p.0.1) start end pairs) p.2.1 in
    entry_is shape (entry_of opener closer (members_of pairs None)) (client_operation number (place_of p.0.1) start end pairs) given
    (is_operation number (place_of p.0.1) shape.process start end pairs (outline k.0.1) shape.kind shape (record { process_is = p.2.2; short = short }) type_one (k.2 ∙ sym (kind_of-outline k.0.1))
    (complete_mops fields shape.mops.items shape.kind is pairs start flat) refl refl refl)

-- a map whose process is no integer is skipped
flat_skipped : (fields : FlatFields) (shapes : List MopShape) (pairs : List (Form × Form)) (opener closer : Item) → AreFlat fields shapes pairs → fields.owner ≡ Some owners.NoClient → IsEntry (Ok None) (entry_of opener closer (members_of pairs None))
flat_skipped fields shapes pairs opener closer flat owner_is =
    let start = opener.start in
    let end = end_of closer in
    let p = subst (λ (o : Option Owner). HasOwner o (fields_named (codes ":process") pairs)) owner_is flat.owner in
    let one : the_one start (fields_named (codes ":process") pairs) ≡ Ok p.0.1 = ap (the_one start) p.1 in
    entry_skipped (entry_of opener closer (members_of pairs None))
    (entry_from opener closer start end pairs None (record { start_is = refl; end_is = refl }) ∙ bind_ok (the_one start (fields_named (codes ":process") pairs)) p.0.1 (by_process start end pairs) one
    ∙ ap (λ (x : Option ℤ). entry_by x (place_of p.0.1) start end pairs) p.2)

flat_closed :
    (text : List ℕ) (opener : Token) (fields : FlatFields) (shapes : List MopShape) (shape : Option OpShape) (end : ℕ) (read : ReadsFlatMap text opener.end fields shapes end) →
    IsEntry (Ok shape) (entry_of (item_of text opener) (item_of text read.closer) (members_of read.pairs None)) → IsFlatEntry text opener shape end
flat_closed text opener fields shapes shape end read entry =
    record {
      members = members_of read.pairs None;
      inner = read.inner;
      closer = read.closer;
      reads = λ closers room. read.reads (item_of text opener) closers room;
      closes = read.closes;
      end_is = read.end_is;
      further = read.further;
      within = read.within;
      entry = entry;
    }

-- a map that was read gives an operation of this shape
pub flat_operation :
    (text : List ℕ) (opener : Token) (fields : FlatFields) (shape : OpShape) → shape.span.start ≡ opener.start → ReadsFlatMap text opener.end fields shape.mops.items shape.span.end → fields.owner ≡ Some (owners.Client shape.process) →
    IsComplete fields shape.kind → nat_lt MAX_OPERATION_BYTES (shape.span.end - shape.span.start) ≡ false → IsFlatEntry text opener (Some shape) shape.span.end
flat_operation text opener fields shape start_is read owner_is is short =
    let closer = read.closer in
    let token = token_in (going_at text read.inner (close_brace ∷ [])) (going_at text closer.end []) closer (read.closes.gives []) in
    flat_closed text opener fields shape.mops.items (Some shape) shape.span.end read
    (flat_shape fields shape read.pairs (item_of text opener) (item_of text closer) read.flat owner_is is short (record { start_is = sym start_is; end_is = token_end text closer token ∙ sym read.end_is }))

pub flat_no_client :
    (text : List ℕ) (opener : Token) (fields : FlatFields) (shapes : List MopShape) (end : ℕ) → ReadsFlatMap text opener.end fields shapes end → fields.owner ≡ Some owners.NoClient → IsFlatEntry text opener None end
flat_no_client text opener fields shapes end read owner_is =
    flat_closed text opener fields shapes None end read (flat_skipped fields shapes read.pairs (item_of text opener) (item_of text read.closer) read.flat owner_is)

-- an operation that isn't too long is what a map gives
pub operation_given :
    (text : List ℕ) (opener : Token) (fields : FlatFields) (mops : Vec MopShape Global) (start end : ℕ) (kind : OpKind) (process : ℕ) (found : Option FlatEntry) → IfSome found (IsShortOperation start end kind process) → opener.start ≡ start →
    ReadsFlatMap text opener.end fields mops.items end → fields.owner ≡ Some (owners.Client process) → IsComplete fields kind → GivesFlatEntry text opener (Ok found) mops
operation_given text opener fields mops start end kind process None is begins read owner_is complete = tt
operation_given text opener fields mops start end kind process (Some entry) is begins read owner_is complete =
    let shape : OpShape = record { span = record { start = start; end = end }; kind = kind; process = process; mops = mops } in
    subst (λ (e : FlatEntry). GivesFlatEntry text opener (Ok (Some e)) mops) (sym is.0) (flat_operation text opener fields shape (sym begins) read owner_is complete is.1)

-- reading goes on behind it
pub flat_map_read :
    (text : List ℕ) (opener : Token) (shape : Option OpShape) (end : ℕ) (outer : List ℕ) → IsFlatEntry text opener shape end → is_map (item_of text opener) ≡ true → length outer + LEVELS_AHEAD ≤ MAX_OPEN_COLLECTIONS →
    ReadsMap (going_at text opener.end (close_brace ∷ outer)) (item_of text opener) (Ok shape) (going_at text end outer)
flat_map_read text opener shape end outer h is_a_map room =
    let i = item_of text opener in
    let closer = h.closer in
    let within = close_brace ∷ outer in
    let s = going_at text opener.end within in
    let t = going_at text h.inner within in
    let u = going_at text closer.end outer in
    let last = GivesMember-first t u closer (h.closes.gives outer) (ap is_mark_kind h.closes.kind) in
    subst (λ (n : ℕ). ReadsMap s i (Ok shape) (going_at text n outer)) (sym h.end_is)
    (map_closed s t u text (bare_token closer) i h.members (Ok shape) is_a_map (h.reads within (omega arith)) last h.closes.kind refl h.entry)

-- ---- words

-- the value of `:type`
pub kind_read :
    (text : List ℕ) (offset : ℕ) (token : Token) (old : FlatFields) (kind : OpKind) → is_some old.kind ≡ false → GivesLone text offset token → token.end ≤ length text → Some kind ≡ kind_of_form (plain (item_of text token)) →
    ReadsFlatValue text offset (codes ":type") old (Some token.end) (record old { kind = Some kind })
kind_read text offset token old kind none gives fits is = (
  plain (item_of text token),
  lone_form text VALUE_LEVELS offset token fits gives,
  λ key shapes named. adds_kind old shapes key (plain (item_of text token)) (Some kind) named none is refl,
)

-- the value of `:process`
pub owner_read :
    (text : List ℕ) (offset : ℕ) (token : Token) (old : FlatFields) (owner : Owner) → is_some old.owner ≡ false → GivesLone text offset token → token.end ≤ length text → NamesOwner (plain (item_of text token)) owner →
    ReadsFlatValue text offset (codes ":process") old (Some token.end) (record old { owner = Some owner })
owner_read text offset token old owner none gives fits is = (
  plain (item_of text token),
  lone_form text VALUE_LEVELS offset token fits gives,
  λ key shapes named. adds_owner old shapes key (plain (item_of text token)) owner (process_no_type key named) named none is,
)

-- a value that is no transaction
pub value_read :
    (text : List ℕ) (start : ℕ) (key : Token) (name : List ℕ) (old : FlatFields) (o : Option ℕ) (new : FlatFields) → IsLoneAt text start key → is_named name (plain (item_of text key)) ≡ true →
    ReadsFlatValue text key.end name old o new → ReadsPlainField text start old o new
value_read text start key name old None new lone is r = tt
value_read text start key name old (Some end) new lone is r = (key, lone, r.0, r.1, λ shapes. r.2 (plain (item_of text key)) shapes is)

-- a value that says nothing
pub value_passed :
    (text : List ℕ) (start : ℕ) (key : Token) (fields : FlatFields) (o : Option ℕ) → IsLoneAt text start key → (let k = plain (item_of text key) in is_named (codes ":type") k ≡ false) →
    (let k = plain (item_of text key) in is_named (codes ":process") k ≡ false) → (let k = plain (item_of text key) in may_have_mops fields.kind ≡ true → is_named (codes ":value") k ≡ false) →
    PassesAhead text VALUE_LEVELS key.end o → ReadsPlainField text start fields o fields
value_passed text start key fields None lone type process other passes = tt
value_passed text start key fields (Some end) lone type process other passes = (key, lone, passes.0, passes.1, λ shapes. adds_other fields shapes (plain (item_of text key)) passes.0 type process other)

-- a transaction that is the value of the first `:value`
pub value_ahead :
    (text : List ℕ) (start : ℕ) (key opener : Token) (old : FlatFields) → IsLoneAt text start key → is_named (codes ":value") (plain (item_of text key)) ≡ true → may_have_mops old.kind ≡ true → old.has_value ≡ false →
    GivesOpener text key.end open_square close_square opener → opener.end ≤ length text → ReadsFlatField text start old (Some (reaches.Opener opener)) (record old { has_value = true })
value_ahead text start key opener old lone named may first opens fits =
    (key, lone, opens, fits, first, λ shapes more value says. adds_value old shapes more (plain (item_of text key)) value named may first says)
