-- Vectors of three plain tokens, read at once.
use Rattle.std.proofs.Common.{arith, ◌≡◌, ◌≢◌, ℕ, ◌<◌, List, [], ◌∷◌, length, map, true, false, Some, None, Result, Ok, refl, ap, subst, ◌||◌}
use Rattle.std.specs.Prelude.{bytes_eq}
use Rattle.std.specs.List.{AllByRecursion}
use Rattle.hist_types.specs.Bytes.{open_square, open_round, close_square}
use Rattle.hist_types.specs.Entries.{micro_op_of, elements_of}
use Rattle.hist_types.specs.Forms.{Form, plain, collection, forms_of, place_of, is_vector_or_list}
use Rattle.hist_types.specs.Tokens.{Item, ItemKind, Opener, Closer, Drop, Tag}
use Rattle.hist_types.specs.declared.limits.TheConstants.{MAX_OPEN_COLLECTIONS}
use Rattle.hist_types.specs.declared.types.Fault.{Fault}
use Rattle.edn_lex.specs.Ahead.{is_lone, going_at, GivesLone, GivesTriple}
use Rattle.edn_lex.specs.Kinds.{kind_of, item_of}
use Rattle.edn_lex.specs.State.{State, GivesToken}
use Rattle.edn_lex.specs.declared.ahead.Triple.{Triple}
use Rattle.edn_lex.specs.declared.types.Token.{Token}
use Rattle.edn_ops.specs.Collections.{ReadsMember, ReadsMembers, PassesMember, AreFirstForms}
use Rattle.edn_ops.specs.Fields.{mop_result}
use Rattle.edn_ops.specs.Flat.{three_of}
use Rattle.edn_ops.specs.Leads.{is_mark_kind}
use Rattle.edn_ops.specs.Outlines.{outline, outline_of, IsTokenIn, IsOutlineIn}
use Rattle.edn_ops.specs.declared.forms.Member.{Member}
use Rattle.edn_ops.specs.declared.outline.Outline.TheVariants as outlines
use Rattle.edn_ops.specs.declared.types.MopShape.{MopShape}
use Rattle.edn_ops.proofs.ByMember.{closed, nothing_read, one_read, passed}
use Rattle.edn_ops.proofs.Collected.{IsOf, bare_member, passes_plain, token_in}
use Rattle.edn_ops.proofs.LeftOut.{GivesMember-first}
use Rattle.edn_ops.proofs.MicroOps.{micro_op_is}

-- ---- one token

lone_is : (kind : ItemKind) → is_lone kind ≡ true → (is_mark_kind kind ≡ false) × (kind ≢ Opener) × (kind ≢ Closer)
lone_is kind = elim kind as (λ k. is_lone k ≡ true → (is_mark_kind k ≡ false) × (k ≢ Opener) × (k ≢ Closer)) [
  | Opener ↦ λ h. absurd (let x = h in cc)
  | Closer ↦ λ h. absurd (let x = h in cc)
  | Drop ↦ λ h. absurd (let x = h in cc)
  | Tag ↦ λ h. absurd (let x = h in cc)
  | _ ↦ λ h. (refl, (λ e. cc), (λ e. cc))
]

abbrev pub bare_token : Token → Member
bare_token token = record { token = token; tag = None }

lone_of : (token : Token) → is_lone (kind_of token.kind) ≡ true → IsOf (bare_token token) (outlines.Plain token)
lone_of token lone =
    record {
      plain_one = λ text form is behind. ap outline behind;
      collection_one = λ text closer members form is behind. absurd ((lone_is (kind_of token.kind) lone).1 is);
      within = λ text h. h;
    }

lone_passes : (s t : State) (token : Token) → is_lone (kind_of token.kind) ≡ true → GivesToken s token t → PassesMember s (Ok (outlines.Plain token)) t
lone_passes s t token lone g =
    let is = lone_is (kind_of token.kind) lone in
    passes_plain s t (bare_token token) (outlines.Plain token) (GivesMember-first s t token g is.0) is.1 is.2 (lone_of token lone)

-- it is a form by itself
plain_is : (f : Form) (i : Item) → outline f ≡ plain i → f ≡ plain i
plain_is f i h = grind arith

pub lone_reads :
    (text : List ℕ) (offset : ℕ) (token : Token) (closers : List ℕ) → GivesLone text offset token →
    ReadsMember (going_at text offset closers) (plain (item_of text token)) (going_at text token.end closers)
lone_reads text offset token closers g =
    let s = going_at text offset closers in
    let t = going_at text token.end closers in
    let p = passed s t (outlines.Plain token) (lone_passes s t token g.lone (g.gives closers)) in
    subst (λ (f : Form). ReadsMember s f t) (plain_is p.form (item_of text token) p.has.outline_is) p.one

pub lone_in : (text : List ℕ) (offset : ℕ) (token : Token) → GivesLone text offset token → IsTokenIn text token
lone_in text offset token g = token_in (going_at text offset []) (going_at text token.end []) token (g.gives [])

-- ---- a vector of three of them

-- the three forms, and the vector
abbrev pub three_forms : List ℕ → Triple → List Form
three_forms text triple = plain (item_of text triple.first) ∷ plain (item_of text triple.second) ∷ plain (item_of text triple.third) ∷ []

abbrev pub triple_form : List ℕ → Triple → Form
triple_form text triple = collection (item_of text triple.opener) (item_of text triple.closer) (forms_of (three_forms text triple))

pub square_is : (item : Item) → item.bytes ≡ open_square ∷ [] → is_vector_or_list item ≡ true
square_is item e = ap (λ (bs : List ℕ). bytes_eq bs (open_square ∷ []) || bytes_eq bs (open_round ∷ [])) e

-- a collection whose members were read, and which waits for this closer
pub collection_reads :
    (text : List ℕ) (offset inner byte : ℕ) (opener closer : Token) (members : List Form) (closers : List ℕ) → kind_of opener.kind ≡ Opener →
    GivesToken (going_at text offset closers) opener (going_at text opener.end (byte ∷ closers)) → ReadsMembers (going_at text opener.end (byte ∷ closers)) (item_of text opener) members (going_at text inner (byte ∷ closers)) →
    kind_of closer.kind ≡ Closer → GivesToken (going_at text inner (byte ∷ closers)) closer (going_at text closer.end closers) →
    ReadsMember (going_at text offset closers) (collection (item_of text opener) (item_of text closer) (forms_of members)) (going_at text closer.end closers)
collection_reads text offset inner byte opener closer members closers is_opener opens read is_closer closes =
    let s = going_at text offset closers in
    let t = going_at text opener.end (byte ∷ closers) in
    let u = going_at text inner (byte ∷ closers) in
    let v = going_at text closer.end closers in
    let first = GivesMember-first s t opener opens (ap is_mark_kind is_opener) in
    let last = GivesMember-first u v closer closes (ap is_mark_kind is_closer) in
    bare_member s t v (bare_token opener) (item_of text closer) members first refl is_opener (closed t u v (bare_token closer) (item_of text opener) members read last is_closer)

pub triple_reads :
    (text : List ℕ) (offset : ℕ) (triple : Triple) (closers : List ℕ) → length closers < MAX_OPEN_COLLECTIONS → GivesTriple text offset triple →
    ReadsMember (going_at text offset closers) (triple_form text triple) (going_at text triple.closer.end closers)
triple_reads text offset triple closers room h =
    let within = close_square ∷ closers in
    let s1 = going_at text triple.opener.end within in
    let s2 = going_at text triple.first.end within in
    let s3 = going_at text triple.second.end within in
    let s4 = going_at text triple.third.end within in
    let i = item_of text triple.opener in
    let a = plain (item_of text triple.first) in
    let b = plain (item_of text triple.second) in
    let c = plain (item_of text triple.third) in
    let one = one_read s1 s1 s2 i [] a (nothing_read s1 i) (lone_reads text triple.opener.end triple.first within h.first) in
    let two = one_read s1 s2 s3 i (a ∷ []) b one (lone_reads text triple.first.end triple.second within h.second) in
    let three = one_read s1 s3 s4 i (a ∷ b ∷ []) c two (lone_reads text triple.second.end triple.third within h.third) in
    collection_reads text offset triple.third.end close_square triple.opener triple.closer (a ∷ b ∷ c ∷ []) closers h.opener.kind (h.opener.gives closers room) three h.closer.kind (h.closer.gives closers)

-- the micro-operation that it is
pub triple_mop :
    (text : List ℕ) (offset : ℕ) (triple : Triple) (mop : Result MopShape Fault) → GivesTriple text offset triple →
    mop ≡ mop_result (micro_op_of triple.opener.start (Some (map (outline_of text) (three_of triple)))) →
    mop ≡ mop_result (micro_op_of (place_of (triple_form text triple)) (elements_of (triple_form text triple)))
triple_mop text offset triple mop h is =
    let within : AllByRecursion (IsOutlineIn text) (three_of triple) =
    (lone_in text triple.opener.end triple.first h.first, (lone_in text triple.first.end triple.second h.second, (lone_in text triple.second.end triple.third h.third, tt))) in
    let forms : AreFirstForms text (three_of triple) (three_forms text triple) = record { outlines_are = refl; within = within } in
    micro_op_is text mop triple.opener.start (three_of triple) (item_of text triple.opener) (item_of text triple.closer) (three_forms text triple) is forms (square_is (item_of text triple.opener) h.opener.bytes) refl

-- its tokens are in the text
pub triple_in : (text : List ℕ) (offset : ℕ) (triple : Triple) → GivesTriple text offset triple → IsTokenIn text triple.first × IsTokenIn text triple.second × IsTokenIn text triple.third
triple_in text offset triple h =
    (lone_in text triple.opener.end triple.first h.first, lone_in text triple.first.end triple.second h.second, lone_in text triple.second.end triple.third h.third)
