-- Forms that are read in one pass over their bytes.
use Rattle.std.proofs.Common.{◌≡◌, ℕ, ◌+◌, ◌<◌, ◌≤◌, List, [], ◌∷◌, ◌++◌, length, cond, nat_le, true, false, Some, None, refl, ◌∙◌, ap, arith, subst, lit<}
use Rattle.std.proofs.lemmas.Bool.Decides.{nat_tests}
use Rattle.std.proofs.lemmas.Slice.Eq.{bytes_eq-Decides}
use Rattle.hist_types.specs.Forms.{Form, plain, collection, forms_of}
use Rattle.hist_types.specs.Tokens.{ItemKind, Opener, Closer, closer_of, nesting_refusal, open_after}
use Rattle.hist_types.specs.declared.limits.TheConstants.{MAX_OPEN_COLLECTIONS}
use Rattle.hist_types.specs.declared.types.Refusal.TheVariants.{TooDeep, StrayCloser}
use Rattle.edn_lex.specs.Ahead.{is_lone, going_at, GivesAhead, GivesLone, IsGap, IsLoneAt}
use Rattle.edn_lex.specs.Kinds.{kind_of, item_of}
use Rattle.edn_lex.specs.State.{GivesToken}
use Rattle.edn_lex.specs.declared.types.Token.{Token}
use Rattle.edn_lex.specs.declared.types.TokenKind.{TokenKind}
use Rattle.edn_lex.specs.declared.types.TokenKind.TheVariants as kinds
use Rattle.edn_lex.proofs.LookAhead.{lone_ahead}
use Rattle.edn_ops.specs.Flat.{ReadsAhead, ReadsUpTo, PassesAhead}
use Rattle.edn_ops.proofs.ByMember.{nothing_read, one_read}
use Rattle.edn_ops.proofs.Triples.{collection_reads, lone_reads}

-- fewer collections may be opened
pub deeper : (text : List ℕ) (few deep offset : ℕ) (form : Form) (end : ℕ) → few ≤ deep → ReadsAhead text few offset form end → ReadsAhead text deep offset form end
deeper text few deep offset form end low h = record { further = h.further; within = h.within; reads = λ closers room. h.reads closers (omega arith) }

-- a form by itself
pub lone_form : (text : List ℕ) (deep offset : ℕ) (token : Token) → token.end ≤ length text → GivesLone text offset token → ReadsAhead text deep offset (plain (item_of text token)) token.end
lone_form text deep offset token fits g = record { further = (lone_reads text offset token [] g).forward; within = fits; reads = λ closers room. lone_reads text offset token closers g }

pub lone_passed : (text : List ℕ) (deep offset start : ℕ) (token : Token) → IsGap text offset start → IsLoneAt text start token → token.end ≤ length text → PassesAhead text deep offset (Some token.end)
lone_passed text deep offset start token gap lone fits = (plain (item_of text token), lone_form text deep offset token fits (lone offset gap))

-- ---- members

pub nothing_up_to : (text : List ℕ) (deep offset : ℕ) → offset ≤ length text → ReadsUpTo text deep offset [] offset
nothing_up_to text deep offset within = record { forward = omega arith; within = within; reads = λ opener closers room. nothing_read (going_at text offset closers) opener }

pub one_up_to :
    (text : List ℕ) (deep offset : ℕ) (members : List Form) (at : ℕ) (form : Form) (end : ℕ) → ReadsUpTo text deep offset members at → ReadsAhead text deep at form end → ReadsUpTo text deep offset (members ++ form ∷ []) end
one_up_to text deep offset members at form end front one =
    let low = front.forward in
    let high = one.further in
    record {
      forward = omega arith;
      within = one.within;
      reads = λ opener closers room.
          one_read (going_at text offset closers) (going_at text at closers) (going_at text end closers) opener members form (front.reads opener closers room) (one.reads closers room);
    }

-- a collection of them, which waits for this closer
pub collection_ahead :
    (text : List ℕ) (deep offset at byte : ℕ) (opener closer : Token) (members : List Form) → kind_of opener.kind ≡ Opener →
    ((closers : List ℕ) → length closers < MAX_OPEN_COLLECTIONS → GivesToken (going_at text offset closers) opener (going_at text opener.end (byte ∷ closers))) → ReadsUpTo text deep opener.end members at →
    kind_of closer.kind ≡ Closer → ((closers : List ℕ) → GivesToken (going_at text at (byte ∷ closers)) closer (going_at text closer.end closers)) →
    ReadsAhead text (deep + 1) offset (collection (item_of text opener) (item_of text closer) (forms_of members)) closer.end
collection_ahead text deep offset at byte opener closer members is_opener opens inside is_closer closes =
    let first = opens [] (lit< tt) in
    let last = closes [] in
    let a = first.low in
    let b = first.some in
    let c = inside.forward in
    let d = last.low in
    let e = last.some in
    record {
      further = omega arith;
      within = last.fits;
      reads = λ closers room.
          collection_reads text offset at byte opener closer members closers is_opener (opens closers (omega arith)) (inside.reads (item_of text opener) (byte ∷ closers) (omega arith)) is_closer (closes closers);
    }

-- ---- what is passed over

not_deep : (n : ℕ) → n < MAX_OPEN_COLLECTIONS → nat_le MAX_OPEN_COLLECTIONS n ≡ false
not_deep n h = grind (arith, nat_tests)

pub passes_opener :
    (text : List ℕ) (offset : ℕ) (opener : Token) → kind_of opener.kind ≡ Opener → GivesAhead text offset opener →
    (closers : List ℕ) → length closers < MAX_OPEN_COLLECTIONS → GivesToken (going_at text offset closers) opener (going_at text opener.end (closer_of (item_of text opener).bytes ∷ closers))
passes_opener text offset opener is g closers room =
    let bytes = (item_of text opener).bytes in
    let fine : nesting_refusal (kind_of opener.kind) bytes closers ≡ None = ap (λ (k : ItemKind). nesting_refusal k bytes closers) is ∙ ap (λ b. cond b (Some TooDeep) None) (not_deep (length closers) room) in
    subst (λ (cs : List ℕ). GivesToken (going_at text offset closers) opener (going_at text opener.end cs)) (ap (λ (k : ItemKind). open_after k bytes closers) is) (g.gives closers fine)

pub passes_closer :
    (text : List ℕ) (at byte : ℕ) (closer : Token) → kind_of closer.kind ≡ Closer → (item_of text closer).bytes ≡ byte ∷ [] → GivesAhead text at closer →
    (closers : List ℕ) → GivesToken (going_at text at (byte ∷ closers)) closer (going_at text closer.end closers)
passes_closer text at byte closer is bytes_are g closers =
    let bytes = (item_of text closer).bytes in
    let fine : nesting_refusal (kind_of closer.kind) bytes (byte ∷ closers) ≡ None =
    ap (λ (k : ItemKind). nesting_refusal k bytes (byte ∷ closers)) is ∙ ap (λ b. cond b None (Some StrayCloser)) ((bytes_eq-Decides bytes (byte ∷ [])).1 bytes_are) in
    subst (λ (cs : List ℕ). GivesToken (going_at text at (byte ∷ closers)) closer (going_at text closer.end cs)) (ap (λ (k : ItemKind). open_after k bytes (byte ∷ closers)) is) (g.gives (byte ∷ closers) fine)

pub passes_lone : (text : List ℕ) (deep offset : ℕ) (token : Token) → is_lone (kind_of token.kind) ≡ true → GivesAhead text offset token → PassesAhead text deep offset (Some token.end)
passes_lone text deep offset token lone g = (plain (item_of text token), lone_form text deep offset token g.fits (lone_ahead text offset token lone g))

pub lone_kind : (k : TokenKind) → (k ≡ kinds.Open → ⊥) → (k ≡ kinds.Close → ⊥) → (k ≡ kinds.Drop → ⊥) → (k ≡ kinds.Tag → ⊥) → is_lone (kind_of k) ≡ true
lone_kind k = elim k as (λ k. (k ≡ kinds.Open → ⊥) → (k ≡ kinds.Close → ⊥) → (k ≡ kinds.Drop → ⊥) → (k ≡ kinds.Tag → ⊥) → is_lone (kind_of k) ≡ true) [
  | kinds.Open ↦ λ a b c d. absurd (a refl)
  | kinds.Close ↦ λ a b c d. absurd (b refl)
  | kinds.Drop ↦ λ a b c d. absurd (c refl)
  | kinds.Tag ↦ λ a b c d. absurd (d refl)
  | _ ↦ λ a b c d. refl
]
