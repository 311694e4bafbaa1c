-- Operations that a reader reads at once.
use Rattle.std.proofs.Common.{◌≡◌, ℕ, ◌+◌, ◌≤◌, ◌<◌, List, [], ◌∷◌, ◌++◌, length, Bool, true, false, Option, Some, None, Result, Ok, Err, not, ◌||◌, inl, inr, refl, sym, ◌∙◌, ap, arith, subst}
use Rattle.std.specs.Prelude.{bytes_eq}
use Rattle.std.specs.Option.{is_some}
use Rattle.hist_types.specs.Bytes.{open_brace, close_brace}
use Rattle.hist_types.specs.Entries.{operation}
use Rattle.hist_types.specs.Forms.{is_map, is_drop, is_drop_kind}
use Rattle.hist_types.specs.Tokens.{Item, ItemKind, Opener, Closer, nesting_refusal, open_after}
use Rattle.hist_types.specs.declared.limits.TheConstants.{MAX_OPEN_COLLECTIONS}
use Rattle.hist_types.specs.declared.types.Fault.{Fault}
use Rattle.edn_lex.specs.Ahead.{going_at, LooksAhead}
use Rattle.edn_lex.specs.Kinds.{kind_of, item_of}
use Rattle.edn_lex.specs.State.{State, GivesToken}
use Rattle.edn_lex.specs.declared.ahead.TheConstants.{LEVELS_AHEAD}
use Rattle.edn_lex.specs.declared.types.Token.{Token}
use Rattle.edn_ops.specs.Flat.{IsFlatEntry, OpensOperation}
use Rattle.edn_ops.specs.Leads.{is_mark_kind, GivesMember}
use Rattle.edn_ops.specs.Places.{ReadsOp, FlatOp, IsReached, IsReadUpTo}
use Rattle.edn_ops.specs.Reader.{Goes, skips, Reader, FlatNext}
use Rattle.edn_ops.specs.declared.forms.Member.{Member}
use Rattle.edn_ops.specs.declared.reader.Place.{Place}
use Rattle.edn_ops.specs.declared.types.OpShape.{OpShape}
use Rattle.edn_ops.proofs.FlatMaps.{flat_map_read}
use Rattle.edn_ops.proofs.LeftOut.{Behind-start, GivesMember-first, GivesMember-behind}
use Rattle.edn_ops.proofs.Levels.{GivesMember-end}
use Rattle.edn_ops.proofs.Places.{Passed, Passed-start, Passed-skipped, Passed-op, op_on, skip_on}
use Rattle.edn_ops.proofs.Reached.{next-shape, next-text, next-up_to}

brace_is : (item : Item) → item.bytes ≡ open_brace ∷ [] → is_map item ≡ true
brace_is item e = ap (λ (bs : List ℕ). bytes_eq bs (open_brace ∷ [])) e

opener_no_closer : Opener ≡ Closer → ⊥
opener_no_closer e = cc

-- a map's opener, perhaps after a tag, as a member's token
record OpensMember (text : List ℕ) (offset : ℕ) (opener : Token) (closers : List ℕ) : Type 0 where
  tag : Option ℕ
  kind : kind_of opener.kind ≡ Opener
  map : is_map (item_of text opener) ≡ true
  given : GivesMember (going_at text offset closers) (record { token = opener; tag = tag }) (going_at text opener.end (close_brace ∷ closers))

opens_member : (text : List ℕ) (offset : ℕ) (opener : Token) (closers : List ℕ) → length closers < MAX_OPEN_COLLECTIONS → OpensOperation text offset opener → OpensMember text offset opener closers
opens_member text offset opener closers room (inl opens) =
    record {
      tag = None;
      kind = opens.kind;
      map = brace_is (item_of text opener) opens.bytes;
      given = GivesMember-first (going_at text offset closers) (going_at text opener.end (close_brace ∷ closers)) opener (opens.gives closers room) (ap is_mark_kind opens.kind);
    }
opens_member text offset opener closers room (inr tagged) =
    let tag = tagged.0 in
    let t = going_at text tag.end closers in
    let item = item_of text tag in
    let opens = tagged.3 in
    let is = ap kind_of tagged.2 in
    let first = subst (λ (cs : List ℕ). GivesToken (going_at text offset closers) tag (going_at text tag.end cs)) (ap (λ (k : ItemKind). open_after k item.bytes closers) is) (tagged.1.gives closers (ap (λ (k : ItemKind). nesting_refusal k item.bytes closers) is)) in
    let no_drop : is_drop item ≡ false = ap is_drop_kind is in
    let behind = Behind-start t item 0 (Some tag.start) (ap (λ (b : Bool). b || false) no_drop, refl) (omega arith) in
    record {
      tag = Some tag.start;
      kind = opens.kind;
      map = brace_is (item_of text opener) opens.bytes;
      given =
          GivesMember-behind (going_at text offset closers) t tag first (ap is_mark_kind is) t (going_at text opener.end (close_brace ∷ closers)) opener (Some tag.start) behind
          (opens.gives closers room) (ap is_mark_kind opens.kind) (λ e. opener_no_closer (sym opens.kind ∙ e));
    }

-- what has been read of a place's text, up to an offset
pub record PassedTo (old : Place) (text : List ℕ) (offset skipped : ℕ) : Type 0 where
  pub within : offset ≤ length text
  pub passed : Passed old.lexer old.list old.skipped (going_at text offset old.lexer.closers) old.list skipped

pub passed_none : (old : Place) (text : List ℕ) (offset : ℕ) → text ≡ old.lexer.text → LooksAhead old.lexer offset → old.skipped ≤ old.lexer.offset → PassedTo old text offset old.skipped
passed_none old text offset same looks few =
    let closers = old.lexer.closers in
    let first : old.lexer ≡ going_at text offset closers = looks.going ∙ ap (λ (xs : List ℕ). going_at xs offset closers) (sym same) in
    record {
      within = subst (λ (xs : List ℕ). offset ≤ length xs) (sym same) looks.within;
      passed = subst (λ (s : State). Passed old.lexer old.list old.skipped s old.list old.skipped) first (Passed-start old.lexer old.list old.skipped few);
    }

pub passed_more :
    (old : Place) (text : List ℕ) (start offset skipped : ℕ) (opener : Token) (end : ℕ) → LooksAhead old.lexer start → OpensOperation text offset opener → IsFlatEntry text opener None end → PassedTo old text offset skipped →
    PassedTo old text end (skipped + 1)
passed_more old text start offset skipped opener end looks opens flat front =
    let closers = old.lexer.closers in
    let room = looks.room in
    let few : length closers + LEVELS_AHEAD ≤ MAX_OPEN_COLLECTIONS = room in
    let h = opens_member text offset opener closers (omega arith) opens in
    let s = going_at text offset closers in
    let t = going_at text opener.end (close_brace ∷ closers) in
    let u = going_at text end closers in
    let m : Member = record { token = opener; tag = h.tag } in
    let read = flat_map_read text opener None end closers flat h.map few in
    let low = GivesMember-end s t m h.given in
    let high = flat.further in
    record {
      within = flat.within;
      passed =
          Passed-skipped old.lexer s u old.list old.list old.list old.skipped skipped front.passed (omega arith) refl
          (skip_on s t u m h.given old.list (item_of text opener) h.kind h.map refl read);
    }

pub passed_op :
    (old : Place) (s : State) (text : List ℕ) (start offset skipped : ℕ) (opener : Token) (shape : OpShape) (end : ℕ) → text ≡ old.lexer.text → LooksAhead old.lexer start → OpensOperation text offset opener →
    IsFlatEntry text opener (Some shape) end → PassedTo old text offset skipped → s ≡ record old.lexer { offset = end } →
    (let new : Place = record { lexer = s; list = old.list; skipped = skipped } in ReadsOp old shape new × (skipped ≤ s.offset))
passed_op old s text start offset skipped opener shape end same looks opens flat front after =
    let closers = old.lexer.closers in
    let room = looks.room in
    let few : length closers + LEVELS_AHEAD ≤ MAX_OPEN_COLLECTIONS = room in
    let h = opens_member text offset opener closers (omega arith) opens in
    let r = going_at text offset closers in
    let t = going_at text opener.end (close_brace ∷ closers) in
    let u = going_at text end closers in
    let m : Member = record { token = opener; tag = h.tag } in
    let read = flat_map_read text opener (Some shape) end closers flat h.map few in
    let low = GivesMember-end r t m h.given in
    let high = flat.further in
    let p = front.passed in
    let less = p.few in
    let x = op_on r t u m h.given old.list (item_of text opener) shape h.kind h.map refl read in
    let going : old.lexer.ended ≡ false = ap (λ (x : State). x.ended) looks.going in
    let left : s ≡ u =
    after ∙ ap (λ (b : Bool). let x : State = record { text = old.lexer.text; offset = end; closers = closers; ended = b } in x) going ∙ ap (λ (xs : List ℕ). going_at xs end closers) (sym same) in
    let at : s.offset ≡ end = ap (λ (x : State). x.offset) left in (
      record {
        more = p.more;
        skipped = p.count;
        read = x.0;
        shape_of = x.1;
        goes = subst (λ (v : State). Goes old.lexer old.list (skips p.more ++ operation x.0 ∷ []) v old.list) (sym left) (Passed-op old.lexer r u old.list old.list old.list old.skipped skipped p (operation x.0) x.2);
      },
      omega arith,
    )

-- ---- readers

-- a reader at this place
abbrev pub reader_of : Place → Option Fault → Reader
reader_of place failed = record { state = place.lexer; list = place.list; failed = failed; skipped = place.skipped }

pub none_failed : (failed : Option Fault) → is_some failed ≡ false → failed ≡ None
none_failed failed h = grind arith

pub flat_up_to :
    (old new : Place) (ended : Bool) (result : Result (Option OpShape) Fault) → FlatOp old result new → ended ≡ false → old.skipped ≤ old.lexer.offset → IsReadUpTo old ended →
    (new.skipped ≤ new.lexer.offset) × IsReadUpTo new ended
flat_up_to old new ended (Ok None) h going few up = subst (λ (p : Place). (p.skipped ≤ p.lexer.offset) × IsReadUpTo p ended) (sym h) (few, up)
flat_up_to old new ended (Ok (Some shape)) h going few up = (h.1, next-up_to old new (Some shape) ended (up.reached going) h.0 (sym (ap not going)))
flat_up_to old new ended (Err fault) h going few up = subst (λ (p : Place). (p.skipped ≤ p.lexer.offset) × IsReadUpTo p ended) (sym h.1) (few, up)

pub flat_next :
    (old new : Place) (failed : Option Fault) (result : Result (Option OpShape) Fault) → FlatOp old result new → failed ≡ None → IsReached old.lexer old.list →
    FlatNext (reader_of old failed) result (reader_of new failed)
flat_next old new failed (Ok None) h none reached = ap (λ (p : Place). reader_of p failed) h
flat_next old new failed (Ok (Some shape)) h none reached = (
  none,
  record { going = none; more = h.0.more; skipped = h.0.skipped; read = h.0.read; shape_of = h.0.shape_of; goes = h.0.goes },
  next-shape old new (Some shape) reached h.0,
  next-text old new (Some shape) reached h.0,
)
flat_next old new failed (Err fault) h none reached = (none, h.0, ap (λ (p : Place). reader_of p failed) h.1)
