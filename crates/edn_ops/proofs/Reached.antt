-- A reader on its way through its text: an operation that it reads is in the text.
use Rattle.std.proofs.Common.{◌≡◌, ℕ, ◌≤◌, length, List, [], ◌∷◌, ◌++◌, Bool, true, false, not, Option, Some, None, Ok, IfSome, refl, sym, ◌∙◌, ap, subst, arith, inl}
use Rattle.std.specs.Option.{is_some}
use Rattle.std.proofs.lemmas.List.Elements.{Contains-append_left, Contains-append_right}
use Rattle.hist_types.specs.Entries.{Entry, operation, PlacedOperation}
use Rattle.hist_types.specs.Forms.{Open}
use Rattle.hist_types.specs.Reading.{ReadsFrom, reading_from, nothing_open}
use Rattle.hist_types.specs.Tokens.{Item}
use Rattle.hist_types.specs.declared.types.Fault.{Fault}
use Rattle.reading_laws.proofs.MapAlone.{read_alone_from}
use Rattle.hist_types.proofs.Members.{Contains_from_in}
use Rattle.edn_lex.specs.State.{State, Rest, state_at}
use Rattle.edn_lex.specs.declared.types.Token.{Token}
use Rattle.edn_lex.proofs.Exists.{Rest-exists, Rest-unique}
use Rattle.edn_ops.specs.declared.reader.Place.{Place}
use Rattle.edn_ops.specs.declared.types.OpShape.{OpShape}
use Rattle.edn_ops.specs.Places.{NextOp, IsReached, IsReadUpTo}
use Rattle.edn_ops.specs.Reader.{skips, Goes, AreOpen, EndsWith, Reader, NextOf, HasEnded}
use Rattle.edn_ops.specs.Shapes.{IsShapeOf, IsShapeIn}
use Rattle.edn_ops.proofs.Places.{Goes-append}
use Rattle.edn_ops.proofs.Steps.{Leads-refl}

-- ---- from place to place

reached-at : (text : List ℕ) (offset : ℕ) (s : State) → offset ≤ length text → s ≡ state_at text offset → IsReached s None
reached-at text offset s low start =
    let here : IsReached (state_at text offset) None = record {
      from = offset;
      low = low;
      given = [];
      goes = λ o is. (o, is, Leads-refl (state_at text offset) o);
    } in
    subst (λ (t : State). IsReached t None) (sym start) here

reached-text : (s t : State) (list list' : Option Token) (es : List Entry) → IsReached s list → Goes s list es t list' → t.text ≡ s.text
reached-text s t list list' es r goes =
    let x = r.goes nothing_open (refl, refl) in
    let y = goes x.0 x.1 in
    y.2.text

reached-on : (s t : State) (list list' : Option Token) (es : List Entry) → IsReached s list → Goes s list es t list' → IsReached t list'
reached-on s t list list' es r goes =
    let same = sym (reached-text s t list list' es r goes) in
    let P : List ℕ → Type 0 = λ text. Goes (state_at text r.from) None (r.given ++ es) t list' in
    record {
      from = r.from;
      low = subst (λ (text : List ℕ). r.from ≤ length text) same r.low;
      given = r.given ++ es;
      goes = subst P same (Goes-append (state_at s.text r.from) s t None list list' r.given es r.goes goes);
    }

reached-shape :
    (s t : State) (list list' : Option Token) (before : List Entry) (read : PlacedOperation) (shape : OpShape) →
    IsReached s list → Goes s list (before ++ operation read ∷ []) t list' → IsShapeOf shape read → IsShapeIn s.text shape
reached-shape s t list list' before read shape r goes says =
    let es = before ++ operation read ∷ [] in
    let all = Goes-append (state_at s.text r.from) s t None list list' r.given es r.goes goes in
    let x = all nothing_open (refl, refl) in
    let start = Rest-exists (state_at s.text r.from) in
    let y = x.2.reads start.0 start.1 start.2 in
    let later = reading_from x.0 y.0 start.1 in
    let reads : ReadsFrom r.from s.text ((r.given ++ es) ++ later.entries) later.fault = (start.0, start.1, start.2, y.2) in
    let last = Contains_from_in (operation read) (operation read ∷ []) (inl refl) in
    let among = Contains-append_left (r.given ++ es) later.entries (operation read)
    (Contains-append_right r.given es (operation read) (Contains-append_right before (operation read ∷ []) (operation read) last)) in
    (read, read_alone_from s.text r.from ((r.given ++ es) ++ later.entries) later.fault read r.low reads among, says)

-- ---- readers

pub up_to-at :
    (text : List ℕ) (offset : ℕ) (p : Place) → offset ≤ length text → p.lexer ≡ state_at text offset → p.list ≡ None → IsReadUpTo p false
up_to-at text offset p low start none =
    record {
      reached = λ _. subst (λ (list : Option Token). IsReached p.lexer list) (sym none) (reached-at text offset p.lexer low start);
      closed = λ e. none;
      nothing_left = λ e. absurd (let clash : false ≡ true = e in cc);
    }

-- a call gave an operation, or came to the end
pub next-text : (old new : Place) (found : Option OpShape) → IsReached old.lexer old.list → NextOp old (Ok found) new → new.lexer.text ≡ old.lexer.text
next-text old new (Some shape) r h = reached-text old.lexer new.lexer old.list new.list (skips h.more ++ operation h.read ∷ []) r h.goes
next-text old new None r h = h.text

pub next-shape :
    (old new : Place) (found : Option OpShape) → IsReached old.lexer old.list → NextOp old (Ok found) new → IfSome found (IsShapeIn old.lexer.text)
next-shape old new (Some shape) r h = reached-shape old.lexer new.lexer old.list new.list (skips h.more) h.read shape r h.goes h.shape_of
next-shape old new None r h = tt

pub next-found :
    (old new : Place) (failed : Option Fault) (found : Option OpShape) → NextOp old (Ok found) new → failed ≡ None →
    NextOf (record { state = old.lexer; list = old.list; failed = failed; skipped = old.skipped }) (Ok found)
    (record { state = new.lexer; list = new.list; failed = failed; skipped = new.skipped })
next-found old new failed (Some shape) h going =
    record { going = going; more = h.more; skipped = h.skipped; read = h.read; shape_of = h.shape_of; goes = h.goes }
next-found old new failed None h going =
    record {
      going = going;
      more = h.more;
      skipped = h.skipped;
      closed = h.closed;
      text = h.text;
      ends = h.ends;
      after = h.after;
    }

pub next-up_to :
    (old new : Place) (found : Option OpShape) (ended : Bool) →
    IsReached old.lexer old.list → NextOp old (Ok found) new → is_some found ≡ not ended → IsReadUpTo new ended
next-up_to old new (Some shape) true r h e = absurd (let clash : true ≡ false = e in cc)
next-up_to old new (Some shape) false r h e =
    record {
      reached = λ _. reached-on old.lexer new.lexer old.list new.list (skips h.more ++ operation h.read ∷ []) r h.goes;
      closed = λ at. absurd (let clash : false ≡ true = at in cc);
      nothing_left = λ at. absurd (let clash : false ≡ true = at in cc);
    }
next-up_to old new None true r h e =
    record { reached = λ at. absurd (let clash : true ≡ false = at in cc); closed = λ _. h.closed; nothing_left = λ _. h.after }
next-up_to old new None false r h e = absurd (let clash : false ≡ true = e in cc)

-- a call at the end
nothing-ends : (s : State) (list : Option Token) → list ≡ None → Rest s [] None → EndsWith s list [] None
nothing-ends s list none left =
    λ o is tokens ending rest.
    let same = Rest-unique s tokens [] ending None rest left in
    let bare : o ≡ nothing_open = (let P : Option Token → Type 0 = λ l. AreOpen s l o in subst P none is).0 in
    ap (λ (p : Open). reading_from p tokens ending) bare
    ∙ ap (λ (ts : List Item). reading_from nothing_open ts ending) same.0
    ∙ ap (λ (e : Option Fault). reading_from nothing_open [] e) same.1

pub has_ended : (r : Reader) → r.failed ≡ None → r.list ≡ None → Rest r.state [] None → HasEnded r r
has_ended r going none left =
    record {
      going = going;
      more = 0;
      skipped = omega arith;
      closed = none;
      text = refl;
      ends = nothing-ends r.state r.list none left;
      after = left;
    }
