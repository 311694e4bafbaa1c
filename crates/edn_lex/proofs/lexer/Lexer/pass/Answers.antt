use Rattle.std.proofs.Common.{rules, ◌<◌, ◌-◌, ◌+◌, length, drop, take, List, ℕ, sym, ap, subst, refl, arith, length-drop, Ok}
use Rattle.std.proofs.lemmas.List.{take_rest}
use Rattle.hist_types.specs.Tokens.{BeginsWithFault}
use Rattle.edn_lex.specs.State.{State, left, Passes}
use Rattle.edn_lex.specs.Pieces.{kind_of_piece}
use Rattle.edn_lex.specs.Collections.{closers_of}
use Rattle.edn_lex.specs.declared.lexer.Lexer.TheInside.{Inside}
use Rattle.edn_lex.proofs.Passing.{fault-utf8, fault-nesting, passes}
use Rattle.edn_lex.proofs.lexer.Lexer.pass.Goals as goal

-- what the fields are seen as
abbrev seen : Inside → State
seen a = record { text = a.text.now; offset = a.offset; closers = closers_of a.collections.items; ended = a.ended }

-- the slice of what is left
abbrev rest_of : State → List ℕ
rest_of s = take (length s.text - s.offset) (drop s.offset s.text)

rest_of-some : (s : State) → s.offset < length s.text → 0 < length (rest_of s)
rest_of-some s h = let e = ap length (take_rest s.text s.offset) in omega (arith, length-drop s.offset s.text)

pub returns-in-Some-utf8_end : goal.returns-in-Some-utf8_end
returns-in-Some-utf8_end c =
    let s = seen c.self.inside in
    let P : State → Type 0 = λ x. BeginsWithFault (left x) x.offset x.closers c.fault_at-in-Some-utf8_end.result in
    let below : s.offset < length s.text = subst (λ (x : State). x.offset < length x.text) (sym c.self.view_is) c.requires.left in (
      subst P c.self.view_is
          (fault-utf8 s (rest_of s) (kind_of_piece c.in-Some.piece.kind) c.in-Some.piece.len (take_rest s.text s.offset) (rest_of-some s below)
          c.in-Some.ensures.fits c.in-Some.ensures.front c.in-Some-utf8_end.valid _ c.in-Some-utf8_end.ensures.0 c.in-Some-utf8_end.ensures.1
          c.fault_at-in-Some-utf8_end.ensures),
      refl,
    )

pub returns-in-Some-nest : goal.returns-in-Some-nest
returns-in-Some-nest c =
    let s = seen c.self.inside in
    let P : State → Type 0 = λ x. BeginsWithFault (left x) x.offset x.closers c.fault_at-in-Some-nest.result in
    let below : s.offset < length s.text = subst (λ (x : State). x.offset < length x.text) (sym c.self.view_is) c.requires.left in (
      subst P c.self.view_is
          (fault-nesting s (rest_of s) (kind_of_piece c.in-Some.piece.kind) c.in-Some.piece.len (take_rest s.text s.offset) (rest_of-some s below)
          c.in-Some.ensures.fits c.in-Some.ensures.front c.in-Some-nest.refusal _ c.in_default-utf8_end.ensures c.in-Some-nest.ensures.refusal
          c.fault_at-in-Some-nest.ensures),
      ap (λ (x : State). x.text) c.self.view_is,
    )

pub returns : goal.returns
returns c =
    let s = seen c.self.inside in
    let t : State = record s { offset = s.offset + c.in-Some.piece.len; closers = closers_of c.nest.new.within.items } in
    let P : State → Type 0 = λ x. Passes x (Ok c.token.result) t in
    let below : s.offset < length s.text = subst (λ (x : State). x.offset < length x.text) (sym c.self.view_is) c.requires.left in
    subst P c.self.view_is
    (passes s (rest_of s) (kind_of_piece c.in-Some.piece.kind) c.in-Some.piece.len (take_rest s.text s.offset) (rest_of-some s below)
    c.in-Some.ensures.fits c.in-Some.ensures.front (closers_of c.nest.new.within.items) c.token.result (omega arith) c.in-Some.ensures.some
    c.in_default-utf8_end.ensures c.in_default-nest.ensures.refusal (c.in_default-nest.ensures.after (search rules)) c.token.ensures)
