use Rattle.std.proofs.Common.{◌≡◌, ℕ, List, [], length, true, false, not, Option, Some, None, sym, ◌∙◌, ap, subst, arith, inl, inr}
use Rattle.std.proofs.lemmas.Result.{err_from_is_err_and}
use Rattle.hist_types.specs.Forms.{Open, is_map, is_vector_or_list}
use Rattle.hist_types.specs.Tokens.{Item, byte_fault}
use Rattle.hist_types.specs.declared.types.Refusal.TheVariants.{Unclosed}
use Rattle.edn_lex.specs.declared.types.Token.{Token}
use Rattle.edn_lex.specs.declared.types.TokenKind.TheVariants as kinds
use Rattle.edn_lex.specs.Kinds.{kind_of, item_of}
use Rattle.edn_ops.specs.Leads.{ReadsAs}
use Rattle.edn_ops.specs.Reader.{AreOpen, OpenWith}
use Rattle.edn_ops.proofs.Levels.{GivesMember-shorter, GivesMember-end}
use Rattle.edn_ops.proofs.Places.{Passed, Passed-list, Passed-skipped, Passed-op, Passed-ends, closes_on, opens_on, op_on, skip_on, stops_with, refuses_on, member_stops, map_stops, end_reads, end_unclosed}
use Rattle.edn_ops.proofs.reader.Place.next_op.Goals as goal
use Rattle.edn_ops.proofs.reader.Place.next_op.Goals.{else-is_none-via-then-is_none+else-opens_list, else-is_none-via-else-is_none}

pub returns-in_err-member-clause-next : goal.returns-in_err-member-clause-next
returns-in_err-member-clause-next c =
    let p = err_from_is_err_and c.from_residual.result c.from_residual.ensures.1 in
    let i = c.loop-member.invariant in
    let fault = c.in_err-member.field-0.0 in
    rw (p.1, p.2) (λ no_memory. record {
      more = i.more;
      ends = Passed-ends _ _ _ _ _ _ i (Some fault) (stops_with c.loop-member.self.lexer c.loop-member.self.list fault (λ o is. member_stops c.loop-member.self.lexer c.loop-member.self.list o fault is c.in_err-member.ensures));
    })

pub loop-member-smaller-then-closes : goal.loop-member-smaller-then-closes
loop-member-smaller-then-closes c =
    let h = rw c.in-Some.is at c.in_ok-member.ensures in
    let short = GivesMember-shorter c.loop-member.self.lexer c.next_member.new.lexer c.in-Some.member h in
    let after : length c.next_member.new.lexer.text ≡ length c.loop-member.self.lexer.text = ap length short.2 in
    omega arith

pub loop-member-preserved-then-closes : goal.loop-member-preserved-then-closes
loop-member-preserved-then-closes c =
    let h = rw c.in-Some.is at c.in_ok-member.ensures in
    let short = GivesMember-shorter c.loop-member.self.lexer c.next_member.new.lexer c.in-Some.member h in
    Passed-list _ _ _ _ _ _ _ _ c.loop-member.invariant (omega arith) short.2
    (closes_on c.loop-member.self.lexer c.next_member.new.lexer c.in-Some.member h c.loop-member.self.list (ap kind_of (c.closes.ensures.yes c.if-closes.true)))

pub loop-member-smaller-then-opens_list : goal.loop-member-smaller-then-opens_list
loop-member-smaller-then-opens_list c =
    let h = rw c.in-Some.is at c.in_ok-member.ensures in
    let short = GivesMember-shorter c.loop-member.self.lexer c.next_member.new.lexer c.in-Some.member h in
    let after : length c.next_member.new.lexer.text ≡ length c.loop-member.self.lexer.text = ap length short.2 in
    omega arith

pub loop-member-preserved-then-opens_list : goal.loop-member-preserved-then-opens_list
loop-member-preserved-then-opens_list c =
    let h = rw c.in-Some.is at c.in_ok-member.ensures in
    let short = GivesMember-shorter c.loop-member.self.lexer c.next_member.new.lexer c.in-Some.member h in
    let text : c.text-text.result.now ≡ c.loop-member.self.lexer.text = c.text-text.ensures ∙ short.2 in
    let same : item_of c.text-text.result.now c.in-Some.member.token ≡ item_of c.loop-member.self.lexer.text c.in-Some.member.token = ap (λ (xs : List ℕ). item_of xs c.in-Some.member.token) text in
    Passed-list _ _ _ _ _ _ _ _ c.loop-member.invariant (omega arith) short.2
    (opens_on c.loop-member.self.lexer c.next_member.new.lexer c.in-Some.member h c.loop-member.self.list (c.is_none.ensures ∙ ap not c.if-is_none.true)
    (ap kind_of (c.opens_list.ensures.yes c.if-opens_list.true))
    (subst (λ (i : Item). is_vector_or_list i ≡ true) same (c.opens_list.ensures.list c.if-opens_list.true)))

pub returns-then-not-opens_map-clause-next : goal.returns-then-not-opens_map-clause-next
returns-then-not-opens_map-clause-next c =
    let h = rw c.in-Some.is at c.in_ok-member.ensures in
    let short = GivesMember-shorter c.loop-member.self.lexer c.next_member.new.lexer c.in-Some.member h in
    let text : c.text-text.result.now ≡ c.loop-member.self.lexer.text = c.text-text.ensures ∙ short.2 in
    let same : item_of c.text-text.result.now c.in-Some.member.token ≡ item_of c.loop-member.self.lexer.text c.in-Some.member.token = ap (λ (xs : List ℕ). item_of xs c.in-Some.member.token) text in
    let i = c.loop-member.invariant in
    let closer = c.closes.ensures.no c.if-closes.false in
    let map : c.in-Some.member.token.kind ≡ kinds.Open → is_map (item_of c.loop-member.self.lexer.text c.in-Some.member.token) ≡ false =
    λ at. subst (λ (i : Item). is_map i ≡ false) same (c.opens_map.ensures.no c.if-not-opens_map.true at) in
    let reads = refuses_on c.loop-member.self.lexer c.next_member.new.lexer c.in-Some.member h c.loop-member.self.list closer map
    (elim c.else-is_none.branch [
      | else-is_none-via-then-is_none+else-opens_list w ↦ inr (λ at. subst (λ (i : Item). is_vector_or_list i ≡ false) same (w.opens_list.ensures.no w.if-opens_list.false at))
      | else-is_none-via-else-is_none w ↦ inl (c.is_none.ensures ∙ ap not w.if-is_none.false)
    ]) in
    λ no_memory. record { more = i.more; ends = rw c.fault_at.ensures (Passed-ends _ _ _ _ _ _ i _ reads) }

pub returns-in_err-shape-clause-next : goal.returns-in_err-shape-clause-next
returns-in_err-shape-clause-next c =
    let h = rw c.in-Some.is at c.in_ok-member.ensures in
    let short = GivesMember-shorter c.loop-member.self.lexer c.next_member.new.lexer c.in-Some.member h in
    let text : c.text-text.result.now ≡ c.loop-member.self.lexer.text = c.text-text.ensures ∙ short.2 in
    let same : item_of c.text-text.result.now c.in-Some.member.token ≡ item_of c.loop-member.self.lexer.text c.in-Some.member.token = ap (λ (xs : List ℕ). item_of xs c.in-Some.member.token) text in
    let kind = ap kind_of (c.opens_map.ensures.yes c.if-not-opens_map.false) in
    let map = subst (λ (i : Item). is_map i ≡ true) same (c.opens_map.ensures.map c.if-not-opens_map.false) in
    let i = c.loop-member.invariant in
    let p = err_from_is_err_and c.from_residual-in_err-shape.result c.from_residual-in_err-shape.ensures.1 in
    let fault = c.in_err-shape.field-0.0 in
    rw (p.1, p.2) (λ no_memory. record {
      more = i.more;
      ends = Passed-ends _ _ _ _ _ _ i (Some fault) (stops_with c.loop-member.self.lexer c.loop-member.self.list fault
          (λ o is. map_stops c.loop-member.self.lexer c.next_member.new.lexer c.in-Some.member h c.loop-member.self.list o _ fault is kind map same (c.in_err-shape.ensures no_memory)));
    })

pub returns-in-Some-2-clause-next : goal.returns-in-Some-2-clause-next
returns-in-Some-2-clause-next c =
    let h = rw c.in-Some.is at c.in_ok-member.ensures in
    let short = GivesMember-shorter c.loop-member.self.lexer c.next_member.new.lexer c.in-Some.member h in
    let text : c.text-text.result.now ≡ c.loop-member.self.lexer.text = c.text-text.ensures ∙ short.2 in
    let same : item_of c.text-text.result.now c.in-Some.member.token ≡ item_of c.loop-member.self.lexer.text c.in-Some.member.token = ap (λ (xs : List ℕ). item_of xs c.in-Some.member.token) text in
    let kind = ap kind_of (c.opens_map.ensures.yes c.if-not-opens_map.false) in
    let map = subst (λ (i : Item). is_map i ≡ true) same (c.opens_map.ensures.map c.if-not-opens_map.false) in
    let i = c.loop-member.invariant in
    let r = rw c.in-Some-2.is at c.in_ok-shape.ensures in
    let x = op_on c.loop-member.self.lexer c.next_member.new.lexer c.read_map.new.lexer c.in-Some.member h c.loop-member.self.list _ c.in-Some-2.shape kind map same r in
    record { more = i.more; skipped = i.count; read = x.0; shape_of = x.1; goes = Passed-op _ _ _ _ _ _ _ _ i _ x.2 }

pub returns-in-Some-2-clause-few : goal.returns-in-Some-2-clause-few
returns-in-Some-2-clause-few c =
    let h = rw c.in-Some.is at c.in_ok-member.ensures in
    let short = GivesMember-shorter c.loop-member.self.lexer c.next_member.new.lexer c.in-Some.member h in
    let few = c.loop-member.invariant.few in
    let forward = c.in_ok-shape.ensures.5 in
    omega arith

pub with_one_more-self-requires : goal.with_one_more-self-requires
with_one_more-self-requires c =
    let h = rw c.in-Some.is at c.in_ok-member.ensures in
    let end = GivesMember-end c.loop-member.self.lexer c.next_member.new.lexer c.in-Some.member h in
    let few = c.loop-member.invariant.few in
    omega arith

pub loop-member-smaller : goal.loop-member-smaller
loop-member-smaller c =
    let h = rw c.in-Some.is at c.in_ok-member.ensures in
    let short = GivesMember-shorter c.loop-member.self.lexer c.next_member.new.lexer c.in-Some.member h in
    let after : length c.next_member.new.lexer.text ≡ length c.loop-member.self.lexer.text = ap length short.2 in
    let forward = c.in_ok-shape.ensures.5 in
    let again : length c.read_map.new.lexer.text ≡ length c.next_member.new.lexer.text = ap length c.in_ok-shape.ensures.4 in
    omega arith

pub loop-member-preserved : goal.loop-member-preserved
loop-member-preserved c =
    let h = rw c.in-Some.is at c.in_ok-member.ensures in
    let short = GivesMember-shorter c.loop-member.self.lexer c.next_member.new.lexer c.in-Some.member h in
    let text : c.text-text.result.now ≡ c.loop-member.self.lexer.text = c.text-text.ensures ∙ short.2 in
    let same : item_of c.text-text.result.now c.in-Some.member.token ≡ item_of c.loop-member.self.lexer.text c.in-Some.member.token = ap (λ (xs : List ℕ). item_of xs c.in-Some.member.token) text in
    let kind = ap kind_of (c.opens_map.ensures.yes c.if-not-opens_map.false) in
    let map = subst (λ (i : Item). is_map i ≡ true) same (c.opens_map.ensures.map c.if-not-opens_map.false) in
    let r = rw c.in_default-2.is at c.in_ok-shape.ensures in
    let forward = r.5 in
    subst (λ n. Passed c.args.self.now.lexer c.args.self.now.list c.args.self.now.skipped c.read_map.new.lexer c.loop-member.self.list n) (sym c.with_one_more-self.ensures)
    (Passed-skipped _ _ _ _ _ _ _ _ c.loop-member.invariant (omega arith) (r.4 ∙ short.2)
    (skip_on c.loop-member.self.lexer c.next_member.new.lexer c.read_map.new.lexer c.in-Some.member h c.loop-member.self.list _ kind map same r))

pub returns-in-Some-list-clause-next : goal.returns-in-Some-list-clause-next
returns-in-Some-list-clause-next c =
    let h = rw c.in_default.is at c.in_ok-member.ensures in
    let i = c.loop-member.invariant in
    let reads : (o : Open) → AreOpen c.loop-member.self.lexer c.loop-member.self.list o → ReadsAs c.loop-member.self.lexer o (record { entries = []; fault = Some (byte_fault Unclosed c.in-Some-list.opener.start) }) =
    λ o is. end_unclosed c.loop-member.self.lexer c.next_member.new.lexer h c.in-Some-list.opener o
    (subst (λ (l : Option Token). OpenWith c.loop-member.self.lexer.text l o) c.in-Some-list.is is.0) in
    λ no_memory. record { more = i.more; ends = rw c.fault_at-in-Some-list.ensures (Passed-ends _ _ _ _ _ _ i _ reads) }

pub returns-in-None-clause-next : goal.returns-in-None-clause-next
returns-in-None-clause-next c =
    let h = rw c.in_default.is at c.in_ok-member.ensures in
    let i = c.loop-member.invariant in
    let reads : (o : Open) → AreOpen c.loop-member.self.lexer c.loop-member.self.list o → ReadsAs c.loop-member.self.lexer o (record { entries = []; fault = None }) =
    λ o is. end_reads c.loop-member.self.lexer c.next_member.new.lexer h o
    (subst (λ (l : Option Token). OpenWith c.loop-member.self.lexer.text l o) c.in-None.is is.0) in
    record { more = i.more; skipped = i.count; closed = c.in-None.is; text = h.text ∙ i.text; ends = Passed-ends _ _ _ _ _ _ i None reads; after = h.after }

pub returns-in-None-clause-few : goal.returns-in-None-clause-few
returns-in-None-clause-few c =
    let h = rw c.in_default.is at c.in_ok-member.ensures in
    let few = c.loop-member.invariant.few in
    let forward = h.forward in
    omega arith
