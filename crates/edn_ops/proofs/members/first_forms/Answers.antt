use Rattle.std.proofs.Common.{◌++◌, ◌∷◌, subst, sym, ap, [], List}
use Rattle.edn_lex.specs.Kinds.{kind_of, item_of}
use Rattle.edn_ops.specs.Collections.{AreFirstForms}
use Rattle.edn_ops.specs.declared.outline.Outline.{Outline}
use Rattle.edn_ops.proofs.ByMember.{nothing_read, one_read, closed, next_stops, unclosed, shorter_member, first_none, first_more, first_same, next_given, next_none, member_some, first_fails, stops_at, passed, has_room, is_filled, outline_at}
use Rattle.edn_ops.specs.Leads.{inside}
use Rattle.edn_ops.proofs.members.first_forms.Goals as goal

pub loop-member-init : goal.loop-member-init
loop-member-init c =
    let s = c.args.lexer.now in
    ([], nothing_read s (item_of s.text c.args.opener), subst (λ (os : List Outline). AreFirstForms s.text os []) (sym c.new-forms.ensures) (first_none s.text))

pub returns-in_err-member : goal.returns-in_err-member
returns-in_err-member c =
    let s = c.args.lexer.now in
    first_fails s c.next_member.new.lexer (item_of s.text c.args.opener) _ _ c.from_residual.ensures.1
    (next_stops s c.loop-member.lexer (item_of s.text c.args.opener) c.loop-member.invariant.0 _ c.loop-member.invariant.1 (λ o no_place. c.in_err-member.ensures (inside (item_of s.text c.args.opener) c.loop-member.invariant.0 [] o)))

pub returns-in-Close : goal.returns-in-Close
returns-in-Close c =
    let s = c.args.lexer.now in
    let h = next_given c.loop-member.lexer c.next_member.new.lexer c.in_ok-member.field-0 c.in-Some.member c.in-Some.is c.in_ok-member.ensures in
    (c.loop-member.invariant.0, item_of s.text c.in-Some.member.token, closed s c.loop-member.lexer c.next_member.new.lexer c.in-Some.member (item_of s.text c.args.opener) c.loop-member.invariant.0 c.loop-member.invariant.1 h (ap kind_of c.in-Close.is), c.loop-member.invariant.2)

pub loop-member-smaller-then-not-is_full : goal.loop-member-smaller-then-not-is_full
loop-member-smaller-then-not-is_full c =
    let h = next_given c.loop-member.lexer c.next_member.new.lexer c.in_ok-member.field-0 c.in-Some.member c.in-Some.is c.in_ok-member.ensures in
    let p = passed c.loop-member.lexer c.pass_member.new.lexer c.in_ok-form.form (c.in_ok-form.ensures.member c.loop-member.lexer h) in
    shorter_member c.loop-member.lexer c.pass_member.new.lexer p.form p.one (member_some c.loop-member.lexer c.next_member.new.lexer c.in-Some.member h)

pub loop-member-preserved-then-not-is_full : goal.loop-member-preserved-then-not-is_full
loop-member-preserved-then-not-is_full c =
    let s = c.args.lexer.now in
    let front = c.loop-member.invariant in
    let h = next_given c.loop-member.lexer c.next_member.new.lexer c.in_ok-member.field-0 c.in-Some.member c.in-Some.is c.in_ok-member.ensures in
    let p = passed c.loop-member.lexer c.pass_member.new.lexer c.in_ok-form.form (c.in_ok-form.ensures.member c.loop-member.lexer h) in (
      front.0 ++ p.form ∷ [],
      one_read s c.loop-member.lexer c.pass_member.new.lexer (item_of s.text c.args.opener) front.0 p.form front.1 p.one,
      subst (λ (os : List Outline). AreFirstForms s.text os (front.0 ++ p.form ∷ [])) (sym c.push.ensures.items)
          (first_more s.text c.loop-member.forms.items front.0 p.form c.in_ok-form.form front.2 (outline_at s c.loop-member.lexer p.form c.in_ok-form.form front.1.text p.has)
          (has_room c.is_full.result _ c.is_full.ensures.value c.is_full.ensures.fits c.if-not-is_full.true)),
    )

pub loop-member-smaller : goal.loop-member-smaller
loop-member-smaller c =
    let h = next_given c.loop-member.lexer c.next_member.new.lexer c.in_ok-member.field-0 c.in-Some.member c.in-Some.is c.in_ok-member.ensures in
    let p = passed c.loop-member.lexer c.pass_member.new.lexer c.in_ok-form.form (c.in_ok-form.ensures.member c.loop-member.lexer h) in
    shorter_member c.loop-member.lexer c.pass_member.new.lexer p.form p.one (member_some c.loop-member.lexer c.next_member.new.lexer c.in-Some.member h)

pub loop-member-preserved : goal.loop-member-preserved
loop-member-preserved c =
    let s = c.args.lexer.now in
    let front = c.loop-member.invariant in
    let h = next_given c.loop-member.lexer c.next_member.new.lexer c.in_ok-member.field-0 c.in-Some.member c.in-Some.is c.in_ok-member.ensures in
    let p = passed c.loop-member.lexer c.pass_member.new.lexer c.in_ok-form.form (c.in_ok-form.ensures.member c.loop-member.lexer h) in (
      front.0 ++ p.form ∷ [],
      one_read s c.loop-member.lexer c.pass_member.new.lexer (item_of s.text c.args.opener) front.0 p.form front.1 p.one,
      first_same s.text c.loop-member.forms.items front.0 p.form front.2 (is_filled c.is_full.result _ c.is_full.ensures.value c.if-not-is_full.false),
    )

pub returns : goal.returns
returns c =
    let s = c.args.lexer.now in
    stops_at s (item_of s.text c.args.opener) _ _ c.fault_at.ensures
    (unclosed s c.loop-member.lexer c.next_member.new.lexer (item_of s.text c.args.opener) c.loop-member.invariant.0 c.loop-member.invariant.1
    (next_none c.loop-member.lexer c.next_member.new.lexer c.in_ok-member.field-0 c.in_default.not-Some c.in_ok-member.ensures))
