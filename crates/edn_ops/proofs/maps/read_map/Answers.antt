use Rattle.std.proofs.Common.{◌++◌, ◌∷◌, refl, sym, ap, subst, ◌∙◌, [], List, ℕ}
use Rattle.edn_lex.specs.Kinds.{kind_of, item_of}
use Rattle.edn_ops.specs.Leads.{inside}
use Rattle.edn_ops.specs.Outlines.{IsTokenIn}
use Rattle.edn_ops.proofs.Collected.{member_in}
use Rattle.edn_ops.proofs.Levels.{GivesMember-shorter}
use Rattle.edn_ops.proofs.ByMember.{nothing_read, one_read, shorter_member, next_given, next_none, member_some, not_closer}
use Rattle.edn_ops.proofs.MapMembers.{map_stops, map_fails, map_unclosed, member_stops, map_closed, token_end, gathered_one}
use Rattle.edn_ops.proofs.maps.read_map.Goals as goal

pub loop-fields-init : goal.loop-fields-init
loop-fields-init c = ([], nothing_read c.args.lexer.now (item_of c.args.text.now c.args.opener), c.new-fields.ensures.fields c.args.text.now, c.new-fields.ensures.within c.args.text.now)

pub returns-in_err-member : goal.returns-in_err-member
returns-in_err-member c =
    let i = item_of c.args.text.now c.args.opener in
    let front = c.loop-fields.invariant in
    map_fails c.args.lexer.now c.next_member.new.lexer i _ _ c.from_residual.ensures.1
    (λ memory. map_stops c.args.lexer.now c.loop-fields.lexer i front.0 _ c.requires.map front.1 (λ o no_place. c.in_err-member.ensures (inside i front.0 [] o)))

pub returns-in-Close : goal.returns-in-Close
returns-in-Close c =
    let text = c.args.text.now in
    let i = item_of text c.args.opener in
    let m = c.in-Some.member in
    let front = c.loop-fields.invariant in
    let h = next_given c.loop-fields.lexer c.next_member.new.lexer c.in_ok-member.field-0 m c.in-Some.is c.in_ok-member.ensures in
    let same = c.requires.text ∙ sym front.1.text in
    let token : IsTokenIn text m.token = subst (λ (xs : List ℕ). IsTokenIn xs m.token) (sym same) (member_in c.loop-fields.lexer c.next_member.new.lexer m h) in
    map_closed c.args.lexer.now c.loop-fields.lexer c.next_member.new.lexer text m i front.0 c.entry.result c.requires.map front.1 h (ap kind_of c.in-Close.is) same
    (c.entry.ensures i (item_of text m.token) front.0 front.2 refl (token_end text m.token token))

pub add_member-requires : goal.add_member-requires
add_member-requires c =
    let m = c.in-Some.member in
    let front = c.loop-fields.invariant in
    let h = next_given c.loop-fields.lexer c.next_member.new.lexer c.in_ok-member.field-0 m c.in-Some.is c.in_ok-member.ensures in
    let shorter = GivesMember-shorter c.loop-fields.lexer c.next_member.new.lexer m h in
    let same = c.requires.text ∙ sym front.1.text in
    record {
      text = same ∙ sym shorter.2;
      fields = front.3;
      token = subst (λ (xs : List ℕ). IsTokenIn xs m.token) (sym same) (member_in c.loop-fields.lexer c.next_member.new.lexer m h);
      closer = not_closer m.token.kind c.in_default-kind.not-Close;
    }

pub loop-fields-smaller : goal.loop-fields-smaller
loop-fields-smaller c =
    let m = c.in-Some.member in
    let front = c.loop-fields.invariant in
    let h = next_given c.loop-fields.lexer c.next_member.new.lexer c.in_ok-member.field-0 m c.in-Some.is c.in_ok-member.ensures in
    let one = gathered_one c.loop-fields.lexer c.add_member.new.lexer c.args.text.now c.loop-fields.fields c.add_member.new.fields c.in_ok-add_member.field-0 (front.1.text ∙ sym c.requires.text) (c.in_ok-add_member.ensures c.loop-fields.lexer h) in
    shorter_member c.loop-fields.lexer c.add_member.new.lexer one.form one.one (member_some c.loop-fields.lexer c.next_member.new.lexer m h)

pub loop-fields-preserved : goal.loop-fields-preserved
loop-fields-preserved c =
    let s = c.args.lexer.now in
    let i = item_of c.args.text.now c.args.opener in
    let m = c.in-Some.member in
    let front = c.loop-fields.invariant in
    let h = next_given c.loop-fields.lexer c.next_member.new.lexer c.in_ok-member.field-0 m c.in-Some.is c.in_ok-member.ensures in
    let one = gathered_one c.loop-fields.lexer c.add_member.new.lexer c.args.text.now c.loop-fields.fields c.add_member.new.fields c.in_ok-add_member.field-0 (front.1.text ∙ sym c.requires.text) (c.in_ok-add_member.ensures c.loop-fields.lexer h) in
    (front.0 ++ one.form ∷ [], one_read s c.loop-fields.lexer c.add_member.new.lexer i front.0 one.form front.1 one.one, one.more front.0 front.2, one.within)

pub returns-in_err-add_member : goal.returns-in_err-add_member
returns-in_err-add_member c =
    let i = item_of c.args.text.now c.args.opener in
    let m = c.in-Some.member in
    let front = c.loop-fields.invariant in
    let h = next_given c.loop-fields.lexer c.next_member.new.lexer c.in_ok-member.field-0 m c.in-Some.is c.in_ok-member.ensures in
    map_fails c.args.lexer.now c.add_member.new.lexer i _ _ c.from_residual-in_err-add_member.ensures.1
    (member_stops c.args.lexer.now c.loop-fields.lexer i front.0 _ c.requires.map front.1 (c.in_err-add_member.ensures c.loop-fields.lexer h))

pub returns : goal.returns
returns c =
    let i = item_of c.args.text.now c.args.opener in
    let front = c.loop-fields.invariant in
    λ memory. map_unclosed c.args.lexer.now c.loop-fields.lexer c.next_member.new.lexer i front.0 c.fault_at.result c.requires.map front.1
    (next_none c.loop-fields.lexer c.next_member.new.lexer c.in_ok-member.field-0 c.in_default.not-Some c.in_ok-member.ensures) c.fault_at.ensures
