use Rattle.std.proofs.Common.{Ok, ◌++◌, ◌∷◌, sym, ap, subst, ◌∙◌, [], List, ℕ}
use Rattle.edn_lex.specs.Kinds.{kind_of, item_of}
use Rattle.edn_ops.specs.Leads.{inside}
use Rattle.edn_ops.specs.Outlines.{IsTokenIn}
use Rattle.edn_ops.specs.declared.types.MopShape.{MopShape}
use Rattle.edn_ops.proofs.Collected.{member_in}
use Rattle.edn_ops.proofs.Levels.{GivesMember-shorter}
use Rattle.edn_ops.proofs.ByMember.{nothing_read, one_read, closed, next_stops, unclosed, shorter_member, next_given, next_none, member_some, not_closer, stops_at}
use Rattle.edn_ops.proofs.MicroOps.{transaction_fails, read_mop}
use Rattle.edn_ops.proofs.micro_ops.transaction.Goals as goal

pub loop-transaction-init : goal.loop-transaction-init
loop-transaction-init c = ([], nothing_read c.args.lexer.now (item_of c.args.text.now c.args.opener), ap (λ (shapes : List MopShape). Ok shapes) c.new.ensures.items)

pub returns-in_err-member : goal.returns-in_err-member
returns-in_err-member c =
    let i = item_of c.args.text.now c.args.opener in
    let front = c.loop-transaction.invariant in
    transaction_fails c.args.lexer.now c.next_member.new.lexer i _ _ c.from_residual.ensures.1
    (next_stops c.args.lexer.now c.loop-transaction.lexer i front.0 _ front.1 (λ o no_place. c.in_err-member.ensures (inside i front.0 [] o)))

pub returns-in-Close : goal.returns-in-Close
returns-in-Close c =
    let s = c.args.lexer.now in
    let front = c.loop-transaction.invariant in
    let h = next_given c.loop-transaction.lexer c.next_member.new.lexer c.in_ok-member.field-0 c.in-Some.member c.in-Some.is c.in_ok-member.ensures in
    (front.0, item_of s.text c.in-Some.member.token, closed s c.loop-transaction.lexer c.next_member.new.lexer c.in-Some.member (item_of c.args.text.now c.args.opener) front.0 front.1 h (ap kind_of c.in-Close.is), front.2)

pub read_micro_op-requires : goal.read_micro_op-requires
read_micro_op-requires c =
    let front = c.loop-transaction.invariant in
    let h = next_given c.loop-transaction.lexer c.next_member.new.lexer c.in_ok-member.field-0 c.in-Some.member c.in-Some.is c.in_ok-member.ensures in
    let shorter = GivesMember-shorter c.loop-transaction.lexer c.next_member.new.lexer c.in-Some.member h in
    record {
      text = c.requires ∙ sym front.1.text ∙ sym shorter.2;
      token = subst (λ (text : List ℕ). IsTokenIn text c.in-Some.member.token) (front.1.text ∙ sym c.requires) (member_in c.loop-transaction.lexer c.next_member.new.lexer c.in-Some.member h);
      closer = not_closer c.in-Some.member.token.kind c.in_default-kind.not-Close;
    }

pub loop-transaction-smaller : goal.loop-transaction-smaller
loop-transaction-smaller c =
    let h = next_given c.loop-transaction.lexer c.next_member.new.lexer c.in_ok-member.field-0 c.in-Some.member c.in-Some.is c.in_ok-member.ensures in
    let one = read_mop c.loop-transaction.lexer c.read_micro_op.new.lexer c.in_ok-start.start c.in_ok-start.micro_op (c.in_ok-start.ensures c.loop-transaction.lexer h) in
    shorter_member c.loop-transaction.lexer c.read_micro_op.new.lexer one.form one.one (member_some c.loop-transaction.lexer c.next_member.new.lexer c.in-Some.member h)

pub loop-transaction-preserved : goal.loop-transaction-preserved
loop-transaction-preserved c =
    let front = c.loop-transaction.invariant in
    let h = next_given c.loop-transaction.lexer c.next_member.new.lexer c.in_ok-member.field-0 c.in-Some.member c.in-Some.is c.in_ok-member.ensures in
    let one = read_mop c.loop-transaction.lexer c.read_micro_op.new.lexer c.in_ok-start.start c.in_ok-start.micro_op (c.in_ok-start.ensures c.loop-transaction.lexer h) in (
      front.0 ++ one.form ∷ [],
      one_read c.args.lexer.now c.loop-transaction.lexer c.read_micro_op.new.lexer (item_of c.args.text.now c.args.opener) front.0 one.form front.1 one.one,
      c.in_ok-add_micro_op.ensures.ok front.0 one.form front.2 one.place one.mop_is,
    )

pub returns : goal.returns
returns c memory =
    let i = item_of c.args.text.now c.args.opener in
    let front = c.loop-transaction.invariant in
    stops_at c.args.lexer.now i _ _ c.fault_at.ensures
    (unclosed c.args.lexer.now c.loop-transaction.lexer c.next_member.new.lexer i front.0 front.1
    (next_none c.loop-transaction.lexer c.next_member.new.lexer c.in_ok-member.field-0 c.in_default.not-Some c.in_ok-member.ensures))
