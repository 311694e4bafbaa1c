use Rattle.std.proofs.Common.{◌≡◌, ◌+◌, subst, arith}
use Rattle.edn_lex.specs.Ahead.{IsGap}
use Rattle.edn_lex.specs.declared.ahead.Triple.{Triple}
use Rattle.edn_lex.specs.declared.types.Token.{Token}
use Rattle.edn_lex.specs.declared.types.TokenKind.TheVariants as kinds
use Rattle.edn_lex.proofs.LookAhead.{opener_given, closer_given}
use Rattle.edn_ops.proofs.FlatMaps.{lone_here, space_here, mop_given}
use Rattle.edn_ops.proofs.MopFronts.{name_at, mop_front_read}
use Rattle.edn_ops.proofs.flat_mops.plain_mop.Goals as goal

pub returns-clause-gives : goal.returns-clause-gives
returns-clause-gives c offset gap =
    let text = c.args.text.now in
    let start = c.args.start in
    let room = c.if-text-start-lt-PLAIN_MOP_LOOK.false in
    let is_write = c.in_ok-is_write in
    let front = mop_front_read text start is_write.is_write is_write.ensures in
    let key = c.in_ok-key.key in
    let value = c.in_ok-key.value in
    let pair = c.in_ok-key.ensures in
    let few = pair.few in
    let within = pair.key_within in
    let behind : start + 3 + 1 ≡ start + 4 = omega arith in
    let named_to : start + 3 ≡ start + 1 + 2 = omega arith in
    let opener : Token = record { kind = kinds.Open; start = start; end = start + 1 } in
    let closer : Token = record { kind = kinds.Close; start = value.end; end = value.end + 1 } in
    let t : Triple = record { opener = opener; first = name_at start; second = key; third = value; closer = closer } in
    mop_given text offset is_write.is_write t c.span.result c.span-2.result
    (record {
      opener = opener_given text offset start gap.low (omega arith) gap.blanks front.opens;
      first = lone_here text (start + 1) (name_at start) (omega arith) front.lone;
      second = pair.key (start + 1 + 2) (subst (λ n. IsGap text n (start + 4)) named_to (subst (IsGap text (start + 3)) behind (space_here text (start + 3) (omega arith) front.space)));
      third = pair.value key.end (space_here text key.end (omega arith) pair.space);
      closer = closer_given text value.end value.end (omega arith) (omega arith) (λ k low high. absurd (omega arith)) pair.closes;
    })
    (omega arith) front.named pair.atom pair.is_value c.span.ensures c.span-2.ensures
