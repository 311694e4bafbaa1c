use Rattle.std.proofs.Common.{◌≡◌, ◌+◌, ◌-◌, ℕ, drop, take, true, subst, arith}
use Rattle.std.specs.Char.{is_ascii_digit}
use Rattle.std.specs.List.{list_all}
use Rattle.edn_ops.proofs.flat_mops.plain_pair.Goals as goal

pub value_of_digits-requires-clause-digits : goal.value_of_digits-requires-clause-digits
value_of_digits-requires-clause-digits c =
    let ends = c.in-Some in
    let key_to = c.in_ok-key.ensures.end in
    let place : c.args.start + ends.key_len + 1 ≡ c.in_ok-key.key.end + 1 = omega arith in
    subst (λ (k : ℕ). list_all is_ascii_digit (take (ends.value_end - ends.key_len - 1) (drop k c.args.text.now)) ≡ true) place ends.ensures.second

pub returns : goal.returns
returns c =
    let room = c.requires in
    let ends = c.in-Some in
    let order = ends.ensures.order in
    let ends_few = ends.ensures.few in
    let key = c.in_ok-key in
    let key_to = key.ensures.end in
    let value = c.in_ok-value in
    let value_few = value.ensures.few in
    record {
      key = key.ensures.lone;
      atom = key.ensures.atom;
      space = key.ensures.after;
      key_within = omega arith;
      value = value.ensures.lone;
      is_value = value.ensures.value;
      closes = value.ensures.after;
      few = omega arith;
    }
