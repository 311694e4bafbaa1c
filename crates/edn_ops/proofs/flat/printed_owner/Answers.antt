use Rattle.std.proofs.Common.{ℕ, List, ◌+◌, take, drop, ap, arith, sym, ◌∙◌}
use Rattle.std.specs.Char.{is_ascii_digit}
use Rattle.std.specs.List.{list_all}
use Rattle.std.proofs.lemmas.List.{take_rest}
use Rattle.hist_types.specs.AtomTokens.{int_value, process_of}
use Rattle.edn_ops.proofs.FlatMaps.{digits_say, digits_spelled}
use Rattle.edn_ops.proofs.PrintedFields.{owner_printed}
use Rattle.edn_ops.proofs.flat.printed_owner.Goals as goal

pub digits_before-requires-clause-digits : goal.digits_before-requires-clause-digits
digits_before-requires-clause-digits c =
    let number = c.in_ok-len in
    ap (λ (ys : List ℕ). list_all is_ascii_digit (take number.len ys)) (sym (take_rest c.args.text.now (c.args.comma + 11))) ∙ number.ensures.digits

pub returns-clause-owner : goal.returns-clause-owner
returns-clause-owner c =
    let text = c.args.text.now in
    let at = c.args.comma + 11 in
    let room = c.requires in
    let digits = c.in_ok-len in
    let few = digits.ensures.few in
    let number = c.in_ok-number in
    let number_to = number.ensures.end in
    let taken = ap (take digits.len) (take_rest text at) in
    owner_printed text c.args.comma digits.process number.number (omega arith) (c.has_here.ensures c.if-not-has_here.false) number.ensures.lone (omega arith)
    (digits_say text (take digits.len (drop at text)) number.number digits.process number.ensures.kind (digits_spelled text at digits.len number.number number.ensures.start number.ensures.end)
    (ap (λ (ys : List ℕ). process_of (int_value ys)) (sym taken) ∙ digits.ensures.process))
