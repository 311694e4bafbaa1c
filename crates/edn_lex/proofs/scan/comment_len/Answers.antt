use Rattle.std.proofs.Common.{length, not, sym, ap, arith}
use Rattle.std.proofs.lemmas.List.Sums.{prefix_len_is}
use Rattle.edn_lex.proofs.Strings.{is_false}
use Rattle.edn_lex.proofs.scan.comment_len.Goals as goal

pub returns-in-Some-clause-len : goal.returns-in-Some-clause-len
returns-in-Some-clause-len c =
    let first = c.in-Some.ensures.0 in
    sym
    (prefix_len_is _ c.args.text.now c.in-Some.at 0 (omega arith)
    (λ k h. ap not (is_false _ (first.before k (omega arith) h))) (λ h. ap not c.in-Some.ensures.1))

pub returns-in-None-clause-len : goal.returns-in-None-clause-len
returns-in-None-clause-len c =
    sym
    (prefix_len_is _ c.args.text.now (length c.args.text.now) 0 (omega arith)
    (λ k h. ap not (is_false _ (c.in-None.ensures k (omega arith) h))) (λ h. absurd (omega arith)))
