use Rattle.std.proofs.Common.{◌∙◌, ◌≤◌, ◌++◌, ◌∷◌, [], List, length, ap, arith}
use Rattle.key_versions.specs.Rows.{Accessed, numbers_of}
use Rattle.key_versions.proofs.Spans.{spans_wider, pushed}
use Rattle.key_versions.proofs.accesses.Accesses.push.Goals as goal

pub invariant_of-self : goal.invariant_of-self
invariant_of-self c =
    spans_wider (length c.self.inside.numbers.items) (length c.append.new.numbers.items) c.self.inside.spans.items c.append.ensures.kept c.self.invariant

pub invariant_of-self-in_err-append-2 : goal.invariant_of-self-in_err-append-2
invariant_of-self-in_err-append-2 c =
    let first : length c.self.inside.numbers.items ≤ length c.append.new.numbers.items = c.append.ensures.kept in
    let second : length c.append.new.numbers.items ≤ length c.append-2.new.numbers.items = c.append-2.ensures.kept in
    let both : length c.self.inside.numbers.items ≤ length c.append-2.new.numbers.items = omega arith in
    spans_wider (length c.self.inside.numbers.items) (length c.append-2.new.numbers.items) c.self.inside.spans.items both c.self.invariant

pub returns : goal.returns
returns c =
    (pushed c.self.inside.numbers.items c.append.new.numbers.items c.append-2.new.numbers.items (numbers_of c.args.reads.now) (numbers_of c.args.installs.now)
    c.self.inside.spans.items c.push.new.items.items c.in_ok-start.start c.in_ok-middle.middle c.in_ok-end.end c.self.invariant
    c.in_ok-append.ensures.ok c.in_ok-append-2.ensures.ok
    (c.in_ok-start.ensures ∙ c.len.ensures ∙ c.self.inside.numbers.ok.0)
    (c.in_ok-middle.ensures ∙ c.len-2.ensures ∙ c.append.new.numbers.ok.0)
    (c.in_ok-end.ensures ∙ c.len-3.ensures ∙ c.append-2.new.numbers.ok.0)
    c.in_ok-push.ensures.items).1
    ∙ ap (λ (as1 : List Accessed). as1 ++ record { reads = numbers_of c.args.reads.now; installs = numbers_of c.args.installs.now } ∷ []) c.self.view_is
