use Rattle.std.proofs.Common.{◌∙◌, ◌++◌, List, length, ap}
use Rattle.key_versions.specs.declared.kept_accesses.KeptSpan.{KeptSpan}
use Rattle.key_versions.specs.declared.pending.Access.{Access}
use Rattle.key_versions.proofs.Spans.{appended_accesses}
use Rattle.key_versions.proofs.kept_accesses.append.Goals as goal

pub returns-clause-ok : goal.returns-clause-ok
returns-clause-ok c =
    let xs = c.args.accesses.now.items in
    let a = c.args.accessed.now in
    let first = c.push_all.new.items.items in
    let second = c.push_all-2.new.items.items in
    let now = c.push_all-3.new.items.items in
    let s : KeptSpan = record { start = c.in_ok-start.start; reads = c.in_ok-count_of.field-0; writes = c.in_ok-count_of-2.field-0; seen = c.in_ok-count_of-3.field-0 } in
    appended_accesses xs first second now a.reads.items a.writes.items a.seen.items s
    (c.in_ok-push_all.ensures.ok ∙ ap (λ (ys : List Access). xs ++ ys) c.as_slice.ensures.value)
    (c.in_ok-push_all-2.ensures.ok ∙ ap (λ (ys : List Access). first ++ ys) c.as_slice-2.ensures.value)
    (c.in_ok-push_all-3.ensures.ok ∙ ap (λ (ys : List Access). second ++ ys) c.as_slice-3.ensures.value)
    (c.in_ok-start.ensures ∙ c.len.ensures ∙ c.args.accesses.now.ok.0)
    (c.in_ok-count_of.ensures ∙ ap length c.as_slice-4.ensures.value)
    (c.in_ok-count_of-2.ensures ∙ ap length c.as_slice-5.ensures.value)
    (c.in_ok-count_of-3.ensures ∙ ap length c.as_slice-6.ensures.value)
