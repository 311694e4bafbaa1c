use Rattle.std.proofs.Common.{◌≡◌, ◌+◌, ◌<◌, ◌++◌, length, ◌∙◌, ap, subst, arith}
use Rattle.hist_types.specs.Texts.{edge_lines}
use Rattle.report_text.proofs.EdgeLines.{AreWritten, none_written, more_written}
use Rattle.report_text.proofs.leaving.append_all_edges.Goals as goal

pub loop-place-init : goal.loop-place-init
loop-place-init c = none_written c.args.deps.now.table.keys c.args.deps.now.txns c.args.out.now.items c.requires.history

pub loop-place-preserved : goal.loop-place-preserved
loop-place-preserved c =
    let leaving = c.find_leaving.new.leaving.items in
    let below : c.loop-place.place < length c.args.deps.now.txns = omega (arith, c.loop-place-test.true, c.requires.txns) in
    let longer = c.in_ok-append_edges.ensures ∙ ap (λ es. c.loop-place.out.items ++ edge_lines es) c.deref.ensures.value in
    let written = more_written c.args.deps.now.table.keys c.args.deps.now.txns c.loop-place.place c.loop-place.count c.args.out.now.items c.loop-place.out.items c.append_edges.new.out.items leaving below c.in_ok-find_leaving.ensures longer c.loop-place.invariant in
    let counted : length leaving ≡ c.len.result = omega (arith, c.len.ensures, c.deref.ensures.len, ap length c.deref.ensures.value) in
    let place = c.loop-place.place + 1 in
    subst (λ n. AreWritten c.args.deps.now.table.keys c.args.deps.now.txns place c.args.out.now.items c.append_edges.new.out.items (c.loop-place.count + n)) counted written
