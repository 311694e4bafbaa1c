use Rattle.std.proofs.Common.{◌≡◌, ◌∙◌, ◌+◌, ◌<◌, ◌≤◌, List, [], ◌∷◌, ◌++◌, length, take, sym, ap, subst, arith, rules, append_assoc}
use Rattle.std.proofs.lemmas.List.{take_all, length-append, length-take}
use Rattle.hist_types.specs.Operations.{Operation}
use Rattle.hist_types.specs.Transactions.{transactions_of}
use Rattle.op_block.specs.Contents.{operations_of}
use Rattle.journal_core.proofs.Knowing.{taken_of_block, length_of_block}
use Rattle.command_run.proofs.judged.pair_block.Goals as goal

pub take-requires : goal.take-requires
take-requires c =
    let within : c.loop-index.index < length c.args.block.now.operations = search rules in
    omega (arith, c.requires, within, length_of_block c.args.block.now)

pub loop-index-preserved : goal.loop-index-preserved
loop-index-preserved c =
    λ events count is.
    let i = c.loop-index.index in
    let block = c.args.block.now in
    let os = operations_of block in
    let within : i < length block.operations = search rules in
    let taken = taken_of_block block i c.of.result within c.of.ensures in
    let place : length (events ++ take i os) ≡ c.args.start + i =
    omega (arith, count, within, length_of_block block, length-append events (take i os), length-take i os) in
    let now = c.in_ok-take.ensures.ok (events ++ take i os) place (c.loop-index.invariant events count is) in
    subst (λ (es : List Operation). c.take.new.self ≡ transactions_of es)
    (append_assoc events (take i os) (c.of.result ∷ []) ∙ ap (λ (es : List Operation). events ++ es) (sym taken))
    now

pub returns : goal.returns
returns c =
    λ events count is.
    let i = c.loop-index.index in
    let block = c.args.block.now in
    let os = operations_of block in
    let whole : length os ≤ i = omega (arith, length_of_block block, c.len-index-end.ensures.len) in
    subst (λ (es : List Operation). c.loop-index.pairing ≡ transactions_of (events ++ es)) (take_all i os whole) (c.loop-index.invariant events count is)
