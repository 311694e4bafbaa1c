use Rattle.std.proofs.Common.{◌∙◌, ◌<◌, ◌++◌, ◌∷◌, [], ◌≤◌, List, length, take, sym, ap, subst, arith, rules, append_assoc}
use Rattle.std.proofs.lemmas.List.{take_all}
use Rattle.hist_types.specs.Journal.{KeepsRulesAfter}
use Rattle.hist_types.specs.Operations.{Operation}
use Rattle.op_block.specs.Contents.{operations_of}
use Rattle.journal_core.proofs.Knowing.{taken_of_block, length_of_block}
use Rattle.verdict.specs.Analysed.{Analysed, AreTablesSoFar, events_of_blocks}
use Rattle.verdict.proofs.Growing.{so_far_of_block, kept_at}
use Rattle.verdict.proofs.analysis.Analysis.extend.Goals as goal

pub take-requires : goal.take-requires
take-requires g c =
    let i = c.loop-index.index in
    let block = c.args.block.now in
    let before = events_of_blocks c.self.inside.blocks.items in
    let within : i < length block.operations = search rules in
    let kept = subst (λ (a : Analysed). KeepsRulesAfter a.events (operations_of block)) (sym c.self.view_is) c.requires in
    (before ++ take i (operations_of block), c.loop-index.invariant.tables, kept_at before block i c.of.result kept within c.of.ensures)

pub loop-index-preserved : goal.loop-index-preserved
loop-index-preserved g c =
    let i = c.loop-index.index in
    let block = c.args.block.now in
    let os = operations_of block in
    let before = events_of_blocks c.self.inside.blocks.items in
    let within : i < length block.operations = search rules in
    let kept = subst (λ (a : Analysed). KeepsRulesAfter a.events os) (sym c.self.view_is) c.requires in
    let next = c.in_ok-take.ensures.tables (before ++ take i os) c.loop-index.invariant.tables (kept_at before block i c.of.result kept within c.of.ensures) in
    record {
      tables = subst (λ (es : List Operation). AreTablesSoFar es c.take.new.self)
          (append_assoc before (take i os) (c.of.result ∷ []) ∙ ap (λ (es : List Operation). before ++ es) (sym (taken_of_block block i c.of.result within c.of.ensures)))
          next;
      blocks = c.loop-index.invariant.blocks;
      keys = c.in_ok-take.ensures.keys ∙ c.loop-index.invariant.keys;
    }

pub invariant_of-self : goal.invariant_of-self
invariant_of-self g c =
    let i = c.loop-index.index in
    let os = operations_of c.args.block.now in
    let blocks = c.self.inside.blocks.items in
    let tables = c.loop-index.self-inside.tables in
    let whole : length os ≤ i = omega (arith, length_of_block c.args.block.now, c.len-index-end.ensures.len) in
    so_far_of_block blocks c.loop-index.self-inside.blocks.items c.push.new.self.items c.args.block tables c.loop-index.invariant.blocks c.in_ok-push.ensures.items
    (subst (λ (es : List Operation). AreTablesSoFar (events_of_blocks blocks ++ es) tables) (take_all i os whole) c.loop-index.invariant.tables)
