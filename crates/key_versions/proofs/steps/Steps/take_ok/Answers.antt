use Rattle.std.proofs.Common.{◌∙◌, ℕ, Option}
use Rattle.key_versions.specs.LastSeen.{last_seen}
use Rattle.key_versions.specs.Steps.{firsts}
use Rattle.key_versions.proofs.Seen.{firsts_keys, seen_all}
use Rattle.key_versions.proofs.Taken.{of_reads, of_writes}
use Rattle.key_versions.proofs.steps.Steps.take_ok.Goals as goal

pub step_to_reads-requires : goal.step_to_reads-requires
step_to_reads-requires c = of_reads c.args.reads.now c.args.writes.now c.args.seen.now c.requires

pub step_to_installs-requires : goal.step_to_installs-requires
step_to_installs-requires c = of_writes c.args.reads.now c.args.writes.now c.args.seen.now c.requires

pub returns-clause-taken : goal.returns-clause-taken
returns-clause-taken c =
    (c.in_ok-step_to_installs.ensures c.args.self.now.taken.items (last_seen c.args.self.now.last) c.in_ok-step_to_reads.ensures).steps

pub returns-clause-last : goal.returns-clause-last
returns-clause-last c = λ one nil.
    let reads = c.args.reads.now in
    let writes = c.args.writes.now in
    let seen = c.args.seen.now in
    let before : Option ℕ = last_seen c.args.self.now.last one nil in
    let done = c.in_ok-step_to_installs.ensures c.args.self.now.taken.items (last_seen c.args.self.now.last) c.in_ok-step_to_reads.ensures in
    done.versions one nil
    ∙ seen_all c.args.process (firsts reads writes) seen one nil before (λ key. c.requires key ∙ firsts_keys reads writes key)
