use Rattle.std.proofs.Common.{◌≡◌, ◌∙◌, ◌≤◌, ◌<◌, sym, ap, subst, length}
use Rattle.key_versions.specs.Rows.{grown}
use Rattle.key_versions.proofs.Changed.{one_grown, all_grown}
use Rattle.key_versions.proofs.rows.Rows.grow.Goals as goal

pub loop-self-preserved : goal.loop-self-preserved
loop-self-preserved c =
    let rows = c.loop-self.self.rows in
    let count : c.len.result ≡ length rows = c.len.ensures in
    let below : length rows < c.args.versions = subst (λ n. n < c.args.versions) count c.loop-self-test.true in
    let pushed = c.in_ok-add.ensures in
    (ap (grown c.args.versions) pushed ∙ one_grown c.args.versions rows below ∙ c.loop-self.invariant.0, c.loop-self.invariant.1)

pub returns-clause-rows : goal.returns-clause-rows
returns-clause-rows c =
    let rows = c.loop-self.self.rows in
    let count : c.len.result ≡ length rows = c.len.ensures in
    let enough : c.args.versions ≤ length rows = subst (λ n. c.args.versions ≤ n) count c.loop-self-test.false in
    sym (all_grown c.args.versions rows enough) ∙ c.loop-self.invariant.0
