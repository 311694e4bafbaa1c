use Rattle.std.proofs.Common.{rules, subst, take}
use Rattle.std.specs.Bool.{IsTrue}
use Rattle.std.proofs.lemmas.List.{take_all}
use Rattle.std.proofs.lemmas.List.Elements.{All-more, All-weaker}
use Rattle.key_versions.specs.declared.pending.Access.{Access}
use Rattle.clean_order.specs.Accesses.{updates}
use Rattle.clean_order.specs.Replaying.{is_marked, AreUpdatedMarked}
use Rattle.clean_order.proofs.replaying.mark_updated.Goals as goal

pub loop-read-preserved : goal.loop-read-preserved
loop-read-preserved c =
    let i = c.loop-read.read-index in
    let reads = c.args.reads.now in
    let later = c.mark_if_updated.new.followed in
    let stay = c.mark_if_updated.ensures.stay in (
      λ n marked. stay n (c.loop-read.invariant.0 n marked),
      All-more (λ (a : Access). IsTrue (updates c.args.writes.now a) → IsTrue (is_marked later a.version)) reads i (record { nil = 0; version = 0 }) c.loop-read-test.true
          (All-weaker (λ (a : Access). IsTrue (updates c.args.writes.now a) → IsTrue (is_marked c.loop-read.followed a.version))
          (λ (a : Access). IsTrue (updates c.args.writes.now a) → IsTrue (is_marked later a.version)) (λ a marked has. stay a.version (marked has)) (take i reads) c.loop-read.invariant.1)
          (c.mark_if_updated.ensures.marked (search rules)),
    )

pub returns-clause-marked : goal.returns-clause-marked
returns-clause-marked c = λ _.
    subst (λ reads. AreUpdatedMarked c.loop-read.followed reads c.args.writes.now) (take_all c.loop-read.read-index c.args.reads.now c.loop-read-test.false) c.loop-read.invariant.1
