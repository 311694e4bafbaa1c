use Rattle.std.proofs.Common.{take, sym, ◌∙◌}
use Rattle.std.specs.Bool.{IsTrue}
use Rattle.std.proofs.lemmas.Bool.{false≢true}
use Rattle.std.proofs.lemmas.List.Elements.{All-more, All-weaker}
use Rattle.key_versions.specs.declared.pending.Access.{Access}
use Rattle.clean_order.specs.Accesses.{updates}
use Rattle.serial_points.specs.Users.{IsListed}
use Rattle.serial_points.proofs.Listed.{all_gone}
use Rattle.serial_points.proofs.users.add_updated.Goals.{then-updates+in_ok-add, else-updates}
use Rattle.serial_points.proofs.users.add_updated.Goals as goal

pub loop-read-preserved : goal.loop-read-preserved
loop-read-preserved c =
    let i = c.loop-read.read-index in
    let reads = c.args.reads.now in
    elim c.if-updates.branch [
      | then-updates+in_ok-add w ↦ (
          let stay = w.in_ok-add.ensures.stay in
          rw w.lists-is (
            λ n place listed. stay n place (c.loop-read.invariant.0 n place listed),
            All-more (λ (a : Access). IsTrue (updates c.args.writes.now a) → IsListed w.add.new.self a.version c.args.place) reads i (record { nil = 0; version = 0 }) c.loop-read-test.true
                (All-weaker (λ (a : Access). IsTrue (updates c.args.writes.now a) → IsListed c.loop-read.lists a.version c.args.place)
                (λ (a : Access). IsTrue (updates c.args.writes.now a) → IsListed w.add.new.self a.version c.args.place)
                (λ a listed has. stay a.version c.args.place (listed has)) (take i reads) c.loop-read.invariant.1)
                (λ has. w.in_ok-add.ensures.added),
          ))
      | else-updates w ↦
          rw w.lists-is (
            c.loop-read.invariant.0,
            All-more (λ (a : Access). IsTrue (updates c.args.writes.now a) → IsListed c.loop-read.lists a.version c.args.place) reads i (record { nil = 0; version = 0 }) c.loop-read-test.true c.loop-read.invariant.1
                (λ has. absurd (false≢true (sym w.if-updates.false ∙ c.updates.ensures ∙ has))),
          )
    ]

pub returns-clause-added : goal.returns-clause-added
returns-clause-added c =
    all_gone (λ (a : Access). IsTrue (updates c.args.writes.now a) → IsListed c.loop-read.lists a.version c.args.place) c.args.reads.now c.loop-read.read-index c.loop-read-test.false c.loop-read.invariant.1
