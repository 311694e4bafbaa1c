use Rattle.std.proofs.Common.{◌≤◌, take, slice_index, IsFalse, sym, ◌∙◌, arith}
use Rattle.std.proofs.lemmas.Bool.{false≢true}
use Rattle.std.proofs.lemmas.List.Elements.{All-more, All-weaker}
use Rattle.key_versions.specs.declared.pending.Access.{Access}
use Rattle.clean_order.specs.Accesses.{updates}
use Rattle.serial_points.proofs.Bounded.{higher_again}
use Rattle.serial_points.proofs.Listed.{all_gone}
use Rattle.serial_points.proofs.bounds.raise_for.Goals as goal
use Rattle.serial_points.proofs.bounds.raise_for.Goals.{then-not-updates+in_ok-raise, else-not-updates}

pub loop-read-preserved : goal.loop-read-preserved
loop-read-preserved c =
    let i = c.loop-read.read-index in
    let reads = c.args.reads.now in
    let writes = c.args.writes.now in
    let none : Access = record { nil = 0; version = 0 } in
    elim c.if-not-updates.branch [
      | then-not-updates+in_ok-raise w ↦ (
          let higher = w.in_ok-raise.ensures.higher in
          rw w.bounds-is (
            higher_again c.args.bounds.now c.loop-read.bounds w.raise.new.self c.loop-read.invariant.0 higher,
            All-more (λ (a : Access). IsFalse (updates writes a) → c.args.point ≤ slice_index w.raise.new.self a.version) reads i none c.loop-read-test.true
                (All-weaker (λ (a : Access). IsFalse (updates writes a) → c.args.point ≤ slice_index c.loop-read.bounds a.version)
                (λ (a : Access). IsFalse (updates writes a) → c.args.point ≤ slice_index w.raise.new.self a.version)
                (λ a raised other. let less = raised other in let more = higher a.version in omega (arith, less, more)) (take i reads) c.loop-read.invariant.1)
                (λ other. w.in_ok-raise.ensures.raised),
          ))
      | else-not-updates w ↦
          rw w.bounds-is (
            c.loop-read.invariant.0,
            All-more (λ (a : Access). IsFalse (updates writes a) → c.args.point ≤ slice_index c.loop-read.bounds a.version) reads i none c.loop-read-test.true c.loop-read.invariant.1
                (λ other. absurd (false≢true (sym other ∙ sym c.updates.ensures ∙ w.if-not-updates.false))),
          )
    ]

pub returns-clause-raised : goal.returns-clause-raised
returns-clause-raised c =
    all_gone (λ (a : Access). IsFalse (updates c.args.writes.now a) → c.args.point ≤ slice_index c.loop-read.bounds a.version) c.args.reads.now c.loop-read.read-index c.loop-read-test.false c.loop-read.invariant.1
