use Rattle.std.proofs.Common.{◌≡◌, [], ◌∙◌, sym}
use Rattle.std.proofs.lemmas.List.Elements.{All-more}
use Rattle.key_versions.specs.declared.pending.Access.{Access}
use Rattle.serial_points.specs.Users.{places_at}
use Rattle.serial_points.proofs.Listed.{all_gone, no_member}
use Rattle.serial_points.proofs.clean.was_read.Goals as goal

pub loop-write-preserved : goal.loop-write-preserved
loop-write-preserved c =
    All-more (λ (a : Access). places_at c.args.readers.now a.version ≡ []) c.args.writes.now c.loop-write.write-index (record { nil = 0; version = 0 }) c.loop-write-test.true c.loop-write.invariant
    (sym c.at-places.ensures ∙ no_member c.at-places.result.now c.if-places-gt0.false)

pub returns : goal.returns
returns c = λ _.
    all_gone (λ (a : Access). places_at c.args.readers.now a.version ≡ []) c.args.writes.now c.loop-write.write-index c.loop-write-test.false c.loop-write.invariant
