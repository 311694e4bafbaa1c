use Rattle.std.proofs.Common.{◌∙◌, ◌++◌, [], refl, ap, sym, append_assoc}
use Rattle.std.proofs.KnownBytes.{Consumes-nil, Consumes-trans}
use Rattle.std.proofs.lemmas.List.{append-nil}
use Rattle.block_reader.proofs.window.Window.fill.Goals as goal

pub loop-init : goal.loop-init
loop-init g c =
    (record { more = []; behind = sym (append-nil c.args.self.now.bytes); given = Consumes-nil _ }, refl)

pub loop-preserved : goal.loop-preserved
loop-preserved g c =
    let before = c.loop.invariant.0 in
    let (more, count, behind, given) = c.in_ok-read_more.ensures.given in (
      record {
        more = before.more ++ more;
        behind =
            behind
            ∙ (ap (λ xs. xs ++ more) (c.grow.ensures.kept ∙ before.behind)
            ∙ append_assoc c.args.self.now.bytes before.more more);
        given = Consumes-trans _ _ _ _ _ before.given given;
      },
      c.in_ok-read_more.ensures.no_failure ∙ c.loop.invariant.1,
    )
