use Rattle.std.proofs.Common.{◌≡◌, ◌∙◌, [], length, ap}
use Rattle.key_versions.specs.Rows.{grown}
use Rattle.key_versions.proofs.Given.{begun}
use Rattle.key_versions.proofs.rows.Rows.with_capacity.Goals as goal

pub returns : goal.returns
returns c = λ given numbered count.
    let grew : c.grow.new.self.rows ≡ grown (length given) [] =
    c.in_ok-grow.ensures.rows ∙ ap (grown c.args.versions) c.in_ok-with_capacity.ensures ∙ ap (λ n. grown n []) count in
    rw (c.in_ok-grow.ensures.accesses, c.in_ok-with_capacity-2.ensures) (begun given c.grow.new.self.rows numbered grew)
