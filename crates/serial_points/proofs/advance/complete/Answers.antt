use Rattle.std.proofs.Common.{◌∙◌, ap, subst}
use Rattle.serial_points.specs.KeptPoints.{IsCleanAt}
use Rattle.serial_points.specs.Views.{view_of}
use Rattle.serial_points.proofs.advance.complete.Goals as goal

pub returns-clause-completed : goal.returns-clause-completed
returns-clause-completed g c = λ clean. (
  subst (λ view. IsCleanAt view c.args.place) (c.new.ensures ∙ ap (λ xs. view_of xs c.lower_for_ok.new.users c.args.run.now) c.as_slice.ensures.value) (c.reads_clean.ensures clean),
  c.in_ok-lower_for_ok.ensures.passed c.if-not-branch.false,
)
