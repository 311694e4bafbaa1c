use Rattle.std.proofs.Common.{◌≡◌, ◌∙◌, sym, ap, subst}
use Rattle.serial_points.specs.KeptPoints.{KeptPoints, IsNext, HasSettled, PointsAdvance, UsersAdvance}
use Rattle.serial_points.specs.Stepping.{StepsPass}
use Rattle.serial_points.specs.Strays.{StraysAdvance}
use Rattle.serial_points.specs.Views.{LiveRun, run_of, view_of}
use Rattle.serial_points.proofs.OneMore.{next_place}
use Rattle.serial_points.proofs.KeptSteps.{all_after}
use Rattle.serial_points.proofs.kept.Points.after.Goals as goal

pub after-requires-clause-kept : goal.after-requires-clause-kept
after-requires-clause-kept g c = let (events, event, before, next) = c.requires in next.basic.kept

pub after-requires-clause-place : goal.after-requires-clause-place
after-requires-clause-place g c =
    let (events, event, before, next) = c.requires in
    next_place events event before c.args.versions.now c.args.self.basic c.args.txns.now c.args.place next.basic

pub new-run-requires : goal.new-run-requires
new-run-requires g c = let (events, event, before, next) = c.requires in next.basic.kept

pub returns : goal.returns
returns g c = λ events event before next.
    let p : KeptPoints = record { basic = record { points = c.self.inside.points.items; users = c.self.inside.users; strays = c.self.inside.strays }; steps = c.self.inside.steps } in
    let later = c.args.txns.now in
    let after = c.args.versions.now in
    let place = c.args.place in
    let points = c.advance.new.points.items in
    let middle = c.add_users.new.users in
    let users = c.advance.new.users in
    let steps = c.in_ok-steps.steps in
    let falls = c.falls-falls.result.now in
    let is : c.new-run.result ≡ run_of later after steps.lists = c.new-run.ensures in
    let from_here : IsNext events event before p later after place = subst (λ q. IsNext events event before q later after place) (sym c.self.view_is) next in
    let viewed : c.new.result ≡ view_of points users (run_of later after steps.lists) =
    c.new.ensures ∙ ap (λ xs. view_of xs users c.new-run.result) c.as_slice.ensures.value ∙ ap (view_of points users) is in
    all_after events event before after p points middle users steps c.in-Some.strays later falls place from_here
    (subst (λ (run : LiveRun). UsersAdvance p.basic.users middle run.accesses place) is c.in_ok-add_users.ensures.added)
    c.in_ok-add_users.ensures.bounds c.in_ok-add_users.ensures.floors
    (subst (λ (run : LiveRun). HasSettled points middle users run.accesses place) is (c.in_ok-advance.ensures.settled c.if-not-branch.false))
    (subst (λ run. PointsAdvance p.basic.points (view_of points users run) falls place) is (c.in_ok-advance.ensures.advanced c.if-not-branch.false))
    (subst (λ (run : LiveRun). StraysAdvance p.basic.strays c.in-Some.strays users.writers run.accesses place) is c.in-Some.ensures)
    c.in_ok-steps.ensures
    (subst (λ view. StepsPass view falls place) viewed (c.steps_pass.ensures c.if-not-steps_pass.false))
