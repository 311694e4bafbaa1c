use Rattle.std.proofs.Common.{◌≡◌, ◌∙◌, ℕ, List, ◌++◌, ap}
use Rattle.std.proofs.lemmas.Result.{IfOk-weaker, IfErr-weaker}
use Rattle.verdict_serve.specs.Cuts.{Cut}
use Rattle.verdict_serve.proofs.Windows.{gives_later, fails_later}
use Rattle.verdict_serve.proofs.lines.Lines.next.Goals as goal

pub returns-in-Full-clause-ok : goal.returns-in-Full-clause-ok
returns-in-Full-clause-ok g c =
    let found = rw c.in-Full.is at c.in_ok-place.ensures.ok in
    let whole : c.find_line_end.new.window.bytes ≡ c.args.self.now.unread ++ found.0 =
    found.1 ∙ ap (λ (t : List ℕ). t ++ found.0) (c.forget.ensures.bytes ∙ ap (λ (cut : Cut). cut.unread) c.self.view_is) in
    IfOk-weaker c.skip.result _ _ (λ next skipped. gives_later g.S.Source _ _ _ next _ found.0 _ _ whole found.2 skipped) c.skip.ensures.ok

pub returns-in-Full-clause-err : goal.returns-in-Full-clause-err
returns-in-Full-clause-err g c =
    let found = rw c.in-Full.is at c.in_ok-place.ensures.ok in
    let whole : c.find_line_end.new.window.bytes ≡ c.args.self.now.unread ++ found.0 =
    found.1 ∙ ap (λ (t : List ℕ). t ++ found.0) (c.forget.ensures.bytes ∙ ap (λ (cut : Cut). cut.unread) c.self.view_is) in
    IfErr-weaker c.skip.result _ _ (λ error fails. fails_later g.S.Source _ _ _ _ found.0 _ whole found.2 fails) c.skip.ensures.err
