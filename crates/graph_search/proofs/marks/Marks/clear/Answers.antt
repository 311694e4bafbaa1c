use Rattle.std.proofs.Common.{◌≡◌, ◌<◌, length, replicate, false, All, eqb, arith, rules, ◌∙◌, ap, sym, refl}
use Rattle.std.proofs.lemmas.List.{length-map}
use Rattle.graph_search.proofs.Marked.{unmarked}
use Rattle.graph_search.proofs.marks.Marks.clear.Goals as goal

pub returns-in-Some : goal.returns-in-Some
returns-in-Some c =
    let rounds = c.self.inside.rounds.items in
    let lower : All (λ x. x < c.in-Some.round) rounds = λ k d h. omega (arith, c.self.invariant k d h, c.in-Some.ensures.1) in
    unmarked c.in-Some.round rounds lower
    ∙ ap (λ n. replicate n false) (sym (length-map rounds (λ x. eqb x c.self.inside.round)) ∙ ap length c.self.view_is)

pub returns-in-None : goal.returns-in-None
returns-in-None c =
    let rounds = c.self.inside.rounds.items in
    let same : length c.fill.new.self.items ≡ length rounds = search rules in
    let lower : All (λ x. x < 1) c.fill.new.self.items = λ k d h. omega (arith, c.fill.ensures.clones k d (omega (arith, same)) refl) in
    unmarked 1 c.fill.new.self.items lower
    ∙ ap (λ n. replicate n false) (same ∙ sym (length-map rounds (λ x. eqb x c.self.inside.round)) ∙ ap length c.self.view_is)
