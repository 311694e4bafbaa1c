use Rattle.std.proofs.Common.{◌≡◌, ◌∙◌, ◌-◌, length, get_or, ap}
use Rattle.std.specs.List.{slice_set}
use Rattle.dep_edges.specs.Labels.{joined}
use Rattle.cycle_show.proofs.Places.{last_joined_as_set}
use Rattle.cycle_show.proofs.path.Path.join_last.Goals as goal

pub returns-clause-path : goal.returns-clause-path
returns-clause-path c =
    let path = c.args.self.now.edges.items in
    let next = c.args.next.now in
    let size : c.len-last.result ≡ length path = c.len-last.ensures ∙ c.args.self.now.edges.ok.0 in
    let last = c.joined.ensures ∙ ap (λ e. joined e next) (c.index.ensures ∙ ap (λ n. get_or path (n - 1) c.index.result.now) size) in
    ap (λ n. slice_set path (n - 1) c.joined.result) size
    ∙ ap (λ e. slice_set path (length path - 1) e) last
    ∙ last_joined_as_set path next c.index.result.now c.requires
