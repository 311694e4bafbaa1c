use Rattle.std.proofs.Common.{◌≡◌, ◌∙◌, ◌<◌, ◌++◌, ◌∷◌, [], All, set, length, ap, sym, subst, get_or}
use Rattle.std.proofs.lemmas.List.{append-nil, get_or_default}
use Rattle.order_frontier.specs.declared.types.Predecessor.{Predecessor}
use Rattle.edge_graph.specs.Runs.{lists_in, empty_run, IsRunIn, IsExtended}
use Rattle.edge_graph.specs.Successors.{place_of, list_at}
use Rattle.edge_graph.proofs.Pushed.{next_pushed}
use Rattle.edge_graph.proofs.RunSteps.{still_runs, same_list, still_set, set_here, set_elsewhere}
use Rattle.edge_graph.proofs.orders.push_node.Goals as goal

pub loop-predecessor-init : goal.loop-predecessor-init
loop-predecessor-init c =
    let nodes = c.args.nodes.now.items in
    let runs = c.args.runs.now in
    let place = c.args.place in
    let items : c.push.new.self.items ≡ nodes ++ place ∷ [] = c.in_ok-push.ensures.items in
    record {
      runs = subst (λ xs. All (IsRunIn xs) runs) (sym items) (still_runs nodes (place ∷ []) runs c.requires.runs);
      last = (nodes, items);
      lists =
          λ first h.
          ap (λ xs. list_at (lists_in xs runs) first) items ∙ same_list nodes (place ∷ []) runs first c.requires.runs h
          ∙ sym (append-nil (list_at (lists_in nodes runs) first));
    }

pub loop-predecessor-preserved : goal.loop-predecessor-preserved
loop-predecessor-preserved c =
    let places = c.args.places.now in
    let ps = c.args.predecessors.now in
    let place = c.args.place in
    let i = c.loop-predecessor.predecessor-index in
    let none : Predecessor = record { invocation = 0; completion = 0 } in
    let p = get_or ps i none in
    let within = c.loop-predecessor-test.true in
    let runs = c.loop-predecessor.runs in
    let before = c.loop-predecessor.nodes.items in
    let after = c.extended.new.items.items in
    let more = c.in_ok-runs.field-0 in
    let inv = c.loop-predecessor.invariant in
    let is : IsExtended place (get_or runs (place_of places p) empty_run) more before after = c.in_ok-runs.ensures in
    let count : length runs ≡ length c.args.runs.now = c.loop-predecessor.auto.runs in
    let there : place_of places p < length runs = subst (λ n. place_of places p < n) (sym count) (c.requires.placed i none within).1 in
    record {
      runs = still_set place (place_of places p) more empty_run runs before after inv.runs there is;
      last = is.last;
      lists =
          next_pushed places ps i p within (get_or_default ps i none p within) c.requires.apart place (length c.args.runs.now)
          (lists_in c.args.nodes.now.items c.args.runs.now) (lists_in before runs) (lists_in after (set runs (place_of places p) more))
          (set_here place (place_of places p) more empty_run runs before after inv.runs there is)
          (λ first h. set_elsewhere place (place_of places p) more empty_run runs before after inv.runs there is first (subst (λ n. first < n) (sym count) h))
          inv.lists;
    }
