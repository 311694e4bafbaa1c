use Rattle.std.proofs.Common.{◌≡◌, ◌∙◌, ◌<◌, ◌+◌, ℕ, List, [], ◌∷◌, ◌++◌, ◌&&◌, true, false, if◌then◌else◌, All, length, replicate, refl, arith, ap, sym, subst, append-nil, Vec}
use Rattle.std.proofs.lemmas.List.{length-map, length-replicate, with_items_is}
use Rattle.hist_types.specs.Transactions.{is_node}
use Rattle.hist_types.proofs.Members.{In}
use Rattle.dep_edges.specs.Tables.{txn_at}
use Rattle.order_frontier.specs.Predecessors.{Before, before_at}
use Rattle.order_frontier.specs.declared.types.Predecessor.{Predecessor}
use Rattle.edge_graph.specs.Runs.{run_in, lists_in, empty_run, IsRunIn}
use Rattle.edge_graph.specs.Successors.{AreFirstSuccessors, HavePlaces, HaveOwnPlaces, AddsNode, predecessors_at, has_place, has_invocation, is_successor, list_at}
use Rattle.edge_graph.proofs.OrderTo.{before_there}
use Rattle.edge_graph.proofs.Ordered.{long, have_places, have_own_places, places_tell, next_successors}
use Rattle.edge_graph.proofs.RunSteps.{empty_runs, empty_list}
use Rattle.edge_graph.proofs.orders.turned.Goals as goal
use Rattle.edge_graph.proofs.orders.turned.Goals.{After-predecessors, then-is_node+in_ok-number+in_ok-push_node, else-is_node}

pub loop-place-init : goal.loop-place-init
loop-place-init c =
    let ts = c.args.deps.now.txns in
    let order = c.args.order.now in
    let n = length order in
    let all : n ≡ length ts = long ts order c.requires.kept c.requires.order in
    let runs = c.args.runs.items in
    let runs_are : runs ≡ replicate n empty_run = c.requires.runs in
    let none = c.new-nodes.ensures.items in
    record {
      runs = subst (λ xs. All (IsRunIn xs) runs) (sym none) (subst (All (IsRunIn [])) (sym runs_are) (empty_runs n));
      lists =
          subst (AreFirstSuccessors ts order c.args.level 0) (sym (ap (λ xs. lists_in xs runs) none ∙ ap (lists_in []) runs_are))
          (record {
            count = length-map (replicate n empty_run) (run_in []) ∙ length-replicate n empty_run ∙ all;
            each = λ place h. empty_list n place (subst (λ k. place < k) (sym all) h);
          });
    }

there : (c : After-predecessors) → In (before_at c.args.order.now c.loop-place.place) c.args.order.now
there c = before_there c.args.order.now c.loop-place.place (let test = c.loop-place-test.true in omega (arith, test, c.len-place-end.ensures))

pub push_node-requires-clause-placed : goal.push_node-requires-clause-placed
push_node-requires-clause-placed c =
    let ts = c.args.deps.now.txns in
    let order = c.args.order.now in
    let places = c.args.places.now in
    let count : length c.deref_mut.result.now ≡ length ts =
    ap length c.deref_mut.ensures.value ∙ sym (length-map c.loop-place.runs.items (run_in c.loop-place.nodes.items)) ∙ c.loop-place.invariant.lists.count in
    subst (λ n. HavePlaces places n c.predecessors.result.now) (sym count)
    (subst (HavePlaces places (length ts)) (sym c.predecessors.ensures) (have_places ts order c.requires.kept c.requires.order places c.requires.places c.args.level (before_at order c.loop-place.place) (there (goal.at.push_node-requires-clause-placed c).After-predecessors)))

pub push_node-requires-clause-apart : goal.push_node-requires-clause-apart
push_node-requires-clause-apart c =
    let ts = c.args.deps.now.txns in
    let order = c.args.order.now in
    let places = c.args.places.now in
    subst (HaveOwnPlaces places) (sym c.predecessors.ensures)
    (have_own_places ts order c.requires.kept c.requires.order places c.requires.places c.args.level (before_at order c.loop-place.place) (there (goal.at.push_node-requires-clause-apart c).After-predecessors))

pub loop-place-preserved : goal.loop-place-preserved
loop-place-preserved c =
    let ts = c.args.deps.now.txns in
    let order = c.args.order.now in
    let places = c.args.places.now in
    let level = c.args.level in
    let next = c.loop-place.place in
    let nodes = c.loop-place.nodes.items in
    let runs = c.loop-place.runs in
    let lists = lists_in nodes runs.items in
    let inv = c.loop-place.invariant in
    let known = λ (first : ℕ) (b : Before). has_invocation (predecessors_at level b) (txn_at ts first).invocation in
    let i : In (before_at order next) order = before_there order next (let test = c.loop-place-test.true in omega (arith, test, c.len-place-end.ensures)) in
    elim c.if-is_node.branch [
      | then-is_node+in_ok-number+in_ok-push_node w ↦
          let new = w.push_node.new in
          let seen : w.deref_mut.result.now ≡ runs.items = w.deref_mut.ensures.value in
          let node : is_node ts (txn_at ts next) ≡ true = sym c.is_node.ensures ∙ w.if-is_node.true in
          let ps : w.predecessors.result.now ≡ predecessors_at level (before_at order next) = w.predecessors.ensures in
          let nodes_are : c.if-is_node.nodes.items ≡ new.nodes.items = ap (λ (v : Vec _ _). v.items) w.nodes-is in
          let runs_are : c.if-is_node.runs.items ≡ new.runs =
          ap (λ (v : Vec _ _). v.items) w.runs-is ∙ with_items_is runs new.runs (w.push_node.auto.runs ∙ ap length seen ∙ sym runs.ok.0) in
          let added : AddsNode places w.predecessors.result.now w.in_ok-number.field-0 lists (lists_in new.nodes.items new.runs) =
          subst (λ rs. AddsNode places w.predecessors.result.now w.in_ok-number.field-0 (lists_in nodes rs) (lists_in new.nodes.items new.runs)) seen w.in_ok-push_node.ensures.lists in
          record {
            runs =
                subst (λ xs. All (IsRunIn xs) c.if-is_node.runs.items) (sym nodes_are)
                (subst (All (IsRunIn new.nodes.items)) (sym runs_are) w.in_ok-push_node.ensures.runs);
            lists =
                subst (AreFirstSuccessors ts order level (next + 1)) (sym (ap (λ xs. lists_in xs c.if-is_node.runs.items) nodes_are ∙ ap (lists_in new.nodes.items) runs_are))
                (next_successors ts order c.requires.kept c.requires.order level next lists (lists_in new.nodes.items new.runs) inv.lists added.count
                (λ first h.
                let test : has_place places w.predecessors.result.now first ≡ is_successor ts order level first next =
                ap (λ (ps : List Predecessor). has_place places ps first) ps
                ∙ places_tell ts order c.requires.kept c.requires.order places c.requires.places level (before_at order next) first i h
                ∙ sym (ap (λ b. b && known first (before_at order next)) node) in
                added.each first (subst (λ n. first < n) (sym inv.lists.count) h)
                ∙ ap (λ n. list_at lists first ++ (if has_place places w.predecessors.result.now first then n ∷ [] else [])) w.in_ok-number.ensures
                ∙ ap (λ b. list_at lists first ++ (if b then next ∷ [] else [])) test));
          }
      | else-is_node w ↦
          let none : is_node ts (txn_at ts next) ≡ false = sym c.is_node.ensures ∙ w.if-is_node.false in
          let nodes_are : c.if-is_node.nodes.items ≡ nodes = ap (λ (v : Vec _ _). v.items) w.nodes-is in
          let runs_are : c.if-is_node.runs.items ≡ runs.items = ap (λ (v : Vec _ _). v.items) w.runs-is in
          record {
            runs =
                subst (λ xs. All (IsRunIn xs) c.if-is_node.runs.items) (sym nodes_are)
                (subst (All (IsRunIn nodes)) (sym runs_are) inv.runs);
            lists =
                subst (AreFirstSuccessors ts order level (next + 1)) (sym (ap (λ xs. lists_in xs c.if-is_node.runs.items) nodes_are ∙ ap (lists_in nodes) runs_are))
                (next_successors ts order c.requires.kept c.requires.order level next lists lists inv.lists refl
                (λ first h.
                let test : is_successor ts order level first next ≡ false = ap (λ b. b && known first (before_at order next)) none in
                sym (append-nil (list_at lists first)) ∙ ap (λ b. list_at lists first ++ (if b then next ∷ [] else [])) (sym test)));
          }
    ]

pub returns : goal.returns
returns c =
    let ts = c.args.deps.now.txns in
    let order = c.args.order.now in
    let test = c.loop-place-test.false in
    let all : c.loop-place.place ≡ length ts = omega (arith, test, c.loop-place.auto.place-end, c.len-place-end.ensures, long ts order c.requires.kept c.requires.order) in
    subst (λ n. AreFirstSuccessors ts order c.args.level n (lists_in c.loop-place.nodes.items c.loop-place.runs.items)) all c.loop-place.invariant.lists
