use Rattle.std.proofs.Common.{◌≡◌, ◌∙◌, ◌<◌, List, length, nat_eq, ap, sym, subst, arith}
use Rattle.std.specs.HashMap.{get}
use Rattle.hist_types.specs.Edges.{Edge, process}
use Rattle.cycle_show.specs.Paths.{path_to, HavePlaces}
use Rattle.cycle_show.proofs.Places.{path_to_place, places_before, not_looked_up, not_at_place}
use Rattle.cycle_show.proofs.path.Path.go_back.Goals as goal
use Rattle.cycle_show.proofs.path.Path.go_back.Goals.{else-place-len-via-then-place-len+else-from-transaction, else-place-len-via-else-place-len}

pub returns-in_default-clause-path : goal.returns-in_default-clause-path
returns-in_default-clause-path c =
    not_looked_up (get nat_eq c.args.self.now.places) c.args.self.now.edges.items c.args.transaction c.requires
    (sym c.get.ensures.value ∙ sym c.copied.ensures ∙ c.in_default.is)

pub returns-then-from-transaction-clause-path : goal.returns-then-from-transaction-clause-path
returns-then-from-transaction-clause-path c =
    let path = c.args.self.now.edges.items in
    let below : c.in-Some.place < length path = omega (arith, c.if-place-len.true, c.len.ensures, c.args.self.now.edges.ok.0) in
    c.truncate.ensures.items
    ∙ path_to_place (get nat_eq c.args.self.now.places) 0 path c.args.transaction c.in-Some.place c.index.result.now c.requires below
    (ap (λ (e : Edge). e.from) (sym c.index.ensures) ∙ sym c.from.ensures ∙ c.if-from-transaction.true)

pub returns-then-from-transaction-clause-places : goal.returns-then-from-transaction-clause-places
returns-then-from-transaction-clause-places c =
    let place_of = get nat_eq c.args.self.now.places in
    let cut : List Edge = c.truncate.new.self.items in
    let is : cut ≡ path_to c.args.transaction c.args.self.now.edges.items = returns-then-from-transaction-clause-path c in
    subst (λ path. HavePlaces place_of 0 path) (sym is) (places_before place_of 0 c.args.transaction c.args.self.now.edges.items c.requires)

pub returns-else-place-len-clause-path : goal.returns-else-place-len-clause-path
returns-else-place-len-clause-path c =
    let path = c.args.self.now.edges.items in
    let size = c.args.self.now.edges.ok.0 in
    let not_at = not_at_place (get nat_eq c.args.self.now.places) path c.args.transaction c.in-Some.place in
    let found = sym c.get.ensures.value ∙ sym c.copied.ensures ∙ c.in-Some.is in
    elim c.else-place-len.branch [
      | else-place-len-via-then-place-len+else-from-transaction w ↦
          not_at w.index.result.now c.requires found
          (λ below there. w.if-from-transaction.false (w.from.ensures ∙ ap (λ (e : Edge). e.from) w.index.ensures ∙ there))
      | else-place-len-via-else-place-len w ↦
          not_at (record { from = 0; to = 0; label = process 0 }) c.requires found
          (λ below there.
          let past = w.if-place-len.false in
          let none : ⊥ = omega (arith, past, below, c.len.ensures, size) in
          none)
    ]
