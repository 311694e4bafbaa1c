use Rattle.std.proofs.Common.{inl, inr, ℕ, ◌+◌, ◌≤◌, List, length, subst, sym, arith}
use Rattle.std.proofs.lemmas.List.{length-map}
use Rattle.serial_points.specs.Users.{IsListed}
use Rattle.serial_points.proofs.Listed.{add_listed, add_only, add_stays}
use Rattle.serial_points.proofs.places.Places.add.Goals as goal

pub returns-clause-added : goal.returns-clause-added
returns-clause-added c =
    let lists = c.self.inside.lists.items in
    let enough = subst (λ (xs : List (List ℕ)). c.args.number + 1 ≤ length xs) (sym c.self.view_is) c.in_ok-grow.ensures.enough in
    let same = length-map lists (λ list. list.items) in
    add_listed (λ list. list.items) lists c.args.number c.push.new.self c.index_mut.result.now.items c.args.place (omega (arith, enough, same)) c.in_ok-push.ensures.ok

pub returns-clause-stay : goal.returns-clause-stay
returns-clause-stay c = λ n place listed.
    let lists = c.self.inside.lists.items in
    let enough = subst (λ (xs : List (List ℕ)). c.args.number + 1 ≤ length xs) (sym c.self.view_is) c.in_ok-grow.ensures.enough in
    let same = length-map lists (λ list. list.items) in
    add_stays (λ list. list.items) lists c.args.number c.push.new.self c.index_mut.result.now c.args.place (omega (arith, enough, same)) c.in_ok-push.ensures.ok c.index_mut.ensures.value
    n place (subst (λ (xs : List (List ℕ)). IsListed xs n place) (sym c.self.view_is) (c.in_ok-grow.ensures.stay n place listed))

pub returns-clause-only : goal.returns-clause-only
returns-clause-only c = λ n place listed.
    let lists = c.self.inside.lists.items in
    elim (add_only (λ list. list.items) lists c.args.number c.push.new.self c.index_mut.result.now c.args.place c.in_ok-push.ensures.ok c.index_mut.ensures.value n place listed) [
      | inl there ↦ inl (c.in_ok-grow.ensures.only n place (subst (λ (xs : List (List ℕ)). IsListed xs n place) c.self.view_is there))
      | inr own ↦ inr own
    ]
