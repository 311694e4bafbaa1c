use Rattle.std.proofs.Common.{◌≡◌, ◌∙◌, ◌+◌, [], ◌∷◌, ◌++◌, List, length, nat_eq, Some, subst, sym, ap, arith}
use Rattle.std.specs.HashMap.{get}
use Rattle.std.proofs.lemmas.Bool.{ne_eqb}
use Rattle.hist_types.specs.Edges.{Edge}
use Rattle.hist_types.specs.Witness.{stations}
use Rattle.history_laws.proofs.ThinningWitnesses.{IsOff}
use Rattle.cycle_show.specs.Paths.{HavePlaces}
use Rattle.cycle_show.proofs.Places.{places_joined, places_pushed, places_alike, path_to_off}
use Rattle.cycle_show.proofs.path.Path.follow.Goals as goal

pub returns-then-ends_in_order-clause-places : goal.returns-then-ends_in_order-clause-places
returns-then-ends_in_order-clause-places c =
    let before = get nat_eq c.go_back.new.self.places in
    let after = get nat_eq c.join_last.new.self.places in
    subst (λ path. HavePlaces after 0 path) (sym c.join_last.ensures.path)
    (places_joined after 0 c.go_back.new.self.edges.items c.args.next.now (places_alike before after 0 c.go_back.new.self.edges.items c.go_back.ensures.places (λ transaction. ap (λ places. get nat_eq places transaction) c.join_last.ensures.places)))

pub returns-clause-places : goal.returns-clause-places
returns-clause-places c =
    let path : List Edge = c.go_back.new.self.edges.items in
    let next = c.args.next.now in
    let key : c.from-2.result ≡ next.from = c.from-2.ensures in
    let place : c.len.result ≡ 0 + length path = let size : c.len.result ≡ length path = c.len.ensures ∙ c.go_back.new.self.edges.ok.0 in omega (arith, size) in
    let before = get nat_eq c.go_back.new.self.places in
    let after = get nat_eq c.insert.new.self in
    let off : IsOff c.from.result (stations path) =
    subst (λ es. IsOff c.from.result (stations es)) (sym c.go_back.ensures.path) (path_to_off c.from.result c.args.self.now.edges.items) in
    let found : after c.from-2.result ≡ Some (0 + length path) = c.in_ok-insert.ensures.updates.1 ∙ ap Some place in
    let pushed = places_pushed before after 0 path next c.go_back.ensures.places
    (subst (λ n. IsOff n (stations path)) c.from.ensures off)
    (subst (λ n. after n ≡ Some (0 + length path)) key found)
    (λ q other. c.in_ok-insert.ensures.updates.2 q (ne_eqb c.from-2.result q (λ same. other (sym same ∙ key)))) in
    let longer : List Edge = c.push.new.self.items in
    let is : longer ≡ path ++ c.copy.result ∷ [] = c.in_ok-push.ensures.items in
    subst (λ es. HavePlaces after 0 es) (sym is)
    (subst (λ (e : Edge). HavePlaces after 0 (path ++ e ∷ [])) (sym c.copy.ensures) pushed)
