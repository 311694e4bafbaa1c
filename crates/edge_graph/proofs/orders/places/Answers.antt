use Rattle.std.proofs.Common.{◌≡◌, ◌∙◌, ◌-◌, ◌++◌, ◌∷◌, [], sym, subst, ap, length, take, arith, Some}
use Rattle.std.specs.Prelude.{replicate}
use Rattle.std.specs.Vec.{vec_len}
use Rattle.std.proofs.lemmas.Option.{slice_get-get_or}
use Rattle.edge_graph.proofs.Placed.{ArePlacedFirst, next_placed, all_placed}
use Rattle.edge_graph.proofs.orders.places.Goals as goal

pub loop-place-preserved : goal.loop-place-preserved
loop-place-preserved c =
    let ts = c.args.txns.now in
    let t = c.index-txns-place.result in
    let places = c.loop-place.places in
    let before = c.invocation.result in
    let number : c.in_ok-place.place ≡ c.loop-place.place = c.in_ok-place.ensures in
    let long : length places.items ≡ vec_len places = omega (arith, places.ok.0) in
    let at = slice_get-get_or ts c.loop-place.place t c.loop-place-test.true ∙ ap Some (sym c.index-txns-place.is) in
    subst (ArePlacedFirst ts _) (sym (c.in_ok-push.ensures.items ∙ ap (λ n. c.resize.new.self.items ++ n ∷ []) number))
    (next_placed ts c.loop-place.place before (vec_len places) t places.items c.resize.new.self.items c.requires c.loop-place.invariant c.loop-place-test.true
    at c.invocation.ensures long
    (c.in_ok-resize.ensures.items ∙ ap (λ n. take before places.items ++ replicate (before - vec_len places) n) number))

pub returns : goal.returns
returns c = all_placed c.args.txns.now c.loop-place.place c.loop-place.places.items c.loop-place.invariant c.loop-place-test.false
