use Rattle.std.proofs.Common.{◌≡◌, ◌∙◌, ◌+◌, ◌-◌, ◌<◌, ◌++◌, ◌∷◌, [], sym, ap, subst, take, drop, map, length, arith, get_or, take-append-drop, refl}
use Rattle.process_map.specs.Values.{value_of}
use Rattle.std.proofs.lemmas.List.{take_all}
use Rattle.hist_types.specs.Transactions.{Transaction, transactions_of}
use Rattle.order_frontier.specs.Completions.{AreTimely}
use Rattle.order_frontier.specs.Latest.{before_next}
use Rattle.order_frontier.specs.Predecessors.{IsThinnedOrder, name_of}
use Rattle.order_frontier.specs.Thinnings.{Thinned}
use Rattle.order_frontier.proofs.Passes.{AreAll, Advances, IsPart, timely, part-first, part-next, rest-whole, has_edges, all_once}
use Rattle.order_frontier.proofs.Apart.{apart_from}
use Rattle.order_frontier.proofs.thinning.thinned.Goals as goal

pub loop-txn-init : goal.loop-txn-init
loop-txn-init c = part-first c.args.txns.now c.in_ok-done.done.items c.in_ok-thinning.thinning c.in_ok-thinning.ensures

pub loop-txn-preserved : goal.loop-txn-preserved
loop-txn-preserved c =
    let es = c.requires.0 in
    let ts = c.args.txns.now in
    let of : ts ≡ transactions_of es = c.requires.1 in
    let done = c.in_ok-done.done.items in
    let taken = c.loop-txn.taken in
    let count = c.in_ok-taken.field-0 in
    let k = c.loop-txn.txn-index in
    let u : Transaction = c.txn-item.result in
    let old : Thinned = c.loop-txn.thinning in
    let new : Thinned = c.advance.new.self in
    let rest = take (length c.deref.result.now - taken) (drop taken c.deref.result.now) in
    let whole : rest ≡ drop taken done = rest-whole c.deref.result.now done taken c.deref.ensures.value in
    let are : AreAll (transactions_of es) done =
    subst (λ ts. AreAll ts done) of (record { all = c.in_ok-done.ensures.all; rising = c.in_ok-done.ensures.rising; apart = apart_from done (c.in_ok-done.ensures.once c.requires) }) in
    let in_time : AreTimely (take taken done ++ rest) =
    subst (λ xs. AreTimely (take taken done ++ xs)) (sym whole) (subst AreTimely (sym (take-append-drop taken done)) (timely es done are)) in
    let advances : Advances (take taken done) rest c.invocation.result count new.recent (value_of new.last) = record {
      fewer = c.in_ok-taken.ensures.count;
      before = c.in_ok-taken.ensures.before;
      next = c.in_ok-taken.ensures.next;
      kept = c.in_ok-taken.ensures.kept (take taken done) in_time c.loop-txn.invariant.kept;
    } in
    let advances' : Advances (take taken done) (drop taken done) u.invocation count new.recent (value_of new.last) =
    subst (λ left. Advances (take taken done) left u.invocation count new.recent (value_of new.last)) whole
    (subst (λ i. Advances (take taken done) rest i count new.recent (value_of new.last)) c.invocation.ensures advances) in
    let part = subst (λ ts. IsPart ts done k taken old.recent (value_of old.last) old.order) of c.loop-txn.invariant in
    let within : k < length (transactions_of es) = subst (λ ts. k < length ts) of (omega (arith, c.loop-txn-test.true)) in
    let is : get_or (transactions_of es) k u ≡ u = subst (λ ts. get_or ts k u ≡ u) of (sym c.txn-item.is) in
    let before = before_next new.recent new.last u.process u.invocation in
    let next =
    part-next es done are k taken count old.recent new.recent (value_of old.last) (value_of new.last) old.order part u within is advances' before (new.order ++ before ∷ []) refl
    (ap (λ order. order ++ before ∷ []) c.in_ok-taken.ensures.order) in
    subst (λ (s : Thinned). IsPart ts done (k + 1) (taken + count) s.recent (value_of s.last) s.order) (sym c.in_ok-begin.ensures.begun)
    (subst (λ ts. IsPart ts done (k + 1) (taken + count) new.recent (value_of new.last) (new.order ++ before ∷ [])) (sym of) next)

pub returns : goal.returns
returns c =
    let ts = c.args.txns.now in
    let part = c.loop-txn.invariant in
    let order = c.loop-txn.thinning.order in
    let named = part.named ∙ ap (map name_of) (take_all c.loop-txn.txn-index ts c.loop-txn-test.false) in
    subst (IsThinnedOrder ts) (sym c.into_order.ensures) (has_edges ts order part.thinned named, all_once order part.once, named)
