use Rattle.std.proofs.Common.{◌≡◌, ◌++◌, ◌∷◌, [], ◌∙◌, ap, subst, sym, None, length, arith}
use Rattle.process_map.specs.Values.{value_of}
use Rattle.hist_types.specs.Transactions.{transaction_by}
use Rattle.txn_pairs.proofs.Growth.{AreOpenPlaces, takes_invocation, begun_places}
use Rattle.txn_pairs.proofs.pairing.Pairing.begin.Goals as goal

pub invariant_of-self-2 : goal.invariant_of-self-2
invariant_of-self-2 c =
    let ts = c.txns.inside.list.items in
    let held : AreOpenPlaces (value_of c.self.inside.places) ts = subst (AreOpenPlaces (value_of c.self.inside.places)) (sym c.txns.view_is) c.self.invariant in
    let at : c.len-place.result ≡ length ts = omega (arith, c.len-place.ensures, c.txns.inside.list.ok.0) in
    let listed : c.push_reserved.new.self.items ≡ ts ++ transaction_by c.args.index c.args.op None ∷ [] =
    c.push_reserved.ensures.items ∙ ap (λ us. us ++ c.open.result ∷ []) c.in_ok-try_reserve.ensures.items ∙ ap (λ t. ts ++ t ∷ []) c.open.ensures in
    begun_places ts _ (value_of c.self.inside.places) (value_of c.insert.new.self) c.args.op c.args.index c.number.result c.len-place.result held (c.number.ensures.number ∙ c.process.ensures) at listed c.in_ok-insert.ensures.ok

pub returns-clause-ok : goal.returns-clause-ok
returns-clause-ok c events at is =
    let ts = c.txns.inside.list.items in
    let listed : c.push_reserved.new.self.items ≡ ts ++ transaction_by c.args.index c.args.op None ∷ [] =
    c.push_reserved.ensures.items ∙ ap (λ us. us ++ c.open.result ∷ []) c.in_ok-try_reserve.ensures.items ∙ ap (λ t. ts ++ t ∷ []) c.open.ensures in
    takes_invocation c.args.index c.args.op ts c.push_reserved.new.self.items c.requires.invoke listed events at (c.txns.view_is ∙ c.self.view_is ∙ is)
