use Rattle.std.proofs.Common.{◌≡◌, ◌∙◌, ◌++◌, ◌+◌, ◌∷◌, [], List, take, drop, sym, ap, subst}
use Rattle.std.proofs.lemmas.List.{take_more, drop_more}
use Rattle.hist_types.specs.Journal.{writes_of}
use Rattle.hist_types.specs.Transactions.{Transaction}
use Rattle.history_laws.specs.Writers.{writes_of_all}
use Rattle.key_versions.specs.Given.{AreKeptBeside, HaveNumbers}
use Rattle.key_versions.specs.declared.write_numbers.WriteNumbers.{WriteNumbers}
use Rattle.key_versions.proofs.WriteNumbers.{numbers_stay, numbers_before, numbers_behind}
use Rattle.key_versions.proofs.kept.KeptVersions.take_all.Goals as goal

pub take-requires-clause-kept : goal.take-requires-clause-kept
take-requires-clause-kept g c = (c.args.self.now.versions, take c.loop-txn.txn-index c.args.txns.now, c.loop-txn.invariant.0)

pub take-requires-clause-numbers : goal.take-requires-clause-numbers
take-requires-clause-numbers g c =
    let i = c.loop-txn.txn-index in
    let txns = c.args.txns.now in
    let t = c.txn-item.result in
    let vs = c.loop-txn.self.versions in
    let left : drop i txns ≡ t ∷ drop (i + 1) txns =
    drop_more txns i t c.loop-txn-test.true ∙ ap (λ (u : Transaction). u ∷ drop (i + 1) txns) (sym c.txn-item.is) in
    numbers_before c.loop-txn.next vs (writes_of t.mops) (writes_of_all (drop (i + 1) txns))
    (subst (λ (ts : List Transaction). HaveNumbers c.loop-txn.next vs (writes_of_all ts)) left c.loop-txn.invariant.2)

pub loop-txn-preserved : goal.loop-txn-preserved
loop-txn-preserved g c =
    let i = c.loop-txn.txn-index in
    let txns = c.args.txns.now in
    let t = c.txn-item.result in
    let given = c.args.self.now.versions in
    let vs = c.loop-txn.self.versions in
    let us = c.take.new.self.versions in
    let rest = writes_of_all (drop (i + 1) txns) in
    let more : take (i + 1) txns ≡ take i txns ++ t ∷ [] =
    take_more txns i t c.loop-txn-test.true ∙ ap (λ (u : Transaction). take i txns ++ u ∷ []) (sym c.txn-item.is) in
    let left : drop i txns ≡ t ∷ drop (i + 1) txns =
    drop_more txns i t c.loop-txn-test.true ∙ ap (λ (u : Transaction). u ∷ drop (i + 1) txns) (sym c.txn-item.is) in
    let here : HaveNumbers c.loop-txn.next vs (writes_of t.mops ++ rest) =
    subst (λ (ts : List Transaction). HaveNumbers c.loop-txn.next vs (writes_of_all ts)) left c.loop-txn.invariant.2 in
    let still = numbers_stay c.loop-txn.next vs us c.in_ok-writes.ensures.numbers (writes_of t.mops ++ rest) here in (
      subst (λ (ts : List Transaction). AreKeptBeside given ts c.take.new.self) (sym more) (c.in_ok-writes.ensures.kept given (take i txns) c.loop-txn.invariant.0),
      c.in_ok-writes.ensures.keys ∙ c.loop-txn.invariant.1,
      subst (λ (n : WriteNumbers). HaveNumbers n us rest) (sym c.in_ok-next.ensures)
          (numbers_behind c.loop-txn.next us (writes_of t.mops) rest c.in_ok-writes.writes c.in_ok-writes.ensures.writes still),
    )
