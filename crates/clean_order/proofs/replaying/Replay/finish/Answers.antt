use Rattle.std.proofs.Common.{◌≡◌, ℕ, List, IsTrue, Some, arith, sym, subst}
use Rattle.std.specs.Prelude.{slice_get}
use Rattle.std.proofs.lemmas.Option.{slice_get_within}
use Rattle.hist_types.specs.Phenomena.{stray}
use Rattle.hist_types.specs.Transactions.{Transaction, Version, is_ok}
use Rattle.hist_types.specs.declared.types.KeyOrder.TheVariants.{Basic}
use Rattle.dep_edges.specs.Histories.{AreOfHistory}
use Rattle.clean_order.specs.CleanReads.{HasNoBadRead}
use Rattle.clean_order.specs.Replaying.{is_marked, IsReplaying}
use Rattle.clean_order.specs.Shown.{HasSerialSchedule}
use Rattle.clean_order.specs.declared.replaying.Replay.{Replay}
use Rattle.clean_order.proofs.Replayed.{replayed}
use Rattle.clean_order.proofs.replaying.Replay.finish.Goals as goal

abbrev AllPut : List Transaction → Replay → Type 0
AllPut ts replay = (k : ℕ) (t : Transaction) → slice_get ts k ≡ Some t → IsTrue (is_ok t) → IsTrue (is_marked replay.put.items k)

all_put :
    (ts : List Transaction) (versions : List Version) (replay : Replay)
    → AreOfHistory ts
    → AllPut ts replay
    → IsReplaying ts versions replay
    → HasSerialSchedule Basic ts × HasNoBadRead ts × (stray ts ≡ 0)
all_put ts versions replay (events, rules, of) =
    subst (λ us. AllPut us replay → IsReplaying us versions replay → HasSerialSchedule Basic us × HasNoBadRead us × (stray us ≡ 0)) (sym of)
    (λ all (point, r). replayed events rules versions replay point all r)

pub returns : goal.returns
returns c = λ versions _ r.
    let ts = c.args.txns.now in
    all_put ts versions c.args.self.now c.requires
    (λ k t at ok.
    let within = slice_get_within ts k t at in
    c.loop-place.invariant k t (omega arith) at ok) r
