-- The ok transactions so far are put.
use Rattle.std.proofs.Common.{◌≡◌, ℕ, ◌<◌, IsTrue, Some}
use Rattle.std.specs.Prelude.{slice_get}
use Rattle.hist_types.specs.Transactions.{Transaction, is_ok}
use Rattle.clean_order.specs.Replaying.{is_marked}
use Rattle.clean_order.proofs.replaying.Replay.finish.Given as goal

abbrev pub invariant-loop-place : goal.invariant-loop-place
invariant-loop-place l =
    (k : ℕ) (t : Transaction)
    → k < l.place
    → slice_get l.txns k ≡ Some t
    → IsTrue (is_ok t)
    → IsTrue (is_marked l.self.put.items k)
