use Rattle.std.proofs.Common.{◌≡◌, Bool, true}
use Rattle.std.proofs.lemmas.Result.{IfOk-weaker}
use Rattle.clean_order.specs.Replaying.{IsReplaying}
use Rattle.clean_order.proofs.replay.put_by_end.Goals as goal

pub returns : goal.returns
returns g c =
    let ts = c.args.txns.now in
    let versions = c.args.versions.now.versions in
    IfOk-weaker c.put_in_turn.result
    (λ (done : Bool). done ≡ true → IsReplaying ts versions c.reach.new.self → IsReplaying ts versions c.put_in_turn.new.replay)
    (λ (done : Bool). done ≡ true → IsReplaying ts versions c.args.replay.now → IsReplaying ts versions c.put_in_turn.new.replay)
    (λ done goes_on is replaying. goes_on is (c.reach.ensures ts versions replaying)) c.put_in_turn.ensures
