use Rattle.std.proofs.Common.{◌≡◌, Bool, true, sym, ◌∙◌}
use Rattle.std.specs.Bool.{OnTrue}
use Rattle.std.proofs.lemmas.Result.{IfOk-weaker}
use Rattle.hist_types.specs.Phenomena.{stray}
use Rattle.hist_types.specs.declared.types.KeyOrder.TheVariants.{Basic}
use Rattle.clean_order.specs.CleanReads.{HasNoBadRead}
use Rattle.clean_order.specs.Shown.{HasSerialSchedule, ShowsNothing}
use Rattle.clean_order.proofs.Shown.{shows_nothing}
use Rattle.clean_order.proofs.replay.replays.Goals as goal

pub returns : goal.returns
returns g c =
    let ts = c.args.txns.now in
    let keys = c.args.versions.now.keys in
    let basic = sym c.keys.ensures ∙ c.in-Basic.is in
    IfOk-weaker c.replay.result (λ (done : Bool). done ≡ true → HasSerialSchedule Basic ts × HasNoBadRead ts × (stray ts ≡ 0)) (λ (clean : Bool). OnTrue clean (ShowsNothing keys ts))
    (λ done shown. shows_nothing keys Basic ts done basic shown) c.replay.ensures
