use Rattle.std.proofs.Common.{◌∙◌, List, Option, sym, subst}
use Rattle.std.specs.Prelude.{IfSome}
use Rattle.hist_types.specs.Transactions.{Transaction}
use Rattle.key_versions.specs.Kept.{AreKept}
use Rattle.serial_points.specs.KeptPoints.{KeptPoints, HasPoints}
use Rattle.verdict.proofs.Growing.{changed_at}
use Rattle.verdict.proofs.OneEvent.{await}
use Rattle.verdict.proofs.analysis.TablesSoFar.update.Goals as goal

pub update_versions-requires : goal.update_versions-requires
update_versions-requires g c =
    let (events, event, is) = c.requires in
    let now = c.as_slice-txns.result.now in
    let changes = changed_at events event c.args.place c.args.self.now now c.index-txns-place.result is (c.as_slice-txns.ensures ∙ c.txns.ensures) c.index-txns-place.is in
    (events, event, now, changes, is.versions)

pub points_after-requires : goal.points_after-requires
points_after-requires g c =
    let (events, event, is) = c.requires in
    let now = c.as_slice-txns.result.now in
    let before = c.args.self.now.versions in
    let changes = changed_at events event c.args.place c.args.self.now now c.index-txns-place.result is (c.as_slice-txns.ensures ∙ c.txns.ensures) c.index-txns-place.is in
    let versions = c.in_ok-update_versions.ensures.kept events event now changes is.versions in
    let points = subst (λ (ps : Option KeptPoints). IfSome ps (HasPoints events before)) (sym c.take-points.ensures.value) is.points in
    (events, event, before, await events event now c.args.place _ before c.update_versions.new.versions c.take-points.result changes versions c.in_ok-update_versions.ensures.others c.in_ok-update_versions.ensures.numbers c.in_ok-update_versions.ensures.keys points)

pub returns-clause-tables : goal.returns-clause-tables
returns-clause-tables g c = λ events event is.
    let now = c.as_slice-txns.result.now in
    let same = c.as_slice-txns.ensures ∙ c.txns.ensures in
    let before = c.args.self.now.versions in
    let changes = changed_at events event c.args.place c.args.self.now now c.index-txns-place.result is same c.index-txns-place.is in
    let versions = c.in_ok-update_versions.ensures.kept events event now changes is.versions in
    let points = subst (λ (ps : Option KeptPoints). IfSome ps (HasPoints events before)) (sym c.take-points.ensures.value) is.points in
    let next = await events event now c.args.place _ before c.update_versions.new.versions c.take-points.result changes versions c.in_ok-update_versions.ensures.others c.in_ok-update_versions.ensures.numbers c.in_ok-update_versions.ensures.keys points in
    record {
      rules = changes.rules;
      number = is.number;
      txns = sym same ∙ changes.txns;
      versions = subst (λ (ts : List Transaction). AreKept ts c.update_versions.new.versions) same versions;
      order = c.in_ok-update_order.ensures events event now c.args.place changes is.order;
      points = c.in_ok-self.ensures events event before next;
    }
