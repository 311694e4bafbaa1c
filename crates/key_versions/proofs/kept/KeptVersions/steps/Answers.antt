use Rattle.std.proofs.Common.{◌≡◌, ◌∙◌, ◌+◌, ◌++◌, ◌∷◌, [], List, Some, length, take, refl, sym, ap, subst}
use Rattle.std.specs.Prelude.{slice_get}
use Rattle.std.proofs.lemmas.Option.{slice_get_read}
use Rattle.hist_types.specs.Transactions.{Transaction}
use Rattle.hist_types.specs.declared.types.KeyOrder.{KeyOrder}
use Rattle.hist_types.specs.declared.types.KeyOrder.TheVariants.{Sequential}
use Rattle.key_versions.specs.Kept.{KeptVersions, AreKept}
use Rattle.key_versions.specs.Numbering.{versions_of}
use Rattle.key_versions.specs.Stepped.{AreStepsOf}
use Rattle.key_versions.specs.LastSeen.{last_seen}
use Rattle.key_versions.specs.TxnAccesses.{AreAccessesOf, AreSeenBy}
use Rattle.key_versions.proofs.Keeping.{kept_by, accesses_within, take_next, accesses_at, seen_at}
use Rattle.key_versions.proofs.kept.KeptVersions.steps.Given.{Over}
use Rattle.key_versions.proofs.kept.KeptVersions.steps.Goals.{After-seen}
use Rattle.key_versions.proofs.kept.KeptVersions.steps.Goals as goal

pub reads-requires : goal.reads-requires
reads-requires g c =
    accesses_within c.args.txns.now (kept_by c.self.inside.keys (versions_of c.self.inside.numbering) c.self.inside.accesses) c.args.self.now c.loop-place.place c.self.view_is c.requires.kept c.loop-place-test.true

pub writes-requires : goal.writes-requires
writes-requires g c =
    accesses_within c.args.txns.now (kept_by c.self.inside.keys (versions_of c.self.inside.numbering) c.self.inside.accesses) c.args.self.now c.loop-place.place c.self.view_is c.requires.kept c.loop-place-test.true

pub seen-requires : goal.seen-requires
seen-requires g c =
    accesses_within c.args.txns.now (kept_by c.self.inside.keys (versions_of c.self.inside.numbering) c.self.inside.accesses) c.args.self.now c.loop-place.place c.self.view_is c.requires.kept c.loop-place-test.true

-- the accesses of the next transaction
next : (g : Over) (c : After-seen g)
    → (slice_get c.args.txns.now c.loop-place.place ≡ Some c.index-txns-place.result)
    × AreAccessesOf (versions_of c.self.inside.numbering) c.index-txns-place.result c.reads.result.now c.writes.result.now
    × AreSeenBy Sequential (versions_of c.self.inside.numbering) c.index-txns-place.result c.reads.result.now c.writes.result.now c.seen.result.now
next g c =
    let ts = c.args.txns.now in
    let vs = versions_of c.self.inside.numbering in
    let kept = kept_by c.self.inside.keys vs c.self.inside.accesses in
    let place = c.loop-place.place in
    let t = c.index-txns-place.result in
    let old : AreKept ts kept = subst (AreKept ts) (sym c.self.view_is) c.requires.kept in
    let below = accesses_within ts kept c.args.self.now place c.self.view_is c.requires.kept c.loop-place-test.true in
    let at : slice_get ts place ≡ Some t = slice_get_read ts (length ts) place t refl c.loop-place-test.true c.index-txns-place.is in
    let keys : c.self.inside.keys ≡ Sequential = ap (λ (k : KeptVersions). k.keys) c.self.view_is ∙ c.requires.keys in (
      at,
      accesses_at ts kept old place below t at c.reads.result.now c.writes.result.now c.reads.ensures c.writes.ensures,
      subst (λ (order : KeyOrder). AreSeenBy order vs t c.reads.result.now c.writes.result.now c.seen.result.now) keys
          (seen_at ts kept old place below t at c.reads.result.now c.writes.result.now c.reads.ensures c.writes.ensures c.seen.result.now c.seen.ensures),
    )

pub take-requires : goal.take-requires
take-requires g c = (versions_of c.self.inside.numbering, (next g (goal.at.take-requires g c).After-seen).2)

pub loop-place-preserved : goal.loop-place-preserved
loop-place-preserved g c =
    let ts = c.args.txns.now in
    let vs = versions_of c.self.inside.numbering in
    let place = c.loop-place.place in
    let t = c.index-txns-place.result in
    let old : AreKept ts (kept_by c.self.inside.keys vs c.self.inside.accesses) = subst (AreKept ts) (sym c.self.view_is) c.requires.kept in
    let (at, accesses, seen) = next g (goal.at.loop-place-preserved g c).After-seen in
    let so_far : AreStepsOf vs (take place ts) (last_seen c.loop-place.steps.last) c.loop-place.steps.taken.items =
    subst (λ (k : KeptVersions). AreStepsOf k.versions (take place ts) (last_seen c.loop-place.steps.last) c.loop-place.steps.taken.items) (sym c.self.view_is) c.loop-place.invariant in
    let more : AreStepsOf vs (take place ts ++ t ∷ []) (last_seen c.take.new.self.last) c.take.new.self.taken.items =
    c.in_ok-take.ensures vs (take place ts) old.distinct so_far accesses seen in
    subst (λ (k : KeptVersions). AreStepsOf k.versions (take (place + 1) ts) (last_seen c.take.new.self.last) c.take.new.self.taken.items) c.self.view_is
    (subst (λ (us : List Transaction). AreStepsOf vs us (last_seen c.take.new.self.last) c.take.new.self.taken.items) (sym (take_next ts place t at)) more)
