use Rattle.std.proofs.Common.{◌≡◌, ◌∙◌, ◌<◌, ◌+◌, length, set, true, false, All, refl, sym, ap, subst, arith}
use Rattle.std.specs.Prelude.{slice_get, Some}
use Rattle.std.proofs.lemmas.List.{get_or_read}
use Rattle.std.proofs.lemmas.Option.{slice_get_read}
use Rattle.key_versions.specs.TxnAccesses.{TxnAccesses}
use Rattle.clean_order.specs.Replaying.{is_marked, IsReadable, AreKeysMarked, AreUpdatedMarked, MarkInstalled}
use Rattle.clean_order.proofs.Accesses.{has_accesses, has_place, part_at}
use Rattle.clean_order.proofs.PutAfter.{put_after}
use Rattle.clean_order.proofs.replaying.Replay.put.Goals as goal

pub writes-requires : goal.writes-requires
writes-requires g c = has_place c.args.txns.now c.args.versions.now c.args.place c.requires.kept c.requires.place

pub returns : goal.returns
returns g c = λ passed replaying.
    let (point, r) = replaying in
    let ts = c.args.txns.now in
    let kept = c.args.versions.now in
    let place = c.args.place in
    let before = c.args.self.now in
    let after = c.mark.new.self in
    let t = c.index-txns-place.result in
    let at : slice_get ts place ≡ Some t = slice_get_read ts (length ts) place t refl c.requires.place c.index-txns-place.is in
    let (a, there) = has_accesses ts kept place t c.requires.kept at in
    let same_reads = part_at (λ (x : TxnAccesses). x.reads) kept.accesses place a c.args.reads.now c.requires.reads there in
    let same_writes = part_at (λ (x : TxnAccesses). x.writes) kept.accesses place a c.writes.result.now c.writes.ensures there in
    let within : place < length before.put.items = omega (arith, c.len.ensures) in
    let mark : c.index.result.now ≡ is_marked before.put.items place = get_or_read before.put.items place c.index.result.now within c.index.ensures false in
    let marks : after.put.items ≡ set before.put.items place true = ap (λ (v : _). v.items) c.mark.ensures.put in
    let more : after.next ≡ before.next + 1 = (let sum = c.in-Some.ensures in c.mark.ensures.next ∙ sum.1) in
    put_after ts kept c.requires.kept before after point place t a at there (sym mark ∙ c.if-index.false) within marks more (sym c.is_failed.ensures ∙ c.if-is_failed.false)
    (c.is_in_time.ensures.begun c.if-not-is_in_time.false)
    (c.is_in_time.ensures.ended c.if-not-is_in_time.false)
    (subst (All (IsReadable before.written before.followed)) same_reads c.requires.readable)
    (subst (AreKeysMarked after.followed) same_writes (c.mark.ensures.keys passed))
    (subst (λ reads. AreUpdatedMarked after.followed reads a.writes) same_reads
    (subst (λ writes. AreUpdatedMarked after.followed c.args.reads.now writes) same_writes (c.mark.ensures.updated passed)))
    c.mark.ensures.stay
    (subst (MarkInstalled before.written after.written) same_writes c.mark.ensures.written)
    r
