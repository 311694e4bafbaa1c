use Rattle.std.proofs.Common.{◌≡◌, ◌∙◌, ◌<◌, ◌+◌, ◌++◌, ◌∷◌, [], List, Some, length, take, sym, ap, subst, arith}
use Rattle.std.specs.Prelude.{slice_get}
use Rattle.std.proofs.lemmas.List.{take_all}
use Rattle.hist_types.specs.Transactions.{Transaction}
use Rattle.key_versions.specs.Given.{IsTableBeside}
use Rattle.key_versions.specs.Kept.{KeptVersions, AreKept}
use Rattle.key_versions.specs.Numbering.{versions_of}
use Rattle.key_versions.specs.TxnAccesses.{AddsNamed, AreAccessesOf}
use Rattle.key_versions.specs.Views.{table_by}
use Rattle.key_versions.proofs.Keeping.{kept_by, have_count, take_next, transaction_at, names_known, accesses_at}
use Rattle.key_versions.proofs.kept.KeptVersions.rows.Given.{Over}
use Rattle.key_versions.proofs.kept.KeptVersions.rows.Goals.{After-writes}
use Rattle.key_versions.proofs.kept.KeptVersions.rows.Goals as goal

-- the next transaction, and what is known of those before it
next : (g : Over) (c : After-writes g) (ts : List Transaction) → AreKept ts c.args.self.now
    → (t : Transaction)
    × (slice_get ts c.loop-place.place ≡ Some t)
    × IsTableBeside (versions_of c.self.inside.numbering) (take c.loop-place.place ts) (table_by (versions_of c.self.inside.numbering) c.loop-place.rows.rows c.loop-place.rows.accesses)
    × AddsNamed (versions_of c.self.inside.numbering) (versions_of c.self.inside.numbering) c.len-versions.result t
    × AreAccessesOf (versions_of c.self.inside.numbering) t c.reads.result.now c.writes.result.now
next g c ts is =
    let kept = kept_by c.self.inside.keys (versions_of c.self.inside.numbering) c.self.inside.accesses in
    let place = c.loop-place.place in
    let old : AreKept ts kept = subst (AreKept ts) (sym c.self.view_is) is in
    let below : place < length kept.accesses = subst (λ n. place < n) c.len-place-end.ensures c.loop-place-test.true in
    let (t, at) = transaction_at ts kept old place below in (
      t,
      at,
      subst (λ (k : KeptVersions). IsTableBeside k.versions (take place ts) (table_by k.versions c.loop-place.rows.rows c.loop-place.rows.accesses)) (sym c.self.view_is) (c.loop-place.invariant ts is),
      names_known ts kept old place below t at c.len-versions.result c.len-versions.ensures,
      accesses_at ts kept old place below t at c.reads.result.now c.writes.result.now c.reads.ensures c.writes.ensures,
    )

pub take-requires : goal.take-requires
take-requires g c =
    let (ts, is) = c.requires in
    let vs = versions_of c.self.inside.numbering in
    let (t, at, so_far, names, accesses) = next g (goal.at.take-requires g c).After-writes ts is in
    (vs, vs, vs, take c.loop-place.place ts, t, so_far, names, accesses)

pub loop-place-preserved : goal.loop-place-preserved
loop-place-preserved g c = λ ts is.
    let vs = versions_of c.self.inside.numbering in
    let place = c.loop-place.place in
    let (t, at, so_far, names, accesses) = next g (goal.at.loop-place-preserved g c).After-writes ts is in
    let more : IsTableBeside vs (take place ts ++ t ∷ []) (table_by vs c.take.new.self.rows c.take.new.self.accesses) =
    c.in_ok-take.ensures vs vs vs (take place ts) t so_far names accesses in
    subst (λ (k : KeptVersions). IsTableBeside k.versions (take (place + 1) ts) (table_by k.versions c.take.new.self.rows c.take.new.self.accesses)) c.self.view_is
    (subst (λ (us : List Transaction). IsTableBeside vs us (table_by vs c.take.new.self.rows c.take.new.self.accesses)) (sym (take_next ts place t at)) more)

pub loop-place-init : goal.loop-place-init
loop-place-init g c = λ ts is.
    let count : c.len-versions.result ≡ length c.args.self.now.versions = c.len-versions.ensures ∙ ap (λ (k : KeptVersions). length k.versions) c.self.view_is in
    c.in_ok-rows.ensures c.args.self.now.versions is.distinct count

pub returns : goal.returns
returns g c = λ ts is.
    let vs = versions_of c.self.inside.numbering in
    let accesses = c.self.inside.accesses in
    let place = c.loop-place.place in
    let old : AreKept ts (kept_by c.self.inside.keys vs accesses) = subst (AreKept ts) (sym c.self.view_is) is in
    let count = have_count c.self.inside.keys vs ts accesses old.accesses in
    let end = c.len-place-end.ensures in
    let last = c.loop-place-test.false in
    let whole : take place ts ≡ ts = take_all place ts (omega arith) in
    subst (λ (us : List Transaction). IsTableBeside c.args.self.now.versions us (table_by c.args.self.now.versions c.loop-place.rows.rows c.loop-place.rows.accesses)) whole
    (c.loop-place.invariant ts is)
