use Rattle.std.proofs.Common.{◌≡◌, ◌∙◌, true, false, length, Some, refl, sym, ap, subst}
use Rattle.std.specs.Prelude.{slice_get}
use Rattle.std.proofs.lemmas.Bool.{false≢true}
use Rattle.std.proofs.lemmas.Option.{get_or_from_slice_get, slice_get_read}
use Rattle.hist_types.specs.Transactions.{Transaction, is_ok}
use Rattle.key_versions.specs.LastSeen.{last_seen}
use Rattle.key_versions.specs.Steps.{firsts, seen_after, steps_to}
use Rattle.key_versions.specs.TxnAccesses.{TxnAccesses}
use Rattle.key_versions.proofs.Keeping.{seen_at}
use Rattle.clean_order.proofs.Accesses.{has_place, part_at}
use Rattle.serial_points.specs.Steps.{AddSteps}
use Rattle.serial_points.proofs.steps.Steps.after.Goals as goal

pub reads-requires : goal.reads-requires
reads-requires g c = has_place c.args.txns.now c.args.versions.now c.args.place c.requires.kept c.requires.place

pub writes-requires : goal.writes-requires
writes-requires g c = has_place c.args.txns.now c.args.versions.now c.args.place c.requires.kept c.requires.place

pub seen-requires : goal.seen-requires
seen-requires g c = has_place c.args.txns.now c.args.versions.now c.args.place c.requires.kept c.requires.place

pub take-requires : goal.take-requires
take-requires g c =
    let ts = c.args.txns.now in
    let kept = c.args.versions.now in
    let place = c.args.place in
    let t = c.index-txns-place.result in
    let at : slice_get ts place ≡ Some t = slice_get_read ts (length ts) place t refl c.requires.place c.index-txns-place.is in
    (seen_at ts kept c.requires.kept place (has_place ts kept place c.requires.kept c.requires.place) t at
    c.reads.result.now c.writes.result.now c.reads.ensures c.writes.ensures c.seen.result.now c.seen.ensures).of_keys
    (sym c.keys.ensures ∙ c.if-not-shows_steps.ensures.sequential refl) (c.if-not-shows_steps.ensures.ok refl)

pub returns : goal.returns
returns g c = λ sequential.
    let ts = c.args.txns.now in
    let accesses = c.args.versions.now.accesses in
    let place = c.args.place in
    let before = c.args.self in
    let own = c.index-txns-place.result in
    let is_own : (t : Transaction) → slice_get ts place ≡ Some t → own ≡ t = λ t at. c.index-txns-place.is ∙ get_or_from_slice_get ts place t own at in
    let reads : (a : TxnAccesses) → slice_get accesses place ≡ Some a → c.reads.result.now ≡ a.reads = λ a there. part_at (λ (x : TxnAccesses). x.reads) accesses place a c.reads.result.now c.reads.ensures there in
    let writes : (a : TxnAccesses) → slice_get accesses place ≡ Some a → c.writes.result.now ≡ a.writes = λ a there. part_at (λ (x : TxnAccesses). x.writes) accesses place a c.writes.result.now c.writes.ensures there in
    let seen : (a : TxnAccesses) → slice_get accesses place ≡ Some a → c.seen.result.now ≡ a.seen = λ a there. part_at (λ (x : TxnAccesses). x.seen) accesses place a c.seen.result.now c.seen.ensures there in
    let process : (t : Transaction) → slice_get ts place ≡ Some t → c.process.result ≡ t.process = λ t at. c.process.ensures ∙ ap (λ (x : Transaction). x.process) (is_own t at) in
    let ok : is_ok own ≡ true = c.if-not-shows_steps.ensures.ok refl in
    let other : (t : Transaction) → slice_get ts place ≡ Some t → is_ok t ≡ false → ⊥ = λ t at not_ok. false≢true (sym not_ok ∙ ap is_ok (sym (is_own t at)) ∙ ok) in
    let added = c.in_ok-add_all.ensures in
    record {
      stepped = λ t a at there is_ok. record {
        seen = λ one nil.
            subst (λ n. last_seen c.in_ok-seen.seen one nil ≡ seen_after n a.seen one nil (last_seen before.seen one nil)) (process t at)
            (subst (λ xs. last_seen c.in_ok-seen.seen one nil ≡ seen_after c.process.result xs one nil (last_seen before.seen one nil)) (seen a there) (c.in_ok-seen.ensures.last one nil));
        lists =
            subst (λ n. AddSteps before.lists c.add_all.new.self (steps_to (last_seen before.seen n) (firsts a.reads a.writes))) (process t at)
            (subst (λ xs. AddSteps before.lists c.add_all.new.self (steps_to (last_seen before.seen c.process.result) (firsts xs a.writes))) (reads a there)
            (subst (λ xs. AddSteps before.lists c.add_all.new.self (steps_to (last_seen before.seen c.process.result) (firsts c.reads.result.now xs))) (writes a there)
            (subst (AddSteps before.lists c.add_all.new.self) (c.as_slice.ensures.value ∙ c.in_ok-seen.ensures.steps)
            (record { stay_earlier = added.stay_earlier; stay_later = added.stay_later; there = added.there; only = added.only }))));
      };
      same_seen = λ t at not_ok. absurd (other t at not_ok);
      same_earlier = λ t at not_ok. absurd (other t at not_ok);
      same_later = λ t at not_ok. absurd (other t at not_ok);
    }
