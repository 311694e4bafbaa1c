use Rattle.std.proofs.Common.{◌≡◌, ◌<◌, List, length, map, flat_map, subst, ap, arith}
use Rattle.hist_types.specs.Phenomena.{bad_read, aborted_writers, aborted_reads}
use Rattle.hist_types.specs.Transactions.{Transaction}
use Rattle.dep_edges.specs.Reads.{aborted_in}
use Rattle.dep_edges.specs.Tables.{IsPlace}
use Rattle.dep_edges.proofs.Shown.{found_at_place, none_at_place, none_at_all}
use Rattle.dep_edges.proofs.Writers.{reads_by_transaction}
use Rattle.dep_edges.proofs.Ruled.{none_aborted}
use Rattle.dep_edges.proofs.bad_reads.first_aborted.Goals as goal

by_transaction : (ts : List Transaction) → aborted_reads ts ≡ flat_map (aborted_in ts) ts
by_transaction ts = reads_by_transaction (λ reader v. map (bad_read reader v) (aborted_writers ts v)) ts

pub returns-in-Some : goal.returns-in-Some
returns-in-Some c =
    let ts = c.args.history.now.txns in
    let below : IsPlace ts c.loop-place.place = subst (λ (us : List Transaction). c.loop-place.place < length us) c.txns-place-end.ensures.value c.loop-place-test.true in
    found_at_place (aborted_in ts) ts c.loop-place.place c.in-Some.read (aborted_reads ts) (by_transaction ts) below c.loop-place.invariant c.in-Some.ensures

pub loop-place-preserved : goal.loop-place-preserved
loop-place-preserved c =
    let ts = c.args.history.now.txns in
    let below : IsPlace ts c.loop-place.place = subst (λ (us : List Transaction). c.loop-place.place < length us) c.txns-place-end.ensures.value c.loop-place-test.true in
    none_at_place (aborted_in ts) ts c.loop-place.place below c.loop-place.invariant c.in_default.ensures

pub returns : goal.returns
returns c =
    let ts = c.args.history.now.txns in
    none_at_all (aborted_in ts) ts c.loop-place.place (aborted_reads ts) (by_transaction ts) (omega (arith, c.loop-place-test.false, ap (λ (us : List Transaction). length us) c.txns-place-end.ensures.value)) c.loop-place.invariant

pub returns-then-not-possible : goal.returns-then-not-possible
returns-then-not-possible c = none_aborted c.args.history.now.txns c.args.possible c.requires c.if-not-possible.true
