use Rattle.std.proofs.Common.{◌≡◌, ◌∙◌, ℕ, List, All, map, sym, ap, subst}
use Rattle.std.proofs.lemmas.Bool.{OnTrue_at, OnTrue_from}
use Rattle.std.proofs.lemmas.List.Elements.{All-map, All-weaker}
use Rattle.hist_types.specs.Transactions.{Version}
use Rattle.key_versions.specs.Histories.{writer_of, readers_of, followers_of}
use Rattle.key_versions.specs.declared.types.Follower.{Follower}
use Rattle.dep_edges.specs.Histories.{History}
use Rattle.dep_edges.specs.Tables.{version_at, later_in}
use Rattle.clean_order.specs.Highest.{AreCounted, IsHigher, IsAbove}
use Rattle.clean_order.specs.AtVersions.{writers, counted, AreBefore, AreBeforeNode, KeepsAt}
use Rattle.clean_order.specs.declared.keeping.Highest.{Highest}
use Rattle.clean_order.proofs.keeping.keeps_at.Goals as goal

-- where those that are counted have lower numbers than each follower that is a node
to_followers :
    (h d : History) (v : Version) (numbers others places : List ℕ) (highest : Highest)
    (followers : List Follower)
    → d ≡ h
    → map (later_in h.table) followers ≡ followers_of h.table.keys h.txns v
    → AreCounted highest numbers places
    → All (λ (f : Follower). IsAbove d.txns others highest f.txn) followers
    → All (λ (p : ℕ × Version). AreBeforeNode h.txns numbers others places p.0)
    (followers_of h.table.keys h.txns v)
to_followers h d v numbers others places highest followers one are counts above =
    let Before : ℕ × Version → Type 0 = λ p. AreBeforeNode h.txns numbers others places p.0 in
    let Above : Follower → Type 0 = λ f. IsAbove h.txns others highest f.txn in
    let each : All Above followers =
    subst (λ (x : History). All (λ (f : Follower). IsAbove x.txns others highest f.txn) followers)
    one above in
    subst (All Before) are
    (All-map Before (later_in h.table) followers
    (All-weaker Above (λ f. Before (later_in h.table f))
    (λ f rises node k e within. rises node _ _ (counts k e within)) followers each))

pub returns-then-keeps_to_readers : goal.returns-then-keeps_to_readers
returns-then-keeps_to_readers c =
    let h : History = c.history-history.result.now in
    let d : History = c.args.deps.now in
    let kinds = c.args.kinds in
    let starts = c.args.starts.now in
    let commits = c.args.commits.now in
    let v = version_at h.table c.args.number in
    let read = c.highest_of-read.result in
    let written = c.highest_of_writer-written.result in
    let wrote : List ℕ = writers (writer_of h.txns v) in
    let by_writer : AreCounted written commits wrote =
    subst (λ o. AreCounted written commits (writers o)) c.writer.ensures.value
    c.highest_of_writer-written.ensures in
    let readers : List ℕ = readers_of h.txns v in
    let seen : c.readers-readers.result.now ≡ readers = c.readers-readers.ensures.value in
    let by_readers : AreCounted read starts (counted kinds.rw readers) =
    subst (AreCounted read starts) (c.counted.ensures ∙ ap (counted kinds.rw) seen)
    c.highest_of-read.ensures in
    let to_readers : All (IsHigher starts written) (counted kinds.wr readers) =
    subst (All (IsHigher starts written)) (c.counted-2.ensures ∙ ap (counted kinds.wr) seen)
    (OnTrue_at c.if-keeps_to_readers.true c.keeps_to_readers.ensures) in
    let followers = c.followers-followers.result.now in
    let are = c.followers-followers.ensures.value in
    let same : h ≡ d = c.history-history.ensures.history in
    OnTrue_from c.keeps_to_followers.result
    (KeepsAt d kinds starts commits (version_at d.table c.args.number)) (λ e.
    subst (λ (x : History). KeepsAt x kinds starts commits (version_at x.table c.args.number)) same
    (record {
      readers =
          All-weaker (IsHigher starts written) (AreBefore commits starts wrote)
          (λ reader higher k x within. higher _ _ (by_writer k x within)) (counted kinds.wr readers)
          to_readers;
      from_writer =
          to_followers h d v commits starts wrote written followers (sym same) are by_writer
          (OnTrue_at e c.keeps_to_followers.ensures.written);
      from_readers =
          to_followers h d v starts commits (counted kinds.rw readers) read followers (sym same) are
          by_readers (OnTrue_at e c.keeps_to_followers.ensures.read);
    }))
