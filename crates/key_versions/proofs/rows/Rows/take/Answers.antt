use Rattle.std.proofs.Common.{◌≡◌, ◌≤◌, ◌∙◌, ◌++◌, ◌∷◌, [], List, All, length, map, sym, ap, subst}
use Rattle.hist_types.specs.Journal.{writes_of}
use Rattle.hist_types.specs.Transactions.{version_of}
use Rattle.key_versions.specs.Histories.{read_by}
use Rattle.key_versions.specs.Rows.{Known, Accessed, accessed, rows_after, grown}
use Rattle.key_versions.specs.Steps.{FollowersAreUpTo}
use Rattle.key_versions.proofs.Sequenced.{rows_up_to}
use Rattle.key_versions.proofs.UpTo.{up_to_grown}
use Rattle.key_versions.proofs.Told.{accesses_within, grown_enough, told}
use Rattle.key_versions.proofs.rows.Rows.take.Goals.{In_ok-grow}
use Rattle.key_versions.proofs.rows.Rows.take.Goals as goal

enough : (c : In_ok-grow) → c.args.versions ≤ length c.grow.new.self.rows
enough c = subst (λ (xs : List Known). c.args.versions ≤ length xs) (sym c.in_ok-grow.ensures.rows) (grown_enough c.args.versions c.args.self.now.rows)

pub add-requires-clause-reads : goal.add-requires-clause-reads
add-requires-clause-reads c =
    let (given, before, after, ts, t, is, adds, has) = c.requires in
    let rows = length c.grow.new.self.rows in
    accesses_within after (read_by t) c.args.reads.now rows (subst (λ n. n ≤ rows) adds.count (enough (goal.at.add-requires-clause-reads c).In_ok-grow)) has.reads

pub add-requires-clause-writes : goal.add-requires-clause-writes
add-requires-clause-writes c =
    let (given, before, after, ts, t, is, adds, has) = c.requires in
    let rows = length c.grow.new.self.rows in
    accesses_within after (map version_of (writes_of t.mops)) c.args.writes.now rows (subst (λ n. n ≤ rows) adds.count (enough (goal.at.add-requires-clause-writes c).In_ok-grow)) has.writes

pub add-requires-clause-order : goal.add-requires-clause-order
add-requires-clause-order c =
    let (given, before, after, ts, t, is, adds, has) = c.requires in
    let rows = c.args.self.now.rows in
    let accesses = c.args.self.now.accesses in
    subst (λ (ks : List Known). All (FollowersAreUpTo (length c.grow.new.self.accesses)) ks) (sym c.in_ok-grow.ensures.rows)
    (subst (λ (as1 : List Accessed). All (FollowersAreUpTo (length as1)) (grown c.args.versions rows)) (sym c.in_ok-grow.ensures.accesses)
    (up_to_grown (length accesses) c.args.versions rows (rows_up_to given ts before rows accesses is)))

pub returns : goal.returns
returns c = λ given before after ts t is adds has.
    let rows = c.args.self.now.rows in
    let accesses = c.args.self.now.accesses in
    let rs = c.args.reads.now in
    let ws = c.args.writes.now in
    let rows_now : c.add.new.self.rows ≡ rows_after (length accesses) rs ws (grown (length after) rows) =
    c.in_ok-add.ensures.rows
    ∙ ap (λ (as1 : List Accessed). rows_after (length as1) rs ws c.grow.new.self.rows) c.in_ok-grow.ensures.accesses
    ∙ ap (rows_after (length accesses) rs ws) (c.in_ok-grow.ensures.rows ∙ ap (λ n. grown n rows) adds.count) in
    let accesses_now : c.add.new.self.accesses ≡ accesses ++ accessed rs ws ∷ [] =
    c.in_ok-add.ensures.accesses ∙ ap (λ (as1 : List Accessed). as1 ++ accessed rs ws ∷ []) c.in_ok-grow.ensures.accesses in
    rw (rows_now, accesses_now) (told given ts t before after rows accesses rs ws is adds.versions has.reads has.writes)
