use Rattle.std.proofs.Common.{◌≡◌, ◌∙◌, ℕ, get_or, arith, below_more, sym, subst, ap}
use Rattle.hist_types.specs.Transactions.{Transaction}
use Rattle.dep_edges.specs.Tables.{txn_at}
use Rattle.cycle_find.specs.Completions.{lane_of, IsKnownBy}
use Rattle.cycle_find.specs.OneDependency.{NoneClosingFromBy}
use Rattle.cycle_find.specs.Tasks.{Task}
use Rattle.cycle_find.proofs.Scanning.{or_otherwise, known_before, AreReaders, reader_leads, none_by}
use Rattle.cycle_find.proofs.one_dependency.OneDependency.stale_reader.Goals as goal
use Rattle.cycle_find.proofs.one_dependency.OneDependency.stale_reader.Goals.{then-is_known_by+else-is_some, else-is_known_by}

pub follower_before-found-requires-clause-reads : goal.follower_before-found-requires-clause-reads
follower_before-found-requires-clause-reads c =
    let task : Task = c.args.self.now in
    let readers : AreReaders task.graph c.args.version c.readers-place-items.result.now =
    subst (λ (task : Task). AreReaders task.graph c.args.version c.readers-place-items.result.now) c.self.view_is c.readers-place-items.ensures.readers in
    reader_leads task c.args.version c.loop-place.place-index c.readers-place-items.result.now c.requires.rw readers c.loop-place-test.true

pub loop-place-preserved : goal.loop-place-preserved
loop-place-preserved c =
    let a = c.self.inside in
    let task : Task = c.args.self.now in
    let version = c.args.version in
    let places = c.readers-place-items.result.now in
    let place = c.loop-place.place-index in
    let from = get_or places place 0 in
    let none = λ (k : ℕ). NoneClosingFromBy task (get_or places k 0) version in
    let reader : c.txn-reader.result.now ≡ txn_at task.graph.txns from = c.txn-reader.ensures ∙ ap (λ (t : Task). txn_at t.graph.txns from) c.self.view_is in
    let lane : c.lane.result ≡ lane_of task.level (txn_at task.graph.txns from) =
    c.lane.ensures ∙ ap (λ (t : Task). lane_of t.level c.txn-reader.result.now) c.self.view_is ∙ ap (lane_of task.level) reader in
    let invocation : c.invocation.result ≡ (txn_at task.graph.txns from).invocation = c.invocation.ensures ∙ ap (λ (t : Transaction). t.invocation) reader in
    below_more none place c.loop-place.invariant
    (elim c.if-is_known_by.branch [
      | then-is_known_by+else-is_some w ↦
          or_otherwise task (none place) w.follower_before-found.result (sym w.is_some.ensures ∙ w.if-is_some.false) w.follower_before-found.ensures
      | else-is_known_by w ↦ λ to way before.
          w.if-is_known_by.ensures.unknown
          (subst (λ index. IsKnownBy c.args.earliest.now version c.lane.result index) (sym invocation)
          (subst (λ lane. IsKnownBy c.args.earliest.now version lane (txn_at task.graph.txns from).invocation) (sym lane)
          (known_before task version from to c.args.earliest.now c.requires.known way.follows before)))
    ])

pub returns : goal.returns
returns c =
    let task : Task = c.args.self.now in
    let places = c.readers-place-items.result.now in
    let readers : AreReaders task.graph c.args.version places =
    subst (λ (task : Task). AreReaders task.graph c.args.version places) c.self.view_is c.readers-place-items.ensures.readers in
    none_by task c.args.version places c.requires.rw readers (λ k h. c.loop-place.invariant k (omega (arith, h, c.loop-place-test.false)))
