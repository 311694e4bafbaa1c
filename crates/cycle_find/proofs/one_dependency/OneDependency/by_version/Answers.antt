use Rattle.std.proofs.Common.{◌<◌, ◌+◌, ℕ, arith, below_more, sym, subst}
use Rattle.std.proofs.lemmas.Bool.{OnFalse_at}
use Rattle.cycle_find.specs.OneDependency.{IsReadyForOne, AreClosingOr, NoneClosingBy}
use Rattle.cycle_find.specs.Tasks.{Task, needed_kinds}
use Rattle.cycle_find.proofs.RankedArcs.{arc_to_within}
use Rattle.cycle_find.proofs.Scanning.{or_weaker, or_if_none, or_both}
use Rattle.cycle_find.proofs.one_dependency.OneDependency.by_version.Goals as goal
use Rattle.cycle_find.proofs.one_dependency.OneDependency.by_version.Goals.{then-is_read_before+in_ok-note_followers, else-is_read_before}

pub loop-version-preserved : goal.loop-version-preserved
loop-version-preserved c =
    let task : Task = c.args.self.now in
    let version = c.loop-version.version in
    let Before : Type 0 = (v : ℕ) → v < version → NoneClosingBy task v in
    let Now : Type 0 = NoneClosingBy task version in
    let More : Type 0 = (v : ℕ) → v < version + 1 → NoneClosingBy task v in
    elim c.if-is_read_before.branch [
      | then-is_read_before+in_ok-note_followers w ↦
          subst (AreClosingOr task More) (sym w.first-is)
          (or_weaker task (Before × Now) More w.first_of-first.result (λ both. below_more (NoneClosingBy task) version both.0 both.1)
          (or_both task Before Now c.loop-version.first w.stale_reader.result w.first_of-first.result w.first_of-first.ensures c.loop-version.invariant w.stale_reader.ensures))
      | else-is_read_before w ↦
          subst (AreClosingOr task More) (sym w.first-is)
          (or_if_none task Before More c.loop-version.first
          (λ none before. below_more (NoneClosingBy task) version before (OnFalse_at w.if-is_read_before.false (c.is_read_before.ensures none))) c.loop-version.invariant)
    ]

pub returns : goal.returns
returns c =
    let a = c.self.inside in
    let task : Task = c.args.self.now in
    let ready : IsReadyForOne task a.needed = subst (λ task. IsReadyForOne task a.needed) c.self.view_is c.self.invariant in
    or_weaker task ((v : ℕ) → v < c.loop-version.version → NoneClosingBy task v) ((v : ℕ) → NoneClosingBy task v) c.loop-version.first
    (λ all v from to way.
    all v (omega (arith, c.loop-version-test.false, c.vertices-version-end.ensures, ready.needed_arcs.count, arc_to_within task.graph (needed_kinds task) from v way.reads)) from to way) c.loop-version.invariant
