use Rattle.std.proofs.Common.{◌≡◌, ◌∙◌, ℕ, map, get_or, All, below_more, refl, sym, subst, arith}
use Rattle.std.specs.Prelude.{◌==◌}
use Rattle.std.proofs.lemmas.Bool.{false≢true, eq-eqb}
use Rattle.edge_graph.specs.declared.types.Dependencies.TheVariants.{Rw}
use Rattle.hist_types.proofs.Members.{in_from_Contains}
use Rattle.history_laws.proofs.ThinningPaths.{any_passes}
use Rattle.key_versions.specs.Histories.{read_by, followers_of}
use Rattle.key_versions.specs.declared.types.Follower.{Follower}
use Rattle.dep_edges.specs.Histories.{History}
use Rattle.dep_edges.specs.Tables.{IsNumber, later_in, txn_at, version_at}
use Rattle.cycle_find.specs.TwoDependencies.{IsPair, IsReader}
use Rattle.cycle_find.proofs.Mutual.{follower_listed, reads_listed, rw_end, two_otherwise}
use Rattle.cycle_find.proofs.two_dependencies.TwoDependencies.close_by.Goals as goal
use Rattle.cycle_find.proofs.two_dependencies.TwoDependencies.close_by.Goals.{then-to-from+then-is_among+in_ok-found+else-is_some, else-to-from, else-to-from-via-then-to-from+else-is_among, else-to-from-via-else-to-from}

abbrev nobody : Follower
nobody = record { txn = 0; version = 0 }

pub loop-follower-preserved : goal.loop-follower-preserved
loop-follower-preserved c =
    let search = c.args.self.now in
    let h = search.deps.now in
    let fs = c.followers-followers.result.now in
    let from = c.args.from in
    let other = c.args.other in
    let to = (get_or fs c.loop-follower.follower-index nobody).txn in
    let none = λ (v : ℕ). IsNumber h.table other → ¬ (from ≡ v) → IsReader h other v → ¬ IsPair search Rw from v in
    below_more (λ k. none (get_or fs k nobody).txn) c.loop-follower.follower-index c.loop-follower.invariant
    (elim c.if-to-from.branch [
      | then-to-from+then-is_among+in_ok-found+else-is_some w ↦ λ number apart reads.
          two_otherwise search (¬ IsPair search Rw from to) w.in_ok-found.found (sym w.is_some.ensures ∙ w.if-is_some.false) w.in_ok-found.ensures
      | else-to-from w ↦ elim w.else-to-from.branch [
        | else-to-from-via-then-to-from+else-is_among v ↦ λ number apart reads.
            let ns = v.reads.result.now in
            let told : map (version_at h.table) ns ≡ read_by (txn_at h.txns to) =
            subst (λ (h : History). map (version_at h.table) ns ≡ read_by (txn_at h.txns to)) c.history-history.ensures.history v.reads.ensures.value in
            let within : All (IsNumber h.table) ns = subst (λ (h : History). All (IsNumber h.table) ns) c.history-history.ensures.history v.reads.ensures.within in
            absurd (false≢true (sym v.if-is_among.false ∙ v.is_among.ensures ∙ any_passes (λ (m : ℕ). m == other) other ns
            (in_from_Contains other ns (reads_listed h c.history-history.ensures.kept c.history-history.ensures.versions to ns told within other number reads)) (eq-eqb other other refl)))
        | else-to-from-via-else-to-from v ↦ λ number apart reads. absurd (apart (omega (arith, v.if-to-from.false)))
      ]
    ])

pub returns-clause-found : goal.returns-clause-found
returns-clause-found c = λ number marked to way back pair.
    let search = c.args.self.now in
    let h = search.deps.now in
    let fs = c.followers-followers.result.now in
    let from = c.args.from in
    let version = c.args.version in
    let told : map (later_in h.table) fs ≡ followers_of h.table.keys h.txns (version_at h.table version) =
    subst (λ (h : History). map (later_in h.table) fs ≡ followers_of h.table.keys h.txns (version_at h.table version)) c.history-history.ensures.history c.followers-followers.ensures.value in
    let none = λ (v : ℕ). IsNumber h.table c.args.other → ¬ (from ≡ v) → IsReader h c.args.other v → ¬ IsPair search Rw from v in
    let (k, below, is) = follower_listed h version to fs told (rw_end h version to way.end) in
    subst none is (c.loop-follower.invariant k (omega (arith, below, c.loop-follower-test.false))) number way.other back.start pair
