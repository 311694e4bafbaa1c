use Rattle.std.proofs.Common.{◌≡◌, ◌∙◌, List, sym, ap, subst, length, All}
use Rattle.key_versions.specs.declared.pending.Access.{Access}
use Rattle.key_versions.specs.Rows.{Known, IsWithin, lasts}
use Rattle.key_versions.specs.Steps.{FollowersAreUpTo}
use Rattle.key_versions.proofs.Changed.{lasts_within, length-written, length-installed}
use Rattle.key_versions.proofs.UpTo.{up_to_written, up_to_installed}
use Rattle.key_versions.proofs.rows.Rows.add.Goals as goal

pub add_installs-requires-clause-within : goal.add_installs-requires-clause-within
add_installs-requires-clause-within c =
    let installs : c.as_slice-installs.result.now ≡ lasts c.args.writes.now = c.as_slice-installs.ensures.value ∙ c.in_ok-add_writes.ensures.installs in
    let rows : length c.add_writes.new.rows ≡ length c.args.self.now.rows = ap length c.in_ok-add_writes.ensures.rows ∙ length-written _ c.args.self.now.rows c.args.writes.now in
    subst (λ n. All (IsWithin n) c.as_slice-installs.result.now) (sym rows)
    (subst (λ (ws : List Access). All (IsWithin (length c.args.self.now.rows)) ws) (sym installs) (lasts_within (length c.args.self.now.rows) c.args.writes.now c.requires.writes))

pub add_reads-requires-clause-within : goal.add_reads-requires-clause-within
add_reads-requires-clause-within c =
    let rows : length c.add_writes.new.rows ≡ length c.args.self.now.rows = ap length c.in_ok-add_writes.ensures.rows ∙ length-written _ c.args.self.now.rows c.args.writes.now in
    let same : length c.add_installs.new.rows ≡ length c.args.self.now.rows = ap length c.in_ok-add_installs.ensures ∙ length-installed _ c.add_writes.new.rows c.as_slice-installs.result.now ∙ rows in
    subst (λ n. All (IsWithin n) c.args.reads.now) (sym same) c.requires.reads

pub add_installs-requires-clause-order : goal.add_installs-requires-clause-order
add_installs-requires-clause-order c =
    let place = c.in_ok-place.place in
    let rows = c.args.self.now.rows in
    let at : place ≡ length c.args.self.now.accesses = c.in_ok-place.ensures ∙ c.len.ensures in
    subst (λ (ks : List Known). All (FollowersAreUpTo place) ks) (sym c.in_ok-add_writes.ensures.rows)
    (up_to_written place rows c.args.writes.now (subst (λ n. All (FollowersAreUpTo n) rows) (sym at) c.requires.order))

pub add_reads-requires-clause-order : goal.add_reads-requires-clause-order
add_reads-requires-clause-order c =
    let place = c.in_ok-place.place in
    let rows = c.args.self.now.rows in
    let at : place ≡ length c.args.self.now.accesses = c.in_ok-place.ensures ∙ c.len.ensures in
    subst (λ (ks : List Known). All (FollowersAreUpTo place) ks) (sym c.in_ok-add_installs.ensures)
    (up_to_installed place c.add_writes.new.rows c.as_slice-installs.result.now
    (subst (λ (ks : List Known). All (FollowersAreUpTo place) ks) (sym c.in_ok-add_writes.ensures.rows)
    (up_to_written place rows c.args.writes.now (subst (λ n. All (FollowersAreUpTo n) rows) (sym at) c.requires.order))))
