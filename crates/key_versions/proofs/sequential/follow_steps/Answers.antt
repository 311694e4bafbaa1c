use Rattle.std.proofs.Common.{◌≡◌, ◌∙◌, ℕ, List, All, length, sym, ap, subst}
use Rattle.flat_groups.specs.Groups.{groups_from, IsNumbered}
use Rattle.hist_types.specs.Versions.{process_pairs}
use Rattle.hist_types.specs.declared.types.KeyOrder.TheVariants.{Sequential}
use Rattle.key_versions.specs.Rows.{Known}
use Rattle.key_versions.specs.Steps.{stepped_rows, InstallsAreBelow, AreBelow}
use Rattle.key_versions.specs.Tables.{IsTableOf}
use Rattle.key_versions.specs.Views.{table_by}
use Rattle.key_versions.proofs.Given.{all_named}
use Rattle.key_versions.proofs.Interleaved.{length-groups}
use Rattle.key_versions.proofs.Sequenced.{steps_numbered, groups_below, installs_below, sequenced}
use Rattle.key_versions.proofs.Told.{row_count}
use Rattle.key_versions.proofs.sequential.follow_steps.Goals as goal

pub earlier-requires : goal.earlier-requires
earlier-requires c =
    let (given, vs, ts, is, are, count) = c.requires in
    subst (λ n. All (IsNumbered n) c.args.steps.taken.items) (sym count) (steps_numbered vs c.args.steps.taken.items (process_pairs Sequential ts) are.steps)

pub follow_steps-requires-clause-installs : goal.follow_steps-requires-clause-installs
follow_steps-requires-clause-installs c =
    let (given, vs, ts, is, are, count) = c.requires in
    let rows = c.args.rows.now.rows in
    let accesses = c.args.rows.now.accesses in
    let groups : length c.in_ok-earlier.earlier ≡ length vs =
    ap length c.in_ok-earlier.ensures ∙ length-groups 0 c.args.versions c.args.steps.taken.items ∙ count in
    subst (λ n. All (InstallsAreBelow n) accesses) (sym groups) (installs_below given ts vs rows accesses is)

pub follow_steps-requires-clause-earlier : goal.follow_steps-requires-clause-earlier
follow_steps-requires-clause-earlier c =
    let (given, vs, ts, is, are, count) = c.requires in
    let rows = c.args.rows.now.rows in
    let accesses = c.args.rows.now.accesses in
    let taken = c.args.steps.taken.items in
    subst (λ (gs : List (List ℕ)). All (AreBelow (length rows)) gs) (sym c.in_ok-earlier.ensures)
    (subst (λ n. All (AreBelow n) (groups_from 0 c.args.versions taken)) (sym (row_count given ts vs rows accesses is))
    (groups_below vs taken (process_pairs Sequential ts) are.steps 0 c.args.versions))

pub returns : goal.returns
returns c = λ given vs ts is named are count.
    let rows = c.args.rows.now.rows in
    let accesses = c.args.rows.now.accesses in
    let taken = c.args.steps.taken.items in
    let made : c.follow_steps.new.self ≡ stepped_rows (groups_from 0 (length vs) taken) accesses 0 rows =
    c.in_ok-follow_steps.ensures ∙ ap (λ (gs : List (List ℕ)). stepped_rows gs accesses 0 rows) (c.in_ok-earlier.ensures ∙ ap (λ n. groups_from 0 n taken) count) in
    subst (λ (ks : List Known). IsTableOf Sequential ts (table_by vs ks accesses)) (sym made)
    (sequenced ts vs rows accesses taken (all_named given ts (table_by vs rows accesses) is named) are.steps)
