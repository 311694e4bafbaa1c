use Rattle.std.proofs.Common.{◌≡◌, ◌∙◌, length, sym, ap, subst}
use Rattle.key_versions.specs.Given.{AreNamed}
use Rattle.key_versions.specs.Kept.{KeptVersions}
use Rattle.key_versions.specs.Tables.{IsTableOf}
use Rattle.key_versions.specs.Views.{table_by}
use Rattle.key_versions.proofs.Given.{all_named}
use Rattle.key_versions.proofs.kept.KeptVersions.known.Goals as goal

pub follow_steps-requires : goal.follow_steps-requires
follow_steps-requires g c =
    let vs = c.args.self.now.versions in
    let ts = c.args.txns.now in
    let count : c.len.result ≡ length vs = c.len.ensures ∙ ap (λ (k : KeptVersions). length k.versions) c.self.view_is in
    (vs, vs, ts, c.in_ok-rows.ensures ts c.requires, c.in_ok-steps-in-Sequential.ensures, count)

pub returns-in-Basic : goal.returns-in-Basic
returns-in-Basic g c =
    let vs = c.args.self.now.versions in
    let ts = c.args.txns.now in
    let table = table_by vs c.in_ok-rows.rows.rows c.in_ok-rows.rows.accesses in
    let keys : c.args.self.now.keys ≡ _ = ap (λ (k : KeptVersions). k.keys) (sym c.self.view_is) ∙ c.in-Basic.is in
    let named : AreNamed ts vs = λ v has. sym (c.requires.named v) ∙ has in
    subst (λ order. IsTableOf order ts table) (sym keys) (all_named vs ts table (c.in_ok-rows.ensures ts c.requires) named)

pub returns-in_ok-follow_steps-in-Sequential : goal.returns-in_ok-follow_steps-in-Sequential
returns-in_ok-follow_steps-in-Sequential g c =
    let vs = c.args.self.now.versions in
    let ts = c.args.txns.now in
    let table = table_by vs c.follow_steps.new.rows.rows c.follow_steps.new.rows.accesses in
    let keys : c.args.self.now.keys ≡ _ = ap (λ (k : KeptVersions). k.keys) (sym c.self.view_is) ∙ c.in-Sequential.is in
    let count : c.len.result ≡ length vs = c.len.ensures ∙ ap (λ (k : KeptVersions). length k.versions) c.self.view_is in
    let named : AreNamed ts vs = λ v has. sym (c.requires.named v) ∙ has in
    subst (λ order. IsTableOf order ts table) (sym keys)
    (c.in_ok-follow_steps-in-Sequential.ensures vs vs ts (c.in_ok-rows.ensures ts c.requires) named c.in_ok-steps-in-Sequential.ensures count)
