use Rattle.std.proofs.Common.{rules, ◌≡◌, ◌∙◌, ◌+◌, ℕ, Bool, Option, Some, true, false, cond, take, get_or, sym, ap}
use Rattle.std.specs.Prelude.{◌==◌}
use Rattle.std.proofs.lemmas.List.{take_more}
use Rattle.key_versions.specs.declared.pending.Access.{Access}
use Rattle.key_versions.specs.Steps.{last_number}
use Rattle.key_versions.proofs.Seen.{last_more}
use Rattle.key_versions.proofs.steps.last_of.Goals.{then-access-nil, else-access-nil}
use Rattle.key_versions.proofs.steps.last_of.Goals as goal

pub loop-access-preserved : goal.loop-access-preserved
loop-access-preserved c =
    let i = c.loop-access.access-index in
    let seen = c.args.seen.now in
    let a : Access = get_or seen i (record { nil = 0; version = 0 }) in
    let next : last_number c.args.nil (take (i + 1) seen) ≡ cond (a.nil == c.args.nil) (Some a.version) (last_number c.args.nil (take i seen)) =
    ap (last_number c.args.nil) (take_more seen i (record { nil = 0; version = 0 }) c.loop-access-test.true) ∙ last_more c.args.nil (take i seen) a in
    let by : Bool → Option ℕ = λ b. cond b (Some a.version) (last_number c.args.nil (take i seen)) in
    elim c.if-access-nil.branch [
      | then-access-nil w ↦ (let is : (a.nil == c.args.nil) ≡ true = search rules in w.last-is ∙ sym (next ∙ ap by is))
      | else-access-nil w ↦ (let differ : (a.nil == c.args.nil) ≡ false = search rules in w.last-is ∙ c.loop-access.invariant ∙ sym (next ∙ ap by differ))
    ]
