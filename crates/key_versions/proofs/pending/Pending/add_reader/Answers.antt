use Rattle.std.proofs.Common.{◌∙◌, All, length, sym, ap, subst}
use Rattle.flat_groups.specs.Groups.{IsNumbered}
use Rattle.key_versions.specs.Pending.{known_from}
use Rattle.key_versions.specs.Rows.{change, with_place}
use Rattle.key_versions.proofs.Gathered.{all_one_more, from_zero, known_place, known_read}
use Rattle.key_versions.proofs.pending.Pending.add_reader.Goals as goal

pub invariant_of-self-2 : goal.invariant_of-self-2
invariant_of-self-2 c =
    let ws = c.self.inside.writers.items in
    let rs = c.self.inside.readers.items in
    let fs = c.self.inside.followers.items in
    let below = known_place ws rs fs c.self.view_is c.requires in
    (subst (λ xs. All (IsNumbered (length ws)) xs) (sym c.in_ok-push.ensures.items) (all_one_more (length ws) rs (c.args.version, c.args.place) c.self.invariant.0 below), c.self.invariant.1, c.self.invariant.2)

pub returns : goal.returns
returns c =
    let ws = c.self.inside.writers.items in
    let rs = c.self.inside.readers.items in
    let fs = c.self.inside.followers.items in
    ap (λ xs. known_from 0 ws xs fs) c.in_ok-push.ensures.items
    ∙ known_read 0 c.args.version c.args.version ws rs fs c.args.place (from_zero c.args.version)
    ∙ ap (change (with_place c.args.place) c.args.version) c.self.view_is
