use Rattle.std.proofs.Common.{◌≡◌, ◌∙◌, All, length, sym, ap, subst}
use Rattle.flat_groups.specs.Groups.{IsNumbered}
use Rattle.key_versions.specs.Pending.{known_from, AreInOrder}
use Rattle.key_versions.specs.Steps.{followers_from, stepped_rows, AreBelow}
use Rattle.key_versions.proofs.Gathered.{length-known}
use Rattle.key_versions.proofs.Interleaved.{known_stepped, all_numbered, all_in_order}
use Rattle.key_versions.proofs.pending.Pending.follow_steps.Goals as goal

pub with_steps-requires-clause-earlier : goal.with_steps-requires-clause-earlier
with_steps-requires-clause-earlier c =
    let ws = c.self.inside.writers.items in
    let rs = c.self.inside.readers.items in
    let fs = c.self.inside.followers.items in
    let count : length c.args.self.now ≡ length ws = ap length (sym c.self.view_is) ∙ length-known 0 ws rs fs in
    subst (λ n. All (AreBelow n) c.args.earlier.now) (count ∙ sym c.self.inside.writers.ok.0 ∙ sym c.len.ensures) c.requires.earlier

pub invariant_of-self : goal.invariant_of-self
invariant_of-self c =
    let ws = c.self.inside.writers.items in
    let rs = c.self.inside.readers.items in
    let fs = c.self.inside.followers.items in
    let earlier = c.args.earlier.now in
    let accesses = c.args.accesses.now in
    let made = c.in_ok-self-inside.ensures ∙ ap (λ xs. followers_from earlier xs 0 accesses) c.as_slice.ensures.value in
    let count : length c.args.self.now ≡ length ws = ap length (sym c.self.view_is) ∙ length-known 0 ws rs fs in (
      c.self.invariant.0,
      subst (λ xs. All (IsNumbered (length ws)) xs) (sym made)
          (all_numbered (length ws) earlier fs 0 accesses c.self.invariant.1 (subst (λ n. All (AreBelow n) earlier) count c.requires.earlier)),
      subst (AreInOrder 0) (sym made) (all_in_order earlier fs 0 accesses),
    )

pub returns : goal.returns
returns c =
    let ws = c.self.inside.writers.items in
    let rs = c.self.inside.readers.items in
    let fs = c.self.inside.followers.items in
    let earlier = c.args.earlier.now in
    let accesses = c.args.accesses.now in
    let made = c.in_ok-self-inside.ensures ∙ ap (λ xs. followers_from earlier xs 0 accesses) c.as_slice.ensures.value in
    ap (known_from 0 ws rs) made ∙ known_stepped earlier accesses 0 ws rs fs ∙ ap (stepped_rows earlier accesses 0) c.self.view_is
