use Rattle.std.proofs.Common.{take, inl, inr, slice_index_or, sym}
use Rattle.std.proofs.lemmas.List.Elements.{All-more, All-weaker, Contains-get_or}
use Rattle.key_versions.specs.declared.pending.Access.{Access}
use Rattle.serial_points.specs.Users.{IsListed}
use Rattle.serial_points.proofs.Listed.{all_gone}
use Rattle.serial_points.proofs.users.add_versions.Goals as goal

pub loop-access-preserved : goal.loop-access-preserved
loop-access-preserved c =
    let i = c.loop-access.access-index in
    let accesses = c.args.accesses.now in
    let stay = c.in_ok-add.ensures.stay in (
      λ n place listed. stay n place (c.loop-access.invariant.0 n place listed),
      All-more (λ (a : Access). IsListed c.add.new.self a.version c.args.place) accesses i (record { nil = 0; version = 0 }) c.loop-access-test.true
          (All-weaker (λ (a : Access). IsListed c.loop-access.lists a.version c.args.place) (λ (a : Access). IsListed c.add.new.self a.version c.args.place) (λ a listed. stay a.version c.args.place listed) (take i accesses) c.loop-access.invariant.1)
          c.in_ok-add.ensures.added,
      λ number other listed. elim (c.in_ok-add.ensures.only number other listed) [
        | inl there ↦ c.loop-access.invariant.2 number other there
        | inr (is, own) ↦ inr (own, (slice_index_or accesses i (record { nil = 0; version = 0 }), Contains-get_or accesses i (record { nil = 0; version = 0 }) c.loop-access-test.true, sym is))
      ],
    )

pub returns-clause-added : goal.returns-clause-added
returns-clause-added c =
    all_gone (λ (a : Access). IsListed c.loop-access.lists a.version c.args.place) c.args.accesses.now c.loop-access.access-index c.loop-access-test.false c.loop-access.invariant.1
