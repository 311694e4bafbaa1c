use Rattle.std.proofs.Common.{subst}
use Rattle.serial_points.specs.Users.{IsAmongUsers, ListOnlyVersions}
use Rattle.serial_points.proofs.advance.add_users.Goals as goal

pub returns-clause-added : goal.returns-clause-added
returns-clause-added g c =
    let users = c.add.new.self in
    record {
      stay = c.in_ok-add.ensures.stay;
      among = λ a there.
          subst (λ reads. IsAmongUsers users c.args.place reads a.writes) (c.reads.ensures a there)
          (subst (λ writes. IsAmongUsers users c.args.place c.reads.result.now writes) (c.writes.ensures a there)
          (subst (λ n. IsAmongUsers users n c.reads.result.now c.writes.result.now) c.in_ok-number.ensures c.in_ok-add.ensures.added));
      only = λ a there.
          subst (ListOnlyVersions c.args.users.now.readers users.readers c.args.place) (c.reads.ensures a there)
          (subst (λ n. ListOnlyVersions c.args.users.now.readers users.readers n c.reads.result.now) c.in_ok-number.ensures c.in_ok-add.ensures.only);
    }
