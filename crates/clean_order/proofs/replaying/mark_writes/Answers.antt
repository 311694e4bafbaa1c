use Rattle.std.proofs.Common.{rules, subst, take}
use Rattle.std.specs.Bool.{IsTrue}
use Rattle.std.proofs.lemmas.List.{take_all}
use Rattle.std.proofs.lemmas.List.Elements.{All-more, All-weaker}
use Rattle.key_versions.specs.declared.pending.Access.{Access}
use Rattle.clean_order.specs.Replaying.{is_marked, AreKeysMarked}
use Rattle.clean_order.proofs.replaying.mark_writes.Goals as goal

pub loop-i-preserved : goal.loop-i-preserved
loop-i-preserved c =
    let stay = c.set.ensures.stay in
    record {
      stay = λ n marked. stay n (c.loop-i.invariant.stay n marked);
      keys =
          All-more (λ (a : Access). IsTrue (is_marked c.set.new.self a.nil)) c.args.writes.now c.loop-i.i (record { nil = 0; version = 0 }) c.loop-i-test.true
          (All-weaker (λ (a : Access). IsTrue (is_marked c.loop-i.followed a.nil)) (λ (a : Access). IsTrue (is_marked c.set.new.self a.nil)) (λ a marked. stay a.nil marked) (take c.loop-i.i c.args.writes.now) c.loop-i.invariant.keys)
          (c.set.ensures.set (search rules));
      written = search rules;
    }

pub returns-clause-keys : goal.returns-clause-keys
returns-clause-keys c = λ _.
    subst (AreKeysMarked c.loop-i.followed) (take_all c.loop-i.i c.args.writes.now c.loop-i-test.false) c.loop-i.invariant.keys
