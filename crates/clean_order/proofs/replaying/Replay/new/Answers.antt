use Rattle.std.proofs.Common.{◌≡◌, ℕ, zero, suc, List, replicate, get_or, false, refl, sym, ◌∙◌, subst}
use Rattle.std.proofs.lemmas.Bool.{false≢true}
use Rattle.hist_types.specs.Transactions.{Transaction, Version}
use Rattle.clean_order.specs.Replaying.{AreUnmarked, IsPut, IsReplaying}
use Rattle.clean_order.specs.declared.replaying.Replay.{Replay}
use Rattle.clean_order.proofs.replaying.Replay.new.Goals as goal

at_replicate : {X : Type 0} (n k : ℕ) (x : X) → get_or (replicate n x) k x ≡ x
at_replicate zero zero x = refl
at_replicate zero (suc k) x = refl
at_replicate (suc n) zero x = refl
at_replicate (suc n) (suc k) x = at_replicate n k x

starts :
    (ts : List Transaction) (versions : List Version) (replay : Replay)
    → AreUnmarked replay.put.items
    → AreUnmarked replay.written
    → IsReplaying ts versions replay
starts ts versions replay unput unwritten = (
  λ _. 0,
  record {
    below = λ k t put. absurd (none k t put);
    begun = λ k t put. absurd (none k t put);
    ended = λ k t put. absurd (none k t put);
    reads = λ k t v put read. absurd (none k t put);
    followed = λ k reader t u v put put_reader differ follows read. absurd (none k t put);
    written = λ number v numbered mark. absurd (false≢true (sym (unwritten number) ∙ mark));
    marked = λ k number t v put numbered follows. absurd (none k t put);
  },
)
  where
    none : (k : ℕ) (t : Transaction) → ¬ (IsPut ts replay k t)
    none k t (at, mark) = false≢true (sym (unput k) ∙ mark)

pub returns : goal.returns
returns c = λ ts versions.
    let unput = subst AreUnmarked (sym (c.in_ok-vec.ensures.items_if_clones_equal (λ y same. same))) (λ k. at_replicate c.args.txns k false) in
    starts ts versions (record { put = c.in_ok-vec.field-0; written = c.in_ok-new.field-0; followed = c.in_ok-new-2.field-0; next = 1 }) unput c.in_ok-new.ensures
