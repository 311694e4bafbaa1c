use Rattle.std.proofs.Common.{rules, ◌≡◌, ◌∙◌, ◌+◌, ◌++◌, ◌∷◌, [], ℕ, List, true, false, fold, take, get_or, sym, ap, subst}
use Rattle.std.proofs.lemmas.List.{take_more}
use Rattle.key_versions.specs.LastSeen.{last_seen}
use Rattle.key_versions.specs.declared.pending.Access.{Access}
use Rattle.key_versions.specs.Rows.{has_nil}
use Rattle.key_versions.specs.Steps.{with_first, AreTaken}
use Rattle.key_versions.proofs.Seen.{has_met}
use Rattle.key_versions.proofs.Taken.{first_known, taken_first}
use Rattle.key_versions.proofs.steps.Steps.step_to_reads.Goals.{then-not-has_key+in_ok-step, else-not-has_key}
use Rattle.key_versions.proofs.steps.Steps.step_to_reads.Goals as goal

pub loop-i-preserved : goal.loop-i-preserved
loop-i-preserved c =
    let i = c.loop-i.i in
    let reads = c.args.reads.now in
    let seen = c.args.seen.now in
    let process = c.args.process in
    let none : Access = record { nil = 0; version = 0 } in
    let read = get_or reads i none in
    let before = c.args.self.now.taken.items in
    let last : ℕ → ℕ → _ = last_seen c.args.self.now.last in
    let more : take (i + 1) reads ≡ take i reads ++ read ∷ [] = take_more reads i none c.loop-i-test.true in
    let has : has_nil read.nil seen ≡ true = c.requires read.nil (has_met reads i none c.loop-i-test.true) in
    elim c.if-not-has_key.branch [
      | then-not-has_key+in_ok-step w ↦ (
          let new : has_nil read.nil (take i reads) ≡ false = search rules in
          rw (w.self-is)
          (subst (λ (xs : List Access). AreTaken process (fold with_first [] xs) seen before last w.step.new.self.taken.items (last_seen w.step.new.self.last)) (sym more)
          (taken_first process (take i reads) seen before c.loop-i.self.taken.items w.step.new.self.taken.items last (last_seen c.loop-i.self.last)
          (last_seen w.step.new.self.last) read c.loop-i.invariant new has w.in_ok-step.ensures.taken w.in_ok-step.ensures.last)))
      | else-not-has_key w ↦ (
          let known : has_nil read.nil (take i reads) ≡ true = search rules in
          rw (w.self-is)
          (subst (λ (xs : List Access). AreTaken process xs seen before last c.loop-i.self.taken.items (last_seen c.loop-i.self.last))
          (sym (ap (fold with_first []) more ∙ first_known (take i reads) read known)) c.loop-i.invariant))
    ]
