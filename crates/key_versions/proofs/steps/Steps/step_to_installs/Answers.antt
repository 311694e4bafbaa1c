use Rattle.std.proofs.Common.{rules, ◌≡◌, ◌∙◌, ◌+◌, ◌∷◌, ◌++◌, [], ℕ, List, Option, true, false, fold, drop, get_or, sym, ap, subst}
use Rattle.std.proofs.lemmas.List.{at_drop_more, take_rest}
use Rattle.key_versions.specs.LastSeen.{last_seen}
use Rattle.key_versions.specs.declared.pending.Access.{Access}
use Rattle.key_versions.specs.Rows.{has_nil}
use Rattle.key_versions.specs.Steps.{with_first}
use Rattle.key_versions.proofs.Seen.{has_met}
use Rattle.key_versions.proofs.Taken.{AreLeft, all_left, left_again, left_read, left_stepped}
use Rattle.key_versions.proofs.steps.Steps.step_to_installs.Goals.{then-not-has_key+then-not-has_key-2+in_ok-step, else-not-has_key, else-not-has_key-via-then-not-has_key+else-not-has_key-2, else-not-has_key-via-else-not-has_key}
use Rattle.key_versions.proofs.steps.Steps.step_to_installs.Goals as goal

pub loop-i-init : goal.loop-i-init
loop-i-init c = λ before last are.
    let reads = c.args.reads.now in (
      fold with_first [] reads,
      all_left c.args.process reads c.args.writes.now c.args.seen.now before c.args.self.now.taken.items last (last_seen c.args.self.now.last) are,
    )

pub loop-i-preserved : goal.loop-i-preserved
loop-i-preserved c = λ before last are.
    let i = c.loop-i.i in
    let reads = c.args.reads.now in
    let writes = c.args.writes.now in
    let seen = c.args.seen.now in
    let process = c.args.process in
    let none : Access = record { nil = 0; version = 0 } in
    let write = get_or writes i none in
    let more = drop (i + 1) writes in
    let (met, left) = c.loop-i.invariant before last are in
    let taken = c.loop-i.self.taken.items in
    let seen_last : ℕ → ℕ → Option ℕ = last_seen c.loop-i.self.last in
    let rest : drop i writes ≡ write ∷ more = at_drop_more (λ (xs : List Access). xs) writes i none c.loop-i-test.true in
    let now : AreLeft process reads writes seen (write ∷ more) met before last taken seen_last =
    subst (λ (xs : List Access). AreLeft process reads writes seen xs met before last taken seen_last) rest left in
    let later : c.has_key.result ≡ has_nil write.nil more = c.has_key.ensures ∙ ap (has_nil write.nil) (take_rest writes (i + 1)) in
    elim c.if-not-has_key.branch [
      | then-not-has_key+then-not-has_key-2+in_ok-step w ↦ (
          let shown : c.has_key.result ≡ false = search rules in
          let once : has_nil write.nil more ≡ false = sym later ∙ shown in
          let unread : has_nil write.nil reads ≡ false = search rules in
          let has : has_nil write.nil seen ≡ true = c.requires write.nil (has_met writes i none c.loop-i-test.true) in
          rw (w.self-is) (
            met ++ write ∷ [],
            left_stepped process reads writes seen more met write before taken last seen_last now
                w.step.new.self.taken.items (last_seen w.step.new.self.last) once unread has w.in_ok-step.ensures.taken w.in_ok-step.ensures.last,
          ))
      | else-not-has_key w ↦ (
          rw (w.self-is) (
            met,
            elim w.else-not-has_key.branch [
              | else-not-has_key-via-then-not-has_key+else-not-has_key-2 v ↦ (
                  let shown : c.has_key.result ≡ false = search rules in
                  let once : has_nil write.nil more ≡ false = sym later ∙ shown in
                  let read : has_nil write.nil reads ≡ true = search rules in
                  left_read process reads writes seen more met write before taken last seen_last now once read)
              | else-not-has_key-via-else-not-has_key v ↦ (
                  let shown : c.has_key.result ≡ true = search rules in
                  let again : has_nil write.nil more ≡ true = sym later ∙ shown in
                  left_again process reads writes seen more met write before taken last seen_last now again)
            ],
          ))
    ]
