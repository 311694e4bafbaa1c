use Rattle.std.proofs.Common.{◌≡◌, ◌∙◌, ◌++◌, ◌∷◌, [], List, Bool, true, false, ◌&&◌, ◌==◌, cond, map, sym, ap, append-nil}
use Rattle.std.proofs.lemmas.Bool.{eq-eqb, ne_eqb}
use Rattle.order_frontier.specs.declared.types.Completed.{Completed}
use Rattle.order_frontier.specs.declared.types.Predecessor.{Predecessor}
use Rattle.order_frontier.specs.Completions.{predecessor_of}
use Rattle.order_frontier.specs.Pairs.{is_earlier}
use Rattle.order_frontier.proofs.pairs.push_earlier.Goals as goal

none : (b : Bool) (d : Completed) (ps : List Predecessor) → b ≡ false → ps ≡ ps ++ map predecessor_of (cond b (d ∷ []) [])
none b d ps fails = sym (append-nil ps) ∙ ap (λ b. ps ++ map predecessor_of (cond b (d ∷ []) [])) (sym fails)

one : (b : Bool) (d : Completed) (ps next : List Predecessor) → b ≡ true → next ≡ ps ++ predecessor_of d ∷ [] → next ≡ ps ++ map predecessor_of (cond b (d ∷ []) [])
one b d ps next passes more = more ∙ ap (λ b. ps ++ map predecessor_of (cond b (d ∷ []) [])) (sym passes)

pub returns-else-is_earlier : goal.returns-else-is_earlier
returns-else-is_earlier c =
    let d = c.args.ok.now in
    let u = c.args.txn.now in
    let fails : is_earlier u d ≡ false = sym c.is_earlier.ensures ∙ c.if-is_earlier.false in
    record {
      in_process = none (is_earlier u d && (d.process == u.process)) d c.args.in_process.now.items (ap (λ b. b && (d.process == u.process)) fails);
      in_realtime = none (is_earlier u d) d c.args.in_realtime.now.items fails;
    }

pub returns-else-from-process : goal.returns-else-from-process
returns-else-from-process c =
    let d = c.args.ok.now in
    let u = c.args.txn.now in
    let passes : is_earlier u d ≡ true = sym c.is_earlier.ensures ∙ c.if-is_earlier.true in
    record {
      in_process = none (is_earlier u d && (d.process == u.process)) d c.args.in_process.now.items
          (ap (λ b. b && (d.process == u.process)) passes ∙ ne_eqb d.process u.process (λ same. c.if-from-process.false (c.from.ensures ∙ same ∙ sym c.process.ensures)));
      in_realtime = one (is_earlier u d) d c.args.in_realtime.now.items c.push.new.self.items passes (c.in_ok-push.ensures.items ∙ ap (λ p. c.args.in_realtime.now.items ++ p ∷ []) c.predecessor.ensures);
    }

pub returns-in_ok-push-2 : goal.returns-in_ok-push-2
returns-in_ok-push-2 c =
    let d = c.args.ok.now in
    let u = c.args.txn.now in
    let passes : is_earlier u d ≡ true = sym c.is_earlier.ensures ∙ c.if-is_earlier.true in
    record {
      in_process = one (is_earlier u d && (d.process == u.process)) d c.args.in_process.now.items c.push-then-from-process.new.self.items
          (ap (λ b. b && (d.process == u.process)) passes ∙ eq-eqb d.process u.process (sym c.from.ensures ∙ c.if-from-process.true ∙ c.process.ensures))
          (c.in_ok-push-2.ensures.items ∙ ap (λ p. c.args.in_process.now.items ++ p ∷ []) c.predecessor-then-from-process.ensures);
      in_realtime = one (is_earlier u d) d c.args.in_realtime.now.items c.push.new.self.items passes (c.in_ok-push.ensures.items ∙ ap (λ p. c.args.in_realtime.now.items ++ p ∷ []) c.predecessor.ensures);
    }
