use Rattle.std.proofs.Common.{◌≡◌, ◌∙◌, ℕ, ◌+◌, ◌<◌, ◌++◌, ◌∷◌, [], List, Bool, ◌&&◌, ◌==◌, length, map, filter, take, get_or, sym, ap, append_assoc}
use Rattle.std.proofs.lemmas.List.{get_or_default, map-append, take_more}
use Rattle.std.proofs.lemmas.List.Elements.{filter-append}
use Rattle.order_frontier.specs.declared.types.Completed.{Completed}
use Rattle.order_frontier.specs.declared.types.Predecessor.{Predecessor}
use Rattle.order_frontier.specs.Completions.{predecessor_of}
use Rattle.order_frontier.specs.Pairs.{is_earlier}
use Rattle.order_frontier.proofs.pairs.push_before.Goals as goal

-- one more of them, where it passes
more : (test : Completed → Bool) (first now next : List Predecessor) (done : List Completed) (k : ℕ) (d : Completed)
    → k < length done
    → get_or done k d ≡ d
    → now ≡ first ++ map predecessor_of (filter test (take k done))
    → next ≡ now ++ map predecessor_of (filter test (d ∷ []))
    → next ≡ first ++ map predecessor_of (filter test (take (k + 1) done))
more test first now next done k d below is so_far one =
    one ∙ ap (λ ps. ps ++ map predecessor_of (filter test (d ∷ []))) so_far
    ∙ append_assoc first (map predecessor_of (filter test (take k done))) (map predecessor_of (filter test (d ∷ [])))
    ∙ ap (λ ps. first ++ ps)
    (sym (ap (λ ds. map predecessor_of (filter test ds)) (take_more done k d below ∙ ap (λ x. take k done ++ x ∷ []) is)
    ∙ ap (map predecessor_of) (filter-append test (take k done) (d ∷ []))
    ∙ map-append predecessor_of (filter test (take k done)) (filter test (d ∷ []))))

pub loop-ok-preserved : goal.loop-ok-preserved
loop-ok-preserved c =
    let done = c.args.done.now in
    let u = c.args.txn.now in
    let k = c.loop-ok.ok-index in
    let none : Completed = record { completion = 0; invocation = 0; process = 0 } in
    let d : Completed = get_or done k none in
    let is : get_or done k d ≡ d = get_or_default done k d none c.loop-ok-test.true in
    record {
      in_process = more (λ (d : Completed). is_earlier u d && (d.process == u.process)) c.args.in_process.now.items c.loop-ok.in_process.items c.push_earlier.new.in_process.items done k d c.loop-ok-test.true is c.loop-ok.invariant.in_process c.in_ok-push_earlier.ensures.in_process;
      in_realtime = more (is_earlier u) c.args.in_realtime.now.items c.loop-ok.in_realtime.items c.push_earlier.new.in_realtime.items done k d c.loop-ok-test.true is c.loop-ok.invariant.in_realtime c.in_ok-push_earlier.ensures.in_realtime;
    }
