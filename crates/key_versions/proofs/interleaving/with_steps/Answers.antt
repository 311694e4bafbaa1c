use Rattle.std.proofs.Common.{◌≡◌, ◌∙◌, ◌<◌, ◌≤◌, ◌+◌, ◌++◌, [], ℕ, List, All, length, take, drop, get_or, sym, ap, subst, arith}
use Rattle.std.specs.Vec.{with_items}
use Rattle.std.proofs.lemmas.List.{at_drop_more, append_assoc, with_items_is}
use Rattle.flat_groups.specs.Groups.{IsNumbered}
use Rattle.key_versions.specs.Pending.{AreInOrder}
use Rattle.key_versions.specs.Rows.{Accessed}
use Rattle.key_versions.specs.Steps.{run_of, of_place, behind_steps, followers_from, AreMarked, AreBelow}
use Rattle.key_versions.specs.declared.types.Follower.{Follower}
use Rattle.key_versions.proofs.Interleaved.{installs_at, numbered_at, run_within, split}
use Rattle.key_versions.proofs.interleaving.with_steps.Goals as goal

pub split_at-requires : goal.split_at-requires
split_at-requires c =
    let rest = c.loop-place.rest.now in
    subst (λ n. n ≤ length rest) (sym c.count_of.ensures) (run_within c.in_ok-txn.txn rest)

pub mark_all-requires-clause-numbers : goal.mark_all-requires-clause-numbers
mark_all-requires-clause-numbers c =
    let p = c.loop-place.place in
    let followers = c.args.followers.now in
    let rest = c.loop-place.rest.now in
    let run : c.count_of.result ≡ run_of p rest = c.count_of.ensures ∙ ap (λ n. run_of n rest) c.in_ok-txn.ensures in
    let here : p ≤ p = omega arith in
    let known : c.split_at.result.0.now ≡ of_place p followers =
    c.split_at.ensures.front ∙ ap (λ n. take n rest) run ∙ (split p rest c.loop-place.invariant.3).first ∙ sym (c.loop-place.invariant.4 p here) in
    let long : length c.deref_mut.result.now ≡ c.args.versions = ap length c.deref_mut.ensures.value ∙ c.loop-place.invariant.1 in
    subst (λ (xs : List (ℕ × Follower)). All (IsNumbered (length c.deref_mut.result.now)) xs) (sym known)
    (subst (λ n. All (IsNumbered n) (of_place p followers)) (sym long) (numbered_at c.args.versions p followers c.requires.versions))

pub follow_steps-requires-clause-installs : goal.follow_steps-requires-clause-installs
follow_steps-requires-clause-installs c =
    let below : c.loop-place.place < length c.args.accesses.now = subst (λ n. c.loop-place.place < n) c.len-place-end.ensures c.loop-place-test.true in
    subst (λ (ns : List ℕ). AreBelow (length c.args.earlier.now) ns)
    (installs_at c.args.accesses.now c.loop-place.place c.installs.result.now (record { reads = []; installs = [] }) below c.installs.ensures)
    (c.requires.installs c.loop-place.place (record { reads = []; installs = [] }) below)

pub follow_steps-requires-clause-earlier : goal.follow_steps-requires-clause-earlier
follow_steps-requires-clause-earlier c =
    let marks = c.loop-place.marks in
    let marked = c.mark_all.new.marks in
    let long : length marked ≡ length marks.items = c.mark_all.ensures.length ∙ ap length c.deref_mut.ensures.value in
    let now : c.deref_mut-in-loop-place.result.now ≡ marked = c.deref_mut-in-loop-place.ensures.value ∙ with_items_is marks marked (long ∙ sym marks.ok.0) in
    subst (λ n. All (AreBelow n) c.args.earlier.now) (sym (ap length now ∙ long ∙ c.loop-place.invariant.1)) c.requires.earlier

pub loop-place-preserved : goal.loop-place-preserved
loop-place-preserved c =
    let p = c.loop-place.place in
    let accesses = c.args.accesses.now in
    let below : p < length accesses = subst (λ n. p < n) c.len-place-end.ensures c.loop-place-test.true in
    let earlier = c.args.earlier.now in
    let followers = c.args.followers.now in
    let before = c.loop-place.all.items in
    let none : Accessed = record { reads = []; installs = [] } in
    let a = get_or accesses p none in
    let others = followers_from earlier followers (p + 1) (drop (p + 1) accesses) in
    let rest = c.loop-place.rest.now in
    let known = c.split_at.result.0.now in
    let later = c.split_at.result.1.now in
    let mark = c.in_ok-mark.mark in
    let marks = c.loop-place.marks in
    let marked = c.mark_all.new.marks in
    let last = c.follow_steps.new.marks in
    let long : length marked ≡ length marks.items = c.mark_all.ensures.length ∙ ap length c.deref_mut.ensures.value in
    let now : c.deref_mut-in-loop-place.result.now ≡ marked = c.deref_mut-in-loop-place.ensures.value ∙ with_items_is marks marked (long ∙ sym marks.ok.0) in
    let still : length last ≡ length marks.items = c.follow_steps.ensures.length ∙ ap length now ∙ long in
    let written : (with_items (with_items marks marked) last).items ≡ last = with_items_is (with_items marks marked) last (still ∙ sym marks.ok.0) in
    let run : c.count_of.result ≡ run_of p rest = c.count_of.ensures ∙ ap (λ n. run_of n rest) c.in_ok-txn.ensures in
    let cut = split p rest c.loop-place.invariant.3 in
    let here : p ≤ p = omega arith in
    let is_known : known ≡ of_place p followers = c.split_at.ensures.front ∙ ap (λ n. take n rest) run ∙ cut.first ∙ sym (c.loop-place.invariant.4 p here) in
    let is_later : later ≡ drop (run_of p rest) rest = c.split_at.ensures.back ∙ ap (λ n. drop n rest) run in
    let installs = installs_at accesses p c.installs.result.now none below c.installs.ensures in
    let done =
    c.in_ok-follow_steps.ensures.followers before known (record {
      all = c.in_ok-extend_from_slice.ensures.items;
      marked = subst (AreMarked mark known) (sym now) c.mark_all.ensures.marked;
    }) in
    let own = behind_steps earlier p (of_place p followers) a.installs in
    let added : c.follow_steps.new.followers.items ≡ before ++ own =
    done.all
    ∙ ap (λ n. before ++ behind_steps earlier n known c.installs.result.now) c.in_ok-txn.ensures
    ∙ ap (λ (fs : List (ℕ × Follower)). before ++ behind_steps earlier p fs c.installs.result.now) is_known
    ∙ ap (λ (ns : List ℕ). before ++ behind_steps earlier p (of_place p followers) ns) (sym installs) in (
      ap (λ (xs : List (ℕ × Follower)). xs ++ others) added
          ∙ append_assoc before own others
          ∙ sym (at_drop_more (λ (xs : List Accessed). before ++ followers_from earlier followers p xs) accesses p none below)
          ∙ c.loop-place.invariant.0,
      ap length written ∙ still ∙ c.loop-place.invariant.1,
      subst (AreBelow (p + 1 + 1)) (sym written) (subst (λ m. AreBelow (m + 1) last) c.in_ok-mark.ensures done.marked.most),
      subst (AreInOrder (p + 1)) (sym is_later) cut.order,
      λ q past.
          let first : p ≤ q = omega (arith, past) in
          let next : p < q = omega (arith, past) in
          c.loop-place.invariant.4 q first ∙ cut.same q next ∙ ap (of_place q) (sym is_later),
    )
