use Rattle.std.proofs.Common.{◌≡◌, ◌∙◌, ℕ, List, [], get_or, Contains, below_more, sym, subst, arith}
use Rattle.std.proofs.lemmas.List.{get_or_default}
use Rattle.std.proofs.lemmas.Option.{get_or_from_slice_get}
use Rattle.cycle_find.specs.TwoDependencies.{NoneByMarked}
use Rattle.cycle_find.proofs.Mutual.{rw_end, two_otherwise}
use Rattle.cycle_find.proofs.two_dependencies.TwoDependencies.back_to.Goals as goal

pub loop-other-preserved : goal.loop-other-preserved
loop-other-preserved c =
    let search = c.args.self.now in
    let list = c.get-others.result.now in
    let read = c.spend.new.self in
    let none = λ (k : ℕ). NoneByMarked search read c.args.version c.args.from (get_or list k 0) in
    let other = get_or list c.loop-other.other-index 0 in
    record {
      length = c.close_by.ensures.marks;
      kept = λ n is. c.close_by.ensures.kept n (c.loop-other.invariant.kept n is);
      none =
          below_more none c.loop-other.other-index c.loop-other.invariant.none
          (λ number marked.
          two_otherwise search (NoneByMarked search c.loop-other.read c.args.version c.args.from other) c.in_ok-found.found (sym c.is_some.ensures ∙ c.if-is_some.false) c.in_ok-found.ensures.found
          number (c.loop-other.invariant.kept other marked));
    }

pub returns-clause-found : goal.returns-clause-found
returns-clause-found c = λ other to way back pair.
    let search = c.args.self.now in
    let h = search.deps.now in
    let from = c.args.from in
    let version = c.args.version in
    let followed = c.args.followed.now in
    let list = c.get-others.result.now in
    let read = c.spend.new.self in
    let is : get_or followed from [] ≡ list = get_or_from_slice_get followed from list [] c.get-others.ensures in
    let (k, at, same) = subst (λ (xs : List ℕ). Contains xs other) is (c.requires.followed other from back.number (rw_end h other from back.end)) in
    let marked = c.spend.ensures.kept other (c.requires.marked to (rw_end h version to way.end) other back.number back.start) in
    subst (NoneByMarked search read version from) (get_or_default list k 0 other at ∙ same) (c.loop-other.invariant.none k (omega (arith, at, c.loop-other-test.false))) back.number marked to way back pair
