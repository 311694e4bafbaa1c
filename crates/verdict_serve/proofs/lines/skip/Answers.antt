use Rattle.std.proofs.Common.{◌≡◌, ◌∙◌, ℕ, ◌+◌, List, ◌++◌, take, drop, ap, subst, arith}
use Rattle.std.proofs.lemmas.List.{length-append}
use Rattle.verdict_serve.specs.Cuts.{IsLineEnd, IsUnbroken}
use Rattle.verdict_serve.proofs.Cuts.{begins_later, unbroken_both}
use Rattle.verdict_serve.proofs.Windows.{given_both}
use Rattle.verdict_serve.proofs.lines.skip.Goals as goal

pub returns-in-Some-line_end-clause-ok : goal.returns-in-Some-line_end-clause-ok
returns-in-Some-line_end-clause-ok g c =
    let front = c.args.window.now.bytes in
    let dropped = c.loop.invariant.2 in
    let read = c.in_ok-read_more.ensures.given in
    let more : List ℕ = read.0 in
    let place = c.in-Some-line_end.place in
    let held_is : c.read_more.new.self.bytes ≡ more = read.2 ∙ ap (λ (t : List ℕ). t ++ more) dropped.held_is in
    let end : IsLineEnd more place =
    subst (λ (t : List ℕ). IsLineEnd t place) (c.as_slice.ensures.bytes ∙ held_is) c.in-Some-line_end.ensures in
    let rest : c.forget.new.self.bytes ≡ drop (place + 1) more = c.forget.ensures.bytes ∙ ap (drop (place + 1)) held_is in
    let l = dropped.given ++ take place more in
    let begins = begins_later dropped.given more (take place more) c.forget.new.self.bytes dropped.unbroken (rw rest end.begins) in (
      dropped.given ++ more,
      given_both g.S.Source c.args.source.now c.loop.source c.read_more.new.source dropped.given more dropped.has_given
          (record { taken = read.3; no_failure = c.in_ok-read_more.ensures.no_failure }),
      (
        front ++ l,
        begins_later front (dropped.given ++ more) l c.forget.new.self.bytes c.requires.unbroken begins,
        omega (arith, length-append front l, c.requires.long),
      ),
    )

pub loop-preserved : goal.loop-preserved
loop-preserved g c =
    let dropped = c.loop.invariant.2 in
    let read = c.in_ok-read_more.ensures.given in
    let more : List ℕ = read.0 in
    let held_is : c.read_more.new.self.bytes ≡ more = read.2 ∙ ap (λ (t : List ℕ). t ++ more) dropped.held_is in
    let none : IsUnbroken more = subst IsUnbroken (c.as_slice.ensures.bytes ∙ held_is) c.in_default.ensures in (
      tt,
      tt,
      record {
        given = dropped.given ++ more;
        has_given =
            given_both g.S.Source c.args.source.now c.loop.source c.read_more.new.source dropped.given more dropped.has_given
            (record { taken = read.3; no_failure = c.in_ok-read_more.ensures.no_failure });
        unbroken = unbroken_both dropped.given more dropped.unbroken none;
        held_is = c.clear-in-loop.ensures.bytes;
      },
      c.clear-in-loop.ensures.room ∙ c.read_more.ensures.room ∙ c.loop.invariant.3,
    )
