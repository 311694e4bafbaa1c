use Rattle.std.proofs.Common.{refl, arith}
use Rattle.verdict.proofs.OneEvent.{stays_where_none}
use Rattle.verdict.proofs.Growing.{behind, fits_more, so_far_idle}
use Rattle.verdict.proofs.analysis.TablesSoFar.take.Goals as goal

pub take-requires : goal.take-requires
take-requires g c =
    let (events, so_far, kept) = c.requires in
    omega (arith, so_far.number, fits_more events c.args.op so_far.rules kept)

pub overflow_add-self : goal.overflow_add-self
overflow_add-self g c =
    let (events, so_far, kept) = c.requires in
    omega (arith, so_far.number, fits_more events c.args.op so_far.rules kept)

pub update-requires : goal.update-requires
update-requires g c =
    let (events, so_far, kept) = c.requires in (
      events,
      c.args.op,
      behind events c.args.op c.args.self.now _ c.in-Some.place _ so_far kept c.in-Some.is c.in_ok-place.ensures.ok c.in_ok-place.ensures.place c.in_ok-place.ensures.within refl refl refl refl,
    )

pub returns-in-Some-clause-tables : goal.returns-in-Some-clause-tables
returns-in-Some-clause-tables g c = λ events so_far kept.
    c.update.ensures.tables events c.args.op
    (behind events c.args.op c.args.self.now _ c.in-Some.place _ so_far kept c.in-Some.is c.in_ok-place.ensures.ok c.in_ok-place.ensures.place c.in_ok-place.ensures.within refl refl refl refl)

pub returns-in-None-clause-tables : goal.returns-in-None-clause-tables
returns-in-None-clause-tables g c = λ events so_far kept.
    let change = rw c.in-None.is at c.in_ok-place.ensures.place in
    let same = stays_where_none c.args.self.now.events c.args.op c.args.self.now.pairing c.take.new.self change in
    so_far_idle events c.args.op c.args.self.now _ so_far kept c.in_ok-place.ensures.ok same refl refl refl refl
