use Rattle.std.proofs.Common.{ℕ, List, ◌++◌, take, refl, sym, subst}
use Rattle.reading_laws.specs.Parts.{EndsLine}
use Rattle.block_reader.specs.Blocks.{operations_in}
use Rattle.block_reader.specs.Parts.{ReadsThrough, FailsThere}
use Rattle.block_reader.specs.Starts.{IsBehindLine}
use Rattle.block_reader.proofs.Coming.{come_on, lines_end, refused_there, fault_memory}
use Rattle.block_reader.proofs.rounds.one_round.Goals as goal

pub read_round-round-requires-sync-R : goal.read_round-round-requires-sync-R
read_round-round-requires-sync-R g c κs within =
    let found = subst (λ (w : List ℕ). IsBehindLine w 0 c.in-Some.end) c.as_slice.ensures.bytes c.in-Some.ensures in
    let lines = subst (λ (w : List ℕ). EndsLine (take c.in-Some.end w)) (sym c.as_slice-2.ensures.bytes) (lines_end c.fill.new.self.window.bytes c.in-Some.end found) in
    (c.type_bounds.sync-R, ((refl, tt), lines))

pub returns-in_err-pass-in-Read-clause-err : goal.returns-in_err-pass-in-Read-clause-err
returns-in_err-pass-in-Read-clause-err g c began os come =
    fault_memory g.S.Source began c.fill.new.source c.fill.new.self os c.from_residual-in_err-pass-in-Read.result (c.in_ok-fill.ensures.ok began os come)
    c.from_residual-in_err-pass-in-Read.ensures.1

pub returns-in_err-fill-in-Read-clause-err : goal.returns-in_err-fill-in-Read-clause-err
returns-in_err-fill-in-Read-clause-err g c began os come =
    fault_memory g.S.Source began c.fill.new.source c.fill.new.self os c.from_residual-in_err-fill-in-Read.result (c.in_ok-fill.ensures.ok began os come)
    c.from_residual-in_err-fill-in-Read.ensures.1

pub returns-in_ok-fill-in-Read-clause-ok : goal.returns-in_ok-fill-in-Read-clause-ok
returns-in_ok-fill-in-Read-clause-ok g c began before taken come =
    let end = c.in-Some.end in
    let os = before ++ operations_in c.args.last.now in
    let reading = c.fill.new.self in
    let found = subst (λ (w : List ℕ). IsBehindLine w 0 end) c.as_slice.ensures.bytes c.in-Some.ensures in
    let round = rw (c.in-Read.is) at c.read_round-round.ensures.round in
    let through = subst (λ (w : List ℕ). ReadsThrough (take end w) (operations_in c.in-Read.blocks.items)) c.as_slice-2.ensures.bytes round in
    let on = come_on g.S.Source began c.fill.new.source reading c.pass.new.self end os (operations_in c.in-Read.blocks.items)
    (c.in_ok-fill.ensures.ok began os come) found.within through c.in_ok-pass-in-Read.ensures in
    (os, c.read_round-round.ensures.consumer before taken, rw (c.in_ok-fill-in-Read.ensures) on)

pub returns-in-Refused-clause-err : goal.returns-in-Refused-clause-err
returns-in-Refused-clause-err g c began os come =
    let end = c.in-Some.end in
    let round = rw (c.in-Refused.is) at c.read_round-round.ensures.round in
    let there = subst (λ (w : List ℕ). FailsThere (take end w) c.in-Refused.fault) c.as_slice-2.ensures.bytes round in
    c.refuse.ensures began os (c.in_ok-fill.ensures.ok began os come) (refused_there c.fill.new.self end c.in-Refused.fault there)
