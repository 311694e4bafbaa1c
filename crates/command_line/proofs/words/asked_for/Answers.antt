use Rattle.std.proofs.Common.{◌≡◌, sym, ◌⊎◌, inl, inr}
use Rattle.std.proofs.lemmas.Result.{IfOk-weaker}
use Rattle.clap.specs.Words.{kind_of}
use Rattle.clap.specs.declared.error.kind.ErrorKind.TheVariants.{OutOfMemory, DisplayHelp}
use Rattle.command_line.specs.Lines.{Helps}
use Rattle.command_line.proofs.Parses.{asked_in_matches, matches_of_asked, fails_for_memory, fails_by_request, fails_by_no_request, no_matches_for_help}
use Rattle.command_line.proofs.words.asked_for.Goals as goal

pub returns-in-Ok-clause-only : goal.returns-in-Ok-clause-only
returns-in-Ok-clause-only c =
    IfOk-weaker c.asked_by.result _ _
    (λ asked by. asked_in_matches asked _ _ c.in-Ok.matches c.in_ok-program.ensures c.in-Ok.ensures.matches c.in-Ok.ensures.kinds by) c.asked_by.ensures.only

pub returns-in-Ok-clause-asked : goal.returns-in-Ok-clause-asked
returns-in-Ok-clause-asked c = λ asked asks.
    c.asked_by.ensures.asked asked (matches_of_asked asked _ _ c.in-Ok.matches c.in_ok-program.ensures c.in-Ok.ensures.matches asks)

pub returns-in-Ok-clause-help : goal.returns-in-Ok-clause-help
returns-in-Ok-clause-help c = λ asked. absurd (no_matches_for_help _ _ c.in_ok-program.ensures c.in-Ok.ensures.kinds asked)

pub returns-in-Err-clause-asked : goal.returns-in-Err-clause-asked
returns-in-Err-clause-asked c = λ asked asks.
    c.line_fault.ensures.memory (fails_for_memory asked _ _ c.in-Err.error c.in_ok-program.ensures c.in-Err.ensures.kinds asks)

pub returns-in-Err-clause-help : goal.returns-in-Err-clause-help
returns-in-Err-clause-help c = λ asked.
    helped (fails_by_request _ _ c.in-Err.error c.in_ok-program.ensures c.in-Err.ensures.kinds asked)
  where
    helped : (kind_of c.in-Err.error ≡ OutOfMemory) ⊎ (kind_of c.in-Err.error ≡ DisplayHelp) → Helps c.line_fault.result
    helped (inl memory) = rw (c.line_fault.ensures.memory memory) tt
    helped (inr help) = c.line_fault.ensures.help help

pub returns-in-Err-clause-wrong : goal.returns-in-Err-clause-wrong
returns-in-Err-clause-wrong c = λ unasked.
    rw (sym c.closing_line-closing.ensures)
    (c.line_fault.ensures.wrong (fails_by_no_request _ _ c.in-Err.error c.in_ok-program.ensures c.in-Err.ensures.kinds unasked))
