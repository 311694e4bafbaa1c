-- What is printed, and what runs leave.
use Rattle.std.proofs.Common.{◌≡◌, ℕ, List, [], Option, Some, None, refl, sym, subst, inl, inr, arith}
use Rattle.std.proofs.KnownBytes.{Appends-nil, Consumes-all}
use Rattle.std.specs.Prelude.{◌≤◌, ◌⊎◌, IfSome}
use Rattle.std.specs.Io.KnownBytes.{IsAtEnd}
use Rattle.hist_types.specs.Devices.{CountsFailure}
use Rattle.hist_types.specs.declared.device.Source.{Ghosts as Source}
use Rattle.hist_types.specs.declared.device.Sink.{Ghosts}
use Rattle.hist_types.specs.Pieces.{HasTaken, HasTakenInPart}
use Rattle.command_run.specs.Answers.{IsAnswer}
use Rattle.command_run.specs.Runs.{HasPrintedLack, HasAnswered, FailedBy, HasRun}
use Rattle.command_run.specs.Sources.{HasGiven}
use Rattle.command_run.specs.Statuses.{code_of, lack_line}
use Rattle.command_run.specs.declared.answer.Lack.{Lack}
use Rattle.command_run.specs.declared.answer.Lack.TheVariants.{Memory}
use Rattle.command_run.specs.declared.answer.Status.{Status}
use Rattle.command_run.specs.declared.answer.Status.TheVariants as statuses
use Rattle.command_line.specs.declared.types.Command.{Command}

-- what is known of all texts is known of one that a source may give
of_any : (known : Option (List ℕ)) (P : List ℕ → Type 0) → ((text : List ℕ) → P text) → (text : List ℕ) × IfSome known (λ rest. text ≡ rest) × P text
of_any None P all = ([], tt, all [])
of_any (Some rest) P all = (rest, refl, all rest)

-- all is printed and the run ends with the status that was wanted, or the sink fails
abbrev pub HasPrinted : {T : Type 0} → Ghosts T → (wanted status : Status) → (sink sink' : T) → List ℕ → Type 0
HasPrinted device wanted status sink sink' printed =
    ((status ≡ wanted) × HasTaken device sink sink' printed) ⊎ ((status ≡ statuses.DeviceFault) × HasTakenInPart device sink sink' printed)

-- the line of a program that lacks something
pub lack_printed : {T : Type 0} (device : Ghosts T) (lack : Lack) (status : Status) (sink sink' : T)
    → HasPrinted device statuses.Lacking status sink sink' (lack_line lack) → HasPrintedLack device lack status sink sink'
lack_printed {T} device lack status sink sink' printed = by_end printed
  where
    P : Status → Type 0
    P s = HasPrintedLack device lack s sink sink'

    by_end : HasPrinted device statuses.Lacking status sink sink' (lack_line lack) → P status
    by_end (inl (is, taken)) = subst P (sym is) taken
    by_end (inr (is, stopped)) = subst P (sym is) stopped

module _ {T : Type 0} (device : Ghosts T) (command : Command) (text : List ℕ) (sink sink' : T) (printed : List ℕ) where
  answered_whole : (wanted : Status) → IsAnswer command text wanted printed → HasTaken device sink sink' printed
      → HasAnswered command text wanted (device.contents sink) (device.contents sink')
  answered_whole statuses.NoPhenomenon answer taken = (printed, answer, taken.taken)
  answered_whole statuses.SomePhenomenon answer taken = (printed, answer, taken.taken)
  answered_whole statuses.Refused answer taken = (printed, answer, taken.taken)
  answered_whole statuses.DeviceFault answer taken = absurd answer
  answered_whole statuses.Lacking answer taken = (printed, answer, taken.taken)

  -- an answer that is printed is answered
  printed_answer : (wanted status : Status) → IsAnswer command text wanted printed → HasPrinted device wanted status sink sink' printed
      → HasAnswered command text status (device.contents sink) (device.contents sink')
  printed_answer wanted status answer (inl (same, taken)) =
      let P : Status → Type 0 = λ s. HasAnswered command text s (device.contents sink) (device.contents sink') in
      subst P (sym same) (answered_whole wanted answer taken)
  printed_answer wanted status answer (inr (fault, stopped)) =
      let P : Status → Type 0 = λ s. HasAnswered command text s (device.contents sink) (device.contents sink') in
      subst P (sym fault) (wanted, printed, answer, stopped.count, stopped.taken)

-- what the program lacks is an answer to every text
lack_answered : {T : Type 0} (device : Ghosts T) (command : Command) (lack : Lack) (status : Status) (sink sink' : T) (text : List ℕ)
    → HasPrintedLack device lack status sink sink' → HasAnswered command text status (device.contents sink) (device.contents sink')
lack_answered device command lack statuses.NoPhenomenon sink sink' text none = absurd none
lack_answered device command lack statuses.SomePhenomenon sink sink' text none = absurd none
lack_answered device command lack statuses.Refused sink sink' text none = absurd none
lack_answered device command lack statuses.DeviceFault sink sink' text stopped =
    (statuses.Lacking, lack_line lack, (lack, refl), stopped.count, stopped.taken)
lack_answered device command lack statuses.Lacking sink sink' text taken = (lack_line lack, (lack, refl), taken.taken)

-- nothing is a beginning of an answer
nothing_printed : (command : Command) (text : List ℕ) (told : Option (List ℕ)) → HasAnswered command text statuses.DeviceFault told told
nothing_printed command text told = (statuses.Lacking, lack_line Memory, (Memory, refl), 0, Appends-nil told)

-- a run of which the answer is right for every text
run_on_any : {S T : Type 0} (reads : Source S) (prints : Ghosts T) (command : Command) (status : Status) (source source' : S) (sink sink' : T)
    → ((text : List ℕ) → HasAnswered command text status (prints.contents sink) (prints.contents sink'))
    → (code_of status ≤ 2 → IsAtEnd (reads.remaining source'))
    → FailedBy reads prints status source source' sink sink'
    → HasRun reads prints command status source source' sink sink'
run_on_any reads prints command status source source' sink sink' answers whole failed =
    let any = of_any (reads.remaining source) (λ text. HasAnswered command text status (prints.contents sink) (prints.contents sink')) answers in
    record { text = any.0; text_is = any.1; answered = any.2; whole = whole; failed = failed }

-- the run ends where the source fails
pub source_failed : {S T : Type 0} (reads : Source S) (prints : Ghosts T) (command : Command) (source source' : S) (sink : T)
    → CountsFailure (reads.failures source) (reads.failures source')
    → HasRun reads prints command statuses.DeviceFault source source' sink sink
source_failed reads prints command source source' sink failed =
    run_on_any reads prints command statuses.DeviceFault source source' sink sink (λ text. nothing_printed command text (prints.contents sink)) (λ few. absurd (omega (arith, few)))
    (inl (record { failed = failed; untouched = refl }))

-- the run prints what the program lacks, and the source didn't fail
pub lack_run :
    {S T : Type 0} (reads : Source S) (prints : Ghosts T) (command : Command) (lack : Lack) (status : Status) (source source' : S) (sink sink' : T)
    → reads.failures source' ≡ reads.failures source → HasPrintedLack prints lack status sink sink' → HasRun reads prints command status source source' sink sink'
lack_run reads prints command lack status source source' sink sink' same printed =
    run_on_any reads prints command status source source' sink sink' (λ text. lack_answered prints command lack status sink sink' text printed) (whole status printed) (failed status printed)
  where
    whole : (s : Status) → HasPrintedLack prints lack s sink sink' → code_of s ≤ 2 → IsAtEnd (reads.remaining source')
    whole statuses.NoPhenomenon none few = absurd none
    whole statuses.SomePhenomenon none few = absurd none
    whole statuses.Refused none few = absurd none
    whole statuses.DeviceFault stopped few = absurd (omega (arith, few))
    whole statuses.Lacking taken few = absurd (omega (arith, few))

    failed : (s : Status) → HasPrintedLack prints lack s sink sink' → FailedBy reads prints s source source' sink sink'
    failed statuses.NoPhenomenon none = absurd none
    failed statuses.SomePhenomenon none = absurd none
    failed statuses.Refused none = absurd none
    failed statuses.DeviceFault stopped = inr (record { source_ok = same; failed = stopped.failed })
    failed statuses.Lacking taken = record { source_ok = same; sink_ok = taken.no_failure }

-- the run prints an answer to the text that the source gave to its end
pub answered_run :
    {S T : Type 0} (reads : Source S) (prints : Ghosts T) (command : Command) (wanted status : Status) (source source' : S) (sink sink' : T) (printed : List ℕ)
    → HasGiven reads source source' (λ text. IsAnswer command text wanted printed) → HasPrinted prints wanted status sink sink' printed
    → HasRun reads prints command status source source' sink sink'
answered_run reads prints command wanted status source source' sink sink' printed (text, all, answer) ends =
    record {
      text = text;
      text_is = Consumes-all (reads.remaining source) (reads.remaining source') text [] text all.given all.at_end refl;
      answered = printed_answer prints command text sink sink' printed wanted status answer ends;
      whole = λ few. all.at_end;
      failed = failed ends;
    }
  where
    unfailed : (s : Status) → IsAnswer command text s printed → HasTaken prints sink sink' printed → FailedBy reads prints s source source' sink sink'
    unfailed statuses.NoPhenomenon is taken = record { source_ok = all.no_failure; sink_ok = taken.no_failure }
    unfailed statuses.SomePhenomenon is taken = record { source_ok = all.no_failure; sink_ok = taken.no_failure }
    unfailed statuses.Refused is taken = record { source_ok = all.no_failure; sink_ok = taken.no_failure }
    unfailed statuses.DeviceFault is taken = absurd is
    unfailed statuses.Lacking is taken = record { source_ok = all.no_failure; sink_ok = taken.no_failure }

    failed : HasPrinted prints wanted status sink sink' printed → FailedBy reads prints status source source' sink sink'
    failed (inl (same, taken)) = subst (λ s. FailedBy reads prints s source source' sink sink') (sym same) (unfailed wanted answer taken)
    failed (inr (fault, stopped)) =
        subst (λ s. FailedBy reads prints s source source' sink sink') (sym fault) (inr (record { source_ok = all.no_failure; failed = stopped.failed }))
