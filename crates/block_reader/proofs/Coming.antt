-- Reading on through a source's text.
use Rattle.std.proofs.Common.{◌≡◌, ◌⊎◌, inl, inr, ℕ, ◌+◌, ◌-◌, ◌≤◌, List, ◌++◌, length, take, drop, Option, Some, None, Result, Ok, Err, IsErrAnd, IfErr, true, refl, sym, ◌∙◌, ap, subst, arith, append_assoc, length-append, drop-drop}
use Rattle.std.proofs.Math.Seq.{drop-append_seam}
use Rattle.std.proofs.KnownBytes.{Consumes-trans}
use Rattle.std.proofs.lemmas.List.{length-take, take-append-drop, drop_at}
use Rattle.std.specs.Io.KnownBytes.{Consumes, IsAtEnd}
use Rattle.hist_types.specs.Operations.{Operation}
use Rattle.hist_types.specs.Devices.{CountsFailure}
use Rattle.hist_types.specs.Refusals.{memory_fault}
use Rattle.hist_types.specs.declared.device.Source.{Ghosts as Source}
use Rattle.hist_types.specs.declared.types.Fault.{Fault}
use Rattle.reading_laws.specs.Parts.{EndsLine, fault_behind}
use Rattle.hist_types.specs.Reading.{GivesFrom, FailsFrom, GivesFault}
use Rattle.block_reader.specs.Parts.{ReadsThrough, FailsThere}
use Rattle.block_reader.specs.Rounds.{HasGivenAll, HasReadAll, HasPassed, HasCome, IsRefused, IsFaultOf, IsCounted}
use Rattle.block_reader.specs.declared.rounds.Reading.{Reading}
use Rattle.block_reader.specs.declared.rounds.InputFault.{InputFault}
use Rattle.block_reader.specs.declared.rounds.InputFault.TheVariants.{Device, Text}
use Rattle.block_reader.specs.Starts.{IsBehindLine}
use Rattle.block_reader.proofs.StartsMore.{ends_behind_line}

through_both : (a b : List ℕ) (os ps : List Operation) → ReadsThrough a os → ReadsThrough b ps → ReadsThrough (a ++ b) (os ++ ps)
through_both a b os ps first second text behind offset later fault has rest =
    let there : drop (offset + length a) text ≡ b ++ behind =
    sym (drop-drop (length a) offset text) ∙ (ap (drop (length a)) (has ∙ append_assoc a b behind) ∙ drop-append_seam a (b ++ behind)) in
    let long : offset + length (a ++ b) ≡ (offset + length a) + length b = omega (arith, length-append a b) in
    let on = second text behind (offset + length a) later fault there (subst (λ n. GivesFrom text n later fault) long rest) in
    subst (λ xs. GivesFrom text offset xs fault) (sym (append_assoc os ps later)) (first text (b ++ behind) offset (ps ++ later) fault (has ∙ append_assoc a b behind) on)

pub come_on :
    {S : Type 0} (device : Source S) (source now : S) (reading reading' : Reading) (end : ℕ) (os ps : List Operation)
    → HasCome device source now reading os → end ≤ length reading.window.bytes → ReadsThrough (take end reading.window.bytes) ps → HasPassed end reading reading'
    → HasCome device source now reading' (os ++ ps)
come_on device source now reading reading' end os ps come within through passed =
    let front = take end reading.window.bytes in
    record {
      front = come.front ++ front;
      given =
          subst (Consumes (device.remaining source) (device.remaining now))
          (ap (λ xs. come.front ++ xs) (sym (take-append-drop end reading.window.bytes)) ∙ (sym (append_assoc come.front front (drop end reading.window.bytes)) ∙ ap (λ xs. (come.front ++ front) ++ xs) (sym passed.window)))
          come.given;
      no_failure = come.no_failure;
      long = length-append come.front front ∙ omega (arith, come.long, passed.offset, length-take end reading.window.bytes);
      through = through_both come.front front os ps come.through through;
      at_end = λ ended. come.at_end (sym passed.ended ∙ ended);
    }

pub lines_end : (window : List ℕ) (end : ℕ) → IsBehindLine window 0 end → EndsLine (take end window)
lines_end window end found =
    let behind = found.behind in let same : end - 0 ≡ end = omega arith in
    subst (λ n. EndsLine (take n window)) same (ends_behind_line window 0 end (omega arith) found.within found.before found.line)

given_all : {S : Type 0} (device : Source S) (source now : S) (reading : Reading) (os : List Operation)
    → (come : HasCome device source now reading os) → reading.ended ≡ true → HasGivenAll device source now (come.front ++ reading.window.bytes)
given_all device source now reading os come ended = record { given = come.given; at_end = come.at_end ended; no_failure = come.no_failure }

whole : (front window : List ℕ) (offset : ℕ) (os ps : List Operation) (fault : Option Fault) → length front ≡ offset → ReadsThrough front os
    → GivesFrom (front ++ window) offset ps fault → GivesFrom (front ++ window) 0 (os ++ ps) fault
whole front window offset os ps fault long through gives =
    through (front ++ window) window 0 ps fault refl (subst (λ n. GivesFrom (front ++ window) n ps fault) (let same : offset ≡ 0 + length front = omega arith in same) gives)

pub come_all :
    {S : Type 0} (device : Source S) (source now : S) (reading : Reading) (os ps : List Operation)
    → HasCome device source now reading os → reading.ended ≡ true
    → ((front : List ℕ) → length front ≡ reading.offset → GivesFrom (front ++ reading.window.bytes) reading.offset ps None)
    → HasReadAll device source now (os ++ ps)
come_all device source now reading os ps come ended gives =
    record {
      text = come.front ++ reading.window.bytes;
      all = given_all device source now reading os come ended;
      gives = whole come.front reading.window.bytes reading.offset os ps None come.long come.through (gives come.front come.long);
    }

pub come_fails :
    {S : Type 0} (device : Source S) (source now : S) (reading : Reading) (os : List Operation) (fault : Fault)
    → HasCome device source now reading os → reading.ended ≡ true
    → ((front : List ℕ) → length front ≡ reading.offset → (fault ≡ memory_fault) ⊎ FailsFrom (front ++ reading.window.bytes) reading.offset fault)
    → IsFaultOf device source now (Text fault)
come_fails device source now reading os fault come ended fails = elim (fails come.front come.long) [
  | inl memory ↦ inl (memory, come.no_failure)
  | inr failed ↦ inr (
    come.front ++ reading.window.bytes,
    given_all device source now reading os come ended,
    (os ++ failed.0, whole come.front reading.window.bytes reading.offset os failed.0 (Some fault) come.long come.through failed.1),
  )
]

-- the window's first lines are refused, so the window is
pub refused_there : (reading : Reading) (end : ℕ) (fault : Fault) → FailsThere (take end reading.window.bytes) fault → IsRefused reading fault
refused_there reading end fault there front more long =
    let window = reading.window.bytes in
    there (front ++ window ++ more) (drop end window ++ more) reading.offset
    (ap (drop reading.offset) (append_assoc front window more)
    ∙ drop_at front (window ++ more) reading.offset long
    ∙ (ap (λ xs. xs ++ more) (sym (take-append-drop end window)) ∙ append_assoc (take end window) (drop end window) more))

-- the fault of a window that is refused, once the source is read to its end
pub come_refused :
    {S : Type 0} (device : Source S) (source now later : S) (reading : Reading) (os : List Operation) (fault given : Fault)
    → HasCome device source now reading os
    → IsRefused reading fault
    → (more : List ℕ) × Consumes (device.remaining now) (device.remaining later) more
    → IsAtEnd (device.remaining later)
    → device.failures later ≡ device.failures now
    → (given ≡ memory_fault) ⊎ (given ≡ fault_behind reading.offset fault)
    → IsFaultOf device source later (Text given)
come_refused device source now later reading os fault given come refused (more, read) at_end same (inl memory) = inl (memory, same ∙ come.no_failure)
come_refused device source now later reading os fault given come refused (more, read) at_end same (inr is) =
    let window = reading.window.bytes in
    let failed = refused come.front more come.long in
    let same_text = append_assoc come.front window more in
    inr (
      come.front ++ window ++ more,
      record {
        given = Consumes-trans _ _ _ _ _ come.given read;
        at_end = at_end;
        no_failure = same ∙ come.no_failure;
      },
      subst (GivesFault (come.front ++ window ++ more)) (sym is)
          (subst (λ t. GivesFault t (fault_behind reading.offset fault)) (sym same_text) (
            os ++ failed.0,
            whole come.front (window ++ more) reading.offset os failed.0 _ come.long come.through
                (subst (λ t. GivesFrom t reading.offset failed.0 (Some (fault_behind reading.offset fault))) same_text failed.1),
          )),
    )

-- a failure since then is one of the whole
pub come_counted :
    {S : Type 0} (device : Source S) (source now later : S) (reading : Reading) (os : List Operation)
    → HasCome device source now reading os
    → (fault : InputFault)
    → IsCounted fault (device.failures now) (device.failures later)
    → IsFaultOf device source later fault
come_counted device source now later reading os come Device counted =
    subst (λ n. CountsFailure n (device.failures later)) come.no_failure counted
come_counted device source now later reading os come (Text fault) counted =
    inl (counted.0, counted.1 ∙ come.no_failure)

pub come_memory :
    {S : Type 0} (device : Source S) (source now : S) (reading : Reading) (os : List Operation)
    → HasCome device source now reading os → (given : InputFault) → given ≡ Text memory_fault → IsFaultOf device source now given
come_memory device source now reading os come given is = subst (IsFaultOf device source now) (sym is) (inl (refl, come.no_failure))

pub fault_memory :
    {S T : Type 0} (device : Source S) (source now : S) (reading : Reading) (os : List Operation) (result : Result T InputFault)
    → HasCome device source now reading os → IsErrAnd result (λ fault. fault ≡ Text memory_fault) → IfErr result (IsFaultOf device source now)
fault_memory device source now reading os (Ok found) come h = absurd h
fault_memory device source now reading os (Err fault) come h = come_memory device source now reading os come fault h

pub fault_same :
    {S T : Type 0} (device : Source S) (source now : S) (fault : InputFault) (result : Result T InputFault)
    → IsErrAnd result (λ given. given ≡ fault) → IsFaultOf device source now fault → IfErr result (IsFaultOf device source now)
fault_same device source now fault (Ok found) h is = absurd h
fault_same device source now fault (Err given) h is = subst (IsFaultOf device source now) (sym h) is
