-- What comes of reading a source and judging what it gave.
use Rattle.std.proofs.Common.{◌≡◌, ◌⊎◌, inl, inr, ℕ, List, Some, Result, Ok, Err, IsErrAnd, IfErr, sym, subst}
use Rattle.hist_types.specs.Journal.{KeepsRules}
use Rattle.hist_types.specs.Operations.{Operation}
use Rattle.hist_types.specs.Refusals.{memory_fault}
use Rattle.hist_types.specs.declared.device.Source.{Ghosts as Source}
use Rattle.hist_types.specs.declared.types.Fault.{Fault}
use Rattle.hist_types.specs.Reading.{GivesOperations}
use Rattle.block_reader.specs.Rounds.{HasReadAll, IsFaultOf}
use Rattle.block_reader.specs.declared.rounds.InputFault.{InputFault}
use Rattle.block_reader.specs.declared.rounds.InputFault.TheVariants.{Device, Text}
use Rattle.verdict.specs.KeyPieces.{IsMemoryOrThread}
use Rattle.command_run.specs.Answers.{journal_fault, GivesEvents, IsRefused}
use Rattle.command_run.specs.Sources.{HasGiven, HasNoReport}

-- what holds of a fault holds of the one that is handed on
pub handed_on : {T : Type 0} (P : InputFault → Type 0) (fault : InputFault) (result : Result T InputFault)
    → IsErrAnd result (λ given. given ≡ fault) → P fault → IfErr result P
handed_on P fault (Ok found) h is = absurd h
handed_on P fault (Err given) h is = subst P (sym h) is

module _ {S : Type 0} (device : Source S) (source source' : S) where
  -- a fault of reading
  pub unread : (fault : InputFault) → IsFaultOf device source source' fault → HasNoReport device source source' fault
  unread Device failed = failed
  unread (Text fault) (inl (memory, same)) = inl (inl memory, same)
  unread (Text fault) (inr (text, all, fails)) = inr (text, all, inl fails)

  -- a fault of judging
  pub unjudged : (os : List Operation) (fault : Fault) → HasReadAll device source source' os
      → (fault ≡ memory_fault) ⊎ (journal_fault os ≡ Some fault) → HasNoReport device source source' (Text fault)
  unjudged os fault read (inl memory) = inl (inl memory, read.all.no_failure)
  unjudged os fault read (inr breaks) = inr (read.text, read.all, inr (os, read.gives, breaks))

  -- the events of a text that was read
  pub events_given : (os events : List Operation) → HasReadAll device source source' os → events ≡ os → KeepsRules events
      → HasGiven device source source' (λ text. GivesEvents text events)
  events_given os events read same kept =
      (read.text, read.all, record { given = subst (GivesOperations read.text) (sym same) read.gives; kept = kept })

  -- a text that is refused has what is said of its refusal, unless the program lacks something
  pub refusal_answered : (fault : Fault) (P : List ℕ → Type 0) → HasNoReport device source source' (Text fault) → (IsMemoryOrThread fault → ⊥)
      → ((text : List ℕ) → IsRefused text fault → P text) → HasGiven device source source' P
  refusal_answered fault P (inl (lack, same)) no_lack answers = absurd (no_lack lack)
  refusal_answered fault P (inr (text, all, refused)) no_lack answers = (text, all, answers text refused)

  -- no failure is counted where the text has no report
  pub none_counted : (fault : Fault) → HasNoReport device source source' (Text fault) → device.failures source' ≡ device.failures source
  none_counted fault (inl (lack, same)) = same
  none_counted fault (inr (text, all, refused)) = all.no_failure
