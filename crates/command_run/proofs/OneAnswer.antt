-- A text has one answer.
use Rattle.std.proofs.Common.{◌≡◌, ℕ, ◌<◌, List, Option, Some, None, is_some, inl, inr, refl, sym, ap, subst, ◌∙◌, arith}
use Rattle.std.specs.Prelude.{◌≢◌, ◌⊎◌}
use Rattle.std.proofs.lemmas.Option.{none-some, same_Some}
use Rattle.hist_types.specs.Operations.{Operation}
use Rattle.hist_types.specs.Entries.{operations_of}
use Rattle.reading_laws.specs.Readings.{HasOneReading}
use Rattle.hist_types.specs.Phenomena.{height}
use Rattle.hist_types.specs.Reading.{GivesOperations, GivesFault, Reads}
use Rattle.hist_types.specs.Reports.{finding, Report, IsVerdictOf, names_phenomenon, reads_report, names_read, edges_report}
use Rattle.hist_types.specs.Texts.{reads_text, edges_text, refusal_line}
use Rattle.hist_types.specs.Transactions.{Transaction, transactions_of}
use Rattle.hist_types.specs.Witness.{Finding, IsFinding}
use Rattle.hist_types.specs.declared.types.Fault.{Fault}
use Rattle.hist_types.specs.declared.types.Level.{Level}
use Rattle.hist_types.specs.declared.types.Level.TheVariants.{Plain, Process, Realtime}
use Rattle.hist_types.specs.declared.types.Phenomenon.{Phenomenon}
use Rattle.hist_types.specs.declared.types.Phenomenon.TheVariants.{G0, G1c, GSingle, G2Item}
use Rattle.hist_types.specs.declared.types.KeyOrder.{KeyOrder}
use Rattle.command_run.specs.Answers.{GivesEvents, journal_fault, IsRefused, IsVerdict, Reports, IsReport, IsAnswer}
use Rattle.command_run.specs.SameAnswers.{level_found, DifferInWitnessesAlone}
use Rattle.command_run.specs.Statuses.{status_by}
use Rattle.command_run.specs.declared.answer.Status.{Status}
use Rattle.command_run.specs.declared.answer.Status.TheVariants as statuses
use Rattle.command_line.specs.declared.types.Command.{Command}
use Rattle.command_line.specs.declared.types.Command.TheVariants.{Reads as the_reads, Edges as the_edges, Check as the_check}

module _ (text : List ℕ) (one_reading : HasOneReading (Reads text)) where
  pub same_operations : (ops others : List Operation) → GivesOperations text ops → GivesOperations text others → ops ≡ others
  same_operations ops others one two =
      let same = one_reading.1 one.entries two.entries None None one.read two.read in
      sym one.given ∙ (ap operations_of same.0 ∙ two.given)

  same_fault : (fault other : Fault) → GivesFault text fault → GivesFault text other → fault ≡ other
  same_fault fault other one two =
      same_Some fault other (one_reading.1 one.1.entries two.1.entries (Some fault) (Some other) one.1.read two.1.read).1

  not_both : (ops : List Operation) (fault : Fault) → GivesOperations text ops → GivesFault text fault → ⊥
  not_both ops fault given refused =
      none-some fault (one_reading.1 given.entries refused.1.entries None (Some fault) given.read refused.1.read).1

  -- operations whose journal is refused are no events
  no_events : (events ops : List Operation) (fault : Fault) → GivesEvents text events → GivesOperations text ops → journal_fault ops ≡ Some fault → ⊥
  no_events events ops fault kept given broken =
      let same = same_operations events ops kept.given given in
      let none : journal_fault ops ≡ None = subst (λ (os : List Operation). journal_fault os ≡ None) same (rw kept.kept refl) in
      none-some fault (sym none ∙ broken)

  same_refusal : (fault other : Fault) → IsRefused text fault → IsRefused text other → fault ≡ other
  same_refusal fault other (inl one) (inl two) = same_fault fault other one two
  same_refusal fault other (inl one) (inr two) = absurd (not_both two.0 fault two.1 one)
  same_refusal fault other (inr one) (inl two) = absurd (not_both one.0 other one.1 two)
  same_refusal fault other (inr one) (inr two) =
      let same = same_operations one.0 two.0 one.1 two.1 in
      same_Some fault other (sym one.2 ∙ (ap journal_fault same ∙ two.2))

  not_refused : (events : List Operation) (fault : Fault) → GivesEvents text events → IsRefused text fault → ⊥
  not_refused events fault kept (inl reading) = not_both events fault kept.given reading
  not_refused events fault kept (inr journal) = no_events events journal.0 fault kept journal.1 journal.2

-- an answer is a report or a refusal
record Refuses (text : List ℕ) (status : Status) (printed : List ℕ) : Type 0 where
  fault : Fault
  refused : IsRefused text fault
  by : status ≡ statuses.Refused
  line : printed ≡ refusal_line fault

judged : (command : Command) (text : List ℕ) (status : Status) (printed : List ℕ) → status ≢ statuses.Lacking → IsAnswer command text status printed → IsReport command text status printed ⊎ Refuses text status printed
judged command text statuses.NoPhenomenon printed given a = inl a
judged command text statuses.SomePhenomenon printed given a = inl a
judged command text statuses.Refused printed given a = inr (record { fault = a.0; refused = a.1; by = refl; line = a.2 })
judged command text statuses.DeviceFault printed given a = absurd a
judged command text statuses.Lacking printed given a = absurd (given refl)

-- a phenomenon is found or not
same_finding : (keys : KeyOrder) (phenomenon : Phenomenon) (ts : List Transaction) (found other : Option Finding) → IsFinding keys phenomenon ts found → IsFinding keys phenomenon ts other → is_some found ≡ is_some other
same_finding keys phenomenon ts None None one two = refl
same_finding keys phenomenon ts (Some f) (Some g) one two = refl
same_finding keys phenomenon ts None (Some g) one two = absurd (one.0 g.level two.0.0)
same_finding keys phenomenon ts (Some f) None one two = absurd (two.0 f.level one.0.0)

same_named : (keys : KeyOrder) (events : List Operation) (r s : Report) → IsVerdictOf keys events r → IsVerdictOf keys events s → names_phenomenon r ≡ names_phenomenon s
same_named keys events r s one two =
    rw (
      same_finding keys _ _ r.findings.g0 s.findings.g0 (one.findings G0) (two.findings G0),
      same_finding keys _ _ r.findings.g1c s.findings.g1c (one.findings G1c) (two.findings G1c),
      same_finding keys _ _ r.findings.single s.findings.single (one.findings GSingle) (two.findings GSingle),
      same_finding keys _ _ r.findings.item s.findings.item (one.findings G2Item) (two.findings G2Item),
      one.g1a ∙ sym two.g1a,
      one.g1b ∙ sym two.g1b,
    ) refl

same_status : (keys : KeyOrder) (events : List Operation) (status other : Status) (printed lines : List ℕ) → IsVerdict keys events status printed → IsVerdict keys events other lines → status ≡ other
same_status keys events status other printed lines one two =
    one.status_is ∙ (ap status_by (same_named keys events one.report two.report one.is_verdict two.is_verdict) ∙ sym two.status_is)

-- levels of which none is below the other
one_height : (a b : Level) → ¬ (height a < height b) → ¬ (height b < height a) → a ≡ b
one_height Plain Plain n m = refl
one_height Plain Process n m = absurd (n (omega arith))
one_height Plain Realtime n m = absurd (n (omega arith))
one_height Process Plain n m = absurd (m (omega arith))
one_height Process Process n m = refl
one_height Process Realtime n m = absurd (n (omega arith))
one_height Realtime Plain n m = absurd (m (omega arith))
one_height Realtime Process n m = absurd (m (omega arith))
one_height Realtime Realtime n m = refl

-- a phenomenon is found at one level
same_level : (keys : KeyOrder) (phenomenon : Phenomenon) (ts : List Transaction) (found other : Option Finding) → IsFinding keys phenomenon ts found → IsFinding keys phenomenon ts other → level_found found ≡ level_found other
same_level keys phenomenon ts None None one two = refl
same_level keys phenomenon ts (Some f) (Some g) one two =
    ap Some (one_height f.level g.level (λ below. two.0.1 f.level below one.0.0) (λ below. one.0.1 g.level below two.0.0))
same_level keys phenomenon ts None (Some g) one two = absurd (one.0 g.level two.0.0)
same_level keys phenomenon ts (Some f) None one two = absurd (two.0 f.level one.0.0)

-- verdicts on the same events differ in witnesses alone
same_verdicts : (keys : KeyOrder) (events : List Operation) (status other : Status) (printed lines : List ℕ) → IsVerdict keys events status printed → IsVerdict keys events other lines → DifferInWitnessesAlone printed lines
same_verdicts keys events status other printed lines one two = (
  one.report,
  two.report,
  one.text,
  two.text,
  record {
    prefix = one.is_verdict.prefix ∙ sym two.is_verdict.prefix;
    txns = one.is_verdict.txns ∙ sym two.is_verdict.txns;
    levels = λ phenomenon.
        same_level keys phenomenon (transactions_of events) (finding one.report.findings phenomenon) (finding two.report.findings phenomenon)
        (one.is_verdict.findings phenomenon) (two.is_verdict.findings phenomenon);
    g1a = one.is_verdict.g1a ∙ sym two.is_verdict.g1a;
    g1b = one.is_verdict.g1b ∙ sym two.is_verdict.g1b;
    stray = one.is_verdict.stray ∙ sym two.is_verdict.stray;
  },
)

-- one status, and except for a verdict one output with it
abbrev IsSame : Command → (status other : Status) → (printed others : List ℕ) → Type 0
IsSame command status other printed others = (status ≡ other) × (((workers : ℕ) (keys : KeyOrder) → command ≢ the_check workers keys) → printed ≡ others)

-- events have one report
one_report : (command : Command) (events others : List Operation) (status other : Status) (printed lines : List ℕ) → events ≡ others
    → Reports command events status printed → Reports command others other lines → IsSame command status other printed lines
one_report the_reads events others status other printed lines same one two =
    (one.0 ∙ (ap (λ (es : List Operation). status_by (names_read (reads_report es))) same ∙ sym two.0), λ no_check. one.1 ∙ (ap (λ (es : List Operation). reads_text (reads_report es)) same ∙ sym two.1))
one_report (the_edges keys) events others status other printed lines same one two = (one.0 ∙ sym two.0, λ no_check. one.1 ∙ (ap (λ (es : List Operation). edges_text (edges_report keys es)) same ∙ sym two.1))
one_report (the_check workers keys) events others status other printed lines same one two =
    (same_status keys events status other printed lines one (subst (λ (es : List Operation). IsVerdict keys es other lines) (sym same) two), λ no_check. absurd (no_check workers keys refl))

-- a text that has one reading has one answer
pub one_answer : ((text : List ℕ) → HasOneReading (Reads text)) → (command : Command) (text : List ℕ) (status other : Status) (printed others : List ℕ) → status ≢ statuses.Lacking → other ≢ statuses.Lacking
    → IsAnswer command text status printed → IsAnswer command text other others → IsSame command status other printed others
one_answer one_reading command text status other printed others given too one two = by_kind (judged command text status printed given one) (judged command text other others too two)
  where
    by_kind : IsReport command text status printed ⊎ Refuses text status printed → IsReport command text other others ⊎ Refuses text other others → IsSame command status other printed others
    by_kind (inl r) (inl s) =
        one_report command r.events s.events status other printed others (same_operations text (one_reading text) r.events s.events r.given.given s.given.given) r.reported s.reported
    by_kind (inl r) (inr s) = absurd (not_refused text (one_reading text) r.events s.fault r.given s.refused)
    by_kind (inr r) (inl s) = absurd (not_refused text (one_reading text) s.events r.fault s.given r.refused)
    by_kind (inr r) (inr s) =
        let same = same_refusal text (one_reading text) r.fault s.fault r.refused s.refused in
        (r.by ∙ sym s.by, λ no_check. r.line ∙ (ap refusal_line same ∙ sym s.line))

-- a refused text has one output
pub one_refusal : ((text : List ℕ) → HasOneReading (Reads text)) → (command : Command) (text : List ℕ) (printed others : List ℕ)
    → IsAnswer command text statuses.Refused printed → IsAnswer command text statuses.Refused others → printed ≡ others
one_refusal one_reading command text printed others one two =
    one.2 ∙ (ap refusal_line (same_refusal text (one_reading text) one.0 two.0 one.1 two.1) ∙ sym two.2)

-- the reports of `check` on a text differ in witnesses alone
pub one_verdict : ((text : List ℕ) → HasOneReading (Reads text)) → (workers more : ℕ) (keys : KeyOrder) (text : List ℕ) (status other : Status) (printed others : List ℕ)
    → IsReport (the_check workers keys) text status printed → IsReport (the_check more keys) text other others → DifferInWitnessesAlone printed others
one_verdict one_reading workers more keys text status other printed others r s =
    let same = same_operations text (one_reading text) r.events s.events r.given.given s.given.given in
    same_verdicts keys r.events status other printed others r.reported (subst (λ (es : List Operation). IsVerdict keys es other others) (sym same) s.reported)
