-- A text has an answer.
use Rattle.std.proofs.Common.{◌≡◌, ℕ, List, [], length, Bool, true, false, Option, Some, None, inl, inr, refl, ap, sym, ◌∙◌}
use Rattle.std.specs.Prelude.{◌≢◌, option_map}
use Rattle.std.proofs.lemmas.Bool.{false≢true}
use Rattle.hist_types.specs.Operations.{Operation}
use Rattle.hist_types.specs.Journal.{first_broken}
use Rattle.hist_types.specs.Entries.{Entry, operations_of}
use Rattle.reading_laws.specs.Readings.{HasOneReading}
use Rattle.hist_types.specs.Reading.{GivesOperations, Reads}
use Rattle.hist_types.specs.Refusals.{event_fault}
use Rattle.hist_types.specs.Phenomena.{g1a, g1b, stray}
use Rattle.hist_types.specs.Reports.{AreFindings, Report, IsVerdictOf, names_phenomenon, reads_report, names_read, edges_report}
use Rattle.hist_types.specs.Texts.{reads_text, edges_text, verdict_text, refusal_line}
use Rattle.hist_types.specs.Transactions.{Transaction, transactions_of}
use Rattle.hist_types.specs.declared.types.Fault.{Fault}
use Rattle.hist_types.specs.declared.types.Refusal.{Refusal}
use Rattle.hist_types.specs.declared.types.Phenomenon.TheVariants.{G0, G1c, GSingle, G2Item}
use Rattle.command_run.proofs.Deciding.{has_finding}
use Rattle.command_run.specs.Answers.{GivesEvents, IsRefused, IsVerdict, HasAnswer}
use Rattle.command_run.specs.Statuses.{status_by}
use Rattle.command_run.specs.declared.answer.Status.{Status}
use Rattle.command_run.specs.declared.answer.Status.TheVariants as statuses
use Rattle.command_line.specs.declared.types.Command.{Command}
use Rattle.command_line.specs.declared.types.Command.TheVariants.{Reads as the_reads, Edges as the_edges, Check as the_check}

abbrev is_lacking : Status → Bool
is_lacking statuses.Lacking = true
is_lacking status = false

not_lacking : (status : Status) → is_lacking status ≡ false → status ≢ statuses.Lacking
not_lacking status other e = false≢true (sym other ∙ ap is_lacking e)

refused : (command : Command) (text : List ℕ) (fault : Fault) → IsRefused text fault → HasAnswer command text
refused command text fault because = (statuses.Refused, refusal_line fault, not_lacking statuses.Refused refl, (fault, because, refl))

reported : (command : Command) (text : List ℕ) (events : List Operation) → GivesEvents text events → HasAnswer command text
reported the_reads text events given = by_reads (names_read (reads_report events)) refl
  where
    by_reads : (named : Bool) → names_read (reads_report events) ≡ named → HasAnswer the_reads text
    by_reads true e =
        (statuses.SomePhenomenon, reads_text (reads_report events), not_lacking statuses.SomePhenomenon refl, record { events = events; given = given; reported = (rw e refl, refl) })
    by_reads false e =
        (statuses.NoPhenomenon, reads_text (reads_report events), not_lacking statuses.NoPhenomenon refl, record { events = events; given = given; reported = (rw e refl, refl) })
reported (the_edges keys) text events given =
    (statuses.NoPhenomenon, edges_text (edges_report keys events), not_lacking statuses.NoPhenomenon refl, record { events = events; given = given; reported = (refl, refl) })
reported (the_check workers keys) text events given = by_named (names_phenomenon report) refl
  where
    ts : List Transaction
    ts = transactions_of events

    report : Report
    report =
        record {
          prefix = length events;
          txns = length ts;
          findings =
              record {
                g0 = (has_finding keys G0 events).0;
                g1c = (has_finding keys G1c events).0;
                single = (has_finding keys GSingle events).0;
                item = (has_finding keys G2Item events).0;
              };
          g1a = g1a ts;
          g1b = g1b ts;
          stray = stray ts;
        }

    each : AreFindings keys ts report.findings
    each G0 = (has_finding keys G0 events).1
    each G1c = (has_finding keys G1c events).1
    each GSingle = (has_finding keys GSingle events).1
    each G2Item = (has_finding keys G2Item events).1

    verdict : IsVerdictOf keys events report
    verdict = record { prefix = refl; txns = refl; findings = each; g1a = refl; g1b = refl; stray = refl }

    with_status : (status : Status) → status ≡ status_by (names_phenomenon report) → IsVerdict keys events status (verdict_text report)
    with_status status is = record { report = report; is_verdict = verdict; text = refl; status_is = is }

    by_named : (named : Bool) → names_phenomenon report ≡ named → HasAnswer (the_check workers keys) text
    by_named true e =
        (statuses.SomePhenomenon, verdict_text report, not_lacking statuses.SomePhenomenon refl, record { events = events; given = given; reported = with_status statuses.SomePhenomenon (rw e refl) })
    by_named false e =
        (statuses.NoPhenomenon, verdict_text report, not_lacking statuses.NoPhenomenon refl, record { events = events; given = given; reported = with_status statuses.NoPhenomenon (rw e refl) })

judged : (command : Command) (text : List ℕ) (operations : List Operation) → GivesOperations text operations → HasAnswer command text
judged command text operations given = by_rules (first_broken [] operations) refl
  where
    by_rules : (broken : Option (Refusal × ℕ)) → first_broken [] operations ≡ broken → HasAnswer command text
    by_rules None e = reported command text operations (record { given = given; kept = e })
    by_rules (Some rule) e = refused command text (event_fault rule) (inr (operations, given, ap (option_map event_fault) e))

by_reading : (command : Command) (text : List ℕ) → (entries : List Entry) (ending : Option Fault) → Reads text entries ending → HasAnswer command text
by_reading command text entries None read = judged command text (operations_of entries) (record { entries = entries; read = read; given = refl })
by_reading command text entries (Some fault) read =
    refused command text fault (inl (operations_of entries, record { entries = entries; read = read; given = refl }))

-- a text that has a reading has an answer
pub some_answer : ((text : List ℕ) → HasOneReading (Reads text)) → (command : Command) (text : List ℕ) → HasAnswer command text
some_answer one_reading command text =
    let has = (one_reading text).0 in
    by_reading command text has.0 has.1 has.2
