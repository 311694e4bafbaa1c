-- A verdict that says refuted reports a phenomenon, which is there.
use Rattle.std.proofs.Common.{◌≡◌, inl, inr, List, Bool, true, false, ◌||◌, if◌then◌else◌, Option, Some, None, is_some, sym, ◌∙◌, ap}
use Rattle.std.proofs.lemmas.Bool.{false≢true, cases_Bool, or_cases, or_left, or_right}
use Rattle.hist_types.specs.Journal.{KeepsRules, events_of}
use Rattle.hist_types.specs.Operations.{Operation}
use Rattle.hist_types.specs.Phenomena.{g1a, g1b, BadRead, HasPhenomenon}
use Rattle.hist_types.specs.Reports.{Findings, AreFindings, Report, IsVerdictOf, names_cycle, names_phenomenon, strict_of}
use Rattle.hist_types.specs.Transactions.{Transaction, transactions_of}
use Rattle.hist_types.specs.Witness.{Finding, IsFinding}
use Rattle.hist_types.specs.declared.types.Phenomenon.{Phenomenon}
use Rattle.hist_types.specs.declared.types.Phenomenon.TheVariants.{G0, G1c, GSingle, G2Item}
use Rattle.hist_types.specs.declared.types.Strict.{Strict}
use Rattle.hist_types.specs.declared.types.Strict.TheVariants.{Refuted, Open}
use Rattle.hist_types.specs.declared.types.KeyOrder.{KeyOrder}
use Rattle.history_laws.proofs.Blocks.{events_of-kept}
use Rattle.report_laws.specs.Explained.{RefutesExplanations}
use Rattle.report_laws.proofs.ExplainedPhenomena.{refuted}

abbrev is_refuted : Strict → Bool
is_refuted Refuted = true
is_refuted Open = false

pub named : (r : Report) → strict_of r ≡ Refuted → names_phenomenon r ≡ true
named r says = elim (cases_Bool (names_phenomenon r)) [
  | inl e ↦ e
  | inr e ↦ elim (false≢true (sym (ap (λ b. is_refuted (if b then Refuted else Open)) e) ∙ ap is_refuted says)) [ ]
]

is_there : (keys : KeyOrder) (phenomenon : Phenomenon) (ts : List Transaction) (found : Option Finding) → IsFinding keys phenomenon ts found → is_some found ≡ true → HasPhenomenon keys ts
is_there keys phenomenon ts None is e = elim (false≢true e) [ ]
is_there keys phenomenon ts (Some found) is e = inl (phenomenon, found.level, is.0.0)

cycle_there : (keys : KeyOrder) (ts : List Transaction) (found : Findings) → AreFindings keys ts found → names_cycle found ≡ true → HasPhenomenon keys ts
cycle_there keys ts found are e =
    elim (or_cases (is_some found.g0 || is_some found.g1c || is_some found.single) (is_some found.item) e) [
      | inr item ↦ is_there keys G2Item ts found.item (are G2Item) item
      | inl others ↦ elim (or_cases (is_some found.g0 || is_some found.g1c) (is_some found.single) others) [
        | inr single ↦ is_there keys GSingle ts found.single (are GSingle) single
        | inl others ↦ elim (or_cases (is_some found.g0) (is_some found.g1c) others) [
          | inl g0 ↦ is_there keys G0 ts found.g0 (are G0) g0
          | inr g1c ↦ is_there keys G1c ts found.g1c (are G1c) g1c
        ]
      ]
    ]

pub phenomenon_there : (keys : KeyOrder) (events : List Operation) (r : Report) → IsVerdictOf keys events r → names_phenomenon r ≡ true → HasPhenomenon keys (transactions_of events)
phenomenon_there keys events r is e =
    let ts : List Transaction = transactions_of events in
    elim (or_cases (names_cycle r.findings) (is_some r.g1a || is_some r.g1b) e) [
      | inl cycle ↦ cycle_there keys ts r.findings is.findings cycle
      | inr reads ↦ elim (or_cases (is_some r.g1a) (is_some r.g1b) reads) [
        | inl aborted ↦ inr (or_left (is_some (g1a ts)) (is_some (g1b ts)) (sym (ap (λ (o : Option BadRead). is_some o) is.g1a) ∙ aborted))
        | inr intermediate ↦ inr (or_right (is_some (g1a ts)) (is_some (g1b ts)) (sym (ap (λ (o : Option BadRead). is_some o) is.g1b) ∙ intermediate))
      ]
    ]

pub verdict_refutes : (keys : KeyOrder) (events : List Operation) (r : Report) → KeepsRules events → IsVerdictOf keys events r → RefutesExplanations events r
verdict_refutes keys events r kept is says = refuted keys events kept (phenomenon_there keys events r is (named r says))

pub verdict_of_run_refutes : (keys : KeyOrder) (blocks : List (List Operation)) (r : Report) → IsVerdictOf keys (events_of blocks) r → RefutesExplanations (events_of blocks) r
verdict_of_run_refutes keys blocks r = verdict_refutes keys (events_of blocks) r (events_of-kept blocks)
