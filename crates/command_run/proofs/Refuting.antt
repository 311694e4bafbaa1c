-- What `check` refutes has no explanation.
use Rattle.std.proofs.Common.{◌≡◌, ℕ, List, [], ◌∷◌, ◌++◌, Bool, true, false, codes, nat_eq, refl, sym, ◌∙◌, ap, subst}
use Rattle.std.proofs.lemmas.Bool.{false≢true}
use Rattle.reading_laws.specs.Readings.{HasOneReading}
use Rattle.hist_types.specs.Explanation.{AreExplained}
use Rattle.hist_types.specs.Operations.{Operation}
use Rattle.hist_types.specs.Reading.{Reads}
use Rattle.hist_types.specs.Reports.{Report, names_phenomenon, strict_of}
use Rattle.hist_types.specs.Texts.{head_lines, finding_lines, bad_read_lines, number_line, line, strict_text, verdict_text}
use Rattle.hist_types.specs.Transactions.{transactions_of}
use Rattle.hist_types.specs.declared.types.Strict.{Strict}
use Rattle.hist_types.specs.declared.types.Strict.TheVariants.{Refuted, Open}
use Rattle.report_laws.proofs.ExplainedVerdicts.{verdict_refutes}
use Rattle.hist_types.specs.declared.types.KeyOrder.{KeyOrder}
use Rattle.command_run.specs.Answers.{IsReport}
use Rattle.command_run.specs.Refuted.{EndsWith, HasNoExplanation}
use Rattle.command_run.specs.Statuses.{status_by}
use Rattle.command_run.specs.declared.answer.Status.{Status}
use Rattle.command_run.specs.declared.answer.Status.TheVariants as statuses
use Rattle.command_line.specs.declared.types.Command.TheVariants.{Check}
use Rattle.command_run.proofs.OneAnswer.{same_operations}

-- ---- the last line

abbrev other_lines : Report → List ℕ
other_lines r =
    head_lines r.prefix r.txns
    ++ finding_lines (codes "G0") r.findings.g0
    ++ bad_read_lines (codes "G1a") r.g1a
    ++ bad_read_lines (codes "G1b") r.g1b
    ++ finding_lines (codes "G1c") r.findings.g1c
    ++ finding_lines (codes "G-single") r.findings.single
    ++ finding_lines (codes "G2-item") r.findings.item
    ++ number_line (codes "stray") r.stray

ends_with_strict : (r : Report) → EndsWith (verdict_text r) (line (strict_text (strict_of r)))
ends_with_strict r = (other_lines r, refl)

-- the last byte but one
abbrev second_last : List ℕ → ℕ
second_last [] = 0
second_last (x ∷ []) = 0
second_last (x ∷ y ∷ []) = x
second_last (x ∷ y ∷ z ∷ zs) = second_last (y ∷ z ∷ zs)

skip : (xs : List ℕ) (a b : ℕ) (ys : List ℕ) → second_last (xs ++ a ∷ b ∷ ys) ≡ second_last (a ∷ b ∷ ys)
skip [] a b ys = refl
skip (x ∷ []) a b ys = refl
skip (x ∷ y ∷ []) a b ys = refl
skip (x ∷ y ∷ z ∷ zs) a b ys = skip (y ∷ z ∷ zs) a b ys

abbrev is_n : ℕ → Bool
is_n n = nat_eq n 110

not_open : (text : List ℕ) → EndsWith text (line (strict_text Open)) → EndsWith text (codes "strict refuted\n") → ⊥
not_open text (front, is) (other, are) =
    let as_open : second_last text ≡ 110 = ap second_last is ∙ skip front 115 116 (codes "rict open\n") in
    let as_refuted : second_last text ≡ 100 = ap second_last are ∙ skip other 115 116 (codes "rict refuted\n") in
    false≢true (sym (ap is_n as_refuted) ∙ ap is_n as_open)

says_refuted : (s : Strict) (text : List ℕ) → EndsWith text (line (strict_text s)) → EndsWith text (codes "strict refuted\n") → s ≡ Refuted
says_refuted Refuted text one two = refl
says_refuted Open text one two = elim (not_open text one two) [ ]

-- ---- the status

abbrev is_some_phenomenon : Status → Bool
is_some_phenomenon statuses.SomePhenomenon = true
is_some_phenomenon status = false

by_status : (named : Bool) → statuses.SomePhenomenon ≡ status_by named → named ≡ true
by_status true e = refl
by_status false e = elim (false≢true (sym (ap is_some_phenomenon e))) [ ]

strict_by : (r : Report) → names_phenomenon r ≡ true → strict_of r ≡ Refuted
strict_by r e = rw e refl

-- ---- the laws

module _ (one_reading : (text : List ℕ) → HasOneReading (Reads text)) (workers : ℕ) (keys : KeyOrder) where
  unexplained : (text : List ℕ) (status : Status) (printed : List ℕ) (report : IsReport (Check workers keys) text status printed)
      → strict_of report.reported.report ≡ Refuted
      → HasNoExplanation text
  unexplained text status printed report says events given =
      subst (λ (es : List Operation). ¬ AreExplained (transactions_of es))
      (same_operations text (one_reading text) report.events events report.given.given given.given)
      (verdict_refutes keys report.events report.reported.report report.given.kept report.reported.is_verdict says)

  pub refuted_by_status : (text printed : List ℕ) → IsReport (Check workers keys) text statuses.SomePhenomenon printed → HasNoExplanation text
  refuted_by_status text printed report =
      unexplained text statuses.SomePhenomenon printed report
      (strict_by report.reported.report (by_status (names_phenomenon report.reported.report) report.reported.status_is))

  pub refuted_by_line : (text : List ℕ) (status : Status) (printed : List ℕ) → IsReport (Check workers keys) text status printed → EndsWith printed (codes "strict refuted\n") → HasNoExplanation text
  refuted_by_line text status printed report ends =
      unexplained text status printed report
      (says_refuted (strict_of report.reported.report) printed
      (subst (λ (t : List ℕ). EndsWith t (line (strict_text (strict_of report.reported.report)))) (sym report.reported.text) (ends_with_strict report.reported.report))
      ends)
