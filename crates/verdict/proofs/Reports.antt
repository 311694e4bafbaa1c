-- What is reported, by its parts.
use Rattle.std.proofs.Common.{◌≡◌, ◌∙◌, ℕ, List, Option, Some, None, length, sym, ap, subst}
use Rattle.std.specs.Borrow.{Bor}
use Rattle.std.specs.Prelude.{IfSome}
use Rattle.dep_edges.specs.Histories.{History}
use Rattle.order_frontier.specs.Predecessors.{Before, IsThinnedOrder}
use Rattle.report_laws.specs.Explained.{RefutesExplanations}
use Rattle.report_laws.proofs.ExplainedVerdicts.{verdict_refutes}
use Rattle.hist_types.specs.Operations.{Operation}
use Rattle.hist_types.specs.Phenomena.{g1a, g1b, stray}
use Rattle.hist_types.specs.Reports.{Findings, AreFindings, Report, IsVerdictOf, no_findings}
use Rattle.hist_types.specs.Transactions.{Transaction}
use Rattle.hist_types.specs.declared.types.KeyOrder.{KeyOrder}
use Rattle.clean_order.specs.CleanReads.{HasNoBadRead}
use Rattle.verdict.specs.Tables.{AreBadReadsOf, AreTables, AreTablesOf, IsVerdictFor, history_of, keys_in}
use Rattle.verdict.specs.declared.tables.Tables.{Tables}
use Rattle.verdict.specs.declared.types.BadReads.{BadReads}

pub verdict_for :
    (keys : KeyOrder) (count : ℕ) (ts : List Transaction) (reads : BadReads) (r : Report)
    → AreFindings keys ts r.findings
    → AreBadReadsOf ts reads
    → r.prefix ≡ count
    → r.txns ≡ length ts
    → r.g1a ≡ reads.g1a
    → r.g1b ≡ reads.g1b
    → r.stray ≡ reads.stray
    → IsVerdictFor keys count ts r
verdict_for keys count ts reads r found bad prefix txns aborted intermediate strays = λ events number same. record {
  prefix = prefix ∙ number;
  txns = txns ∙ ap length same;
  findings = subst (λ (us : List Transaction). AreFindings keys us r.findings) same found;
  g1a = aborted ∙ bad.g1a ∙ ap g1a same;
  g1b = intermediate ∙ bad.g1b ∙ ap g1b same;
  stray = strays ∙ bad.stray ∙ ap stray same;
}

-- ---- by tables

module _ (h : History) (tables : Tables) (same : h ≡ history_of tables) where
  -- what is found of a history is found of the transactions that it is of
  pub found_in : (found : Findings) → AreFindings h.table.keys h.txns found → AreFindings (keys_in tables) tables.txns.now found
  found_in found = subst (λ (h : History). AreFindings h.table.keys h.txns found) same

  pub bad_reads_in : (reads : BadReads) → AreBadReadsOf h.txns reads → AreBadReadsOf tables.txns.now reads
  bad_reads_in reads = subst (λ (h : History). AreBadReadsOf h.txns reads) same

  -- the thinned order, kept or made, is the history's
  pub kept_order : (order : Bor (List Before)) → AreTables tables → tables.thinned ≡ Some order → IsThinnedOrder h.txns order.now
  kept_order order (events, of) is =
      subst (λ (h : History). IsThinnedOrder h.txns order.now) (sym same)
      (subst (λ (o : Option (Bor (List Before))). IfSome o (λ (b : Bor (List Before)). IsThinnedOrder tables.txns.now b.now)) is of.thinned)

  pub made_order : (ts : List Transaction) (order : List Before) → ts ≡ tables.txns.now → IsThinnedOrder ts order → IsThinnedOrder h.txns order
  made_order ts order these thinned =
      subst (λ (h : History). IsThinnedOrder h.txns order) (sym same) (subst (λ (us : List Transaction). IsThinnedOrder us order) these thinned)

-- where the verdict says refuted, no order explains the events
pub refuted_by_tables :
    (events others : List Operation) (tables : Tables) (v : Report)
    → AreTablesOf events tables
    → events ≡ others
    → IsVerdictOf (keys_in tables) events v
    → RefutesExplanations others v
refuted_by_tables events others tables v of same is =
    subst (λ (es : List Operation). RefutesExplanations es v) same (verdict_refutes (keys_in tables) events v of.rules is)

-- ---- of transactions that show nothing

module _ (ts others : List Transaction) (same : ts ≡ others) where
  pub nothing_found :
      (keys : KeyOrder) (found : Findings)
      → found ≡ no_findings
      → AreFindings keys others no_findings
      → AreFindings keys ts found
  nothing_found keys found none are =
      subst (λ (f : Findings). AreFindings keys ts f) (sym none) (subst (λ (us : List Transaction). AreFindings keys us no_findings) (sym same) are)

  pub no_bad_read :
      (reads : BadReads)
      → HasNoBadRead others
      → stray others ≡ reads.stray
      → reads.g1a ≡ None
      → reads.g1b ≡ None
      → AreBadReadsOf ts reads
  no_bad_read reads none strays aborted intermediate = record {
    g1a = aborted ∙ sym (ap g1a same ∙ none.aborted);
    g1b = intermediate ∙ sym (ap g1b same ∙ none.intermediate);
    stray = sym (ap stray same ∙ strays);
  }
