-- Whole verdicts, with each phenomenon at its lowest level, and without those that are not there.
use Rattle.std.proofs.Common.{◌≡◌, ℕ, suc, ◌-◌, List, [], length, ◌==◌, if◌then◌else◌, Some, None, codes, refl, arith}
use Rattle.std.specs.Fmt.{digits}
use Rattle.hist_types.specs.Operations.{Operation}
use Rattle.hist_types.specs.Transactions.{Transaction, transactions_of}
use Rattle.hist_types.specs.Phenomena.{g1a, g1b, stray}
use Rattle.hist_types.specs.Witness.{IsFinding}
use Rattle.hist_types.specs.Reports.{Findings, AreFindings, Report}
use Rattle.hist_types.specs.Texts.{verdict_text, IsVerdictText}
use Rattle.hist_types.specs.declared.types.Level.TheVariants.{Plain, Process, Realtime}
use Rattle.hist_types.specs.declared.types.Phenomenon.TheVariants.{G0, G1c, GSingle, G2Item}
use Rattle.hist_types.specs.declared.types.KeyOrder.TheVariants.{Basic}
use Rattle.hist_types.proofs.Rows.Absence.{no_cycle, no_g1c_cycle, no_ww, no_wr, no_rw, no_single_rw, only_rw, at_no_level, no_finding, at_level, below_plain, below_process, below_realtime}
use Rattle.hist_types.proofs.Rows.Fewest.{fewest_of_two, fewest_of_one_single, fewest_of_one_item, fewest_with_wr_single, fewest_with_wr_item}
use Rattle.hist_types.proofs.Rows.Cycles.{crossed_reads, crossed_reads_walk, crossed_reads-witness, updates_of_nil, updates_of_nil_walk, updates_of_nil-witness, crossed_updates, ww_walk, crossed_updates-g0, read_back_walk, crossed_updates-read_back}
use Rattle.hist_types.proofs.Rows.Orders.{stale_read, stale_read_walk, stale_read-witness, own_stale_read, own_stale_read_walk, own_stale_read-witness, unknown_write, unknown_write_walk, unknown_write-witness}

-- numbers for the transactions of the unknown write, which fall along its plain edges
abbrev seen_last : ℕ → ℕ
seen_last n = if n == 2 then 0 else suc n

-- numbers which fall along all of its edges but the rw edge
abbrev forth : ℕ → ℕ
forth n = 9 - n

-- and numbers which fall along all of its edges but the wr edge
abbrev seen_first : ℕ → ℕ
seen_first n = if n == 0 then 0 else 9 - n

-- what a verdict reports of these events that has these findings
abbrev report_of : List Operation → Findings → Report
report_of events found =
    let ts = transactions_of events in
    record {
      prefix = length events;
      txns = length ts;
      findings = found;
      g1a = g1a ts;
      g1b = g1b ts;
      stray = stray ts;
    }

each :
    (ts : List Transaction) (found : Findings)
    → IsFinding Basic G0 ts found.g0
    → IsFinding Basic G1c ts found.g1c
    → IsFinding Basic GSingle ts found.single
    → IsFinding Basic G2Item ts found.item
    → AreFindings Basic ts found
each ts found g0 g1c single item G0 = g0
each ts found g0 g1c single item G1c = g1c
each ts found g0 g1c single item GSingle = single
each ts found g0 g1c single item G2Item = item

verdict_by :
    (events : List Operation) (text : List ℕ) (found : Findings)
    → IsFinding Basic G0 (transactions_of events) found.g0
    → IsFinding Basic G1c (transactions_of events) found.g1c
    → IsFinding Basic GSingle (transactions_of events) found.single
    → IsFinding Basic G2Item (transactions_of events) found.item
    → text ≡ verdict_text (report_of events found)
    → IsVerdictText Basic events text
verdict_by events text found g0 g1c single item lines = (
  report_of events found,
  record {
    prefix = refl;
    txns = refl;
    findings = each (transactions_of events) found g0 g1c single item;
    g1a = refl;
    g1b = refl;
    stray = refl;
  },
  lines,
)

-- An empty history shows nothing.
no_events-verdict : IsVerdictText Basic [] (codes "prefix 0\ntxns 0\nG0 none\nG1a none\nG1b none\nG1c none\nG-single none\nG2-item none\nstray 0\nstrict open\n")
unfolding digits
no_events-verdict =
    verdict_by _ _
    (record { g0 = None; g1c = None; single = None; item = None })
    (no_finding G0 _ no_ww (transactions_of []) refl refl refl)
    (no_finding G1c _ no_wr (transactions_of []) refl refl refl)
    (no_finding GSingle _ no_single_rw (transactions_of []) refl refl refl)
    (no_finding G2Item _ no_rw (transactions_of []) refl refl refl)
    refl

-- Reads that cross are a G1c, and nothing else.
crossed_reads-verdict : IsVerdictText Basic crossed_reads (codes "prefix 4\ntxns 2\nG0 none\nG1a none\nG1b none\nG1c plain\n  T0 -wr :x 1-> T1\n  T1 -wr :y 1-> T0\nG-single none\nG2-item none\nstray 0\nstrict refuted\n")
unfolding digits
crossed_reads-verdict =
    verdict_by _ _
    (record { g0 = None; g1c = Some (record { level = Plain; walk = crossed_reads_walk }); single = None; item = None })
    (no_finding G0 _ no_ww (transactions_of crossed_reads) refl refl refl)
    (at_level G1c (transactions_of crossed_reads) (record { level = Plain; walk = crossed_reads_walk }) crossed_reads-witness (fewest_of_two G1c Plain (transactions_of crossed_reads) crossed_reads_walk refl (omega arith)) (below_plain G1c (transactions_of crossed_reads)))
    (no_finding GSingle _ no_single_rw (transactions_of crossed_reads) refl refl refl)
    (no_finding G2Item _ no_rw (transactions_of crossed_reads) refl refl refl)
    refl

-- Two updates of nil are a G2-item and no G-single: a walk over their edges has two rw edges at least.
updates_of_nil-verdict : IsVerdictText Basic updates_of_nil (codes "prefix 4\ntxns 2\nG0 none\nG1a none\nG1b none\nG1c none\nG-single none\nG2-item plain\n  T0 -rw :x nil 2-> T1\n  T1 -rw :x nil 1-> T0\nstray 0\nstrict refuted\n")
unfolding digits
updates_of_nil-verdict =
    verdict_by _ _
    (record { g0 = None; g1c = None; single = None; item = Some (record { level = Plain; walk = updates_of_nil_walk }) })
    (no_finding G0 _ no_ww (transactions_of updates_of_nil) refl refl refl)
    (no_finding G1c _ no_wr (transactions_of updates_of_nil) refl refl refl)
    (no_finding GSingle _ only_rw (transactions_of updates_of_nil) refl refl refl)
    (at_level G2Item (transactions_of updates_of_nil) (record { level = Plain; walk = updates_of_nil_walk }) updates_of_nil-witness (fewest_of_two G2Item Plain (transactions_of updates_of_nil) updates_of_nil_walk refl (omega arith)) (below_plain G2Item (transactions_of updates_of_nil)))
    refl

-- Updates that cross are a G0 and a G1c.
crossed_updates-verdict : IsVerdictText Basic crossed_updates (codes "prefix 4\ntxns 2\nG0 plain\n  T0 -ww :x 1 2-> T1\n  T1 -ww :y 1 2-> T0\nG1a none\nG1b none\nG1c plain\n  T0 -ww :x 1 2-> T1\n  T1 -wr :y 1-> T0\nG-single none\nG2-item none\nstray 0\nstrict refuted\n")
unfolding digits
crossed_updates-verdict =
    verdict_by _ _
    (record { g0 = Some (record { level = Plain; walk = ww_walk }); g1c = Some (record { level = Plain; walk = read_back_walk }); single = None; item = None })
    (at_level G0 (transactions_of crossed_updates) (record { level = Plain; walk = ww_walk }) crossed_updates-g0 (fewest_of_two G0 Plain (transactions_of crossed_updates) ww_walk refl (omega arith)) (below_plain G0 (transactions_of crossed_updates)))
    (at_level G1c (transactions_of crossed_updates) (record { level = Plain; walk = read_back_walk }) crossed_updates-read_back (fewest_of_two G1c Plain (transactions_of crossed_updates) read_back_walk refl (omega arith)) (below_plain G1c (transactions_of crossed_updates)))
    (no_finding GSingle _ no_single_rw (transactions_of crossed_updates) refl refl refl)
    (no_finding G2Item _ no_rw (transactions_of crossed_updates) refl refl refl)
    refl

-- A stale read is a G-single and a G2-item, and neither at a lower level than realtime.
stale_read-verdict : IsVerdictText Basic stale_read (codes "prefix 4\ntxns 2\nG0 none\nG1a none\nG1b none\nG1c none\nG-single realtime\n  T0 -realtime 1 2-> T2\n  T2 -rw :x nil 1-> T0\nG2-item realtime\n  T0 -realtime 1 2-> T2\n  T2 -rw :x nil 1-> T0\nstray 0\nstrict refuted\n")
unfolding digits
stale_read-verdict =
    verdict_by _ _
    (record { g0 = None; g1c = None; single = Some (record { level = Realtime; walk = stale_read_walk }); item = Some (record { level = Realtime; walk = stale_read_walk }) })
    (no_finding G0 _ no_ww (transactions_of stale_read) refl refl refl)
    (no_finding G1c _ no_wr (transactions_of stale_read) refl refl refl)
    (at_level GSingle (transactions_of stale_read) (record { level = Realtime; walk = stale_read_walk }) stale_read-witness.0 (fewest_of_one_single Realtime (transactions_of stale_read) stale_read_walk (omega arith)) (below_realtime GSingle (transactions_of stale_read) (no_cycle GSingle Plain (transactions_of stale_read) (λ n. n) refl) (no_cycle GSingle Process (transactions_of stale_read) (λ n. n) refl)))
    (at_level G2Item (transactions_of stale_read) (record { level = Realtime; walk = stale_read_walk }) stale_read-witness.1 (fewest_of_one_item Realtime (transactions_of stale_read) stale_read_walk (omega arith)) (below_realtime G2Item (transactions_of stale_read) (no_cycle G2Item Plain (transactions_of stale_read) (λ n. n) refl) (no_cycle G2Item Process (transactions_of stale_read) (λ n. n) refl)))
    refl

-- Within one process the level is process.
own_stale_read-verdict : IsVerdictText Basic own_stale_read (codes "prefix 4\ntxns 2\nG0 none\nG1a none\nG1b none\nG1c none\nG-single process\n  T0 -process 0-> T2\n  T2 -rw :x nil 1-> T0\nG2-item process\n  T0 -process 0-> T2\n  T2 -rw :x nil 1-> T0\nstray 0\nstrict refuted\n")
unfolding digits
own_stale_read-verdict =
    verdict_by _ _
    (record { g0 = None; g1c = None; single = Some (record { level = Process; walk = own_stale_read_walk }); item = Some (record { level = Process; walk = own_stale_read_walk }) })
    (no_finding G0 _ no_ww (transactions_of own_stale_read) refl refl refl)
    (no_finding G1c _ no_wr (transactions_of own_stale_read) refl refl refl)
    (at_level GSingle (transactions_of own_stale_read) (record { level = Process; walk = own_stale_read_walk }) own_stale_read-witness.0 (fewest_of_one_single Process (transactions_of own_stale_read) own_stale_read_walk (omega arith)) (below_process GSingle (transactions_of own_stale_read) (no_cycle GSingle Plain (transactions_of own_stale_read) (λ n. n) refl)))
    (at_level G2Item (transactions_of own_stale_read) (record { level = Process; walk = own_stale_read_walk }) own_stale_read-witness.1 (fewest_of_one_item Process (transactions_of own_stale_read) own_stale_read_walk (omega arith)) (below_process G2Item (transactions_of own_stale_read) (no_cycle G2Item Plain (transactions_of own_stale_read) (λ n. n) refl)))
    refl

-- An unknown write that was read and then missed is alike. No closed walk goes without the wr edge.
unknown_write-verdict : IsVerdictText Basic unknown_write (codes "prefix 6\ntxns 3\nG0 none\nG1a none\nG1b none\nG1c none\nG-single process\n  T0 -wr :x 1-> T2\n  T2 -process 1-> T4\n  T4 -rw :x nil 1-> T0\nG2-item process\n  T0 -wr :x 1-> T2\n  T2 -process 1-> T4\n  T4 -rw :x nil 1-> T0\nstray 0\nstrict refuted\n")
unfolding digits
unknown_write-verdict =
    verdict_by _ _
    (record { g0 = None; g1c = None; single = Some (record { level = Process; walk = unknown_write_walk }); item = Some (record { level = Process; walk = unknown_write_walk }) })
    (no_finding G0 _ no_ww (transactions_of unknown_write) refl refl refl)
    (at_no_level G1c (transactions_of unknown_write) (no_g1c_cycle Plain (transactions_of unknown_write) forth refl) (no_g1c_cycle Process (transactions_of unknown_write) forth refl) (no_g1c_cycle Realtime (transactions_of unknown_write) forth refl))
    (at_level GSingle (transactions_of unknown_write) (record { level = Process; walk = unknown_write_walk }) unknown_write-witness.0 (fewest_with_wr_single Process (transactions_of unknown_write) seen_first unknown_write_walk refl (omega arith)) (below_process GSingle (transactions_of unknown_write) (no_cycle GSingle Plain (transactions_of unknown_write) seen_last refl)))
    (at_level G2Item (transactions_of unknown_write) (record { level = Process; walk = unknown_write_walk }) unknown_write-witness.1 (fewest_with_wr_item Process (transactions_of unknown_write) seen_first unknown_write_walk refl (omega arith)) (below_process G2Item (transactions_of unknown_write) (no_cycle G2Item Plain (transactions_of unknown_write) seen_last refl)))
    refl
