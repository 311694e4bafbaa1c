-- Thinned edges between chosen nodes, paths and ways back along them, and how many transactions are open at once.
use Rattle.std.proofs.Common.{◌≡◌, inl, inr, List, [], ◌∷◌, ◌++◌, true, false, Contains, None, refl, ◌∙◌, arith, ap}
use Rattle.std.proofs.lemmas.Bool.{false≢true}
use Rattle.std.proofs.lemmas.List.Elements.{All-from_recursion}
use Rattle.hist_types.specs.Operations.{Operation}
use Rattle.hist_types.specs.Journal.{first_broken}
use Rattle.hist_types.specs.Transactions.{Transaction, is_ok, transactions_of}
use Rattle.hist_types.specs.Edges.{Edge, dependency_edges, all_order_edges}
use Rattle.hist_types.specs.ThinnedOrder.{thinned_edges, all_thinned_edges}
use Rattle.history_laws.specs.Paths.{IncludesAllOk, order_edges_between, thinned_edges_between, IsPath}
use Rattle.hist_types.specs.Phenomena.{Shows}
use Rattle.history_laws.specs.Walks.{SameCounts}
use Rattle.history_laws.specs.WaysBack.{is_needed, may_lead_back, LeadsBack}
use Rattle.history_laws.specs.OpenAtOnce.{is_open_at, open_at, most_open, predecessors}
use Rattle.hist_types.specs.declared.types.Level.TheVariants.{Process, Realtime}
use Rattle.hist_types.specs.declared.types.Phenomenon.TheVariants.{G0, G1c, GSingle, G2Item}
use Rattle.hist_types.specs.declared.types.KeyOrder.TheVariants.{Basic}
use Rattle.hist_types.proofs.Members.{in_from_Contains, Contains_from_in}
use Rattle.hist_types.proofs.Rows.Realtime.{missed_write}
use Rattle.hist_types.proofs.Rows.History.{x, y, sets, finds_nil, invoke, ok, fail, info, committed, unfinished, ww_edge, wr_edge, rw_nil_edge, process_edge, realtime_edge}

-- ---- nodes

-- Of three transactions each begins after the one before it ended, and the last one misses the first one's write.
abbrev first : Transaction
first = committed 0 0 1 (sets x 1 ∷ [])

abbrev middle : Transaction
middle = committed 1 2 3 (sets y 1 ∷ [])

abbrev last : Transaction
last = committed 2 4 5 (finds_nil x ∷ [])

missed_write-legal : (first_broken [] missed_write ≡ None) × (transactions_of missed_write ≡ first ∷ middle ∷ last ∷ [])
missed_write-legal = (refl, refl)

-- Two of the three order edges are left.
missed_write-thinned :
    thinned_edges_between Realtime (transactions_of missed_write) (transactions_of missed_write)
    ≡ realtime_edge 0 2 1 2
    ∷ realtime_edge 2 4 3 4
    ∷ []
missed_write-thinned = refl

-- An ok transaction that is no node thins all the same, and then the order edge past it has no path.
missed_write-no_node_between :
    (order_edges_between Realtime (first ∷ last ∷ []) ≡ realtime_edge 0 4 1 4 ∷ [])
    × (thinned_edges_between Realtime (transactions_of missed_write) (first ∷ last ∷ []) ≡ [])
missed_write-no_node_between = (refl, refl)

-- So those two nodes are too few: an ok transaction is missing.
missed_write-not_all_ok : ¬ IncludesAllOk (transactions_of missed_write) (first ∷ last ∷ [])
missed_write-not_all_ok all =
    let there : Contains (transactions_of missed_write) middle = Contains_from_in middle (transactions_of missed_write) (inr (inl refl)) in
    elim (in_from_Contains middle (first ∷ last ∷ []) (all.ok middle there refl)) [
      | inl same ↦ (let n : 0 ≡ 2 = ap (λ (t : Transaction). t.invocation) same in omega (arith, n))
      | inr (inl same) ↦ (let n : 4 ≡ 2 = ap (λ (t : Transaction). t.invocation) same in omega (arith, n))
      | inr (inr i) ↦ i
    ]

-- An open transaction may be left out.
abbrev then_open : List Operation
then_open = invoke 0 (sets x 1 ∷ []) ∷ ok 0 (sets x 1 ∷ []) ∷ invoke 1 (sets y 1 ∷ []) ∷ []

then_open-all_ok : IncludesAllOk (transactions_of then_open) (first ∷ [])
then_open-all_ok = record {
  among =
      All-from_recursion (Contains (transactions_of then_open)) (first ∷ [])
      (Contains_from_in first (transactions_of then_open) (inl refl), tt);
  ok = λ t c e. elim (in_from_Contains t (transactions_of then_open) c) [
    | inl same ↦ Contains_from_in t (first ∷ []) (inl same)
    | inr (inl same) ↦ absurd (false≢true (ap is_ok same ∙ e))
    | inr (inr i) ↦ elim i [ ]
  ];
}

-- ---- paths and ways back

abbrev both_edges : List Edge
both_edges = realtime_edge 0 2 1 2 ∷ realtime_edge 2 4 3 4 ∷ []

-- The edge that was left out is a path of the two that were not.
missed_write-path : IsPath (thinned_edges Realtime (transactions_of missed_write)) 0 4 both_edges
missed_write-path = record {
  some = λ empty. cc;
  leads = (refl, (refl, refl));
  within =
      All-from_recursion (Contains (thinned_edges Realtime (transactions_of missed_write))) both_edges (
        Contains_from_in (realtime_edge 0 2 1 2) both_edges (inl refl),
        (Contains_from_in (realtime_edge 2 4 3 4) both_edges (inr (inl refl)), tt),
      );
}

-- No edge at all makes no path, not even from a transaction to itself.
missed_write-no_path : ¬ IsPath (thinned_edges Realtime (transactions_of missed_write)) 0 0 []
missed_write-no_path path = path.some refl

-- dependency edges and thinned edges
abbrev thinned_of_missed_write : List Edge
thinned_of_missed_write = dependency_edges Basic (transactions_of missed_write) ++ thinned_edges Realtime (transactions_of missed_write)

missed_write-edges : thinned_of_missed_write ≡ rw_nil_edge 4 0 x 1 ∷ both_edges
missed_write-edges = refl

-- The thinned edges lead back from the read that missed the write,
missed_write-leads_back : LeadsBack GSingle thinned_of_missed_write (rw_nil_edge 4 0 x 1) both_edges
missed_write-leads_back = record {
  leads = (refl, (refl, refl));
  within =
      All-from_recursion (Contains thinned_of_missed_write) both_edges (
        Contains_from_in (realtime_edge 0 2 1 2) thinned_of_missed_write (inr (inl refl)),
        (Contains_from_in (realtime_edge 2 4 3 4) thinned_of_missed_write (inr (inr (inl refl))), tt),
      );
  kinds = refl;
}

-- and so they show what the order edge shows.
missed_write-shows : Shows GSingle thinned_of_missed_write (rw_nil_edge 4 0 x 1 ∷ both_edges)
missed_write-shows = record {
  closed = (refl, (refl, refl));
  within =
      All-from_recursion (Contains thinned_of_missed_write) (rw_nil_edge 4 0 x 1 ∷ both_edges) (
        Contains_from_in (rw_nil_edge 4 0 x 1) thinned_of_missed_write (inl refl),
        (
          Contains_from_in (realtime_edge 0 2 1 2) thinned_of_missed_write (inr (inl refl)),
          (Contains_from_in (realtime_edge 2 4 3 4) thinned_of_missed_write (inr (inr (inl refl))), tt),
        ),
      );
  kinds = refl;
}

-- Both walks count one rw edge,
missed_write-same_counts : SameCounts (realtime_edge 0 4 1 4 ∷ rw_nil_edge 4 0 x 1 ∷ []) (rw_nil_edge 4 0 x 1 ∷ both_edges)
missed_write-same_counts = record { ww = refl; wr = refl; rw = refl }

-- and the order edge alone counts none.
missed_write-other_counts : ¬ SameCounts (realtime_edge 0 4 1 4 ∷ []) (rw_nil_edge 4 0 x 1 ∷ both_edges)
missed_write-other_counts same = let n : 0 ≡ 1 = same.rw in omega (arith, n)

-- Order edges may be on every way back, ww edges too, a wr edge not for G0, and an rw edge for G2-item alone.
back-order :
    (may_lead_back G0 (process_edge 0 2 0) ≡ true)
    × (may_lead_back G1c (process_edge 0 2 0) ≡ true)
    × (may_lead_back GSingle (process_edge 0 2 0) ≡ true)
back-order = (refl, refl, refl)

back-wr :
    (may_lead_back G0 (wr_edge 0 2 x 1) ≡ false)
    × (may_lead_back G1c (wr_edge 0 2 x 1) ≡ true)
    × (may_lead_back GSingle (wr_edge 0 2 x 1) ≡ true)
back-wr = (refl, refl, refl)

back-rw :
    (may_lead_back G0 (rw_nil_edge 0 2 x 1) ≡ false)
    × (may_lead_back G1c (rw_nil_edge 0 2 x 1) ≡ false)
    × (may_lead_back GSingle (rw_nil_edge 0 2 x 1) ≡ false)
    × (may_lead_back G2Item (rw_nil_edge 0 2 x 1) ≡ true)
back-rw = (refl, refl, refl, refl)

-- G0 needs a ww edge, and G1c a wr edge: neither takes the other's.
needed :
    (is_needed G0 (ww_edge 0 2 x 1 2) ≡ true)
    × (is_needed G1c (ww_edge 0 2 x 1 2) ≡ false)
    × (is_needed G0 (wr_edge 0 2 x 1) ≡ false)
needed = (refl, refl, refl)

-- ---- open transactions

-- A transaction is open from its invocation on, until its completion.
first-open :
    (is_open_at 0 (committed 0 1 3 []) ≡ false)
    × (is_open_at 1 (committed 0 1 3 []) ≡ true)
    × (is_open_at 2 (committed 0 1 3 []) ≡ true)
    × (is_open_at 3 (committed 0 1 3 []) ≡ false)
first-open = (refl, refl, refl, refl)

-- One that never completes stays open.
unfinished-open : is_open_at 9 (unfinished 0 1 []) ≡ true
unfinished-open = refl

-- three processes begin, and then all three end, two ok and one with an info
abbrev three_at_once : List Operation
three_at_once = invoke 0 [] ∷ invoke 1 [] ∷ invoke 2 [] ∷ ok 0 [] ∷ ok 1 [] ∷ info 2 ∷ []

three_at_once-open :
    (open_at 2 (transactions_of three_at_once) ≡ 3)
    × (open_at 3 (transactions_of three_at_once) ≡ 2)
    × (open_at 5 (transactions_of three_at_once) ≡ 0)
three_at_once-open = (refl, refl, refl)

three_at_once-most :
    (most_open (transactions_of three_at_once) ≡ 3)
    × (most_open (transactions_of missed_write) ≡ 1)
    × (most_open [] ≡ 0)
three_at_once-most = (refl, refl, refl)

-- The three, then two more, one after the other.
abbrev then_two : List Operation
then_two = three_at_once ++ invoke 0 [] ∷ ok 0 [] ∷ invoke 1 [] ∷ ok 1 [] ∷ []

then_two-legal : first_broken [] then_two ≡ None
then_two-legal = refl

-- The info leads nowhere. Thinned, only the one before leads to the last; not thinned, all three that were ok do.
then_two-predecessors :
    (predecessors 6 (all_thinned_edges Realtime (transactions_of then_two)) ≡ 0 ∷ 1 ∷ [])
    × (predecessors 8 (all_thinned_edges Realtime (transactions_of then_two)) ≡ 6 ∷ [])
    × (predecessors 8 (all_order_edges Realtime (transactions_of then_two)) ≡ 0 ∷ 1 ∷ 6 ∷ [])
    × (predecessors 0 (all_order_edges Realtime (transactions_of then_two)) ≡ [])
then_two-predecessors = (refl, refl, refl, refl)

-- Within a process each has the one before it.
then_two-in_process :
    (predecessors 6 (all_thinned_edges Process (transactions_of then_two)) ≡ 0 ∷ [])
    × (predecessors 8 (all_thinned_edges Process (transactions_of then_two)) ≡ 1 ∷ [])
then_two-in_process = (refl, refl)

-- Where the one before the last fails, it thins nothing.
abbrev past_a_fail : List Operation
past_a_fail = three_at_once ++ invoke 0 [] ∷ fail 0 ∷ invoke 1 [] ∷ ok 1 [] ∷ []

past_a_fail-predecessors : predecessors 8 (all_thinned_edges Realtime (transactions_of past_a_fail)) ≡ 0 ∷ 1 ∷ []
past_a_fail-predecessors = refl
