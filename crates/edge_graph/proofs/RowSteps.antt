-- One row after another.
use Rattle.std.proofs.Common.{◌≡◌, ◌∙◌, ◌<◌, ◌+◌, ◌*◌, ℕ, List, [], ◌∷◌, ◌++◌, length, ap, sym, subst, arith, below_more}
use Rattle.hist_types.specs.Transactions.{Transaction}
use Rattle.key_versions.specs.Tables.{Table}
use Rattle.dep_edges.specs.Tables.{version_at}
use Rattle.edge_graph.specs.FlatRows.{Row, txn_row_in, version_row_in, rows_in, AreRowBounds, IsRowBehind}
use Rattle.edge_graph.specs.LaidOut.{nodes_behind, IsTxnRow, version_row, AreRows}
use Rattle.edge_graph.specs.declared.layout.Ends.{Ends}
use Rattle.edge_graph.proofs.Parts.{start, first_bound, with_ends, one_more_txn, same_row, new_row, one_more_version, part_before, txn_before, part_added, length-rows_in, txn_row_at, version_row_at}

-- the rows of the first transactions
pub record AreFirstTxnRows (ts : List Transaction) (table : Table) (places : ℕ) (bounds items : List ℕ) : Type 0 where
  pub bounded : AreRowBounds places 0 bounds items
  pub txns : (place : ℕ) → place < places → IsTxnRow ts table place (txn_row_in bounds items place)

-- the rows of all transactions, and after them those of the first versions
pub record AreFirstRows (ts : List Transaction) (table : Table) (numbers : ℕ) (bounds items : List ℕ) : Type 0 where
  pub bounded : AreRowBounds (length ts) numbers bounds items
  pub txns : (place : ℕ) → place < length ts → IsTxnRow ts table place (txn_row_in bounds items place)
  pub versions :
      (number : ℕ)
      → number < numbers
      → version_row_in bounds items (3 * length ts + number) ≡ version_row table.keys ts (version_at table number)

abbrev of_rw : List ℕ → Row
of_rw rw = record { rw = rw; wr = []; ww = [] }

module _ (ts : List Transaction) (table : Table) where
  pub no_txn : AreFirstTxnRows ts table 0 start []
  no_txn = record { bounded = first_bound; txns = λ place h. absurd (omega (arith, h)) }

  pub next_txn :
      (places : ℕ) (bounds items more : List ℕ) (e : Ends) (row : Row)
      → AreFirstTxnRows ts table places bounds items
      → IsTxnRow ts table places row
      → IsRowBehind items more e row
      → AreFirstTxnRows ts table (places + 1) (with_ends bounds e) more
  next_txn places bounds items more e row are is behind =
      record {
        bounded = one_more_txn bounds items more e row places are.bounded behind;
        txns =
            below_more (λ place. IsTxnRow ts table place (txn_row_in (with_ends bounds e) more place)) places
            (λ place h. subst (IsTxnRow ts table place) (sym (same_row bounds items more e row places are.bounded behind place h)) (are.txns place h))
            (subst (IsTxnRow ts table places) (sym (new_row bounds items more e row places are.bounded behind)) is);
      }

  pub no_version : (bounds items : List ℕ) → AreFirstTxnRows ts table (length ts) bounds items → AreFirstRows ts table 0 bounds items
  no_version bounds items are = record { bounded = are.bounded; txns = are.txns; versions = λ number h. absurd (omega (arith, h)) }

  pub next_version :
      (count : ℕ) (bounds items more : List ℕ) (end : ℕ)
      → AreFirstRows ts table count bounds items
      → more ≡ items ++ nodes_behind table.keys ts (version_at table count)
      → end ≡ length more
      → AreFirstRows ts table (count + 1) (bounds ++ end ∷ []) more
  next_version count bounds items more end are is end_is =
      let added = nodes_behind table.keys ts (version_at table count) in
      let n = length ts in
      let longer = bounds ++ end ∷ [] in
      record {
        bounded = one_more_version bounds items more added end n count are.bounded is end_is;
        txns =
            λ place h.
            subst (IsTxnRow ts table place) (sym (txn_before bounds items more added end n count are.bounded is end_is place h)) (are.txns place h);
        versions =
            below_more (λ number. version_row_in longer more (3 * n + number) ≡ version_row table.keys ts (version_at table number)) count
            (λ number h.
            ap of_rw (part_before bounds items more added end n count are.bounded is end_is (3 * n + number) (omega (arith, h))) ∙ are.versions number h)
            (ap of_rw (part_added bounds items more added end n count are.bounded is end_is));
      }

  pub are_rows : (bounds items : List ℕ) → AreFirstRows ts table (length table.versions) bounds items → AreRows ts table (rows_in (length ts) (length table.versions) bounds items)
  are_rows bounds items are =
      let n = length ts in
      let m = length table.versions in
      record {
        count = length-rows_in n m bounds items;
        txns = λ place h. subst (IsTxnRow ts table place) (sym (txn_row_at n m bounds items place h)) (are.txns place h);
        versions = λ number h. version_row_at n m bounds items number h ∙ are.versions number h;
      }
