-- Reads of versions that should not have been seen, transaction by transaction.
use Rattle.std.specs.Prelude.{◌≡◌, ℕ, List, [], ◌∷◌, ◌++◌, not, ◌&&◌, ◌==◌, if◌then◌else◌, Option, Some, None, map, flat_map}
use Rattle.history_laws.specs.BadReads.{single_if}
use Rattle.hist_types.specs.Phenomena.{BadRead, bad_read, aborted_writers, intermediate_writers, is_stray}
use Rattle.hist_types.specs.Transactions.{Transaction, Version, is_failed}
use Rattle.key_versions.specs.Histories.{read_by}
use Rattle.key_versions.specs.declared.types.Writer.{Writer}
use Rattle.dep_edges.specs.Histories.{History}
use Rattle.dep_edges.specs.Tables.{txn_at, version_at}

-- the transaction that wrote a version, if it failed, or if it isn't the reader and wrote the
-- version over
abbrev pub failed_one : List Transaction → Option Writer → List Transaction
failed_one ts None = []
failed_one ts (Some w) = single_if (is_failed (txn_at ts w.txn)) (txn_at ts w.txn)

abbrev pub other_over : List Transaction → (reader : Transaction) → Option Writer → List Transaction
other_over ts reader None = []
other_over ts reader (Some w) =
    single_if (not ((txn_at ts w.txn).invocation == reader.invocation) && w.over) (txn_at ts w.txn)

-- whether a read of the version is aborted, or intermediate, is decided by this transaction that
-- wrote it
abbrev pub DecidesAborted : List Transaction → Version → Option Writer → Type 0
DecidesAborted ts v writer = aborted_writers ts v ≡ failed_one ts writer

abbrev pub DecidesIntermediate : List Transaction → Version → Option Writer → Type 0
DecidesIntermediate ts v writer =
    (reader : Transaction) → intermediate_writers ts reader v ≡ other_over ts reader writer

-- those of one transaction
abbrev pub aborted_in : List Transaction → Transaction → List BadRead
aborted_in ts t = flat_map (λ v. map (bad_read t v) (aborted_writers ts v)) (read_by t)

abbrev pub intermediate_in : List Transaction → Transaction → List BadRead
intermediate_in ts t = flat_map (λ v. map (bad_read t v) (intermediate_writers ts t v)) (read_by t)

abbrev pub stray_in : List Transaction → Transaction → List Version
stray_in ts t = flat_map (λ v. if is_stray ts v then v ∷ [] else []) (read_by t)

-- the stray reads of the transaction at this place, by the numbers of their versions, after those
-- that were there before
abbrev pub AddsStraysAt : History → (place : ℕ) → (before after : List ℕ) → Type 0
AddsStraysAt history place before after =
    map (version_at history.table) after
    ≡ map (version_at history.table) before
    ++ stray_in history.txns (txn_at history.txns place)
