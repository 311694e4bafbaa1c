-- Points by place, and the predecessors of a transaction by what is looked up.
use Rattle.std.proofs.Common.{◌≡◌, ℕ, List, true, Some, slice_index, Contains, IsTrue, refl, sym, ◌∙◌, ap, arith}
use Rattle.std.specs.Prelude.{slice_get}
use Rattle.std.proofs.lemmas.List.Elements.{All-contains}
use Rattle.std.proofs.lemmas.Option.{same_Some, slice_get-get_or}
use Rattle.hist_types.specs.Journal.{KeepsRules}
use Rattle.hist_types.specs.Operations.{Operation}
use Rattle.hist_types.specs.Transactions.{Transaction, Version, transactions_of, installs, is_known_to_read, is_node, nodes}
use Rattle.hist_types.proofs.Members.{in_from_Contains, Contains_from_in, passes_filter}
use Rattle.history_laws.proofs.ThinningTimes.{invoked_in_order}
use Rattle.key_versions.specs.Histories.{readers_of}
use Rattle.dep_edges.specs.Tables.{IsPlace, txn_at}
use Rattle.dep_edges.proofs.Found.{read_at_place}
use Rattle.dep_edges.proofs.Marks.{place_in}
use Rattle.clean_order.specs.AtVersions.{IsLowerIfOther}
use Rattle.clean_order.specs.ByVersion.{Follows, IsBelow}
use Rattle.clean_order.specs.Listed.{place}
use Rattle.clean_order.proofs.ByVersion.{txn_of, number_of, reader_there, writer_at}
use Rattle.clean_order.proofs.Dependencies.{node_among}
use Rattle.serial_points.specs.ByPlace.{ListPoints, LookUpsSuffice}

-- ---- points that are listed

pub list_points : (events : List Operation) → ListPoints events
list_points events points =
    let ts : List Transaction = transactions_of events in
    (λ n. slice_index points (place n ts), number_of ts points (invoked_in_order events))

-- ---- what is looked up

pub at_place : (ts : List Transaction) (place : ℕ) → IsPlace ts place → slice_get ts place ≡ Some (txn_at ts place)
at_place ts place within = slice_get-get_or ts place (txn_at ts place) within ∙ ap Some (read_at_place ts place within)

pub look_ups_suffice : (events : List Operation) → KeepsRules events → LookUpsSuffice events
look_ups_suffice events kept points point place are within above = record { installers = installers; readers = readers }
  where
    ts : List Transaction
    ts = transactions_of events

    u : Transaction
    u = txn_at ts place

    here : slice_get ts place ≡ Some u
    here = at_place ts place within

    below_at : (t : Transaction) (k : ℕ) → slice_get ts k ≡ Some t → IsLowerIfOther points k place → IsBelow point t u
    below_at t k at lower other =
        let apart : ¬ (k ≡ place) = λ same. other (ap (λ (x : Transaction). x.invocation) (same_Some t u (sym at ∙ ap (slice_get ts) same ∙ here))) in
        let less = lower apart in
        let first = are k t at in
        let second = are place u here in
        omega (arith, less, first, second)

    installers :
        (t : Transaction) (v : Version)
        → Contains (nodes ts) t
        → IsTrue (is_known_to_read u v)
        → IsTrue (installs t v)
        → IsBelow point t u
    installers t v i read installed =
        let (k, there) = place_in ts t (node_among ts t i) in
        let (w, is, same) = writer_at ts (events, kept, refl) t k v there installed in
        let at : slice_get ts w.txn ≡ Some t = ap (slice_get ts) same ∙ there in
        let one : txn_at ts w.txn ≡ t = txn_of ts w.txn t at in
        let node : is_node ts (txn_at ts w.txn) ≡ true = ap (is_node ts) one ∙ passes_filter (is_node ts) t ts (in_from_Contains t (nodes ts) i) in
        below_at t w.txn at (above.writers v read w is node)

    readers :
        (t : Transaction) (v : Version)
        → Contains (nodes ts) t
        → Follows u v
        → IsTrue (is_known_to_read t v)
        → IsBelow point t u
    readers t v i follows read =
        let (k, at) = place_in ts t (node_among ts t i) in
        below_at t k at
        (All-contains (λ reader. IsLowerIfOther points reader place) (readers_of ts v) k (above.readers v follows)
        (Contains_from_in k (readers_of ts v) (reader_there ts v k t at read)))
