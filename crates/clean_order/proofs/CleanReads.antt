-- Clean reads show no phenomenon.
use Rattle.std.proofs.Common.{◌≡◌, inl, inr, List, [], ◌∷◌, ◌++◌, true, false, not, ◌&&◌, ◌==◌, None, filter, map, flat_map, Contains, IsTrue, IsFalse, refl, sym, ◌∙◌, ap}
use Rattle.std.proofs.lemmas.Bool.{eq-eqb, false≢true, and_from, and_parts, and_right, false_from_ne_true}
use Rattle.hist_types.specs.Journal.{KeepsRules}
use Rattle.hist_types.specs.Operations.{Operation}
use Rattle.hist_types.specs.Phenomena.{bad_read, first_of, for_each_read, aborted_writers, intermediate_writers}
use Rattle.hist_types.specs.Transactions.{Status, Ok, Fail, Info, Open, Transaction, Version, transactions_of, is_ok_status, is_fail_status, is_failed, is_ok, has_version, external_reads, is_known_to_read, writes, wrote_intermediate}
use Rattle.hist_types.proofs.Members.{In, Contains_from_in, in_filter, passes_filter}
use Rattle.history_laws.specs.BadReads.{single_if, NobodyWrote}
use Rattle.history_laws.proofs.BadReads.{one_aborted, one_intermediate, unwritten_aborted, unwritten_intermediate}
use Rattle.history_laws.proofs.VersionMembers.{has_from_in}
use Rattle.history_laws.proofs.WrittenOnce.{installed_or_over, nil_unwritten, not_installed_over}
use Rattle.dep_edges.proofs.Lists.{all_in}
use Rattle.clean_order.specs.CleanReads.{IsCleanRead, CleanReadsSuffice}

pub reader_is_ok : (t : Transaction) (v : Version) → is_known_to_read t v ≡ true → is_ok t ≡ true
reader_is_ok t v read = (and_parts (is_ok t) (has_version (external_reads t) v) read).0

none_given : {X Y : Type 0} (f : X → List Y) (xs : List X) → ((x : X) → In x xs → f x ≡ []) → flat_map f xs ≡ []
none_given f [] none = refl
none_given f (x ∷ xs) none = ap (λ ys. ys ++ flat_map f xs) (none x (inl refl)) ∙ none_given f xs (λ y i. none y (inr i))

pub none_read :
    {A : Type 0} (ts : List Transaction) (f : Transaction → Version → List A)
    → ((t : Transaction) (v : Version) → In t ts → IsTrue (is_known_to_read t v) → f t v ≡ [])
    → for_each_read ts f ≡ []
none_read ts f none =
    none_given (λ (t : Transaction). flat_map (f t) (external_reads t)) (filter is_ok ts) (λ t i.
    none_given (f t) (external_reads t) (λ v j.
    none t v (in_filter is_ok t ts i)
    (and_from (is_ok t) (has_version (external_reads t) v) (passes_filter is_ok t ts i) (has_from_in v (external_reads t) j))))

nobody_wrote_nil : (ts : List Transaction) (v : Version) → v.value ≡ None → NobodyWrote ts v
nobody_wrote_nil ts v nil =
    all_in (λ t. IsFalse (writes t v)) ts (λ t i. false_from_ne_true (writes t v) (λ wrote. nil_unwritten t v wrote nil))

ok_not_failed : (t : Transaction) → is_ok t ≡ true → is_failed t ≡ false
ok_not_failed t = by t.status
  where
    by : (s : Status) → is_ok_status s ≡ true → is_fail_status s ≡ false
    by Ok e = refl
    by Fail e = elim (false≢true e) [ ]
    by Info e = elim (false≢true e) [ ]
    by Open e = elim (false≢true e) [ ]

module _ (events : List Operation) (kept : KeepsRules events) where
  none_aborted :
      (reader : Transaction) (v : Version)
      → Contains (transactions_of events) reader
      → IsTrue (is_known_to_read reader v)
      → IsCleanRead (transactions_of events) reader v
      → aborted_writers (transactions_of events) v ≡ []
  none_aborted reader v here read (inl nil) = unwritten_aborted (transactions_of events) v (nobody_wrote_nil (transactions_of events) v nil)
  none_aborted reader v here read (inr (inl (writer, among, unfailed, installed))) =
      one_aborted events kept writer v among ((installed_or_over writer v).1 (inl installed)) ∙ ap (λ b. single_if b writer) unfailed
  none_aborted reader v here read (inr (inr (inl nobody))) = unwritten_aborted (transactions_of events) v nobody
  none_aborted reader v here read (inr (inr (inr wrote))) =
      one_aborted events kept reader v here wrote ∙ ap (λ b. single_if b reader) (ok_not_failed reader (reader_is_ok reader v read))

  none_intermediate :
      (reader : Transaction) (v : Version)
      → Contains (transactions_of events) reader
      → IsCleanRead (transactions_of events) reader v
      → intermediate_writers (transactions_of events) reader v ≡ []
  none_intermediate reader v here (inl nil) = unwritten_intermediate (transactions_of events) reader v (nobody_wrote_nil (transactions_of events) v nil)
  none_intermediate reader v here (inr (inr (inl nobody))) = unwritten_intermediate (transactions_of events) reader v nobody
  none_intermediate reader v here (inr (inr (inr wrote))) =
      one_intermediate events kept reader reader v here wrote
      ∙ ap (λ b. single_if (not b && wrote_intermediate reader v) reader) (eq-eqb reader.invocation reader.invocation refl)
  none_intermediate reader v here (inr (inl (writer, among, unfailed, installed))) =
      let last : IsFalse (wrote_intermediate writer v) =
      false_from_ne_true (wrote_intermediate writer v) (λ over. false≢true (sym (not_installed_over events kept writer v among over) ∙ installed)) in
      one_intermediate events kept reader writer v among ((installed_or_over writer v).1 (inl installed))
      ∙ ap (λ b. single_if b writer) (and_right (not (writer.invocation == reader.invocation)) (wrote_intermediate writer v) last)

  pub clean_reads_suffice : CleanReadsSuffice events
  clean_reads_suffice clean =
      let ts : List Transaction = transactions_of events in
      record {
        aborted = ap first_of (none_read ts (λ reader v. map (bad_read reader v) (aborted_writers ts v)) (λ t v i read.
            ap (map (bad_read t v)) (none_aborted t v (Contains_from_in t ts i) read (clean t v (Contains_from_in t ts i) read))));
        intermediate = ap first_of (none_read ts (λ reader v. map (bad_read reader v) (intermediate_writers ts reader v)) (λ t v i read.
            ap (map (bad_read t v)) (none_intermediate t v (Contains_from_in t ts i) (clean t v (Contains_from_in t ts i) read))));
      }
