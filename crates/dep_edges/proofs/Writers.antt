-- The transaction that wrote a version, and what its reads then are.
use Rattle.std.proofs.Common.{◌≡◌, ℕ, zero, suc, ◌+◌, List, [], ◌∷◌, ◌++◌, Bool, IsFalse, true, false, not, ◌&&◌, ◌||◌, ◌==◌, if◌then◌else◌, flat_map, filter, Option, Some, None, unwrap_or, slice_get, Contains, refl, sym, ◌∙◌, ap, subst, arith, inl, inr}
use Rattle.std.specs.List.{list_any}
use Rattle.std.specs.Option.{is_some, is_none}
use Rattle.std.proofs.lemmas.Bool.{false≢true, false_from_ne_true}
use Rattle.std.proofs.lemmas.Option.{none-some, same_Some}
use Rattle.history_laws.specs.BadReads.{single_if, NobodyWrote}
use Rattle.hist_types.specs.Phenomena.{for_each_read, aborted_writers, intermediate_writers, is_stray}
use Rattle.hist_types.specs.Transactions.{Transaction, Version, Open, is_ok, is_failed, external_reads, writes, wrote_intermediate}
use Rattle.history_laws.proofs.BadReads.{one_aborted, one_intermediate, unwritten_aborted, unwritten_intermediate}
use Rattle.hist_types.proofs.Members.{In, Contains_from_in}
use Rattle.history_laws.proofs.ThinningPaths.{any_passes}
use Rattle.key_versions.specs.Histories.{read_by, from_place, writers_of, writer_of}
use Rattle.key_versions.specs.declared.types.Writer.{Writer}
use Rattle.dep_edges.specs.Histories.{AreOfHistory}
use Rattle.dep_edges.specs.Tables.{txn_at}
use Rattle.dep_edges.specs.Reads.{failed_one, other_over}
use Rattle.dep_edges.proofs.Lists.{all_in}
use Rattle.dep_edges.proofs.Places.{from_some_place}

pub in_at : {X : Type 0} (xs : List X) (k : ℕ) (x : X) → slice_get xs k ≡ Some x → In x xs
in_at [] k x e = elim (none-some x e) [ ]
in_at (y ∷ xs) zero x e = inl (same_Some y x e)
in_at (y ∷ xs) (suc k) x e = inr (in_at xs k x e)

abbrev writer_if : Bool → ℕ → Bool → List Writer
writer_if wrote place over = if wrote then record { txn = place; over = over } ∷ [] else []

-- a writer is a transaction of the history that wrote the version
pub record WroteAt (ts : List Transaction) (v : Version) (w : Writer) : Type 0 where
  pub place : slice_get ts w.txn ≡ Some (txn_at ts w.txn)
  pub among : Contains ts (txn_at ts w.txn)
  pub wrote : writes (txn_at ts w.txn) v ≡ true
  pub over : w.over ≡ wrote_intermediate (txn_at ts w.txn) v

wrote_one : (wrote : Bool) (place : ℕ) (over : Bool) (w : Writer) → In w (writer_if wrote place over) → (wrote ≡ true) × (place ≡ w.txn) × (over ≡ w.over)
wrote_one true place over w (inl e) = (refl, ap (λ (x : Writer). x.txn) e, ap (λ (x : Writer). x.over) e)
wrote_one true place over w (inr i) = elim i [ ]
wrote_one false place over w i = elim i [ ]

pub writer_wrote : (ts : List Transaction) (v : Version) (w : Writer) → writer_of ts v ≡ Some w → WroteAt ts v w
writer_wrote ts v w e =
    let (j, t, get, i) = from_some_place (λ place t. writer_if (writes t v) place (wrote_intermediate t v)) 0 ts w (in_at (writers_of ts v) 0 w e) in
    let (wrote, place, over) = wrote_one (writes t v) (0 + j) (wrote_intermediate t v) w i in
    let at : j ≡ w.txn = omega arith in
    let is : t ≡ txn_at ts w.txn = ap (λ o. unwrap_or o t) (sym get) ∙ other_default ts j t get ∙ ap (txn_at ts) at in
    record {
      place = subst (λ n. slice_get ts n ≡ Some (txn_at ts w.txn)) at (get ∙ ap Some is);
      among = subst (Contains ts) is (Contains_from_in t ts (in_at ts j t get));
      wrote = subst (λ u. writes u v ≡ true) is wrote;
      over = sym over ∙ ap (λ u. wrote_intermediate u v) is;
    }
  where
    other_default : (ts : List Transaction) (j : ℕ) (t : Transaction) → slice_get ts j ≡ Some t → unwrap_or (slice_get ts j) t ≡ txn_at ts j
    other_default ts j t get = ap (λ o. unwrap_or o t) get ∙ sym (ap (λ o. unwrap_or o (record { process = 0; invocation = 0; completion = None; status = Open; mops = [] })) get)

-- ---- whether anybody wrote the version

first_or_later :
    (wrote : Bool) (w : Writer) (rest : List Writer) (others : Bool)
    → is_some (slice_get rest 0) ≡ others
    → is_some (slice_get ((if wrote then w ∷ [] else []) ++ rest) 0) ≡ (wrote || others)
first_or_later true w rest others e = refl
first_or_later false w rest others e = e

any_writer :
    (v : Version) (k : ℕ) (ts : List Transaction)
    → is_some (slice_get (from_place (λ place t. writer_if (writes t v) place (wrote_intermediate t v)) k ts) 0) ≡ list_any (λ t. writes t v) ts
any_writer v k [] = refl
any_writer v k (t ∷ ts) =
    first_or_later (writes t v) (record { txn = k; over = wrote_intermediate t v })
    (from_place (λ place t. writer_if (writes t v) place (wrote_intermediate t v)) (k + 1) ts) (list_any (λ t. writes t v) ts) (any_writer v (k + 1) ts)

pub has_writer : (ts : List Transaction) (v : Version) → is_some (writer_of ts v) ≡ list_any (λ t. writes t v) ts
has_writer ts v = any_writer v 0 ts

none_is_not_some : {X : Type 0} (o : Option X) → is_none o ≡ not (is_some o)
none_is_not_some None = refl
none_is_not_some (Some x) = refl

pub stray_by_writer : (ts : List Transaction) (v : Version) → is_stray ts v ≡ (is_some v.value && is_none (writer_of ts v))
stray_by_writer ts v =
    ap (λ b. is_some v.value && b) (ap not (sym (has_writer ts v)) ∙ sym (none_is_not_some (writer_of ts v)))

-- ---- what a read is, by the writer of its version

nobody_wrote : (ts : List Transaction) (v : Version) → writer_of ts v ≡ None → NobodyWrote ts v
nobody_wrote ts v e =
    all_in (λ t. IsFalse (writes t v)) ts (λ t i.
    false_from_ne_true (writes t v) (λ wrote.
    false≢true (sym (ap is_some e) ∙ has_writer ts v ∙ any_passes (λ u. writes u v) t ts i wrote)))

pub aborted_by_writer : (ts : List Transaction) → AreOfHistory ts → (v : Version) → aborted_writers ts v ≡ failed_one ts (writer_of ts v)
aborted_by_writer ts (events, kept, of) v = by_writer (writer_of ts v) refl
  where
    by_writer : (o : Option Writer) → writer_of ts v ≡ o → aborted_writers ts v ≡ failed_one ts o
    by_writer None e = unwritten_aborted ts v (nobody_wrote ts v e)
    by_writer (Some w) e =
        let at = writer_wrote ts v w e in
        let x : Transaction = txn_at ts w.txn in
        subst (λ us. aborted_writers us v ≡ single_if (is_failed x) x) (sym of)
        (one_aborted events kept x v (subst (λ us. Contains us x) of at.among) at.wrote)

pub intermediate_by_writer :
    (ts : List Transaction)
    → AreOfHistory ts
    → (reader : Transaction) (v : Version)
    → intermediate_writers ts reader v ≡ other_over ts reader (writer_of ts v)
intermediate_by_writer ts (events, kept, of) reader v = by_writer (writer_of ts v) refl
  where
    by_writer : (o : Option Writer) → writer_of ts v ≡ o → intermediate_writers ts reader v ≡ other_over ts reader o
    by_writer None e = unwritten_intermediate ts reader v (nobody_wrote ts v e)
    by_writer (Some w) e =
        let at = writer_wrote ts v w e in
        let x : Transaction = txn_at ts w.txn in
        subst (λ us. intermediate_writers us reader v ≡ single_if (not (x.invocation == reader.invocation) && wrote_intermediate x v) x) (sym of)
        (one_intermediate events kept reader x v (subst (λ us. Contains us x) of at.among) at.wrote)
        ∙ ap (λ b. single_if (not (x.invocation == reader.invocation) && b) x) (sym at.over)

-- ---- reads, transaction by transaction

read_if : {A : Type 0} (ok : Bool) (f : Version → List A) (vs : List Version) (rest all : List A) → rest ≡ all → (if ok then flat_map f vs ++ rest else rest) ≡ flat_map f (if ok then vs else []) ++ all
read_if true f vs rest all e = ap (λ es. flat_map f vs ++ es) e
read_if false f vs rest all e = e

gathered_if : {A : Type 0} (ok : Bool) (g : Transaction → List A) (t : Transaction) (us : List Transaction) → flat_map g (if ok then t ∷ us else us) ≡ (if ok then g t ++ flat_map g us else flat_map g us)
gathered_if true g t us = refl
gathered_if false g t us = refl

pub reads_by_transaction : {A : Type 0} (f : Transaction → Version → List A) (ts : List Transaction) → for_each_read ts f ≡ flat_map (λ t. flat_map (f t) (read_by t)) ts
reads_by_transaction f [] = refl
reads_by_transaction f (t ∷ ts) =
    gathered_if (is_ok t) (λ (u : Transaction). flat_map (f u) (external_reads u)) t (filter is_ok ts)
    ∙ read_if (is_ok t) (f t) (external_reads t) (for_each_read ts f) (flat_map (λ t. flat_map (f t) (read_by t)) ts) (reads_by_transaction f ts)
