-- Aborted, intermediate and stray reads by who wrote the version that is read.
use Rattle.std.proofs.Common.{◌≡◌, ◌↔◌, inl, inr, List, [], ◌∷◌, Bool, true, false, not, ◌&&◌, ◌||◌, ◌==◌, if◌then◌else◌, Some, None, is_some, filter, map, flat_map, Contains, IsTrue, IsFalse, refl, sym, ◌∙◌, ap, subst}
use Rattle.std.specs.List.{AllByRecursion, list_any}
use Rattle.std.proofs.lemmas.Bool.{false≢true, and_parts, and_from, and_right, eqb-false, not-true}
use Rattle.std.proofs.lemmas.List.Elements.{All-from_recursion, recursion_from_All, All-contains}
use Rattle.std.proofs.lemmas.Option.{none-some}
use Rattle.hist_types.specs.Atoms.{Value}
use Rattle.history_laws.specs.BadReads.{IsAbortedRead, IsIntermediateRead, NobodyWrote, IsStrayRead, single_if}
use Rattle.hist_types.specs.Journal.{KeepsRules}
use Rattle.hist_types.specs.Operations.{Operation}
use Rattle.hist_types.specs.Phenomena.{BadRead, bad_read, for_each_read, aborted_writers, aborted_reads, intermediate_writers, intermediate_reads, is_stray, stray_reads}
use Rattle.hist_types.specs.Transactions.{Transaction, Version, has_version, is_ok, is_failed, external_reads, transactions_of, is_known_to_read, writes, wrote_intermediate}
use Rattle.hist_types.proofs.Members.{In, in_from_Contains, Contains_from_in, in_each, in_some, in_mapped, in_map, in_filter, in_filtered, passes_filter}
use Rattle.history_laws.proofs.Processes.{told_apart}
use Rattle.history_laws.proofs.ThinningPaths.{any_passes}
use Rattle.history_laws.proofs.WrittenOnce.{AreApart, all_apart, one_writer, over_is_written}
use Rattle.history_laws.proofs.VersionMembers.{in_from_has, has_from_in}

and_true : (b : Bool) → (b && true) ≡ b
and_true true = refl
and_true false = refl

not-true_from : (b : Bool) → ¬ (b ≡ true) → b ≡ false
not-true_from true other = elim (other refl) [ ]
not-true_from false other = refl

-- ---- what is told of each read

abbrev IsTold : {A : Type 0} → List Transaction → (Transaction → Version → List A) → A → Type 0
IsTold ts f y = (reader : Transaction) × (v : Version) × In reader ts × (is_known_to_read reader v ≡ true) × In y (f reader v)

told_from : {A : Type 0} (ts : List Transaction) (f : Transaction → Version → List A) (y : A) → In y (for_each_read ts f) → IsTold ts f y
told_from ts f y i =
    let by = in_some (λ (t : Transaction). flat_map (f t) (external_reads t)) y (filter is_ok ts) i in
    let of = in_some (f by.0) y (external_reads by.0) by.2 in (
      by.0,
      of.0,
      in_filter is_ok by.0 ts by.1,
      and_from (is_ok by.0) (has_version (external_reads by.0) of.0) (passes_filter is_ok by.0 ts by.1) (has_from_in of.0 (external_reads by.0) of.1),
      of.2,
    )

told_to : {A : Type 0} (ts : List Transaction) (f : Transaction → Version → List A) (y : A) → IsTold ts f y → In y (for_each_read ts f)
told_to ts f y (reader, v, among, read, given) =
    let parts = and_parts (is_ok reader) (has_version (external_reads reader) v) read in
    in_each (λ (t : Transaction). flat_map (f t) (external_reads t)) y reader (filter is_ok ts) (in_filtered is_ok reader ts among parts.0)
    (in_each (f reader) y v (external_reads reader) (in_from_has v (external_reads reader) parts.1) given)

-- a writer that passes two tests is told with each read
abbrev IsFound : List Transaction → (p q : Transaction → Version → Transaction → Bool) → BadRead → Type 0
IsFound ts p q r =
    (reader writer : Transaction)
    × (v : Version)
    × In reader ts
    × In writer ts
    × (is_known_to_read reader v ≡ true)
    × (p reader v writer ≡ true)
    × (q reader v writer ≡ true)
    × (bad_read reader v writer ≡ r)

abbrev reads_found : List Transaction → (p q : Transaction → Version → Transaction → Bool) → List BadRead
reads_found ts p q = for_each_read ts (λ reader v. map (bad_read reader v) (filter (λ writer. p reader v writer && q reader v writer) ts))

found_from : (ts : List Transaction) (p q : Transaction → Version → Transaction → Bool) (r : BadRead) → In r (reads_found ts p q) → IsFound ts p q r
found_from ts p q r i =
    let (reader, v, among, read, given) = told_from ts (λ reader v. map (bad_read reader v) (filter (λ writer. p reader v writer && q reader v writer) ts)) r i in
    let test : Transaction → Bool = λ writer. p reader v writer && q reader v writer in
    let (writer, there, is) = in_map (bad_read reader v) r (filter test ts) given in
    let both = and_parts (p reader v writer) (q reader v writer) (passes_filter test writer ts there) in
    (reader, writer, v, among, in_filter test writer ts there, read, both.0, both.1, is)

found_to : (ts : List Transaction) (p q : Transaction → Version → Transaction → Bool) (r : BadRead) → IsFound ts p q r → In r (reads_found ts p q)
found_to ts p q r (reader, writer, v, among, there, read, is_p, is_q, is) =
    let test : Transaction → Bool = λ writer. p reader v writer && q reader v writer in
    subst (λ b. In b (reads_found ts p q)) is
    (told_to ts (λ reader v. map (bad_read reader v) (filter (λ writer. p reader v writer && q reader v writer) ts)) (bad_read reader v writer) (
      reader,
      v,
      among,
      read,
      in_mapped (bad_read reader v) writer (filter test ts) (in_filtered test writer ts there (and_from (p reader v writer) (q reader v writer) is_p is_q)),
    ))

-- ---- aborted reads

abbrev failed_test : Transaction → Version → Transaction → Bool
failed_test reader v writer = is_failed writer

abbrev wrote_test : Transaction → Version → Transaction → Bool
wrote_test reader v writer = writes writer v

pub aborted_by_writer : (ts : List Transaction) (r : BadRead) → Contains (aborted_reads ts) r ↔ IsAbortedRead ts r
aborted_by_writer ts r = (
  λ c.
      let (reader, writer, v, among, there, read, failed, wrote, is) = found_from ts failed_test wrote_test r (in_from_Contains r (aborted_reads ts) c) in
      subst (IsAbortedRead ts) is (reader, writer, Contains_from_in reader ts among, Contains_from_in writer ts there, refl, read, failed, wrote),
  λ a.
      let (reader, writer, among, there, is, read, failed, wrote) = a in
      Contains_from_in r (aborted_reads ts)
      (found_to ts failed_test wrote_test r (reader, writer, r.version, in_from_Contains reader ts among, in_from_Contains writer ts there, read, failed, wrote, sym is)),
)

-- ---- intermediate reads

abbrev apart_test : Transaction → Version → Transaction → Bool
apart_test reader v writer = not (writer.invocation == reader.invocation)

abbrev over_test : Transaction → Version → Transaction → Bool
over_test reader v writer = wrote_intermediate writer v

pub intermediate_by_writer : (ts : List Transaction) (r : BadRead) → Contains (intermediate_reads ts) r ↔ IsIntermediateRead ts r
intermediate_by_writer ts r = (
  λ c.
      let (reader, writer, v, among, there, read, apart, over, is) = found_from ts apart_test over_test r (in_from_Contains r (intermediate_reads ts) c) in
      subst (IsIntermediateRead ts) is (
        reader,
        writer,
        Contains_from_in reader ts among,
        Contains_from_in writer ts there,
        refl,
        read,
        eqb-false writer.invocation reader.invocation (not-true (writer.invocation == reader.invocation) apart),
        over,
      ),
  λ a.
      let (reader, writer, among, there, is, read, apart, over) = a in
      let differ : not (writer.invocation == reader.invocation) ≡ true = ap not (told_apart writer.invocation reader.invocation apart) in
      Contains_from_in r (intermediate_reads ts)
      (found_to ts apart_test over_test r (reader, writer, r.version, in_from_Contains reader ts among, in_from_Contains writer ts there, read, differ, over, sym is)),
)

-- ---- stray reads

none_wrote : (ts : List Transaction) (v : Version) → list_any (λ t. writes t v) ts ≡ false → AllByRecursion (λ t. IsFalse (writes t v)) ts
none_wrote [] v e = tt
none_wrote (t ∷ ts) v e = let both = neither (writes t v) (list_any (λ u. writes u v) ts) e in (both.0, none_wrote ts v both.1)
  where
    neither : (b c : Bool) → (b || c) ≡ false → (b ≡ false) × (c ≡ false)
    neither true c e = elim (false≢true (sym e)) [ ]
    neither false c e = (refl, e)

nobody_wrote : (ts : List Transaction) (v : Version) → AllByRecursion (λ t. IsFalse (writes t v)) ts → list_any (λ t. writes t v) ts ≡ false
nobody_wrote [] v all = refl
nobody_wrote (t ∷ ts) v all = ap (λ b. b || list_any (λ u. writes u v) ts) all.0 ∙ nobody_wrote ts v all.1

not_nil : (value : Value) → is_some value ≡ true → ¬ (value ≡ None)
not_nil None e nil = false≢true e
not_nil (Some a) e nil = none-some a (sym nil)

is_value : (value : Value) → ¬ (value ≡ None) → is_some value ≡ true
is_value None other = elim (other refl) [ ]
is_value (Some a) other = refl

stray_parts : (ts : List Transaction) (v : Version) → is_stray ts v ≡ true → ¬ (v.value ≡ None) × NobodyWrote ts v
stray_parts ts v e =
    let both = and_parts (is_some v.value) (not (list_any (λ t. writes t v) ts)) e in
    (not_nil v.value both.0, All-from_recursion (λ t. IsFalse (writes t v)) ts (none_wrote ts v (not-true (list_any (λ t. writes t v) ts) both.1)))

stray_from_parts : (ts : List Transaction) (v : Version) → ¬ (v.value ≡ None) → NobodyWrote ts v → is_stray ts v ≡ true
stray_from_parts ts v other none =
    and_from (is_some v.value) (not (list_any (λ t. writes t v) ts)) (is_value v.value other)
    (ap not (nobody_wrote ts v (recursion_from_All (λ t. IsFalse (writes t v)) ts none)))

one_if : (test : Bool) (v w : Version) → In w (if test then v ∷ [] else []) → (test ≡ true) × (v ≡ w)
one_if true v w (inl e) = (refl, e)
one_if true v w (inr i) = elim i [ ]
one_if false v w i = elim i [ ]

stray_from : (ts : List Transaction) (v : Version) → In v (stray_reads ts) → IsStrayRead ts v
stray_from ts v i =
    let (reader, w, among, read, given) = told_from ts (λ reader w. if is_stray ts w then w ∷ [] else []) v i in
    let one = one_if (is_stray ts w) w v given in
    let parts = stray_parts ts w one.0 in
    subst (IsStrayRead ts) one.1 ((reader, Contains_from_in reader ts among, read), parts.0, parts.1)

stray_to : (ts : List Transaction) (v : Version) → IsStrayRead ts v → In v (stray_reads ts)
stray_to ts v ((reader, among, read), other, none) =
    told_to ts (λ reader w. if is_stray ts w then w ∷ [] else []) v (
      reader,
      v,
      in_from_Contains reader ts among,
      read,
      subst (λ b. In v (if b then v ∷ [] else [])) (sym (stray_from_parts ts v other none)) (inl refl),
    )

pub stray_by_writer : (ts : List Transaction) (v : Version) → Contains (stray_reads ts) v ↔ IsStrayRead ts v
stray_by_writer ts v = (
  λ c. stray_from ts v (in_from_Contains v (stray_reads ts) c),
  λ s. Contains_from_in v (stray_reads ts) (stray_to ts v s),
)

-- ---- who wrote a version decides

none_pass : (p : Transaction → Bool) (ts : List Transaction) → ((t : Transaction) → In t ts → p t ≡ false) → filter p ts ≡ []
none_pass p [] no_one = refl
none_pass p (t ∷ ts) no_one =
    ap (λ b. if b then t ∷ filter p ts else filter p ts) (no_one t (inl refl)) ∙ none_pass p ts (λ u i. no_one u (inr i))

-- with a transaction at the front that is the only one that can pass
alone_in_front :
    (p : Transaction → Bool) (t : Transaction) (ts : List Transaction)
    → ((u : Transaction) → In u ts → ¬ (u ≡ t))
    → ((u : Transaction) → In u ts → p u ≡ true → u ≡ t)
    → filter p (t ∷ ts) ≡ single_if (p t) t
alone_in_front p t ts further only =
    ap (λ rest. if p t then t ∷ rest else rest)
    (none_pass p ts (λ u i. not-true_from (p u) (λ e. further u i (only u i e))))

alone_by :
    (p : Transaction → Bool) (t u : Transaction) (ts : List Transaction) (passes : Bool)
    → p u ≡ passes
    → ¬ (u ≡ t)
    → (p u ≡ true → u ≡ t)
    → filter p ts ≡ single_if (p t) t
    → (if passes then u ∷ filter p ts else filter p ts) ≡ single_if (p t) t
alone_by p t u ts true e other only rest = elim (other (only e)) [ ]
alone_by p t u ts false e other only rest = rest

alone :
    (p : Transaction → Bool) (t : Transaction) (ts : List Transaction)
    → AreApart ts
    → In t ts
    → ((u : Transaction) → In u ts → p u ≡ true → u ≡ t)
    → filter p ts ≡ single_if (p t) t
alone p t [] apart i only = elim i [ ]
alone p t (u ∷ us) apart (inl e) only =
    subst (λ (x : Transaction). filter p (u ∷ us) ≡ single_if (p x) x) e
    (alone_in_front p u us (λ x i same. apart.0 (subst (λ y. In y us) same i)) (λ x i passes. only x (inr i) passes ∙ sym e))
alone p t (u ∷ us) apart (inr i) only =
    alone_by p t u us (p u) refl (λ same. apart.0 (subst (λ y. In y us) (sym same) i)) (only u (inl refl))
    (alone p t us apart.1 i (λ x j passes. only x (inr j) passes))

-- In a history that keeps the rules, the one that wrote the version is alone in the list, or nobody is.
pub one_aborted :
    (events : List Operation)
    → KeepsRules events
    → (writer : Transaction) (v : Version)
    → Contains (transactions_of events) writer
    → IsTrue (writes writer v)
    → aborted_writers (transactions_of events) v ≡ single_if (is_failed writer) writer
one_aborted events kept writer v among wrote =
    let ts : List Transaction = transactions_of events in
    let test : Transaction → Bool = λ t. is_failed t && writes t v in
    alone test writer ts (all_apart events) (in_from_Contains writer ts among)
    (λ t i passes. one_writer events kept t writer (Contains_from_in t ts i) among v (and_parts (is_failed t) (writes t v) passes).1 wrote)
    ∙ ap (λ b. single_if b writer) (ap (λ b. is_failed writer && b) wrote ∙ and_true (is_failed writer))

pub one_intermediate :
    (events : List Operation)
    → KeepsRules events
    → (reader writer : Transaction) (v : Version)
    → Contains (transactions_of events) writer
    → IsTrue (writes writer v)
    → intermediate_writers (transactions_of events) reader v ≡ single_if (not (writer.invocation == reader.invocation) && wrote_intermediate writer v) writer
one_intermediate events kept reader writer v among wrote =
    let ts : List Transaction = transactions_of events in
    let test : Transaction → Bool = λ t. not (t.invocation == reader.invocation) && wrote_intermediate t v in
    alone test writer ts (all_apart events) (in_from_Contains writer ts among)
    (λ t i passes.
    one_writer events kept t writer (Contains_from_in t ts i) among v
    (over_is_written t v (and_parts (not (t.invocation == reader.invocation)) (wrote_intermediate t v) passes).1) wrote)

pub written_is_not_stray : (ts : List Transaction) (writer : Transaction) (v : Version) → Contains ts writer → IsTrue (writes writer v) → IsFalse (is_stray ts v)
written_is_not_stray ts writer v among wrote =
    ap (λ b. is_some v.value && not b) (any_passes (λ t. writes t v) writer ts (in_from_Contains writer ts among) wrote) ∙ and_right (is_some v.value) false refl

pub unwritten_aborted : (ts : List Transaction) (v : Version) → NobodyWrote ts v → aborted_writers ts v ≡ []
unwritten_aborted ts v none =
    none_pass (λ t. is_failed t && writes t v) ts
    (λ t i. and_right (is_failed t) (writes t v) (All-contains (λ u. IsFalse (writes u v)) ts t none (Contains_from_in t ts i)))

pub unwritten_intermediate : (ts : List Transaction) (reader : Transaction) (v : Version) → NobodyWrote ts v → intermediate_writers ts reader v ≡ []
unwritten_intermediate ts reader v none =
    none_pass (λ t. not (t.invocation == reader.invocation) && wrote_intermediate t v) ts
    (λ t i.
    and_right (not (t.invocation == reader.invocation)) (wrote_intermediate t v)
    (not-true_from (wrote_intermediate t v) (λ over.
    false≢true (sym (All-contains (λ u. IsFalse (writes u v)) ts t none (Contains_from_in t ts i)) ∙ over_is_written t v over))))

pub unwritten_stray : (ts : List Transaction) (v : Version) → NobodyWrote ts v → is_stray ts v ≡ is_some v.value
unwritten_stray ts v none =
    ap (λ b. is_some v.value && not b) (nobody_wrote ts v (recursion_from_All (λ t. IsFalse (writes t v)) ts none)) ∙ and_true (is_some v.value)
