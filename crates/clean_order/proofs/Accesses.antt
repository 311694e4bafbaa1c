-- What a transaction reads and writes, in the words of the history and by the numbers of versions.
use Rattle.std.proofs.Common.{◌≡◌, inl, inr, ℕ, zero, suc, ◌<◌, option_map, List, [], ◌∷◌, length, map, true, Some, if◌then◌else◌, ◌==◌, refl, sym, ◌∙◌, ap, subst}
use Rattle.std.specs.Prelude.{slice_get}
use Rattle.std.proofs.lemmas.Bool.{and_parts, or_left, or_right, eq-eqb}
use Rattle.std.proofs.lemmas.Option.{none-some, same_Some, slice_get-map}
use Rattle.atom_index.specs.Numbers.{AreNumbered}
use Rattle.hist_types.specs.Journal.{writes_of}
use Rattle.hist_types.specs.Transactions.{Transaction, Version, version_eq, version_of, has_version, is_ok, external_reads, installs, is_known_to_read, writes}
use Rattle.hist_types.specs.declared.types.KeyOrder.{KeyOrder}
use Rattle.hist_types.proofs.Members.{In}
use Rattle.history_laws.proofs.VersionMembers.{in_from_has}
use Rattle.history_laws.proofs.WrittenOnce.{installed_or_over}
use Rattle.key_versions.specs.Histories.{read_by}
use Rattle.key_versions.specs.Kept.{KeptVersions, HaveAccesses, AreKept}
use Rattle.key_versions.specs.Numbering.{IsAccess, AreAccesses}
use Rattle.key_versions.specs.Rows.{has_nil}
use Rattle.key_versions.specs.TxnAccesses.{TxnAccesses, AreAccessesOf}
use Rattle.key_versions.specs.declared.pending.Access.{Access}

pub access_of :
    (vs named : List Version) (accesses : List Access) (v : Version)
    → AreAccesses vs named accesses
    → In v named
    → (a : Access) × In a accesses × IsAccess vs v a
access_of vs [] accesses v are i = elim i [ ]
access_of vs (w ∷ named) [] v are i = absurd are
access_of vs (w ∷ named) (a ∷ accesses) v are (inl e) = (a, inl refl, subst (λ x. IsAccess vs x a) e are.0)
access_of vs (w ∷ named) (a ∷ accesses) v are (inr i) = let (b, j, is) = access_of vs named accesses v are.1 i in (b, inr j, is)

pub same_number :
    (vs : List Version) (m n : ℕ) (v : Version)
    → AreNumbered version_eq vs
    → slice_get vs m ≡ Some v
    → slice_get vs n ≡ Some v
    → m ≡ n
same_number vs m n v numbered at there = same_Some m n (sym (numbered m v at) ∙ numbered n v there)

pub among_nils : (a : Access) (accesses : List Access) (nil : ℕ) → In a accesses → a.nil ≡ nil → has_nil nil accesses ≡ true
among_nils a [] nil i e = elim i [ ]
among_nils a (b ∷ accesses) nil (inl here) e =
    or_left (b.nil == nil) (has_nil nil accesses) (eq-eqb b.nil nil (ap (λ (x : Access). x.nil) here ∙ e))
among_nils a (b ∷ accesses) nil (inr i) e = or_right (b.nil == nil) (has_nil nil accesses) (among_nils a accesses nil i e)

-- an access is of one of the versions
pub version_at :
    (vs named : List Version) (accesses : List Access) (a : Access)
    → AreAccesses vs named accesses
    → In a accesses
    → (v : Version) × In v named × IsAccess vs v a
version_at vs [] [] a are i = elim i [ ]
version_at vs [] (b ∷ accesses) a are i = absurd are
version_at vs (w ∷ named) [] a are i = absurd are
version_at vs (w ∷ named) (b ∷ accesses) a are (inl e) = (w, inl refl, subst (λ x. IsAccess vs w x) e are.0)
version_at vs (w ∷ named) (b ∷ accesses) a are (inr i) = let (v, j, is) = version_at vs named accesses a are.1 i in (v, inr j, is)

read_in : (t : Transaction) (v : Version) → is_known_to_read t v ≡ true → In v (read_by t)
read_in t v read =
    let (ok, has) = and_parts (is_ok t) (has_version (external_reads t) v) read in
    subst (λ b. In v (if b then external_reads t else [])) (sym ok) (in_from_has v (external_reads t) has)

pub installs_writes : (t : Transaction) (v : Version) → installs t v ≡ true → writes t v ≡ true
installs_writes t v installed = (installed_or_over t v).1 (inl installed)

-- ---- the accesses of the transaction at a place

have_at :
    (keys : KeyOrder) (vs : List Version) (ts : List Transaction) (accesses : List TxnAccesses) (place : ℕ) (t : Transaction) (a : TxnAccesses)
    → HaveAccesses keys vs ts accesses
    → slice_get ts place ≡ Some t
    → slice_get accesses place ≡ Some a
    → AreAccessesOf vs t a.reads a.writes
have_at keys vs [] accesses place t a are at there = elim (none-some t at) [ ]
have_at keys vs (u ∷ ts) [] place t a are at there = absurd are
have_at keys vs (u ∷ ts) (b ∷ accesses) zero t a are at there =
    subst (λ (w : Transaction). AreAccessesOf vs w a.reads a.writes) (same_Some u t at)
    (subst (λ (x : TxnAccesses). AreAccessesOf vs u x.reads x.writes) (same_Some b a there) are.0)
have_at keys vs (u ∷ ts) (b ∷ accesses) (suc place) t a are at there = have_at keys vs ts accesses place t a are.2 at there

has_some :
    (keys : KeyOrder) (vs : List Version) (ts : List Transaction) (accesses : List TxnAccesses) (place : ℕ) (t : Transaction)
    → HaveAccesses keys vs ts accesses
    → slice_get ts place ≡ Some t
    → (a : TxnAccesses) × (slice_get accesses place ≡ Some a)
has_some keys vs [] accesses place t are at = elim (none-some t at) [ ]
has_some keys vs (u ∷ ts) [] place t are at = absurd are
has_some keys vs (u ∷ ts) (b ∷ accesses) zero t are at = (b, refl)
has_some keys vs (u ∷ ts) (b ∷ accesses) (suc place) t are at = has_some keys vs ts accesses place t are.2 at

module _ (ts : List Transaction) (kept : KeptVersions) (are : AreKept ts kept) (place : ℕ) (t : Transaction) (a : TxnAccesses)
    (at : slice_get ts place ≡ Some t) (there : slice_get kept.accesses place ≡ Some a) where
  pub accesses_here : AreAccessesOf kept.versions t a.reads a.writes
  accesses_here = have_at kept.keys kept.versions ts kept.accesses place t a are.accesses at there

  pub read_access : (v : Version) → is_known_to_read t v ≡ true → (x : Access) × In x a.reads × IsAccess kept.versions v x
  read_access v read = access_of kept.versions (read_by t) a.reads v accesses_here.reads (read_in t v read)

  pub write_access : (v : Version) → writes t v ≡ true → (x : Access) × In x a.writes × IsAccess kept.versions v x
  write_access v wrote =
      access_of kept.versions (map version_of (writes_of t.mops)) a.writes v accesses_here.writes (in_from_has v (map version_of (writes_of t.mops)) wrote)

pub has_accesses :
    (ts : List Transaction) (kept : KeptVersions) (place : ℕ) (t : Transaction)
    → AreKept ts kept
    → slice_get ts place ≡ Some t
    → (a : TxnAccesses) × (slice_get kept.accesses place ≡ Some a)
has_accesses ts kept place t are at = has_some kept.keys kept.versions ts kept.accesses place t are.accesses at

-- there are as many of them as transactions
pub kept_count : (ts : List Transaction) (kept : KeptVersions) → AreKept ts kept → length kept.accesses ≡ length ts
kept_count ts kept are = by_both ts kept.accesses are.accesses
  where
    by_both : (us : List Transaction) (accesses : List TxnAccesses) → HaveAccesses kept.keys kept.versions us accesses → length accesses ≡ length us
    by_both [] [] none = refl
    by_both (u ∷ us) (a ∷ accesses) all = ap suc (by_both us accesses all.2)
    by_both [] (a ∷ accesses) all = absurd all
    by_both (u ∷ us) [] all = absurd all

pub has_place :
    (ts : List Transaction) (kept : KeptVersions) (place : ℕ)
    → AreKept ts kept
    → place < length ts
    → place < length kept.accesses
has_place ts kept place are below = subst (λ n. place < n) (sym (kept_count ts kept are)) below

-- what is given of it by its place
pub part_at :
    (f : TxnAccesses → List Access) (accesses : List TxnAccesses) (place : ℕ) (a : TxnAccesses) (xs : List Access)
    → slice_get (map f accesses) place ≡ Some xs
    → slice_get accesses place ≡ Some a
    → xs ≡ f a
part_at f accesses place a xs part there = same_Some xs (f a) (sym part ∙ slice_get-map f accesses place ∙ ap (option_map f) there)
