-- What is installed by its number, in the words of the history.
use Rattle.std.proofs.Common.{◌≡◌, inl, inr, ℕ, zero, suc, ◌+◌, ◌<◌, List, [], ◌∷◌, length, drop, map, Bool, true, false, not, ◌==◌, if◌then◌else◌, fold, Some, refl, arith, sym, ◌∙◌, ap, subst}
use Rattle.std.specs.Prelude.{slice_get}
use Rattle.std.proofs.lemmas.Bool.{eq-eqb, false≢true, false_from_ne_true, ne_eqb, or_left, or_right}
use Rattle.std.proofs.lemmas.Option.{same_Some}
use Rattle.atom_index.specs.Numbers.{AreNumbered}
use Rattle.hist_types.specs.Atoms.{atom_eq}
use Rattle.hist_types.specs.Journal.{Write, writes_of}
use Rattle.hist_types.specs.Transactions.{Transaction, Version, version_eq, version_of, has_key, last_writes, installed_by, installs}
use Rattle.hist_types.specs.Versions.{nil_of}
use Rattle.hist_types.proofs.Equality.{atom_eq-same, atom_eq-itself}
use Rattle.hist_types.proofs.Members.{In, in_mapped}
use Rattle.history_laws.proofs.ThinningPaths.{some_passes}
use Rattle.history_laws.proofs.VersionMembers.{has_from_in, in_from_has}
use Rattle.key_versions.specs.Kept.{KeptVersions, AreKept}
use Rattle.key_versions.specs.Numbering.{AreAccesses}
use Rattle.key_versions.specs.Rows.{has_nil}
use Rattle.key_versions.specs.TxnAccesses.{TxnAccesses}
use Rattle.key_versions.specs.declared.pending.Access.{Access}
use Rattle.clean_order.specs.Accesses.{access_at, InstallsNumber, updates_with, updates}
use Rattle.clean_order.proofs.Accesses.{access_of, accesses_here, among_nils, same_number}

module _ (vs : List Version) (numbered : AreNumbered version_eq vs) where
  not_over :
      (w : Write) (ws : List Write) (a : Access) (rest : List Access)
      → slice_get vs a.nil ≡ Some (nil_of w.key)
      → AreAccesses vs (map version_of ws) rest
      → has_nil a.nil rest ≡ false
      → has_key w.key ws ≡ false
  not_over w ws a rest at are none =
      false_from_ne_true (has_key w.key ws) (λ has.
      let (u, i, same) = some_passes (λ (u : Write). atom_eq w.key u.key) ws has in
      let (b, j, is) = access_of vs (map version_of ws) rest (version_of u) are (in_mapped version_of u ws i) in
      let equal : b.nil ≡ a.nil = same_number vs b.nil a.nil (nil_of w.key) numbered (is.0 ∙ ap (λ key. Some (nil_of key)) (sym (atom_eq-same w.key u.key same))) at in
      false≢true (sym none ∙ among_nils b rest a.nil j equal))

  among_lasts : (w : Write) (ws : List Write) (over : Bool) (v : Version) → In v (map version_of (last_writes ws)) → In v (map version_of (if over then last_writes ws else w ∷ last_writes ws))
  among_lasts w ws true v i = i
  among_lasts w ws false v i = inr i

  installed_at :
      (ws : List Write) (accesses : List Access) (i : ℕ) (v : Version)
      → AreAccesses vs (map version_of ws) accesses
      → i < length accesses
      → has_nil (access_at accesses i).nil (drop (i + 1) accesses) ≡ false
      → slice_get vs (access_at accesses i).version ≡ Some v
      → In v (map version_of (last_writes ws))
  installed_at ws [] i v are below last at = absurd (omega (arith, below))
  installed_at [] (a ∷ rest) i v are below last at = absurd are
  installed_at (w ∷ ws) (a ∷ rest) zero v are below last at =
      subst (λ over. In v (map version_of (if over then last_writes ws else w ∷ last_writes ws)))
      (sym (not_over w ws a rest are.0.0 are.1 last))
      (inl (same_Some (version_of w) v (sym are.0.1 ∙ at)))
  installed_at (w ∷ ws) (a ∷ rest) (suc i) v are below last at =
      let more : suc i + 1 ≡ suc (i + 1) = omega arith in
      let behind : has_nil (access_at rest i).nil (drop (suc (i + 1)) (a ∷ rest)) ≡ false = subst (λ n. has_nil (access_at rest i).nil (drop n (a ∷ rest)) ≡ false) more last in
      among_lasts w ws (has_key w.key ws) v (installed_at ws rest i v are.1 (omega (arith, below)) behind at)

-- ---- whoever installs another version than it reads updates it

module _ (vs : List Version) (numbered : AreNumbered version_eq vs) (read : Access) (w : Version) (key : slice_get vs read.nil ≡ Some (nil_of w.key)) where
  -- writes of other keys change nothing
  pub beside_key :
      (ws : List Write) (accesses : List Access) (found : Bool)
      → AreAccesses vs (map version_of ws) accesses
      → has_key w.key ws ≡ false
      → fold (updates_with read) found accesses ≡ found
  beside_key [] [] found are none = refl
  beside_key [] (a ∷ accesses) found are none = absurd are
  beside_key (u ∷ ws) [] found are none = absurd are
  beside_key (u ∷ ws) (a ∷ accesses) found are none =
      let other : (a.nil == read.nil) ≡ false =
      ne_eqb a.nil read.nil (λ same.
      let one : nil_of u.key ≡ nil_of w.key = same_Some (nil_of u.key) (nil_of w.key) (sym are.0.0 ∙ ap (slice_get vs) same ∙ key) in
      false≢true (sym none ∙ or_left (atom_eq w.key u.key) (has_key w.key ws) (subst (λ k. atom_eq w.key k ≡ true) (sym (ap (λ (v : Version). v.key) one)) (atom_eq-itself w.key)))) in
      ap (λ b. fold (updates_with read) (if b then not (a.version == read.version) else found) accesses) other
      ∙ beside_key ws accesses found are.1 (false_from_ne_true (has_key w.key ws) (λ has. false≢true (sym none ∙ or_right (atom_eq w.key u.key) (has_key w.key ws) has)))

  module _ (differ : ¬ (slice_get vs read.version ≡ Some w)) where
    last_updates :
        (ws : List Write) (accesses : List Access) (found : Bool)
        → AreAccesses vs (map version_of ws) accesses
        → In w (map version_of (last_writes ws))
        → fold (updates_with read) found accesses ≡ true
    last_updates [] accesses found are i = elim i [ ]
    last_updates (u ∷ ws) [] found are i = absurd are
    last_updates (u ∷ ws) (a ∷ accesses) found are i = by (λ before j. last_updates ws accesses before are.1 j) (has_key u.key ws) refl i
      where
        by :
            ((before : Bool) → In w (map version_of (last_writes ws)) → fold (updates_with read) before accesses ≡ true)
            → (over : Bool)
            → has_key u.key ws ≡ over
            → In w (map version_of (if over then last_writes ws else u ∷ last_writes ws))
            → fold (updates_with read) (updates_with read found a) accesses ≡ true
        by rest true over j = rest (updates_with read found a) j
        by rest false none (inr j) = rest (updates_with read found a) j
        by rest false none (inl here) =
            let named : u.key ≡ w.key = ap (λ (v : Version). v.key) here in
            let same : a.nil ≡ read.nil = same_number vs a.nil read.nil (nil_of w.key) numbered (are.0.0 ∙ ap (λ k. Some (nil_of k)) named) key in
            let other : (a.version == read.version) ≡ false = ne_eqb a.version read.version (λ e. differ (ap (slice_get vs) (sym e) ∙ are.0.1 ∙ ap Some here)) in
            let is : updates_with read found a ≡ true =
            ap (λ b. if b then not (a.version == read.version) else found) (eq-eqb a.nil read.nil same) ∙ ap not other in
            ap (λ b. fold (updates_with read) b accesses) is
            ∙ beside_key ws accesses true are.1 (ap (λ k. has_key k ws) (sym named) ∙ none)

pub installer_updates :
    (ts : List Transaction) (kept : KeptVersions) (place : ℕ) (t : Transaction) (a : TxnAccesses) (read : Access) (v w : Version)
    → AreKept ts kept
    → slice_get ts place ≡ Some t
    → slice_get kept.accesses place ≡ Some a
    → slice_get kept.versions read.nil ≡ Some (nil_of w.key)
    → slice_get kept.versions read.version ≡ Some v
    → ¬ (v ≡ w)
    → installs t w ≡ true
    → updates a.writes read ≡ true
installer_updates ts kept place t a read v w are at there key number differ installed =
    last_updates kept.versions are.distinct read w key (λ e. differ (same_Some v w (sym number ∙ e))) (writes_of t.mops) a.writes false (accesses_here ts kept are place t a at there).writes
    (in_from_has w (installed_by t) installed)

pub installs_number :
    (ts : List Transaction) (kept : KeptVersions) (place : ℕ) (t : Transaction) (a : TxnAccesses) (version : ℕ) (v : Version)
    → AreKept ts kept
    → slice_get ts place ≡ Some t
    → slice_get kept.accesses place ≡ Some a
    → InstallsNumber a.writes version
    → slice_get kept.versions version ≡ Some v
    → installs t v ≡ true
installs_number ts kept place t a version v are at there (i, below, same, last) number =
    has_from_in v (installed_by t)
    (installed_at kept.versions are.distinct (writes_of t.mops) a.writes i v (accesses_here ts kept are place t a at there).writes below last
    (ap (slice_get kept.versions) same ∙ number))
