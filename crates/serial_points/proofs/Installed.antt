-- Whoever installs a version updates it by no other one.
use Rattle.std.proofs.Common.{◌≡◌, inl, inr, ℕ, List, [], ◌∷◌, map, Bool, true, false, not, ◌==◌, ◌&&◌, if◌then◌else◌, fold, Some, refl, sym, ◌∙◌, ap}
use Rattle.std.specs.Prelude.{slice_get}
use Rattle.std.proofs.lemmas.Bool.{and_from, eq-eqb}
use Rattle.atom_index.specs.Numbers.{AreNumbered}
use Rattle.hist_types.specs.Journal.{Write, writes_of}
use Rattle.hist_types.specs.Transactions.{Transaction, Version, version_eq, version_of, has_key, last_writes, installed_by, installs}
use Rattle.hist_types.specs.Versions.{nil_of}
use Rattle.hist_types.proofs.Members.{In}
use Rattle.history_laws.proofs.ThinningPaths.{any_passes}
use Rattle.history_laws.proofs.VersionMembers.{in_from_has}
use Rattle.key_versions.specs.Kept.{KeptVersions, AreKept}
use Rattle.key_versions.specs.Numbering.{AreAccesses}
use Rattle.key_versions.specs.TxnAccesses.{TxnAccesses}
use Rattle.key_versions.specs.declared.pending.Access.{Access}
use Rattle.clean_order.specs.Accesses.{updates_with, updates}
use Rattle.clean_order.proofs.Accesses.{accesses_here, installs_writes, same_number, write_access}
use Rattle.clean_order.proofs.Installed.{beside_key}
use Rattle.serial_points.specs.Stepping.{has_install}

module _ (vs : List Version) (numbered : AreNumbered version_eq vs) (read : Access) (w : Version) (key : slice_get vs read.nil ≡ Some (nil_of w.key)) (is : slice_get vs read.version ≡ Some w) where
  last_keeps :
      (ws : List Write) (accesses : List Access) (found : Bool)
      → AreAccesses vs (map version_of ws) accesses
      → In w (map version_of (last_writes ws))
      → fold (updates_with read) found accesses ≡ false
  last_keeps [] accesses found are i = elim i [ ]
  last_keeps (u ∷ ws) [] found are i = absurd are
  last_keeps (u ∷ ws) (a ∷ accesses) found are i = by (λ before j. last_keeps ws accesses before are.1 j) (has_key u.key ws) refl i
    where
      by :
          ((before : Bool) → In w (map version_of (last_writes ws)) → fold (updates_with read) before accesses ≡ false)
          → (over : Bool)
          → has_key u.key ws ≡ over
          → In w (map version_of (if over then last_writes ws else u ∷ last_writes ws))
          → fold (updates_with read) (updates_with read found a) accesses ≡ false
      by rest true over j = rest (updates_with read found a) j
      by rest false none (inr j) = rest (updates_with read found a) j
      by rest false none (inl here) =
          let named : u.key ≡ w.key = ap (λ (v : Version). v.key) here in
          let of_key : a.nil ≡ read.nil = same_number vs a.nil read.nil (nil_of w.key) numbered (are.0.0 ∙ ap (λ k. Some (nil_of k)) named) key in
          let same : a.version ≡ read.version = same_number vs a.version read.version w numbered (are.0.1 ∙ ap Some here) is in
          let step : updates_with read found a ≡ false =
          ap (λ b. if b then not (a.version == read.version) else found) (eq-eqb a.nil read.nil of_key) ∙ ap not (eq-eqb a.version read.version same) in
          ap (λ b. fold (updates_with read) b accesses) step
          ∙ beside_key vs numbered read w key ws accesses false are.1 (ap (λ k. has_key k ws) (sym named) ∙ none)

pub installer_has :
    (ts : List Transaction) (kept : KeptVersions) (place : ℕ) (t : Transaction) (a : TxnAccesses) (number : ℕ) (v : Version)
    → AreKept ts kept
    → slice_get ts place ≡ Some t
    → slice_get kept.accesses place ≡ Some a
    → slice_get kept.versions number ≡ Some v
    → installs t v ≡ true
    → has_install number a.writes ≡ true
installer_has ts kept place t a number v are at there is installed =
    let (x, i, numbers) = write_access ts kept are place t a at there v (installs_writes t v installed) in
    let last : updates a.writes x ≡ false =
    last_keeps kept.versions are.distinct x v numbers.0 numbers.1 (writes_of t.mops) a.writes false (accesses_here ts kept are place t a at there).writes (in_from_has v (installed_by t) installed) in
    any_passes (λ (write : Access). write.version == number && not (updates a.writes write)) x a.writes i
    (and_from (x.version == number) (not (updates a.writes x)) (eq-eqb x.version number (same_number kept.versions x.version number v are.distinct numbers.1 is)) (ap not last))
