-- The numbers of keys, by the pairs of numbers of the versions.
use Rattle.std.proofs.Common.{◌≡◌, ◌<◌, ℕ, List, length, map, get_or, Option, Some, option_map, pos, sym, ◌∙◌, ap}
use Rattle.std.specs.Prelude.{slice_get}
use Rattle.std.proofs.lemmas.Bool.{eqb-true}
use Rattle.std.proofs.lemmas.List.{length-map}
use Rattle.std.proofs.lemmas.List.Elements.{All-map}
use Rattle.std.proofs.lemmas.Option.{slice_get-get_or, slice_get-map}
use Rattle.hist_types.specs.Atoms.{Atom, integer, atom_eq}
use Rattle.hist_types.specs.Transactions.{Version}
use Rattle.hist_types.proofs.Equality.{atom_eq-same, atom_eq-itself}
use Rattle.atom_index.specs.Numbers.{AreNumbered}
use Rattle.key_versions.specs.KeyNumbers.{AreKeyNumbers}
use Rattle.key_versions.specs.Numbering.{AreInRange, key_at, version_by, versions_in}
use Rattle.key_versions.proofs.Numbered.{version_pair}
use Rattle.key_versions.proofs.Places.{same_item, same_places}

module _ (keys values : List Atom) (pairs : List (ℕ × Option ℕ)) (apart : AreNumbered atom_eq keys) (within : AreInRange keys values pairs) where
  number_at : (i m : ℕ) (p : ℕ × Option ℕ) → slice_get pairs i ≡ Some p → slice_get (map (λ q. q.0) pairs) i ≡ Some m → m ≡ p.0
  number_at i m p at is = same_item m p.0 (sym is ∙ slice_get-map (λ q. q.0) pairs i ∙ ap (option_map (λ (q : ℕ × Option ℕ). q.0)) at)

  pub are_key_numbers : AreKeyNumbers (versions_in keys values pairs) (length keys) (map (λ p. p.0) pairs)
  are_key_numbers = record {
    each = length-map pairs (λ p. p.0) ∙ sym (length-map pairs (version_by keys values));
    below = All-map (λ n. n < length keys) (λ (p : ℕ × Option ℕ). p.0) pairs (λ k d below. (within k (get_or pairs k d) (slice_get-get_or pairs k d below)).0);
    same = λ i j m n v w at there is is'.
        let (p, here, made) = version_pair keys values pairs i v at in
        let (q, here', made') = version_pair keys values pairs j w there in
        let first : m ≡ p.0 = number_at i m p here is in
        let second : n ≡ q.0 = number_at j n q here' is' in
        let key : v.key ≡ key_at keys p.0 = ap (λ (u : Version). u.key) made in
        let key' : w.key ≡ key_at keys q.0 = ap (λ (u : Version). u.key) made' in (
          (λ e. key ∙ ap (key_at keys) (sym first ∙ e ∙ second) ∙ sym key'),
          (λ e.
              first
              ∙ eqb-true p.0 q.0
              (sym (same_places atom_eq atom_eq-same atom_eq-itself keys apart p.0 q.0 (integer (pos 0)) (within i p here).0 (within j q here').0)
              ∙ ap (atom_eq (key_at keys p.0)) (sym (sym key ∙ e ∙ key'))
              ∙ atom_eq-itself (key_at keys p.0))
              ∙ sym second),
        );
  }
