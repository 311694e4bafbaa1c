-- A list of pairs has those that are in it.
use Rattle.std.proofs.Common.{◌≡◌, List, [], ◌∷◌, true, sym, ◌∙◌, ap, subst, inl, inr}
use Rattle.std.proofs.lemmas.Bool.{false≢true, and_parts, and_from, or_cases, or_left, or_right}
use Rattle.hist_types.specs.Transactions.{Version, version_eq}
use Rattle.hist_types.specs.Versions.{VersionPair, pair}
use Rattle.hist_types.proofs.Equality.{version_eq-same, version_eq-itself}
use Rattle.hist_types.proofs.Members.{In}
use Rattle.key_versions.specs.Histories.{same_pair, has_pair}

pub pair_in : (ps : List VersionPair) (v w : Version) → has_pair ps (pair v w) ≡ true → In (pair v w) ps
pair_in [] v w h = elim (false≢true h) [ ]
pair_in (q ∷ ps) v w h = elim (or_cases (same_pair (pair v w) q) (has_pair ps (pair v w)) h) [
  | inl is ↦ (
      let both = and_parts (version_eq v q.earlier) (version_eq w q.later) is in
      inl (ap (λ x. pair x q.later) (sym (version_eq-same v q.earlier both.0)) ∙ ap (pair v) (sym (version_eq-same w q.later both.1))))
  | inr rest ↦ inr (pair_in ps v w rest)
]

pub pair_there : (ps : List VersionPair) (p : VersionPair) → In p ps → has_pair ps p ≡ true
pair_there [] p i = elim i [ ]
pair_there (q ∷ ps) p (inl same) =
    or_left (same_pair p q) (has_pair ps p)
    (subst (λ x. same_pair p x ≡ true) (sym same)
    (and_from (version_eq p.earlier p.earlier) (version_eq p.later p.later) (version_eq-itself p.earlier) (version_eq-itself p.later)))
pair_there (q ∷ ps) p (inr i) = or_right (same_pair p q) (has_pair ps p) (pair_there ps p i)
