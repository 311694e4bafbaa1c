-- The followers that a transaction adds to a version.
use Rattle.std.proofs.Common.{◌≡◌, ℕ, List, [], ◌∷◌, ◌++◌, map, Bool, true, false, cond, Option, Some, None, refl, sym, ◌∙◌, ap}
use Rattle.std.specs.Prelude.{slice_get, filter, not, ◌&&◌, ◌||◌, ◌==◌}
use Rattle.std.proofs.lemmas.List.{append-nil}
use Rattle.hist_types.specs.Atoms.{Atom, atom_eq, value_eq}
use Rattle.hist_types.specs.Journal.{Write}
use Rattle.hist_types.specs.Transactions.{Version, version_eq, version_of}
use Rattle.hist_types.specs.Versions.{nil_of, pair, is_change}
use Rattle.hist_types.proofs.Equality.{version_eq-itself}
use Rattle.atom_index.specs.Numbers.{AreNumbered}
use Rattle.key_versions.specs.declared.pending.Access.{Access}
use Rattle.key_versions.specs.Numbering.{version_with, IsAccess, AreAccesses}
use Rattle.key_versions.specs.Rows.{follower, is_behind}
use Rattle.key_versions.specs.Tables.{followers_at}
use Rattle.key_versions.proofs.Accessing.{same_nil}
use Rattle.key_versions.proofs.Joined.{same_version}
use Rattle.key_versions.proofs.Known.{access_by, is_of}

abbrev pub install_at : ℕ → Version → ℕ × Option Version
install_at place u = (place, Some u)

-- installs that pass a test, by their numbers and as versions
pub filtered :
    (vs : List Version) (place : ℕ) (p : Access → Bool) (q : Version → Bool) (wr : List Write) (accesses : List Access)
    → ((w : Write) (a : Access) → IsAccess vs (version_of w) a → p a ≡ q (version_of w)) → AreAccesses vs (map version_of wr) accesses
    → followers_at vs (map (follower place) (filter p accesses)) ≡ map (install_at place) (filter q (map version_of wr))
filtered vs place p q [] [] agree are = refl
filtered vs place p q (w ∷ wr) (a ∷ accesses) agree are =
    ap (λ b. followers_at vs (map (follower place) (cond b (a ∷ filter p accesses) (filter p accesses)))) (agree w a are.0)
    ∙ by (q (version_of w)) vs place w a (filter p accesses) (filter q (map version_of wr)) are.0.1 (filtered vs place p q wr accesses agree are.1)
  where
    by :
        (b : Bool) (vs : List Version) (place : ℕ) (w : Write) (a : Access) (bs : List Access) (us : List Version) → slice_get vs a.version ≡ Some (version_of w)
        → followers_at vs (map (follower place) bs) ≡ map (install_at place) us
        → followers_at vs (map (follower place) (cond b (a ∷ bs) bs)) ≡ map (install_at place) (cond b (version_of w ∷ us) us)
    by true vs place w a bs us at behind = ap (λ (o : Option Version). (place, o) ∷ followers_at vs (map (follower place) bs)) at ∙ ap (λ (xs : List (ℕ × Option Version)). install_at place (version_of w) ∷ xs) behind
    by false vs place w a bs us at behind = behind
filtered vs place p q [] (a ∷ accesses) agree are = absurd are
filtered vs place p q (w ∷ wr) [] agree are = absurd are

pub none_pass : {A : Type 0} (xs : List A) → filter (λ (x : A). false) xs ≡ []
none_pass [] = refl
none_pass (x ∷ xs) = none_pass xs

pub same_filter : {A : Type 0} (p q : A → Bool) → ((x : A) → p x ≡ q x) → (xs : List A) → filter p xs ≡ filter q xs
same_filter p q same [] = refl
same_filter {A} p q same (x ∷ xs) = ap (λ b. cond b (x ∷ filter p xs) (filter p xs)) (same x) ∙ ap (λ (ys : List A). cond (q x) (x ∷ ys) ys) (same_filter p q same xs)

neither : (b : Bool) (xs : List Access) → xs ≡ [] → cond b xs [] ≡ []
neither true xs none = none
neither false xs none = refl

and_true : (b : Bool) → (b && true) ≡ b
and_true true = refl
and_true false = refl

and_false : (b : Bool) → (b && false) ≡ false
and_false true = refl
and_false false = refl

and_twice : (a e : Bool) → (a && not (a && e)) ≡ (a && not e)
and_twice true e = refl
and_twice false e = refl

module _ (vs : List Version) (numbered : AreNumbered version_eq vs) (n nil place : ℕ) (wr : List Write) (accesses : List Access) (are : AreAccesses vs (map version_of wr) accesses) where
  abbrev added : Bool → List (ℕ × Option Version)
  added b = followers_at vs (map (follower place) (filter (is_of n) accesses)) ++ followers_at vs (map (follower place) (cond b (filter (is_behind (access_by nil n)) accesses) []))

  -- behind nil
  pub behind_nil :
      (key : Atom) (b r : Bool) → slice_get vs n ≡ Some (version_with key None) → slice_get vs nil ≡ Some (version_with key None)
      → added b ≡ map (install_at place) (filter (λ (u : Version). (true || r) && is_change (pair (version_with key None) u)) (map version_of wr))
  behind_nil key b r at there =
      let v = version_with key None in
      let place_same : (n == nil) ≡ true = same_version vs numbered v v nil n there at ∙ version_eq-itself v in
      let first = filtered vs place (is_of n) (λ (u : Version). (true || r) && is_change (pair v u)) wr accesses
      (λ w a is. same_nil vs numbered v (version_of w) n a.nil at is.0 ∙ sym (and_true (atom_eq key w.key))) are in
      let none : filter (is_behind (access_by nil n)) accesses ≡ [] =
      same_filter (is_behind (access_by nil n)) (λ (a : Access). false) (λ a. ap (λ t. (not t && (a.nil == nil)) && not (a.version == n)) place_same) accesses ∙ none_pass accesses in
      ap (λ (xs : List Access). followers_at vs (map (follower place) (filter (is_of n) accesses)) ++ followers_at vs (map (follower place) xs)) (neither b (filter (is_behind (access_by nil n)) accesses) none)
      ∙ append-nil (followers_at vs (map (follower place) (filter (is_of n) accesses))) ∙ first

  -- nothing is installed at a version that is not nil
  none_at : (key x : Atom) → slice_get vs n ≡ Some (version_with key (Some x)) → followers_at vs (map (follower place) (filter (is_of n) accesses)) ≡ []
  none_at key x at =
      filtered vs place (is_of n) (λ (u : Version). false) wr accesses
      (λ w a is. same_version vs numbered (version_with key (Some x)) (nil_of w.key) n a.nil at is.0 ∙ and_false (atom_eq key w.key)) are
      ∙ ap (map (install_at place)) (none_pass (map version_of wr))

  -- behind another version that the transaction reads
  pub behind_read :
      (key x : Atom) → slice_get vs n ≡ Some (version_with key (Some x)) → slice_get vs nil ≡ Some (version_with key None)
      → added true ≡ map (install_at place) (filter (λ (u : Version). (false || true) && is_change (pair (version_with key (Some x)) u)) (map version_of wr))
  behind_read key x at there =
      let v = version_with key (Some x) in
      let apart : (n == nil) ≡ false = same_version vs numbered (version_with key None) v nil n there at ∙ and_false (atom_eq key key) in
      ap (λ (xs : List (ℕ × Option Version)). xs ++ followers_at vs (map (follower place) (filter (is_behind (access_by nil n)) accesses))) (none_at key x at)
      ∙ filtered vs place (is_behind (access_by nil n)) (λ (u : Version). is_change (pair v u)) wr accesses
      (λ w a is.
      ap (λ t. (not t && (a.nil == nil)) && not (a.version == n)) apart
      ∙ ap (λ t. t && not (a.version == n)) (same_nil vs numbered (version_with key None) (version_of w) nil a.nil there is.0)
      ∙ ap (λ t. atom_eq key w.key && not t) (same_version vs numbered v (version_of w) n a.version at is.1)
      ∙ and_twice (atom_eq key w.key) (value_eq (Some x) (Some w.value)))
      are

  -- behind another version that it does not read
  pub behind_unread :
      (key x : Atom) → slice_get vs n ≡ Some (version_with key (Some x))
      → added false ≡ map (install_at place) (filter (λ (u : Version). (false || false) && is_change (pair (version_with key (Some x)) u)) (map version_of wr))
  behind_unread key x at =
      ap (λ (xs : List (ℕ × Option Version)). xs ++ []) (none_at key x at) ∙ sym (ap (map (install_at place)) (none_pass (map version_of wr)))
