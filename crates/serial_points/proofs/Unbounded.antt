-- Readers of a version are below a point if those are that no bound shows to be.
use Rattle.std.proofs.Common.{◌≡◌, inl, inr, ℕ, ◌≤◌, List, Some, Contains, IsTrue, IsFalse, slice_index, sym, ap, subst, arith}
use Rattle.std.specs.Prelude.{slice_get}
use Rattle.std.proofs.lemmas.Bool.{cases_Bool}
use Rattle.std.proofs.lemmas.List.Elements.{All-contains}
use Rattle.key_versions.specs.TxnAccesses.{TxnAccesses}
use Rattle.key_versions.specs.declared.pending.Access.{Access}
use Rattle.clean_order.specs.Accesses.{updates}
use Rattle.clean_order.specs.AtVersions.{IsLowerIfOther}
use Rattle.serial_points.specs.Bounds.{BoundAll}
use Rattle.serial_points.specs.Passing.{IsAboveReadersOf}
use Rattle.serial_points.specs.Users.{IsListed, AreUsers}
use Rattle.serial_points.specs.declared.users.Users.{Users}

pub reader_lower :
    (accesses : List TxnAccesses) (points : List ℕ) (users : Users) (place reader version : ℕ) (a : TxnAccesses) (x : Access)
    → AreUsers accesses users
    → BoundAll accesses points users.bounds
    → IsAboveReadersOf points users place version
    → slice_get accesses reader ≡ Some a
    → Contains a.reads x
    → x.version ≡ version
    → IsLowerIfOther points reader place
reader_lower accesses points users place reader version a x used bound (places, has, lower) there i is =
    elim has [
      | inl all ↦ (
          let listed = All-contains (λ (y : Access). IsListed users.readers y.version reader) a.reads x (used reader a there).readers i in
          All-contains (λ other. IsLowerIfOther points other place) places reader lower
          (subst (λ ps. Contains ps reader) (sym all) (subst (λ n. IsListed users.readers n reader) is listed)))
      | inr (less, these) ↦ elim (cases_Bool (updates a.writes x)) [
        | inl both ↦ (
            let listed = All-contains (λ (y : Access). IsTrue (updates a.writes y) → IsListed users.updaters y.version reader) a.reads x (used reader a there).updaters i both in
            All-contains (λ other. IsLowerIfOther points other place) places reader lower
            (subst (λ ps. Contains ps reader) (sym these) (subst (λ n. IsListed users.updaters n reader) is listed)))
        | inr not_both ↦ (λ apart.
            let at_most = All-contains (λ (y : Access). IsFalse (updates a.writes y) → slice_index points reader ≤ slice_index users.bounds y.version) a.reads x (bound reader a there) i not_both in
            let same = ap (slice_index users.bounds) is in
            omega (arith, at_most, less, same))
      ]
    ]
