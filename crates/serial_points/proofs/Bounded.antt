-- Bounds of points that change.
use Rattle.std.proofs.Common.{◌≡◌, inl, inr, ℕ, zero, suc, ◌≤◌, List, [], ◌∷◌, ◌++◌, slice_index, arith, refl}
use Rattle.std.proofs.lemmas.List.Elements.{All-weaker}
use Rattle.serial_points.specs.Bounds.{AreHigher, AreAtMost, AreBounds, AreAtLeast, AreFloors, FloorsWrites}
use Rattle.key_versions.specs.declared.pending.Access.{Access}
use Rattle.serial_points.specs.Users.{places_at}

pub push_zero : (bounds : List ℕ) (n : ℕ) → slice_index (bounds ++ 0 ∷ []) n ≡ slice_index bounds n
push_zero [] zero = refl
push_zero [] (suc n) = refl
push_zero (b ∷ bounds) zero = refl
push_zero (b ∷ bounds) (suc n) = push_zero bounds n

pub at_most_more : (points places : List ℕ) (low high : ℕ) → low ≤ high → AreAtMost points places low → AreAtMost points places high
at_most_more points places low high less =
    All-weaker (λ place. slice_index points place ≤ low) (λ place. slice_index points place ≤ high) (λ place at_most. omega (arith, at_most, less)) places

pub higher_again : (first second third : List ℕ) → AreHigher first second → AreHigher second third → AreHigher first third
higher_again first second third one two n = let a = one n in let b = two n in omega (arith, a, b)

pub bounds_again :
    (points : List ℕ) (readers : List (List ℕ)) (first second third : List ℕ)
    → AreBounds points readers first second
    → AreBounds points readers second third
    → AreBounds points readers first third
bounds_again points readers first second third one two n = elim (two n) [
  | inr at_most ↦ inr at_most
  | inl less ↦ elim (one n) [
    | inl lower ↦ inl (omega (arith, less, lower))
    | inr at_most ↦ inr (at_most_more points (places_at readers n) (slice_index second n) (slice_index third n) less at_most)
  ]
]

-- ---- floors

pub at_least_more : (points places : List ℕ) (low high : ℕ) → low ≤ high → AreAtLeast points places high → AreAtLeast points places low
at_least_more points places low high less =
    All-weaker (λ place. high ≤ slice_index points place) (λ place. low ≤ slice_index points place) (λ place at_least. omega (arith, at_least, less)) places

pub floors_again :
    (points : List ℕ) (key_writers : List (List ℕ)) (first second third : List ℕ)
    → AreFloors points key_writers first second
    → AreFloors points key_writers second third
    → AreFloors points key_writers first third
floors_again points key_writers first second third one two n = elim (two n) [
  | inr at_least ↦ inr at_least
  | inl less ↦ elim (one n) [
    | inl lower ↦ inl (omega (arith, less, lower))
    | inr at_least ↦ inr (at_least_more points (places_at key_writers n) (slice_index third n) (slice_index second n) less at_least)
  ]
]

pub floors_lower : (floors later : List ℕ) (point : ℕ) (writes : List Access) → AreHigher later floors → FloorsWrites floors point writes → FloorsWrites later point writes
floors_lower floors later point writes lower =
    All-weaker (λ (a : Access). slice_index floors a.nil ≤ point) (λ (a : Access). slice_index later a.nil ≤ point) (λ a floored. let less = lower a.nil in omega (arith, floored, less)) writes
