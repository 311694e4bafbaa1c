-- Each key is in the piece of one of the workers.
use Rattle.std.proofs.Common.{◌≡◌, ◌<◌, ◌≤◌, ◌+◌, ◌/◌, ◌∙◌, ℕ, zero, suc, List, [], ◌∷◌, length, map, get_or, Some, Ok, Result, slice_get, refl, sym, ap, subst, arith, inl, inr}
use Rattle.std.specs.declared.alloc.AllocError.{AllocError}
use Rattle.std.proofs.Math.Nat.{mul-div_cancel_left, zero-div}
use Rattle.std.proofs.lemmas.Bool.{cases_lt}
use Rattle.std.proofs.lemmas.List.{length-map}
use Rattle.std.proofs.lemmas.Option.{slice_get-get_or, slice_get-map, slice_get_within, get_or_from_slice_get}
use Rattle.std.specs.Prelude.{option_map, IfOk}
use Rattle.hist_types.proofs.Members.{Contains_from_in}
use Rattle.dep_edges.specs.Pieces.{Piece, IsOf, ArePiecesOf}
use Rattle.dep_edges.proofs.Lists.{all_in}
use Rattle.dep_edges.proofs.Marks.{place_in}
use Rattle.dep_edges.proofs.Writers.{in_at}
use Rattle.key_versions.specs.declared.table.KeyNumbers.{KeyNumbers}
use Rattle.verdict.specs.KeyPieces.{IsNumberOfWorkers, AreOfOneHistory, IsFoundBy, EachFinds, first_key}
use Rattle.verdict.specs.Tables.{history_of}
use Rattle.verdict.specs.declared.tables.Tables.{Tables}

-- what lies between the first of some numbers and the last one lies between one of them and the next one
between : (s : ℕ → ℕ) (n key : ℕ) → s 0 ≤ key → key < s n → (i : ℕ) × (i < n) × (s i ≤ key) × (key < s (i + 1))
between s zero key from to = absurd (omega (arith, from, to))
between s (suc n) key from to =
    let next : suc n ≡ n + 1 = omega arith in
    elim (cases_lt key (s n)) [
      | inl less ↦ (let (i, below, lo, hi) = between s n key from less in (i, omega (arith, below), lo, hi))
      | inr over ↦ (n, omega arith, over, subst (λ m. key < s m) next to)
    ]

module _ (tables : Tables) (keys : KeyNumbers) (workers : ℕ) (found : List (Result Piece AllocError)) (pieces : List Piece) (few : IsNumberOfWorkers workers) (history : AreOfOneHistory tables keys) (count : length found ≡ workers) (each : EachFinds (IsFoundBy tables keys workers) workers found) (all : map Ok pieces ≡ found) where
  found_at : (worker : ℕ) (piece : Piece) → slice_get pieces worker ≡ Some piece → IsFoundBy tables keys workers worker piece
  found_at worker piece at =
      let there : slice_get found worker ≡ Some (Ok piece) = sym (ap (λ fs. slice_get fs worker) all) ∙ slice_get-map Ok pieces worker ∙ ap (option_map Ok) at in
      let below : worker < workers = subst (λ n. worker < n) count (slice_get_within found worker (Ok piece) there) in
      subst (λ f. IfOk f (IsFoundBy tables keys workers worker)) (get_or_from_slice_get found worker (Ok piece) (Ok piece) there) (each worker (Ok piece) below)

  worker_of : (key : ℕ) → key < keys.count → (i : ℕ) × (i < workers) × (first_key keys.count workers i ≤ key) × (key < first_key keys.count workers (i + 1))
  worker_of key below =
      let some : zero < workers = omega (arith, few.0) in
      let first : first_key keys.count workers 0 ≡ 0 = ap (λ n. n / workers) (omega arith) ∙ zero-div workers in
      let last : first_key keys.count workers workers ≡ keys.count = mul-div_cancel_left keys.count some in
      between (first_key keys.count workers) workers key (omega (arith, first)) (omega (arith, last, below))

  pub all_keys : ArePiecesOf (history_of tables) pieces
  all_keys =
      let h = history_of tables in
      let numbers : List ℕ = keys.of_versions.items in
      record {
        of = all_in (IsOf h) pieces
            (λ piece i place there.
            let (worker, at) = place_in pieces piece i in
            let (n, (key, is, from, to), by) = (found_at worker piece at).by place there in
            (n, subst (λ m. n < m) history.numbers.each (slice_get_within numbers n key is), by));
        seen = λ n within.
            let there : n < length numbers = subst (λ m. n < m) (sym history.numbers.each) within in
            let key : ℕ = get_or numbers n 0 in
            let (worker, below, from, to) = worker_of key (history.numbers.below n 0 there) in
            let as_many : length pieces ≡ workers = sym (length-map pieces Ok) ∙ ap length all ∙ count in
            let (piece, at) = item_at pieces worker (subst (λ m. worker < m) (sym as_many) below) in (
              piece,
              Contains_from_in piece pieces (in_at pieces worker piece at),
              (found_at worker piece at).seen n (key, slice_get-get_or numbers n 0 there, from, to),
            );
      }
    where
      item_at : (ps : List Piece) (k : ℕ) → k < length ps → (p : Piece) × (slice_get ps k ≡ Some p)
      item_at (p ∷ ps) zero below = (p, refl)
      item_at (p ∷ ps) (suc k) below = item_at ps k (omega (arith, below))
      item_at [] k below = let none : ⊥ = omega (arith, below) in elim none [ ]
