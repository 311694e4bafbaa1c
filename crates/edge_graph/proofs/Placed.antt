-- The table of the transactions' places.
use Rattle.std.proofs.Common.{◌≡◌, ◌∙◌, ◌<◌, ◌≤◌, ◌+◌, ◌-◌, inl, inr, ℕ, zero, suc, List, [], ◌∷◌, ◌++◌, length, get_or, take, Some, ap, sym, subst, arith}
use Rattle.std.specs.Prelude.{slice_get, replicate}
use Rattle.std.proofs.lemmas.Bool.{cases_lt}
use Rattle.std.proofs.lemmas.List.{length-append, take_all, length-replicate, get_or_append_left}
use Rattle.std.proofs.lemmas.Option.{slice_get_within, slice_get-get_or, get_or_from_slice_get}
use Rattle.std.proofs.Math.Seq.{get_or-append_seam}
use Rattle.history_laws.specs.Times.{AreInvokedInOrder}
use Rattle.hist_types.specs.Transactions.{Transaction}
use Rattle.edge_graph.specs.Successors.{ArePlaces}

-- the first transactions have their places, at indexes below those of the invocations behind them
pub record ArePlacedFirst (ts : List Transaction) (firsts : ℕ) (places : List ℕ) : Type 0 where
  pub first : (place : ℕ) (t : Transaction) → place < firsts → slice_get ts place ≡ Some t → slice_get places t.invocation ≡ Some place
  pub below : (place : ℕ) (t : Transaction) → firsts ≤ place → slice_get ts place ≡ Some t → length places ≤ t.invocation

pub order_at :
    (ts : List Transaction) (i j : ℕ) (d : Transaction) → AreInvokedInOrder ts → i < j → j < length ts
    → (get_or ts i d).invocation < (get_or ts j d).invocation
order_at [] i j d order h k = absurd (omega (arith, k))
order_at (t ∷ ts) i zero d order h k = absurd (omega (arith, h))
order_at (t ∷ ts) zero (suc j) d order h k = order.0 j d (omega (arith, k))
order_at (t ∷ ts) (suc i) (suc j) d order h k = order_at ts i j d order.1 (omega (arith, h)) (omega (arith, k))

still_there : {X : Type 0} (xs more : List X) (i : ℕ) (x : X) → slice_get xs i ≡ Some x → slice_get (xs ++ more) i ≡ Some x
still_there xs more i x is =
    let h = slice_get_within xs i x is in
    slice_get-get_or (xs ++ more) i x (omega (arith, h, length-append xs more))
    ∙ ap Some (get_or_append_left xs more x i h ∙ get_or_from_slice_get xs i x x is)

last_there : {X : Type 0} (xs : List X) (x : X) (n : ℕ) → length xs ≡ n → slice_get (xs ++ x ∷ []) n ≡ Some x
last_there xs x n is =
    slice_get-get_or (xs ++ x ∷ []) n x (omega (arith, is, length-append xs (x ∷ [])))
    ∙ ap Some (ap (λ k. get_or (xs ++ x ∷ []) k x) (sym is) ∙ get_or-append_seam xs x [] x)

pub none_placed : (ts : List Transaction) → ArePlacedFirst ts 0 []
none_placed ts = record { first = λ place t h is. absurd (omega (arith, h)); below = λ place t h is. omega arith }

-- the next transaction's place, behind the fill before it
pub next_placed :
    (ts : List Transaction) (firsts n len : ℕ) (t : Transaction) (places filled : List ℕ)
    → AreInvokedInOrder ts
    → ArePlacedFirst ts firsts places
    → firsts < length ts
    → slice_get ts firsts ≡ Some t
    → n ≡ t.invocation
    → length places ≡ len
    → filled ≡ take n places ++ replicate (n - len) firsts
    → ArePlacedFirst ts (firsts + 1) (filled ++ firsts ∷ [])
next_placed ts firsts n len t places filled order are h at is long_so_far fill =
    let room : length places ≤ n = omega (arith, are.below firsts t (omega arith) at, is) in
    let whole : filled ≡ places ++ replicate (n - len) firsts =
    fill ∙ ap (λ xs. xs ++ replicate (n - len) firsts) (take_all n places room) in
    let long : length filled ≡ n =
    omega (arith, long_so_far, ap length whole, length-append places (replicate (n - len) firsts), length-replicate (n - len) firsts) in
    record {
      first =
          λ place u k there.
          elim (cases_lt place firsts) [
            | inl low ↦
                still_there filled (firsts ∷ []) u.invocation place
                (subst (λ xs. slice_get xs u.invocation ≡ Some place) (sym whole)
                (still_there places (replicate (n - len) firsts) u.invocation place (are.first place u low there)))
            | inr high ↦
                let same : place ≡ firsts = omega (arith, k, high) in
                let one : u ≡ t = cc (sym there ∙ ap (slice_get ts) same ∙ at) in
                ap (slice_get (filled ++ firsts ∷ [])) (ap (λ (v : Transaction). v.invocation) one ∙ sym is)
                ∙ last_there filled firsts n long ∙ ap Some (sym same)
          ];
      below =
          λ place u k there.
          let within = slice_get_within ts place u there in
          let later : (get_or ts firsts t).invocation < (get_or ts place t).invocation = order_at ts firsts place t order (omega (arith, k)) within in
          let first = ap (λ (v : Transaction). v.invocation) (get_or_from_slice_get ts firsts t t at) in
          let second = ap (λ (v : Transaction). v.invocation) (get_or_from_slice_get ts place u t there) in
          omega (arith, later, first, second, long, is, length-append filled (firsts ∷ []));
    }

pub all_placed : (ts : List Transaction) (firsts : ℕ) (places : List ℕ) → ArePlacedFirst ts firsts places → length ts ≤ firsts → ArePlaces ts places
all_placed ts firsts places are h place t there = are.first place t (omega (arith, h, slice_get_within ts place t there)) there
