-- Numbers that bound cheap walks, round by round.
use Rattle.std.proofs.Common.{◌≡◌, ℕ, ◌+◌, ◌<◌, ◌≤◌, List, [], ◌∷◌, length, get_or, suc, subst, sym, ap, refl, ◌∙◌, inl, inr, arith, IsTrue, Bool, true, false, ◌++◌, take, drop, append-nil}
use Rattle.std.proofs.lemmas.Bool.{le-leb}
use Rattle.std.proofs.Math.ListN.{drop_of_length-le}
use Rattle.std.proofs.Math.Seq.{take-length}
use Rattle.std.specs.Bool.{OnTrue, OnFalse}
use Rattle.graph_search.specs.Costs.{BoundsWalks, LeadsWithin, NoneAbove, not_above}
use Rattle.graph_search.specs.Graphs.{VertexSet}
use Rattle.graph_search.proofs.Costs.{more}

pub bounds_free : (Free Paid : ℕ → ℕ → Type 0) (places : ℕ) (numbers : List ℕ) → ((v : ℕ) → v < places → get_or numbers v 0 ≤ v)
    → ((v w : ℕ) → Free v w → get_or numbers v 0 ≤ get_or numbers w 0) → BoundsWalks Free Paid places 0 numbers
bounds_free Free Paid places numbers own free from to h [] is = subst (λ v. get_or numbers v 0 ≤ to) (sym is) (own to h)
bounds_free Free Paid places numbers own free from to h (v ∷ rest) is =
    elim is [
      | inl arc ↦
          let on : get_or numbers v 0 ≤ to = bounds_free Free Paid places numbers own free v to h rest arc.1 in
          omega (arith, free from v arc.0, on)
      | inr arc ↦
          let one : 0 ≡ suc arc.0 = arc.1 in
          absurd (omega (arith, one))
    ]

pub bounds_more : (Free Paid : ℕ → ℕ → Type 0) (places most : ℕ) (last numbers : List ℕ) → NoneAbove numbers last
    → ((v w : ℕ) → Free v w → get_or numbers v 0 ≤ get_or numbers w 0) → ((v w : ℕ) → Paid v w → get_or numbers v 0 ≤ get_or last w 0)
    → BoundsWalks Free Paid places most last → BoundsWalks Free Paid places (most + 1) numbers
bounds_more Free Paid places most last numbers lower free paid bound from to h [] is =
    let before : get_or last from 0 ≤ to = bound from to h [] is in
    omega (arith, lower from, before)
bounds_more Free Paid places most last numbers lower free paid bound from to h (v ∷ rest) is =
    elim is [
      | inl arc ↦
          let on : get_or numbers v 0 ≤ to = bounds_more Free Paid places most last numbers lower free paid bound v to h rest arc.1 in
          omega (arith, free from v arc.0, on)
      | inr arc ↦
          let one : most + 1 ≡ suc arc.0 = arc.1 in
          let same : arc.0 ≡ most = omega (arith, one) in
          let on : get_or last v 0 ≤ to = bound v to h rest (subst (λ n. LeadsWithin Free Paid n v rest to) same arc.3) in
          omega (arith, paid from v arc.2, on)
    ]

-- zeros bound all walks
pub bounds_checked : (Free Paid : ℕ → ℕ → Type 0) (places most : ℕ) (numbers result : List ℕ) (checked : Bool) → OnTrue checked (result ≡ numbers)
    → OnFalse checked ((v : ℕ) → get_or result v 0 ≡ 0) → (checked ≡ true → BoundsWalks Free Paid places most numbers) → BoundsWalks Free Paid places most result
bounds_checked Free Paid places most numbers result true same zeros bound = subst (λ ns. BoundsWalks Free Paid places most ns) (sym same) (bound refl)
bounds_checked Free Paid places most numbers result false same zeros bound = λ from to h rest is. omega (arith, zeros from)

-- a list that is written over as a whole
pub refilled : (n : ℕ) (xs ws : List ℕ) → length xs ≡ n → length ws ≡ n → take n (ws ++ drop (length ws) xs) ≡ ws
refilled n xs ws size size' =
    let none : drop (length ws) xs ≡ [] = drop_of_length-le xs (omega (arith, size, size')) in
    ap (λ rest. take n (ws ++ rest)) none ∙ ap (take n) (append-nil ws) ∙ ap (λ m. take m ws) (sym size') ∙ take-length ws

-- a cheap walk stays where numbers are not above a limit

pub bounded : (Free Paid : ℕ → ℕ → Type 0) (places most cost top from to : ℕ) (numbers rest : List ℕ) → BoundsWalks Free Paid places most numbers → to < places → to ≤ top
    → cost ≤ most → LeadsWithin Free Paid cost from rest to → get_or numbers from 0 ≤ top
bounded Free Paid places most cost top from to numbers rest bound h below cheap is =
    let number : get_or numbers from 0 ≤ to = bound from to h rest (more Free Paid cost most from to rest cheap is) in
    omega (arith, number, below)

abbrev pub Into : (set : VertexSet) → (ℕ → ℕ → Type 0) → ℕ → ℕ → Type 0
Into set Leads v w = Leads v w × IsTrue (set.has w)

pub stays_below : (Free Paid : ℕ → ℕ → Type 0) (places most cost top from to : ℕ) (numbers rest : List ℕ) → BoundsWalks Free Paid places most numbers → to < places → to ≤ top
    → cost ≤ most → LeadsWithin Free Paid cost from rest to
    → LeadsWithin (Into (not_above numbers top) Free) (Into (not_above numbers top) Paid) cost from rest to
stays_below Free Paid places most cost top from to numbers [] bound h below cheap is = is
stays_below Free Paid places most cost top from to numbers (v ∷ rest) bound h below cheap is =
    elim is [
      | inl arc ↦
          inl (
            (arc.0, le-leb (get_or numbers v 0) top (bounded Free Paid places most cost top v to numbers rest bound h below cheap arc.1)),
            stays_below Free Paid places most cost top v to numbers rest bound h below cheap arc.1,
          )
      | inr arc ↦
          let one : cost ≡ suc arc.0 = arc.1 in
          let cheaper : arc.0 ≤ most = omega (arith, one, cheap) in
          inr (
            arc.0,
            one,
            (arc.2, le-leb (get_or numbers v 0) top (bounded Free Paid places most arc.0 top v to numbers rest bound h below cheaper arc.3)),
            stays_below Free Paid places most arc.0 top v to numbers rest bound h below cheaper arc.3,
          )
    ]
