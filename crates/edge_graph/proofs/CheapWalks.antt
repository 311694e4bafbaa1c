-- The edges of a walk over arcs are no more dependencies than the walk costs, vertex by vertex.
use Rattle.std.proofs.Common.{◌≡◌, ◌∙◌, ◌<◌, ◌≤◌, ◌+◌, ◌-◌, inl, inr, ℕ, zero, suc, List, [], ◌∷◌, ◌++◌, length, drop, Bool, true, false, not, sym, ap, subst, arith}
use Rattle.std.specs.Prelude.{slice_index}
use Rattle.std.proofs.Math.Seq.{drop-cons}
use Rattle.std.proofs.lemmas.Bool.{false≢true, cases_lt}
use Rattle.std.proofs.lemmas.Option.{slice_get_within}
use Rattle.graph_search.specs.Costs.{LeadsWithin}
use Rattle.hist_types.specs.Edges.{Edge}
use Rattle.hist_types.specs.Phenomena.{is_order}
use Rattle.hist_types.specs.declared.types.Level.{Level}
use Rattle.history_laws.proofs.ThinningWalks.{one_if, count-cons, count-append}
use Rattle.dep_edges.specs.Tables.{IsPlace}
use Rattle.edge_graph.specs.Costs.{IsFreeArc, IsPaidArc}
use Rattle.edge_graph.specs.Kinds.{kinds_of}
use Rattle.edge_graph.specs.Parts.{Parts}
use Rattle.edge_graph.specs.Vertices.{txn, version, IsArc}
use Rattle.hist_types.specs.Witness.{dependencies_in}
use Rattle.edge_graph.specs.declared.types.Dependencies.{Dependencies}
use Rattle.edge_graph.specs.declared.types.Dependencies.TheVariants.{None}
use Rattle.edge_graph.specs.declared.types.Kinds.{Kinds}
use Rattle.edge_graph.proofs.EdgeArcs.{is_dependency, no_place}
use Rattle.edge_graph.proofs.WalkEdges.{IsReached}

one_at_most : (b : Bool) → one_if b ≤ 1
one_at_most true = omega arith
one_at_most false = omega arith

module _ (g : Parts) (d : Dependencies) (level : Level) where
  abbrev Free : ℕ → ℕ → Type 0
  Free = IsFreeArc g d level

  abbrev Paid : ℕ → ℕ → Type 0
  Paid = IsPaidArc g d

  abbrev kinds : Kinds
  kinds = kinds_of d level

  -- no free arc leads to a version
  no_free : (v w : ℕ) → (IsPlace g.txns w → ⊥) → Free v w → ⊥
  no_free v w none (inl (txn t, version x, at, at', (allowed, read))) = false≢true allowed
  no_free v w none (inl (x, txn u, at, at', leads)) = none (slice_get_within g.txns w u at')
  no_free v w none (inl (version x, version y, at, at', leads)) = leads
  no_free v w none (inr (out, (txn t, y, at, at', leads))) = out (slice_get_within g.txns v t at)
  no_free v w none (inr (out, (version x, version y, at, at', leads))) = leads
  no_free v w none (inr (out, (version x, txn u, at, at', leads))) = none (slice_get_within g.txns w u at')

  -- so many dependencies so far, and what is left suffices from here on; at a version one more is already paid for
  pub record IsAffordable (most to vertex : ℕ) (rest : List ℕ) (count : ℕ) : Type 0 where
    pub left : ℕ
    pub within : count + left ≤ most
    pub owed : (IsPlace g.txns vertex → ⊥) → count + left < most
    pub leads : LeadsWithin Free Paid left vertex rest to

  -- one arc further, with no more edges
  no_edge : (most to vertex next : ℕ) (rest : List ℕ) (count : ℕ) → IsAffordable most to vertex (next ∷ rest) count → IsAffordable most to next rest count
  no_edge most to vertex next rest count is =
      elim is.leads [
        | inl (free, leads) ↦ record { left = is.left; within = is.within; owed = λ out. absurd (no_free vertex next out free); leads = leads }
        | inr (fewer, same, paid, leads) ↦
            record { left = fewer; within = omega (arith, is.within, same); owed = λ out. omega (arith, is.within, same); leads = leads }
      ]

  -- with one more edge, to a transaction
  one_edge :
      (most to vertex next : ℕ) (rest : List ℕ) (count more : ℕ) → IsPlace g.txns next → more ≤ count + 1
      → (IsPlace g.txns vertex → IsArc g (kinds_of None level) vertex next → more ≡ count)
      → IsAffordable most to vertex (next ∷ rest) count
      → IsAffordable most to next rest more
  one_edge most to vertex next rest count more place one by_order is =
      elim is.leads [
        | inl (free, leads) ↦ record { left = is.left; within = within free; owed = λ out. absurd (out place); leads = leads }
        | inr (fewer, same, paid, leads) ↦
            record { left = fewer; within = omega (arith, is.within, same, one); owed = λ out. absurd (out place); leads = leads }
      ]
    where
      within : Free vertex next → more + is.left ≤ most
      within free = elim (cases_lt vertex (length g.txns)) [
        | inl here ↦ elim free [
          | inl arc ↦ omega (arith, by_order here arc, is.within)
          | inr (out, arc) ↦ absurd (out here)
        ]
        | inr high ↦ (
            let owed : count + is.left < most = is.owed (λ here. omega (arith, here, high)) in
            omega (arith, owed, one))
      ]

  -- so many dependencies are affordable up to this vertex of the walk, whatever the walk may cost
  abbrev pub IsCheapTo : (walk : List ℕ) → (index count : ℕ) → Type 0
  IsCheapTo walk index count =
      (most first to : ℕ) (rest : List ℕ)
      → walk ≡ first ∷ rest
      → LeadsWithin Free Paid most first rest to
      → IsAffordable most to (slice_index walk index) (drop index rest) count

  pub cheap_start : (walk : List ℕ) → IsPlace g.txns (slice_index walk 0) → IsCheapTo walk 0 0
  cheap_start walk place most first to rest is leads =
      let at : first ≡ slice_index walk 0 = sym (ap (λ xs. slice_index xs 0) is) in
      record { left = most; within = omega arith; owed = λ out. absurd (out place); leads = subst (λ v. LeadsWithin Free Paid most v rest to) at leads }

  next_one : (walk : List ℕ) (j first : ℕ) (rest : List ℕ) → walk ≡ first ∷ rest → suc j < length walk → drop j rest ≡ slice_index walk (suc j) ∷ drop (suc j) rest
  next_one walk j first rest is h =
      let within : j < length rest = omega (arith, h, ap length is) in
      drop-cons rest j 0 within ∙ ap (λ v. v ∷ drop (suc j) rest) (sym (ap (λ xs. slice_index xs (suc j)) is))

  pub still_cheap : (walk : List ℕ) (i count : ℕ) → i < length walk → IsCheapTo walk (i - 1) count → IsCheapTo walk i count
  still_cheap walk zero count h cheap = cheap
  still_cheap walk (suc j) count h cheap = λ most first to rest is leads.
      let at : suc j - 1 ≡ j = omega arith in
      let here = subst (λ k. IsCheapTo walk k count) at cheap most first to rest is leads in
      no_edge most to (slice_index walk j) (slice_index walk (suc j)) (drop (suc j) rest) count
      (subst (λ xs. IsAffordable most to (slice_index walk j) xs count) (next_one walk j first rest is h) here)

  pub cheap_on :
      (walk : List ℕ) (i from count more : ℕ) → i < length walk → IsPlace g.txns (slice_index walk i) → (slice_index walk i ≡ from → ⊥)
      → IsReached g kinds from (slice_index walk (i - 1)) → more ≤ count + 1
      → (IsPlace g.txns from → IsArc g (kinds_of None level) from (slice_index walk i) → more ≡ count)
      → IsCheapTo walk (i - 1) count → IsCheapTo walk i more
  cheap_on walk zero from count more h place other reached one by_order cheap = absurd (elim reached [
    | inl same ↦ other same
    | inr (v, at, allowed, read) ↦ no_place g (slice_index walk 0) v at place
  ])
  cheap_on walk (suc j) from count more h place other reached one by_order cheap = λ most first to rest is leads.
      let at : suc j - 1 ≡ j = omega arith in
      let here = subst (λ k. IsCheapTo walk k count) at cheap most first to rest is leads in
      let reached' = subst (λ k. IsReached g kinds from (slice_index walk k)) at reached in
      one_edge most to (slice_index walk j) (slice_index walk (suc j)) (drop (suc j) rest) count more place one
      (λ k arc. elim reached' [
        | inl same ↦ by_order (subst (IsPlace g.txns) same k) (subst (λ v. IsArc g (kinds_of None level) v (slice_index walk (suc j))) same arc)
        | inr (v, at', allowed, read) ↦ absurd (no_place g (slice_index walk j) v at' k)
      ])
      (subst (λ xs. IsAffordable most to (slice_index walk j) xs count) (next_one walk j first rest is h) here)

-- ---- counts

pub one_more : (es : List Edge) (e : Edge) → dependencies_in (es ++ e ∷ []) ≡ dependencies_in es + one_if (is_dependency e)
one_more es e = omega (arith, count-append is_dependency es (e ∷ []), count-cons is_dependency e [])

pub one_more_at_most : (es : List Edge) (e : Edge) → dependencies_in (es ++ e ∷ []) ≤ dependencies_in es + 1
one_more_at_most es e = omega (arith, one_more es e, one_at_most (is_dependency e))

pub no_more : (es : List Edge) (e : Edge) → is_order e ≡ true → dependencies_in (es ++ e ∷ []) ≡ dependencies_in es
no_more es e is = let none : one_if (is_dependency e) ≡ 0 = ap (λ b. one_if (not b)) is in omega (arith, one_more es e, none)
