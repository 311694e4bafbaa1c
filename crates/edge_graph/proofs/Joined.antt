-- Arcs of dependencies and of the order, side by side.
use Rattle.std.proofs.Common.{◌≡◌, ◌∙◌, ◌<◌, ◌+◌, ◌-◌, ℕ, All, zero, suc, List, [], ◌∷◌, ◌++◌, length, get_or, refl, ap, sym, subst, arith}
use Rattle.std.proofs.lemmas.List.{append-nil, length-append, get_or_append_left, get_or-append_right, get_or_default}
use Rattle.graph_search.specs.Graphs.{Leaving}
use Rattle.edge_graph.specs.FlatRows.{Row, row_at, led_to}
use Rattle.edge_graph.specs.Made.{joined, AreWithin}
use Rattle.edge_graph.specs.Successors.{list_at}
use Rattle.edge_graph.specs.declared.types.Dependencies.{Dependencies}

pub length-joined : (d : Dependencies) (rows : List Row) (lists : List (List ℕ)) → length (joined d rows lists) ≡ length rows
length-joined d [] lists = refl
length-joined d (row ∷ rows) [] = ap suc (length-joined d rows [])
length-joined d (row ∷ rows) (list ∷ lists) = ap suc (length-joined d rows lists)

pub joined_at :
    (d : Dependencies) (rows : List Row) (lists : List (List ℕ)) (v : ℕ)
    → v < length rows
    → list_at (joined d rows lists) v ≡ led_to d (row_at rows v) ++ list_at lists v
joined_at d [] lists v h = absurd (omega arith)
joined_at d (row ∷ rows) [] zero h = sym (append-nil (led_to d row))
joined_at d (row ∷ rows) [] (suc v) h = joined_at d rows [] v (omega arith)
joined_at d (row ∷ rows) (list ∷ lists) zero h = refl
joined_at d (row ∷ rows) (list ∷ lists) (suc v) h = joined_at d rows lists v (omega arith)

abbrev pub leaving : ℕ → List ℕ → Leaving
leaving count to = record { count = count; to = to }

pub in_rows :
    (d : Dependencies) (rows : List Row) (lists all : List (List ℕ)) (v : ℕ)
    → joined d rows lists ≡ all
    → v < length all
    → v < length rows
in_rows d rows lists all v is h = omega (arith, ap length is, length-joined d rows lists)

-- the row and the list of one vertex
module _ (d : Dependencies) (rows : List Row) (lists all : List (List ℕ)) (is : joined d rows lists ≡ all) (v : ℕ) (within : v < length all) (row list : List ℕ) (row_is : row ≡ led_to d (row_at rows v)) (list_is : list ≡ list_at lists v) where
  whole : list_at all v ≡ row ++ list
  whole =
      sym (ap (λ xs. list_at xs v) is) ∙ joined_at d rows lists v (in_rows d rows lists all v is within)
      ∙ ap (λ xs. xs ++ list_at lists v) (sym row_is) ∙ ap (λ xs. row ++ xs) (sym list_is)

  counts : length all ≡ length rows
  counts = sym (ap length is) ∙ length-joined d rows lists

  below : AreWithin (joined d rows lists) → (i : ℕ) → i < length row + length list → get_or (row ++ list) i 0 < length rows
  below inside i h =
      let there : i < length (list_at all v) = omega (arith, h, ap length whole, length-append row list) in
      subst (λ xs. get_or xs i 0 < length rows) whole (omega (arith, subst AreWithin is inside v [] within i 0 there, counts))

  pub first_within : AreWithin (joined d rows lists) → All (λ w. w < length rows) row
  first_within inside i e h =
      subst (λ w. w < length rows) (get_or_append_left row list 0 i h ∙ get_or_default row i 0 e h) (below inside i (omega (arith, h)))

  pub second_within : AreWithin (joined d rows lists) → All (λ w. w < length rows) list
  second_within inside i e h =
      let back : length row + i - length row ≡ i = omega arith in
      subst (λ w. w < length rows)
      (get_or-append_right row list (length row) (length row + i) 0 refl (omega arith) ∙ ap (λ k. get_or list k 0) back ∙ get_or_default list i 0 e h)
      (below inside (length row + i) (omega (arith, h)))

  pub both : leaving (length rows) (row ++ list) ≡ leaving (length all) (list_at all v)
  both = ap (λ n. leaving n (row ++ list)) (sym counts) ∙ ap (leaving (length all)) (sym whole)
