-- The order in which edges are listed (this project's own): by first transaction, second
-- transaction, kind (ww, wr, rw), key and first version. No edge is listed twice; edges that agree in
-- all of these are one.
use Rattle.std.specs.Prelude.{ℕ, List, [], ◌∷◌, fold}
use Rattle.std.specs.declared.cmp.Ordering.{Ordering}
use Rattle.std.specs.declared.cmp.Ordering.TheVariants.{Less, Equal, Greater}
use Rattle.std.specs.Ordering.{nat_cmp, ordering_then}
use Rattle.hist_types.specs.Atoms.{atom_cmp, value_cmp}
use Rattle.hist_types.specs.Transactions.{Version}
use Rattle.hist_types.specs.Edges.{Label, ww, wr, rw, process, realtime, Edge}

-- dependency edges in order: ww, wr, rw, then by key and first version
abbrev pub label_rank : Label → ℕ
label_rank (ww earlier later) = 0
label_rank (wr version) = 1
label_rank (rw earlier later) = 2
label_rank (process p) = 3
label_rank (realtime completion invocation) = 4

abbrev pub version_cmp : Version → Version → Ordering
version_cmp v w = ordering_then (atom_cmp v.key w.key) (value_cmp v.value w.value)

abbrev pub label_cmp : Label → Label → Ordering
label_cmp (ww earlier later) (ww earlier' later') = version_cmp earlier earlier'
label_cmp (wr version) (wr version') = version_cmp version version'
label_cmp (rw earlier later) (rw earlier' later') = version_cmp earlier earlier'
label_cmp a b = nat_cmp (label_rank a) (label_rank b)

-- by first transaction, second transaction and label
abbrev pub edge_cmp : Edge → Edge → Ordering
edge_cmp a b =
    ordering_then (nat_cmp a.from b.from)
    (ordering_then (nat_cmp a.to b.to) (label_cmp a.label b.label))

abbrev pub choose_ordering : {A : Type 0} → Ordering → A → A → A → A
choose_ordering Less less equal greater = less
choose_ordering Equal less equal greater = equal
choose_ordering Greater less equal greater = greater

-- an edge put into its place, unless it is there already
abbrev pub put_edge : List Edge → Edge → List Edge
put_edge [] e = e ∷ []
put_edge (f ∷ fs) e = choose_ordering (edge_cmp e f) (e ∷ f ∷ fs) (f ∷ fs) (f ∷ put_edge fs e)

-- each edge once, in order
abbrev pub in_order : List Edge → List Edge
in_order es = fold put_edge [] es
