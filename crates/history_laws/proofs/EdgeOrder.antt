-- The order of edges is total, so putting one edge after the other into its place leaves each once and in order.
use Rattle.std.proofs.Common.{◌≡◌, ◌⊎◌, inl, inr, pos, List, [], ◌∷◌, None, fold, Contains, refl, ◌∙◌, ap, subst}
use Rattle.std.specs.Bool.{⊤}
use Rattle.std.specs.Cmp.{IsTotalOrder}
use Rattle.std.specs.List.{AllByRecursion}
use Rattle.std.specs.Ordering.{nat_cmp, on, then_cmp, ordering_reverse}
use Rattle.std.specs.declared.cmp.Ordering.{Ordering}
use Rattle.std.specs.declared.cmp.Ordering.TheVariants.{Less, Equal, Greater}
use Rattle.std.proofs.lemmas.Cmp.{nat_cmp_total, on_total, then_total, tied_itself}
use Rattle.std.proofs.lemmas.List.Elements.{All-from_recursion}
use Rattle.hist_types.specs.Atoms.{Atom, integer, Value, atom_cmp, value_cmp}
use Rattle.hist_types.specs.Edges.{Label, ww, wr, rw, process, realtime, Edge}
use Rattle.hist_types.specs.EdgeOrder.{label_rank, label_cmp, edge_cmp, choose_ordering, put_edge, in_order}
use Rattle.history_laws.specs.EdgesInOrder.{Rise, HasOneAtItsPlace}
use Rattle.hist_types.proofs.AtomOrder.{atom_cmp_total, value_cmp_total}
use Rattle.hist_types.proofs.Members.{In, in_from_Contains, Contains_from_in}

-- ---- labels and edges in order, part by part

abbrev key_in : Label → Atom
key_in (ww earlier later) = earlier.key
key_in (wr version) = version.key
key_in (rw earlier later) = earlier.key
key_in label = integer (pos 0)

abbrev value_in : Label → Value
value_in (ww earlier later) = earlier.value
value_in (wr version) = version.value
value_in (rw earlier later) = earlier.value
value_in label = None

abbrev label_parts_cmp : Label → Label → Ordering
label_parts_cmp = then_cmp (on label_rank nat_cmp) (then_cmp (on key_in atom_cmp) (on value_in value_cmp))

label_by_parts : (a b : Label) → label_parts_cmp a b ≡ label_cmp a b
label_by_parts (ww v w) (ww x y) = refl
label_by_parts (wr v) (wr x) = refl
label_by_parts (rw v w) (rw x y) = refl
label_by_parts (process p) (process q) = refl
label_by_parts (realtime c d) (realtime e f) = refl
label_by_parts a b = refl

pub label_cmp_total : IsTotalOrder label_cmp
label_cmp_total =
    subst IsTotalOrder (λ i a b. label_by_parts a b i)
    (then_total (on_total label_rank nat_cmp_total) (then_total (on_total key_in atom_cmp_total) (on_total value_in value_cmp_total)))

pub edge_cmp_total : IsTotalOrder edge_cmp
edge_cmp_total =
    then_total (on_total (λ (e : Edge). e.from) nat_cmp_total)
    (then_total (on_total (λ (e : Edge). e.to) nat_cmp_total) (on_total (λ (e : Edge). e.label) label_cmp_total))

-- ---- an edge put into its place

abbrev IsBefore : Edge → Edge → Type 0
IsBefore e f = edge_cmp e f ≡ Less

-- each before all behind it, by recursion
abbrev Rises : List Edge → Type 0
Rises [] = ⊤
Rises (e ∷ es) = AllByRecursion (IsBefore e) es × Rises es

before_all : (e f : Edge) (fs : List Edge) → IsBefore e f → AllByRecursion (IsBefore f) fs → AllByRecursion (IsBefore e) fs
before_all e f [] p all = tt
before_all e f (g ∷ gs) p all = (edge_cmp_total.trans e f g p all.0, before_all e f gs p all.1)

all_put_by :
    (P : Edge → Type 0) (o : Ordering) (f : Edge) (fs : List Edge) (e : Edge)
    → AllByRecursion P (f ∷ fs)
    → P e
    → AllByRecursion P (put_edge fs e)
    → AllByRecursion P (choose_ordering o (e ∷ f ∷ fs) (f ∷ fs) (f ∷ put_edge fs e))
all_put_by P Less f fs e all here further = (here, all)
all_put_by P Equal f fs e all here further = all
all_put_by P Greater f fs e all here further = (all.0, further)

all_put : (P : Edge → Type 0) (es : List Edge) (e : Edge) → AllByRecursion P es → P e → AllByRecursion P (put_edge es e)
all_put P [] e all here = (here, tt)
all_put P (f ∷ fs) e all here = all_put_by P (edge_cmp e f) f fs e all here (all_put P fs e all.1 here)

rises_put_by :
    (o : Ordering) (f : Edge) (fs : List Edge) (e : Edge)
    → edge_cmp e f ≡ o
    → Rises (f ∷ fs)
    → Rises (put_edge fs e)
    → Rises (choose_ordering o (e ∷ f ∷ fs) (f ∷ fs) (f ∷ put_edge fs e))
rises_put_by Less f fs e p rises further = ((p, before_all e f fs p rises.0), rises)
rises_put_by Equal f fs e p rises further = rises
rises_put_by Greater f fs e p rises further =
    (all_put (IsBefore f) fs e rises.0 (edge_cmp_total.antisymm f e ∙ ap ordering_reverse p), further)

rises_put : (es : List Edge) (e : Edge) → Rises es → Rises (put_edge es e)
rises_put [] e rises = (tt, tt)
rises_put (f ∷ fs) e rises = rises_put_by (edge_cmp e f) f fs e refl rises (rises_put fs e rises.1)

all_rise : (placed es : List Edge) → Rises placed → Rises (fold put_edge placed es)
all_rise placed [] rises = rises
all_rise placed (e ∷ es) rises = all_rise (put_edge placed e) es (rises_put placed e rises)

rise : (es : List Edge) → Rises es → Rise es
rise [] rises = tt
rise (e ∷ es) rises = (All-from_recursion (IsBefore e) es rises.0, rise es rises.1)

pub in_order-rise : (es : List Edge) → Rise (in_order es)
in_order-rise es = rise (in_order es) (all_rise [] es tt)

-- ---- nothing comes in but the edges

in_put_by :
    (o : Ordering) (d f : Edge) (fs : List Edge) (e : Edge)
    → In d (choose_ordering o (e ∷ f ∷ fs) (f ∷ fs) (f ∷ put_edge fs e))
    → (In d (put_edge fs e) → (e ≡ d) ⊎ In d fs)
    → (e ≡ d) ⊎ In d (f ∷ fs)
in_put_by Less d f fs e i further = i
in_put_by Equal d f fs e i further = inr i
in_put_by Greater d f fs e (inl here) further = inr (inl here)
in_put_by Greater d f fs e (inr i) further = elim (further i) [ inl here ↦ inl here | inr j ↦ inr (inr j) ]

in_put : (d : Edge) (es : List Edge) (e : Edge) → In d (put_edge es e) → (e ≡ d) ⊎ In d es
in_put d [] e i = i
in_put d (f ∷ fs) e i = in_put_by (edge_cmp e f) d f fs e i (in_put d fs e)

among : (d : Edge) (placed es : List Edge) → In d (fold put_edge placed es) → In d placed ⊎ In d es
among d placed [] i = inl i
among d placed (e ∷ es) i = elim (among d (put_edge placed e) es i) [
  | inl j ↦ elim (in_put d placed e j) [ inl here ↦ inr (inl here) | inr k ↦ inl k ]
  | inr j ↦ inr (inr j)
]

only_these : (d : Edge) (es : List Edge) → In d [] ⊎ In d es → In d es
only_these d es (inl i) = elim i [ ]
only_these d es (inr i) = i

pub in_order-among : (es : List Edge) (e : Edge) → Contains (in_order es) e → Contains es e
in_order-among es e c = Contains_from_in e es (only_these e es (among e [] es (in_from_Contains e (in_order es) c)))

-- ---- each has one at its place

abbrev Placed : List Edge → Edge → Type 0
Placed es e = (f : Edge) × In f es × (edge_cmp e f ≡ Equal)

stays_put_by :
    (o : Ordering) (d f : Edge) (fs : List Edge) (e : Edge)
    → In d (f ∷ fs)
    → (In d fs → In d (put_edge fs e))
    → In d (choose_ordering o (e ∷ f ∷ fs) (f ∷ fs) (f ∷ put_edge fs e))
stays_put_by Less d f fs e i further = inr i
stays_put_by Equal d f fs e i further = i
stays_put_by Greater d f fs e (inl here) further = inl here
stays_put_by Greater d f fs e (inr i) further = inr (further i)

stays_put : (d : Edge) (es : List Edge) (e : Edge) → In d es → In d (put_edge es e)
stays_put d [] e i = elim i [ ]
stays_put d (f ∷ fs) e i = stays_put_by (edge_cmp e f) d f fs e i (stays_put d fs e)

placed_by :
    (o : Ordering) (f : Edge) (fs : List Edge) (e : Edge)
    → edge_cmp e f ≡ o
    → Placed (put_edge fs e) e
    → Placed (choose_ordering o (e ∷ f ∷ fs) (f ∷ fs) (f ∷ put_edge fs e)) e
placed_by Less f fs e p further = (e, inl refl, tied_itself edge_cmp_total e)
placed_by Equal f fs e p further = (f, inl refl, p)
placed_by Greater f fs e p further = (further.0, inr further.1, further.2)

placed : (es : List Edge) (e : Edge) → Placed (put_edge es e) e
placed [] e = (e, inl refl, tied_itself edge_cmp_total e)
placed (f ∷ fs) e = placed_by (edge_cmp e f) f fs e refl (placed fs e)

stays_placed : (before es : List Edge) (e : Edge) → Placed before e → Placed (fold put_edge before es) e
stays_placed before [] e p = p
stays_placed before (f ∷ fs) e p = stays_placed (put_edge before f) fs e (p.0, stays_put p.0 before f p.1, p.2)

all_placed : (before es : List Edge) (e : Edge) → In e es → Placed (fold put_edge before es) e
all_placed before [] e i = elim i [ ]
all_placed before (f ∷ fs) e (inl here) =
    subst (Placed (fold put_edge (put_edge before f) fs)) here (stays_placed (put_edge before f) fs f (placed before f))
all_placed before (f ∷ fs) e (inr i) = all_placed (put_edge before f) fs e i

pub in_order-places : (es : List Edge) (e : Edge) → Contains es e → HasOneAtItsPlace (in_order es) e
in_order-places es e c =
    let found = all_placed [] es e (in_from_Contains e es c) in
    (found.0, Contains_from_in found.0 (in_order es) found.1, found.2)
