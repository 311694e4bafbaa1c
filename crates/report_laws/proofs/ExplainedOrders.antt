-- Places in an order: what comes before what, and that nothing comes before itself.
use Rattle.std.proofs.Common.{◌≡◌, ◌⊎◌, inl, inr, ℕ, suc, ◌<◌, ◌≤◌, List, [], ◌∷◌, ◌++◌, nat_eq, true, false, if◌then◌else◌, map, IsFalse, refl, sym, ◌∙◌, ap, subst, arith}
use Rattle.std.specs.List.{AllByRecursion, IsDistinct}
use Rattle.std.proofs.lemmas.Bool.{false≢true, eq-eqb}
use Rattle.std.proofs.lemmas.List.Elements.{recursion_from_All}
use Rattle.std.proofs.lemmas.Map.Keys.{IsDistinct-head, IsDistinct-tail}
use Rattle.hist_types.specs.Transactions.{Transaction}
use Rattle.hist_types.specs.Edges.{Edge, is_ok_before}
use Rattle.hist_types.specs.Explanation.{KeepsRealtime}
use Rattle.hist_types.specs.Phenomena.{Leads, IsClosedWalk}
use Rattle.hist_types.proofs.Members.{In, in_mapped, Contains_from_in}
use Rattle.history_laws.proofs.WrittenOnce.{AreApart}
use Rattle.report_laws.specs.Explained.{ComesBefore, GoesForward}

-- both are in the list, x before y
abbrev pub Before : {X : Type 0} → List X → X → X → Type 0
Before [] x y = ⊥
Before (z ∷ zs) x y = ((z ≡ x) × In y zs) ⊎ Before zs x y

pub first_in : {X : Type 0} (xs : List X) (x y : X) → Before xs x y → In x xs
first_in [] x y b = elim b [ ]
first_in (z ∷ zs) x y (inl here) = inl here.0
first_in (z ∷ zs) x y (inr b) = inr (first_in zs x y b)

pub second_in : {X : Type 0} (xs : List X) (x y : X) → Before xs x y → In y xs
second_in [] x y b = elim b [ ]
second_in (z ∷ zs) x y (inl here) = inr here.1
second_in (z ∷ zs) x y (inr b) = inr (second_in zs x y b)

-- of two different members one comes before the other
pub one_before : {X : Type 0} (xs : List X) (x y : X) → In x xs → In y xs → ¬ (x ≡ y) → Before xs x y ⊎ Before xs y x
one_before [] x y i j other = elim i [ ]
one_before (z ∷ zs) x y (inl e) (inl d) other = elim (other (sym e ∙ d)) [ ]
one_before (z ∷ zs) x y (inl e) (inr j) other = inl (inl (e, j))
one_before (z ∷ zs) x y (inr i) (inl d) other = inr (inl (d, i))
one_before (z ∷ zs) x y (inr i) (inr j) other =
    elim (one_before zs x y i j other) [ inl b ↦ inl (inr b) | inr b ↦ inr (inr b) ]

-- what comes before the first one, where nothing comes twice
pub none_before_first : {X : Type 0} (z : X) (zs : List X) (x : X) → AreApart (z ∷ zs) → Before (z ∷ zs) x z → ⊥
none_before_first z zs x apart (inl here) = apart.0 here.1
none_before_first z zs x apart (inr b) = apart.0 (second_in zs x z b)

-- what comes before a further one is the first one, or comes before it among the further ones
pub before_further :
    {X : Type 0} (z : X) (zs : List X) (x y : X)
    → AreApart (z ∷ zs)
    → In x zs
    → Before (z ∷ zs) x y
    → Before zs x y
before_further z zs x y apart i (inl here) = elim (apart.0 (subst (λ w. In w zs) (sym here.0) i)) [ ]
before_further z zs x y apart i (inr b) = b

-- what comes before one that comes before another
pub before_both :
    {X : Type 0} (xs : List X) (x y z : X)
    → AreApart xs
    → Before xs x y
    → Before xs y z
    → Before xs x z
before_both [] x y z apart first second = first
before_both (w ∷ ws) x y z apart (inl here) second =
    inl (here.0, second_in ws y z (before_further w ws y z apart here.1 second))
before_both (w ∷ ws) x y z apart (inr first) second =
    inr (before_both ws x y z apart.1 first (before_further w ws y z apart (second_in ws x y first) second))

in_parts :
    (xs : List Transaction) (t u : Transaction)
    → Before xs t u
    → (front : List Transaction) × (rest : List Transaction) × (xs ≡ front ++ rest) × In t front × In u rest
in_parts [] t u b = elim b [ ]
in_parts (z ∷ zs) t u (inl here) = (z ∷ [], zs, refl, inl here.0, here.1)
in_parts (z ∷ zs) t u (inr b) =
    let (front, rest, is, first, second) = in_parts zs t u b in
    (z ∷ front, rest, ap (λ xs. z ∷ xs) is, inr first, second)

pub comes_before : (order : List Transaction) (t u : Transaction) → Before order t u → ComesBefore order t u
comes_before order t u b =
    let (front, rest, is, first, second) = in_parts order t u b in
    (front, rest, is, Contains_from_in t front first, Contains_from_in u rest second)

-- ---- real time

pub all_at : {X : Type 0} (P : X → Type 0) (xs : List X) (x : X) → AllByRecursion P xs → In x xs → P x
all_at P [] x all i = elim i [ ]
all_at P (y ∷ ys) x all (inl e) = subst P e all.0
all_at P (y ∷ ys) x all (inr i) = all_at P ys x all.1 i

-- no later one completed before an earlier one
pub none_back : (order : List Transaction) (t u : Transaction) → KeepsRealtime order → Before order t u → is_ok_before u t ≡ true → ⊥
none_back [] t u keeps b e = b
none_back (z ∷ zs) t u keeps (inl here) e =
    let none : is_ok_before u z ≡ false =
    all_at (λ later. IsFalse (is_ok_before later z)) zs u (recursion_from_All (λ later. IsFalse (is_ok_before later z)) zs keeps.0) here.1 in
    false≢true (sym none ∙ subst (λ x. is_ok_before u x ≡ true) (sym here.0) e)
none_back (z ∷ zs) t u keeps (inr b) e = none_back zs t u keeps.1 b e

-- ---- places by invocation

abbrev invocations : List Transaction → List ℕ
invocations ts = map (λ (t : Transaction). t.invocation) ts

abbrev pub AreDistinct : List Transaction → Type 0
AreDistinct ts = IsDistinct nat_eq (map (λ (t : Transaction). t.invocation) ts)

fewer_distinct : (z : Transaction) (zs : List Transaction) → AreDistinct (z ∷ zs) → AreDistinct zs
fewer_distinct z zs = IsDistinct-tail nat_eq z.invocation (invocations zs)

another : (z : Transaction) (zs : List Transaction) (t : Transaction) → AreDistinct (z ∷ zs) → In t zs → nat_eq z.invocation t.invocation ≡ false
another z zs t distinct i =
    all_at (λ n. nat_eq z.invocation n ≡ false) (invocations zs) t.invocation (IsDistinct-head nat_eq z.invocation (invocations zs) distinct) (in_mapped (λ (t : Transaction). t.invocation) t zs i)

pub apart_order : (ts : List Transaction) → AreDistinct ts → AreApart ts
apart_order [] distinct = tt
apart_order (t ∷ ts) distinct =
    (λ i. false≢true (sym (another t ts t distinct i) ∙ eq-eqb t.invocation t.invocation refl), apart_order ts (fewer_distinct t ts distinct))

abbrev place : ℕ → List Transaction → ℕ
place n [] = 0
place n (t ∷ ts) = if nat_eq t.invocation n then 0 else suc (place n ts)

rises : (order : List Transaction) (t u : Transaction) → AreDistinct order → Before order t u → place t.invocation order < place u.invocation order
rises [] t u distinct b = elim b [ ]
rises (z ∷ zs) t u distinct (inl here) =
    let first : place t.invocation (z ∷ zs) ≡ 0 =
    ap (λ b. if b then 0 else suc (place t.invocation zs)) (eq-eqb z.invocation t.invocation (ap (λ (x : Transaction). x.invocation) here.0)) in
    let second : place u.invocation (z ∷ zs) ≡ suc (place u.invocation zs) =
    ap (λ b. if b then 0 else suc (place u.invocation zs)) (another z zs u distinct here.1) in
    omega (arith, first, second)
rises (z ∷ zs) t u distinct (inr b) =
    let rest : place t.invocation zs < place u.invocation zs = rises zs t u (fewer_distinct z zs distinct) b in
    let first : place t.invocation (z ∷ zs) ≡ suc (place t.invocation zs) =
    ap (λ b. if b then 0 else suc (place t.invocation zs)) (another z zs t distinct (first_in zs t u b)) in
    let second : place u.invocation (z ∷ zs) ≡ suc (place u.invocation zs) =
    ap (λ b. if b then 0 else suc (place u.invocation zs)) (another z zs u distinct (second_in zs t u b)) in
    omega (arith, rest, first, second)

-- ---- edges that go forward close no walk

-- an edge between two transactions of the order, from the first to a later one
abbrev pub IsForward : List Transaction → Edge → Type 0
IsForward order e = (t : Transaction) × (u : Transaction) × (e.from ≡ t.invocation) × (e.to ≡ u.invocation) × Before order t u

pub goes_forward : (order : List Transaction) (e : Edge) → IsForward order e → GoesForward order e
goes_forward order e (t, u, from, to, before) = (t, u, from, to, comes_before order t u before)

edge_rises : (order : List Transaction) (e : Edge) → AreDistinct order → IsForward order e → place e.from order < place e.to order
edge_rises order e distinct (t, u, from, to, before) =
    subst (λ n. place n order < place e.to order) (sym from)
    (subst (λ n. place t.invocation order < place n order) (sym to) (rises order t u distinct before))

walk_rises :
    (order : List Transaction) (from to : ℕ) (walk : List Edge)
    → AreDistinct order
    → Leads from walk to
    → AllByRecursion (IsForward order) walk
    → place from order ≤ place to order
walk_rises order from to [] distinct leads all = subst (λ n. place from order ≤ place n order) leads (omega arith)
walk_rises order from to (e ∷ es) distinct leads all =
    let first : place e.from order < place e.to order = edge_rises order e distinct all.0 in
    let rest : place e.to order ≤ place to order = walk_rises order e.to to es distinct leads.1 all.1 in
    let begun : place e.from order ≡ place from order = ap (λ n. place n order) leads.0 in
    omega (arith, first, rest, begun)

pub never_closed : (order : List Transaction) (walk : List Edge) → AreDistinct order → IsClosedWalk walk → AllByRecursion (IsForward order) walk → ⊥
never_closed order [] distinct closed all = closed
never_closed order (e ∷ es) distinct closed all =
    let first : place e.from order < place e.to order = edge_rises order e distinct all.0 in
    let rest : place e.to order ≤ place e.from order = walk_rises order e.to e.from es distinct closed all.1 in
    let none : ⊥ = omega (arith, first, rest) in
    none
