-- One more of the ok transactions in order.
use Rattle.std.proofs.Common.{◌≡◌, inl, inr, ℕ, ◌+◌, ◌<◌, ◌≤◌, ◌==◌, if◌then◌else◌, Option, Some, None, List, [], ◌∷◌, ◌++◌, length, take, drop, get_or, option_to_list, refl, ap, sym, subst, ◌∙◌, arith, append_assoc, append-nil, take-append-drop}
use Rattle.std.specs.List.{AllByRecursion}
use Rattle.std.proofs.lemmas.List.{take_more, drop_more}
use Rattle.hist_types.proofs.Members.{In, in_front, in_back, in_append, Contains_from_in, in_each, in_some}
use Rattle.hist_types.specs.Transactions.{Transaction}
use Rattle.order_frontier.specs.declared.types.Predecessor.{Predecessor}
use Rattle.order_frontier.specs.declared.types.Completed.{Completed}
use Rattle.order_frontier.specs.Completions.{completed_of, all_completed, predecessor_of, frontier_after, AreKept, AreRising, AreTimely}
use Rattle.order_frontier.proofs.Kept.{kept-more, all_in}

-- ---- the ok transactions

pub completed-more : (ts : List Transaction) (t : Transaction) → all_completed (ts ++ t ∷ []) ≡ all_completed ts ++ option_to_list (completed_of t)
completed-more [] t = append-nil (option_to_list (completed_of t))
completed-more (u ∷ ts) t =
    ap (λ ds. option_to_list (completed_of u) ++ ds) (completed-more ts t)
    ∙ sym (append_assoc (option_to_list (completed_of u)) (all_completed ts) (option_to_list (completed_of t)))

in_option : {X : Type 0} (x : X) (o : Option X) → In x (option_to_list o) → o ≡ Some x
in_option x None i = elim i [ ]
in_option x (Some y) (inl e) = ap Some e
in_option x (Some y) (inr i) = elim i [ ]

pub completed-to : (ts : List Transaction) (d : Completed) → In d (all_completed ts) → (t : Transaction) × In t ts × (completed_of t ≡ Some d)
completed-to ts d i =
    let found = in_some (λ (t : Transaction). option_to_list (completed_of t)) d ts i in
    (found.0, found.1, in_option d (completed_of found.0) found.2)

pub completed-from : (ts : List Transaction) (t : Transaction) (d : Completed) → In t ts → completed_of t ≡ Some d → In d (all_completed ts)
completed-from ts t d i is =
    in_each (λ (t : Transaction). option_to_list (completed_of t)) d t ts i (subst (λ o. In d (option_to_list o)) (sym is) (inl refl))

-- ---- lists in order

rising_before : (xs : List Completed) (d : Completed) (ys : List Completed) (v : Completed) → AreRising (xs ++ d ∷ ys) → In v xs → v.completion ≤ d.completion
rising_before [] d ys v rising i = elim i [ ]
rising_before (x ∷ xs) d ys v rising (inl e) = subst (λ (v : Completed). v.completion ≤ d.completion) e (all_in (λ (w : Completed). x.completion ≤ w.completion) d (xs ++ d ∷ ys) rising.0 (in_back d xs (d ∷ ys) (inl refl)))
rising_before (x ∷ xs) d ys v rising (inr i) = rising_before xs d ys v rising.1 i

all_front : {X : Type 0} (P : X → Type 0) (xs ys : List X) → AllByRecursion P (xs ++ ys) → AllByRecursion P xs
all_front P [] ys all = tt
all_front P (x ∷ xs) ys all = (all.0, all_front P xs ys all.1)

rising_front : (xs ys : List Completed) → AreRising (xs ++ ys) → AreRising xs
rising_front [] ys rising = tt
rising_front (x ∷ xs) ys rising = (all_front (λ (v : Completed). x.completion ≤ v.completion) xs ys rising.0, rising_front xs ys rising.1)

pub parted : {X : Type 0} (xs : List X) (k : ℕ) (x : X) → k < length xs → get_or xs k x ≡ x → xs ≡ take k xs ++ x ∷ drop (k + 1) xs
parted xs k x below is = sym (take-append-drop k xs) ∙ ap (λ ys. take k xs ++ ys) (drop_more xs k x below ∙ ap (λ y. y ∷ drop (k + 1) xs) is)

pub advance-kept : (earlier done : List Completed) (k : ℕ) (d : Completed) (recent recent' : List Predecessor) (last last' : ℕ → Option Predecessor)
    → k < length done → get_or done k d ≡ d → AreTimely (earlier ++ done)
    → AreKept (earlier ++ take k done) recent last
    → recent' ≡ frontier_after recent d
    → ((process : ℕ) → last' process ≡ (if d.process == process then Some (predecessor_of d) else last process))
    → AreKept (earlier ++ take (k + 1) done) recent' last'
advance-kept earlier done k d recent recent' last last' below is timely kept recents lasts =
    let split : earlier ++ done ≡ (earlier ++ take k done) ++ d ∷ drop (k + 1) done =
    ap (λ xs. earlier ++ xs) (parted done k d below is) ∙ sym (append_assoc earlier (take k done) (d ∷ drop (k + 1) done)) in
    let all : AreTimely ((earlier ++ take k done) ++ d ∷ drop (k + 1) done) = subst AreTimely split timely in
    let spans : (v : Completed) → In v ((earlier ++ take k done) ++ d ∷ drop (k + 1) done) → v.invocation < v.completion =
    λ v i. all.1 v (Contains_from_in v ((earlier ++ take k done) ++ d ∷ drop (k + 1) done) i) in
    let own = spans d (in_back d (earlier ++ take k done) (d ∷ drop (k + 1) done) (inl refl)) in
    let more : (earlier ++ take k done) ++ d ∷ [] ≡ earlier ++ take (k + 1) done =
    append_assoc earlier (take k done) (d ∷ []) ∙ ap (λ xs. earlier ++ xs) (sym (take_more done k d below ∙ ap (λ x. take k done ++ x ∷ []) is)) in
    subst (λ xs. AreKept xs recent' last') more
    (kept-more (earlier ++ take k done) d recent recent' last last'
    (λ v i. (let span = spans v (in_front v (earlier ++ take k done) (d ∷ drop (k + 1) done) i) in
    let up = rising_before (earlier ++ take k done) d (drop (k + 1) done) v all.0 i in omega (arith, span, up)))
    (omega (arith, own)) (rising_front (earlier ++ take k done) (d ∷ drop (k + 1) done) all.0) kept recents lasts)

-- what holds of the first ones and of one more
pub below_more : (done : List Completed) (k : ℕ) (d : Completed) (index : ℕ) → k < length done → get_or done k d ≡ d → d.completion < index
    → ((v : Completed) → In v (take k done) → v.completion < index)
    → (v : Completed) → In v (take (k + 1) done) → v.completion < index
below_more done k d index below is here before v i =
    elim (in_append v (take k done) (d ∷ []) (subst (In v) (take_more done k d below ∙ ap (λ x. take k done ++ x ∷ []) is) i)) [
      | inl j ↦ before v j
      | inr (inl e) ↦ subst (λ (v : Completed). v.completion < index) e here
      | inr (inr none) ↦ elim none [ ]
    ]

pub all_from : {X : Type 0} (P : X → Type 0) (xs : List X) → ((x : X) → In x xs → P x) → AllByRecursion P xs
all_from P [] h = tt
all_from P (x ∷ xs) h = (h x (inl refl), all_from P xs (λ y i. h y (inr i)))
