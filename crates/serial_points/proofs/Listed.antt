-- Lists that grow, and what all of their members are.
use Rattle.std.proofs.Common.{◌≡◌, inl, inr, ℕ, zero, suc, ◌<◌, ◌≤◌, List, [], ◌∷◌, ◌++◌, length, map, set, take, get_or, All, Contains, refl, sym, ◌∙◌, ap, subst, arith}
use Rattle.std.proofs.lemmas.List.{take_all}
use Rattle.std.proofs.lemmas.List.Elements.{All-same}
use Rattle.hist_types.proofs.Members.{In, in_from_Contains, Contains_from_in, in_front, in_back, in_append}
use Rattle.serial_points.specs.Users.{places_at, IsListed, StayListed, ListOnly}

-- after a loop over all of them
pub all_gone : {X : Type 0} (P : X → Type 0) (xs : List X) (i : ℕ) → length xs ≤ i → All P (take i xs) → All P xs
all_gone P xs i end so_far = All-same P xs (take i xs) (sym (take_all i xs end)) so_far

pub push_stays : {V : Type 0} (items : V → List ℕ) (lists : List V) (list : V) → StayListed (map items lists) (map items (lists ++ list ∷ []))
push_stays items [] list n place listed = absurd (in_from_Contains place [] listed)
push_stays items (x ∷ lists) list zero place listed = listed
push_stays items (x ∷ lists) list (suc n) place listed = push_stays items lists list n place listed

pub push_only : {V : Type 0} (items : V → List ℕ) (lists : List V) (list : V) → items list ≡ [] → StayListed (map items (lists ++ list ∷ [])) (map items lists)
push_only items [] list none zero place listed = absurd (in_from_Contains place [] (subst (λ places. Contains places place) none listed))
push_only items [] list none (suc n) place listed = absurd (in_from_Contains place [] listed)
push_only items (x ∷ lists) list none zero place listed = listed
push_only items (x ∷ lists) list none (suc n) place listed = push_only items lists list none n place listed

set_here : {V : Type 0} (items : V → List ℕ) (lists : List V) (n : ℕ) (list : V) → n < length lists → places_at (map items (set lists n list)) n ≡ items list
set_here items [] n list below = absurd (omega (arith, below))
set_here items (x ∷ lists) zero list below = refl
set_here items (x ∷ lists) (suc n) list below = set_here items lists n list (omega (arith, below))

pub add_listed :
    {V : Type 0} (items : V → List ℕ) (lists : List V) (n : ℕ) (list : V) (before : List ℕ) (place : ℕ)
    → n < length lists
    → items list ≡ before ++ place ∷ []
    → IsListed (map items (set lists n list)) n place
add_listed items lists n list before place below added =
    Contains_from_in place (places_at (map items (set lists n list)) n)
    (subst (In place) (sym (set_here items lists n list below ∙ added)) (in_back place before (place ∷ []) (inl refl)))

pub add_stays :
    {V : Type 0} (items : V → List ℕ) (lists : List V) (n : ℕ) (list old : V) (place : ℕ)
    → n < length lists
    → items list ≡ items old ++ place ∷ []
    → old ≡ get_or lists n old
    → StayListed (map items lists) (map items (set lists n list))
add_stays items [] n list old place below added was m other listed = absurd (omega (arith, below))
add_stays items (x ∷ lists) zero list old place below added was zero other listed =
    Contains_from_in other (items list)
    (subst (In other) (sym added) (in_front other (items old) (place ∷ []) (subst (λ v. In other (items v)) (sym was) (in_from_Contains other (items x) listed))))
add_stays items (x ∷ lists) zero list old place below added was (suc m) other listed = listed
add_stays items (x ∷ lists) (suc n) list old place below added was zero other listed = listed
add_stays items (x ∷ lists) (suc n) list old place below added was (suc m) other listed =
    add_stays items lists n list old place (omega (arith, below)) added was m other listed

pub add_only :
    {V : Type 0} (items : V → List ℕ) (lists : List V) (n : ℕ) (list old : V) (place : ℕ)
    → items list ≡ items old ++ place ∷ []
    → old ≡ get_or lists n old
    → ListOnly (map items lists) (map items (set lists n list)) n place
add_only items [] n list old place added was m other listed = absurd (in_from_Contains other [] listed)
add_only items (x ∷ lists) zero list old place added was zero other listed =
    elim (in_append other (items old) (place ∷ []) (subst (In other) added (in_from_Contains other (items list) listed))) [
      | inl there ↦ inl (Contains_from_in other (items x) (subst (λ v. In other (items v)) was there))
      | inr own ↦ elim own [ inl here ↦ inr (refl, sym here) | inr none ↦ elim none [ ] ]
    ]
add_only items (x ∷ lists) zero list old place added was (suc m) other listed = inl listed
add_only items (x ∷ lists) (suc n) list old place added was zero other listed = inl listed
add_only items (x ∷ lists) (suc n) list old place added was (suc m) other listed = elim (add_only items lists n list old place added was m other listed) [
  | inl there ↦ inl there
  | inr (is, own) ↦ inr (ap suc is, own)
]

pub no_member : {X : Type 0} (xs : List X) → length xs ≤ 0 → xs ≡ []
no_member [] none = refl
no_member (x ∷ xs) none = absurd (omega (arith, none))
