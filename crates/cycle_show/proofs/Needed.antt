-- The edge that a walk cannot do without, and the walk about it.
use Rattle.std.proofs.Common.{◌≡◌, inl, inr, ℕ, suc, ◌+◌, List, [], ◌∷◌, ◌++◌, take, drop, Bool, true, false, ◌||◌, cond, Option, Some, None, refl, sym, ◌∙◌, ap, subst, arith}
use Rattle.std.specs.List.{list_any, list_all, position_from}
use Rattle.std.specs.Option.{option_or, option_map_or}
use Rattle.std.proofs.lemmas.Bool.{false≢true, and_parts, cases_Bool, or_from}
use Rattle.hist_types.specs.Edges.{Edge}
use Rattle.hist_types.specs.Phenomena.{is_ww, is_wr, is_rw, is_order, makes}
use Rattle.history_laws.specs.WaysBack.{is_needed}
use Rattle.hist_types.specs.declared.types.Phenomenon.{Phenomenon}
use Rattle.hist_types.specs.declared.types.Phenomenon.TheVariants.{G0, G1c, GSingle, G2Item}
use Rattle.history_laws.proofs.ThinningCycles.{some_needed}
use Rattle.history_laws.proofs.ThinningWalks.{only_ww-wr, only_ww-rw, no_rw-rw}
use Rattle.cycle_show.specs.Paths.{needed_place, place_behind}

-- the walk about an edge that passes, which ends before the place
pub record IsSplit (p : Edge → Bool) (walk : List Edge) (behind : ℕ) (front : List Edge) (e : Edge) (back : List Edge) : Type 0 where
  pub is : walk ≡ front ++ e ∷ back
  pub passes : p e ≡ true
  pub taken : take behind walk ≡ front ++ e ∷ []
  pub dropped : drop behind walk ≡ back

first_split :
    (p : Edge → Bool) (n : ℕ) (walk : List Edge)
    → list_any p walk ≡ true
    → (k : ℕ) × (position_from p n walk ≡ Some (n + k)) × (front : List Edge) × (e : Edge) × (back : List Edge) × IsSplit p walk (suc k) front e back
first_split p n [] some = absurd (false≢true some)
first_split p n (d ∷ walk) some = elim (cases_Bool (p d)) [
  | inl here ↦
      let same : n ≡ n + 0 = omega arith in (
        0,
        ap (λ b. cond b (Some n) (position_from p (n + 1) walk)) here ∙ ap Some same,
        [],
        d,
        walk,
        record { is = refl; passes = here; taken = refl; dropped = refl },
      )
  | inr other ↦
      let later : list_any p walk ≡ true = sym (ap (λ b. b || list_any p walk) other) ∙ some in
      let (k, place, front, e, back, split) = first_split p (n + 1) walk later in
      let same : (n + 1) + k ≡ n + suc k = omega arith in (
        suc k,
        ap (λ b. cond b (Some n) (position_from p (n + 1) walk)) other ∙ place ∙ ap Some same,
        d ∷ front,
        e,
        back,
        record {
          is = ap (λ es. d ∷ es) split.is;
          passes = split.passes;
          taken = ap (λ es. d ∷ es) split.taken;
          dropped = split.dropped;
        },
      )
]

no_place : (p : Edge → Bool) (n : ℕ) (walk : List Edge) → list_any p walk ≡ false → position_from p n walk ≡ None
no_place p n [] none = refl
no_place p n (d ∷ walk) none =
    let parts = neither (p d) (list_any p walk) none in
    ap (λ b. cond b (Some n) (position_from p (n + 1) walk)) parts.0 ∙ no_place p (n + 1) walk parts.1
  where
    neither : (a b : Bool) → (a || b) ≡ false → (a ≡ false) × (b ≡ false)
    neither true b e = absurd (false≢true (sym e))
    neither false b e = (refl, e)

none_of :
    (g p : Edge → Bool)
    → ((e : Edge) → g e ≡ true → p e ≡ false)
    → (walk : List Edge)
    → list_all g walk ≡ true
    → list_any p walk ≡ false
none_of g p apart [] all = refl
none_of g p apart (e ∷ walk) all =
    let parts = and_parts (g e) (list_all g walk) all in
    or_from (p e) (list_any p walk) (apart e parts.0) (none_of g p apart walk parts.1)

abbrev About : (Edge → Bool) → List Edge → Type 0
About p walk = (front : List Edge) × (e : Edge) × (back : List Edge) × IsSplit p walk (place_behind walk) front e back

-- the place that is found, where the walk is about the first edge that passes
behind_first :
    (p : Edge → Bool) (walk : List Edge)
    → list_any p walk ≡ true
    → needed_place walk ≡ position_from p 0 walk
    → About p walk
behind_first p walk some same =
    let (k, place, front, e, back, split) = first_split p 0 walk some in
    let next : (0 + k) + 1 ≡ suc k = omega arith in
    let behind : place_behind walk ≡ suc k = ap (λ o. option_map_or (λ n. n + 1) o 0) (same ∙ place) ∙ next in
    (front, e, back, subst (λ n. IsSplit p walk n front e back) (sym behind) split)

found_first :
    (p : Edge → Bool) (walk : List Edge) (other : Option ℕ)
    → list_any p walk ≡ true
    → option_or (position_from p 0 walk) other ≡ position_from p 0 walk
found_first p walk other some =
    let place = (first_split p 0 walk some).1 in
    ap (λ o. option_or o other) place ∙ sym place

by_rw : (walk : List Edge) → list_any is_rw walk ≡ true → About is_rw walk
by_rw walk some =
    behind_first is_rw walk some (found_first is_rw walk (option_or (position_from is_wr 0 walk) (position_from is_ww 0 walk)) some)

by_wr : (walk : List Edge) → list_any is_rw walk ≡ false → list_any is_wr walk ≡ true → About is_wr walk
by_wr walk no_rw some =
    behind_first is_wr walk some
    (ap (λ o. option_or o (option_or (position_from is_wr 0 walk) (position_from is_ww 0 walk))) (no_place is_rw 0 walk no_rw) ∙ found_first is_wr walk (position_from is_ww 0 walk) some)

by_ww :
    (walk : List Edge)
    → list_any is_rw walk ≡ false
    → list_any is_wr walk ≡ false
    → list_any is_ww walk ≡ true
    → About is_ww walk
by_ww walk no_rw no_wr some =
    behind_first is_ww walk some
    (ap (λ o. option_or o (option_or (position_from is_wr 0 walk) (position_from is_ww 0 walk))) (no_place is_rw 0 walk no_rw) ∙ ap (λ o. option_or o (position_from is_ww 0 walk)) (no_place is_wr 0 walk no_wr))

-- the edge that the walk is followed from is one that its phenomenon needs
pub about_needed : (phenomenon : Phenomenon) (walk : List Edge) → makes phenomenon walk ≡ true → About (is_needed phenomenon) walk
about_needed G0 walk made =
    let only = (and_parts (list_all (λ e. is_ww e || is_order e) walk) (list_any is_ww walk) made).0 in
    by_ww walk (none_of (λ e. is_ww e || is_order e) is_rw (λ e. only_ww-rw e.label) walk only) (none_of (λ e. is_ww e || is_order e) is_wr (λ e. only_ww-wr e.label) walk only) (some_needed G0 walk made)
about_needed G1c walk made =
    let only = (and_parts (list_all (λ e. is_ww e || is_wr e || is_order e) walk) (list_any is_wr walk) made).0 in
    by_wr walk (none_of (λ e. is_ww e || is_wr e || is_order e) is_rw (λ e. no_rw-rw e.label) walk only) (some_needed G1c walk made)
about_needed GSingle walk made = by_rw walk (some_needed GSingle walk made)
about_needed G2Item walk made = by_rw walk (some_needed G2Item walk made)
