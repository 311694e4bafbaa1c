-- A walk that is made short has no dependency edges more.
use Rattle.std.proofs.Common.{◌≡◌, inl, inr, ℕ, ◌+◌, ◌≤◌, List, [], ◌∷◌, ◌++◌, take, drop, fold, Bool, true, not, ◌&&◌, ◌==◌, if◌then◌else◌, refl, sym, ◌∙◌, ap, subst, arith}
use Rattle.std.proofs.lemmas.Bool.{and_parts, cases_Bool, not_from_true}
use Rattle.std.proofs.lemmas.List.{take-append-drop}
use Rattle.hist_types.specs.Edges.{Edge}
use Rattle.hist_types.specs.Phenomena.{is_order}
use Rattle.hist_types.specs.Witness.{ends_in_order, dependencies_in}
use Rattle.history_laws.proofs.ThinningWalks.{count-cons, count-append, count_no}
use Rattle.dep_edges.specs.Labels.{joined}
use Rattle.cycle_show.specs.Paths.{last_joined, path_to, extended, followed, place_behind, short_round}
use Rattle.cycle_show.proofs.Shortening.{joined_is_order}

abbrev is_dependency : Edge → Bool
is_dependency e = not (is_order e)

fewer_before : (t : ℕ) (path : List Edge) → dependencies_in (path_to t path) ≤ dependencies_in path
fewer_before t [] = omega arith
fewer_before t (e ∷ path) = elim (cases_Bool (e.from == t)) [
  | inl there ↦ subst (λ b. dependencies_in (if b then [] else e ∷ path_to t path) ≤ dependencies_in (e ∷ path)) (sym there) (omega arith)
  | inr further ↦
      let rest : dependencies_in (path_to t path) ≤ dependencies_in path = fewer_before t path in
      subst (λ b. dependencies_in (if b then [] else e ∷ path_to t path) ≤ dependencies_in (e ∷ path)) (sym further)
      (omega (arith, rest, count-cons is_dependency e path, count-cons is_dependency e (path_to t path)))
]

as_many_joined : (path : List Edge) (f : Edge) → ends_in_order path ≡ true → dependencies_in (last_joined path f) ≡ dependencies_in path
as_many_joined [] f ends = refl
as_many_joined (e ∷ []) f ends =
    count_no is_dependency (joined e f) [] (not_from_true (is_order (joined e f)) (joined_is_order e f ends))
    ∙ sym (count_no is_dependency e [] (not_from_true (is_order e) ends))
as_many_joined (e ∷ d ∷ path) f ends =
    let rest : dependencies_in (last_joined (d ∷ path) f) ≡ dependencies_in (d ∷ path) = as_many_joined (d ∷ path) f ends in
    omega (arith, rest, count-cons is_dependency e (d ∷ path), count-cons is_dependency e (last_joined (d ∷ path) f))

fewer_extended : (path : List Edge) (f : Edge) → dependencies_in (extended path f) ≤ dependencies_in path + dependencies_in (f ∷ [])
fewer_extended path f = elim (cases_Bool (is_order f && ends_in_order path)) [
  | inl both ↦
      let same : dependencies_in (last_joined path f) ≡ dependencies_in path = as_many_joined path f (and_parts (is_order f) (ends_in_order path) both).1 in
      subst (λ b. dependencies_in (if b then last_joined path f else path ++ f ∷ []) ≤ dependencies_in path + dependencies_in (f ∷ [])) (sym both) (omega (arith, same))
  | inr other ↦
      subst (λ b. dependencies_in (if b then last_joined path f else path ++ f ∷ []) ≤ dependencies_in path + dependencies_in (f ∷ [])) (sym other)
      (omega (arith, count-append is_dependency path (f ∷ [])))
]

fewer_all : (path walk : List Edge) → dependencies_in (fold followed path walk) ≤ dependencies_in path + dependencies_in walk
fewer_all path [] = omega arith
fewer_all path (f ∷ walk) =
    let rest : dependencies_in (fold followed (followed path f) walk) ≤ dependencies_in (followed path f) + dependencies_in walk = fewer_all (followed path f) walk in
    let here : dependencies_in (followed path f) ≤ dependencies_in (path_to f.from path) + dependencies_in (f ∷ []) = fewer_extended (path_to f.from path) f in
    omega (arith, rest, here, fewer_before f.from path, count-append is_dependency (f ∷ []) walk)

fewer_round : (walk : List Edge) → dependencies_in (short_round walk) ≤ dependencies_in walk
fewer_round walk =
    let behind : ℕ = place_behind walk in
    let first : dependencies_in (fold followed [] (drop behind walk)) ≤ dependencies_in [] + dependencies_in (drop behind walk) = fewer_all [] (drop behind walk) in
    let second : dependencies_in (short_round walk) ≤ dependencies_in (fold followed [] (drop behind walk)) + dependencies_in (take behind walk) =
    fewer_all (fold followed [] (drop behind walk)) (take behind walk) in
    let whole : dependencies_in walk ≡ dependencies_in (take behind walk ++ drop behind walk) = ap dependencies_in (sym (take-append-drop behind walk)) in
    omega (arith, first, second, whole, count-append is_dependency (take behind walk) (drop behind walk))

pub fewer_turned : (walk path : List Edge) (least : ℕ) → path ≡ short_round walk → dependencies_in (drop least path ++ take least path) ≤ dependencies_in walk
fewer_turned walk path least is =
    let round : dependencies_in path ≤ dependencies_in walk = subst (λ es. dependencies_in es ≤ dependencies_in walk) (sym is) (fewer_round walk) in
    let whole : dependencies_in path ≡ dependencies_in (take least path ++ drop least path) = ap dependencies_in (sym (take-append-drop least path)) in
    omega (arith, round, whole, count-append is_dependency (take least path) (drop least path), count-append is_dependency (drop least path) (take least path))
