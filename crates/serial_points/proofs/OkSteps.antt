-- Which versions a process orders depends on the ok transactions alone.
use Rattle.std.proofs.Common.{◌≡◌, ℕ, List, [], ◌∷◌, ◌++◌, Bool, true, false, ◌&&◌, ◌==◌, if◌then◌else◌, filter, map, flat_map, append-nil, refl, sym, ◌∙◌, ap}
use Rattle.std.proofs.lemmas.List.Elements.{filter-append}
use Rattle.hist_types.specs.Transactions.{Transaction, is_ok}
use Rattle.hist_types.specs.Versions.{version_in, seen_by, met_by, step_to, steps_of, steps_after, process_pairs}
use Rattle.hist_types.specs.declared.types.KeyOrder.{KeyOrder}
use Rattle.hist_types.specs.declared.types.KeyOrder.TheVariants.{Basic, Sequential}

seen_of_ok : (process : ℕ) (ts : List Transaction) → seen_by process ts ≡ seen_by process (filter is_ok ts)
seen_of_ok process [] = refl
seen_of_ok process (t ∷ ts) = by (is_ok t) refl (seen_of_ok process ts)
  where
    by :
        (ok : Bool)
        → is_ok t ≡ ok
        → seen_by process ts ≡ seen_by process (filter is_ok ts)
        → seen_by process (t ∷ ts) ≡ seen_by process (if ok then t ∷ filter is_ok ts else filter is_ok ts)
    by true e rest = ap (λ vs. (if is_ok t && t.process == process then map version_in t.mops else []) ++ vs) rest
    by false e rest = ap (λ ok. (if ok && t.process == process then map version_in t.mops else []) ++ seen_by process ts) e ∙ rest

steps_of_ok :
    (before ts : List Transaction)
    → steps_after before ts ≡ steps_after (filter is_ok before) (filter is_ok ts)
steps_of_ok before [] = refl
steps_of_ok before (t ∷ ts) = by (is_ok t) refl (steps_of_ok (before ++ t ∷ []) ts)
  where
    earlier :
        (ok : Bool)
        → is_ok t ≡ ok
        → filter is_ok (before ++ t ∷ []) ≡ filter is_ok before ++ (if ok then t ∷ [] else [])
    earlier ok e = filter-append is_ok before (t ∷ []) ∙ ap (λ b. filter is_ok before ++ (if b then t ∷ [] else [])) e

    by :
        (ok : Bool)
        → is_ok t ≡ ok
        → steps_after (before ++ t ∷ []) ts ≡ steps_after (filter is_ok (before ++ t ∷ [])) (filter is_ok ts)
        → steps_after before (t ∷ ts) ≡ steps_after (filter is_ok before) (if ok then t ∷ filter is_ok ts else filter is_ok ts)
    by true e rest =
        ap (λ vs. (if is_ok t then flat_map (step_to vs) (met_by t) else []) ++ steps_after (before ++ t ∷ []) ts) (seen_of_ok t.process before)
        ∙ ap (λ ps. steps_of (filter is_ok before) t ++ ps) (rest ∙ ap (λ us. steps_after us (filter is_ok ts)) (earlier true e))
    by false e rest =
        ap (λ ok. (if ok then flat_map (step_to (seen_by t.process before)) (met_by t) else []) ++ steps_after (before ++ t ∷ []) ts) e
        ∙ rest ∙ ap (λ us. steps_after us (filter is_ok ts)) (earlier false e ∙ append-nil (filter is_ok before))

pub same_process_pairs :
    (keys : KeyOrder) (ts later : List Transaction)
    → filter is_ok later ≡ filter is_ok ts
    → process_pairs keys later ≡ process_pairs keys ts
same_process_pairs Basic ts later same = refl
same_process_pairs Sequential ts later same = steps_of_ok [] later ∙ ap (steps_after []) same ∙ sym (steps_of_ok [] ts)

pub same_seen :
    (process : ℕ) (ts later : List Transaction)
    → filter is_ok later ≡ filter is_ok ts
    → seen_by process later ≡ seen_by process ts
same_seen process ts later same = seen_of_ok process later ∙ ap (seen_by process) same ∙ sym (seen_of_ok process ts)
