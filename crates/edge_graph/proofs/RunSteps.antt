-- Runs of a list, as the list grows and as one of them gets an item.
use Rattle.std.proofs.Common.{◌≡◌, ◌∙◌, ◌<◌, ◌==◌, ℕ, List, [], ◌∷◌, ◌++◌, length, get_or, set, replicate, false, All, ap, sym, subst, arith}
use Rattle.std.proofs.lemmas.Bool.{eqb-false}
use Rattle.std.proofs.lemmas.List.{length-append, length-set, get_or-map, get_or-set_same, get_or-set_other, get_or-replicate, length-replicate}
use Rattle.std.proofs.lemmas.List.Elements.{All-set}
use Rattle.edge_graph.specs.Runs.{run_in, lists_in, empty_run, IsRunIn, IsExtended}
use Rattle.edge_graph.specs.Successors.{list_at}
use Rattle.edge_graph.specs.declared.runs.Run.{Run}
use Rattle.edge_graph.proofs.Parts.{part-append}

-- ---- a longer list

same_run : (items more : List ℕ) (run : Run) → IsRunIn items run → run_in (items ++ more) run ≡ run_in items run
same_run items more run is = part-append items more run.start run.end is.rising is.within

still_run : (items more : List ℕ) (run : Run) → IsRunIn items run → IsRunIn (items ++ more) run
still_run items more run is = record { rising = is.rising; within = omega (arith, is.within, length-append items more) }

pub still_runs : (items more : List ℕ) (runs : List Run) → All (IsRunIn items) runs → All (IsRunIn (items ++ more)) runs
still_runs items more runs are k d h = still_run items more (get_or runs k d) (are k d h)

-- a list is where its run is
at_run : (items : List ℕ) (runs : List Run) (k : ℕ) (d : Run) → k < length runs → list_at (lists_in items runs) k ≡ run_in items (get_or runs k d)
at_run items runs k d h = get_or-map (run_in items) runs k d [] h

pub same_list : (items more : List ℕ) (runs : List Run) (k : ℕ) → All (IsRunIn items) runs → k < length runs → list_at (lists_in (items ++ more) runs) k ≡ list_at (lists_in items runs) k
same_list items more runs k are h =
    let run = get_or runs k empty_run in
    at_run (items ++ more) runs k empty_run h ∙ same_run items more run (are k empty_run h) ∙ sym (at_run items runs k empty_run h)

-- ---- one run of many

module _ (item k : ℕ) (more d : Run) (runs : List Run) (before after : List ℕ) (are : All (IsRunIn before) runs) (there : k < length runs) (is : IsExtended item (get_or runs k d) more before after) where
  pub still_set : All (IsRunIn after) (set runs k more)
  still_set =
      All-set (IsRunIn after) runs k more is.within
      (subst (λ items. All (IsRunIn items) runs) (sym is.longer.1) (still_runs before is.longer.0 runs are))

  pub set_here : list_at (lists_in after (set runs k more)) k ≡ list_at (lists_in before runs) k ++ item ∷ []
  set_here =
      at_run after (set runs k more) k d (omega (arith, length-set runs k more))
      ∙ ap (run_in after) (get_or-set_same runs k more d there) ∙ is.items
      ∙ ap (λ xs. xs ++ item ∷ []) (sym (at_run before runs k d there))

  pub set_elsewhere : (j : ℕ) → j < length runs → (k == j) ≡ false → list_at (lists_in after (set runs k more)) j ≡ list_at (lists_in before runs) j
  set_elsewhere j h other =
      at_run after (set runs k more) j d (omega (arith, length-set runs k more))
      ∙ ap (run_in after) (get_or-set_other runs k j more d (λ same. eqb-false k j other (sym same)))
      ∙ sym (at_run after runs j d h)
      ∙ ap (λ items. list_at (lists_in items runs) j) is.longer.1
      ∙ same_list before is.longer.0 runs j are h

-- ---- runs without items

pub empty_runs : (n : ℕ) → All (IsRunIn []) (replicate n empty_run)
empty_runs n k d h = subst (IsRunIn []) (sym (get_or-replicate n k empty_run d (omega (arith, h, length-replicate n empty_run)))) (record { rising = omega arith; within = omega arith })

pub empty_list : (n k : ℕ) → k < n → list_at (lists_in [] (replicate n empty_run)) k ≡ []
empty_list n k h =
    at_run [] (replicate n empty_run) k empty_run (omega (arith, h, length-replicate n empty_run))
    ∙ ap (run_in []) (get_or-replicate n k empty_run empty_run h)
