-- Lists that are ranges of one list.
use Rattle.std.specs.Prelude.{◌≡◌, ◌≤◌, ℕ, List, [], ◌∷◌, ◌++◌, length, map, slice_range}
use Rattle.edge_graph.specs.declared.runs.Run.{Run}

-- the items of a run
abbrev pub run_in : List ℕ → Run → List ℕ
run_in items run = slice_range items run.start run.end

abbrev pub empty_run : Run
empty_run = record { start = 0; end = 0 }

abbrev pub lists_in : List ℕ → List Run → List (List ℕ)
lists_in items runs = map (run_in items) runs

pub record IsRunIn (items : List ℕ) (run : Run) : Type 0 where
  pub rising : run.start ≤ run.end
  pub within : run.end ≤ length items

abbrev pub EndsWith : ℕ → List ℕ → Type 0
EndsWith item items = (front : List ℕ) × (items ≡ front ++ item ∷ [])

-- the run has one more item, as the list grows or stays as it is; that item is the list's last one
pub record IsExtended (item : ℕ) (run more : Run) (before after : List ℕ) : Type 0 where
  pub within : IsRunIn after more
  pub items : run_in after more ≡ run_in before run ++ item ∷ []
  pub longer : (added : List ℕ) × (after ≡ before ++ added)
  pub last : EndsWith item after
