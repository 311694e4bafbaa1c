-- What the parse found after a subcommand.
use Rattle.std.proofs.Common.{◌≡◌, ◌∙◌, ℕ, List, map, codes, true, false, Option, Some, None, option_map, sym, ap, subst}
use Rattle.std.specs.Borrow.{Bor}
use Rattle.std.specs.Prelude.{option_and_then, string_bytes}
use Rattle.std.proofs.lemmas.Option.{same_Some}
use Rattle.clap.specs.Words.{Row, Text, first_of, all_of, first_value, rows_of, matched_of, raw_values}
use Rattle.clap.specs.declared.parser.matches.Found.{Found}
use Rattle.clap.proofs.WalkLemmas.{first_value-rows, raw_values-rows}
use Rattle.hist_types.specs.declared.types.KeyOrder.{KeyOrder}
use Rattle.command_line.specs.Lines.{cells_in, workers_in, keys_in, come_in_pairs, AreForCheck, AreForSessions, IsAskedBy}
use Rattle.command_line.specs.declared.types.Asked.{Asked}
use Rattle.command_line.specs.declared.types.Asked.TheVariants.{Run, Serve}
use Rattle.command_line.proofs.Refused.{no_command, check_is_no_reads, check_is_no_edges, check_is_no_serve}
use Rattle.command_line.specs.declared.types.Command.TheVariants.{Reads, Edges, Check}

-- the number of cells that is there
pub cells_found : (f : Found) (r : Option (Bor (List ℕ))) → option_map (λ text. text.now) r ≡ first_value f (codes "cells")
    → option_and_then cells_in (option_map (λ text. text.now) r) ≡ option_and_then cells_in (first_of (codes "cells") (rows_of f))
cells_found f r e = ap (option_and_then cells_in) (e ∙ first_value-rows f (codes "cells"))

-- the number of threads that is there
pub workers_found : (f : Found) (r : Option (Bor (List ℕ))) → option_map (λ text. text.now) r ≡ first_value f (codes "workers")
    → option_and_then workers_in (option_map (λ text. text.now) r) ≡ option_and_then workers_in (first_of (codes "workers") (rows_of f))
workers_found f r e = ap (option_and_then workers_in) (e ∙ first_value-rows f (codes "workers"))

-- the name of an order of keys that is there
pub keys_found : (f : Found) (r : Option (Bor (List ℕ))) → option_map (λ text. text.now) r ≡ first_value f (codes "keys")
    → option_and_then keys_in (option_map (λ text. text.now) r) ≡ option_and_then keys_in (first_of (codes "keys") (rows_of f))
keys_found f r e = ap (option_and_then keys_in) (e ∙ first_value-rows f (codes "keys"))

-- no number of cells
pub without_cells : (cells : ℕ) (keys : KeyOrder) (paths : List (List ℕ)) (rows : List Row) (r : Option ℕ) → r ≡ option_and_then cells_in (first_of (codes "cells") rows)
    → r ≡ None → AreForSessions cells keys paths rows → ⊥
without_cells cells keys paths rows r e none asked = let some : None ≡ Some cells = sym none ∙ (e ∙ asked.cells_are) in cc

-- no number of threads
pub without_workers : (workers : ℕ) (keys : KeyOrder) (rows : List Row) (r : Option ℕ) → r ≡ option_and_then workers_in (first_of (codes "workers") rows)
    → r ≡ None → AreForCheck workers keys rows → ⊥
without_workers workers keys rows r e none asked = let some : None ≡ Some workers = sym none ∙ (e ∙ asked.workers_are) in cc

-- the texts behind references to references
abbrev pub texts_in : Bor (List (Bor (List ℕ))) → List (List ℕ)
texts_in found = map (λ text. text.now) found.now

-- the paths that are there
pub paths_found : (f : Found) (r : Option (Bor (List (Bor (List ℕ))))) (found : Bor (List (Bor (List ℕ))))
    → option_map texts_in r ≡ option_map raw_values (matched_of f (codes "paths")) → r ≡ Some found
    → all_of (codes "paths") (rows_of f) ≡ Some (texts_in found)
paths_found f r found e some = sym (raw_values-rows f (codes "paths")) ∙ (sym e ∙ ap (option_map texts_in) some)

-- no paths
pub without_paths : (cells : ℕ) (keys : KeyOrder) (paths : List (List ℕ)) (f : Found) (r : Option (Bor (List (Bor (List ℕ)))))
    → option_map texts_in r ≡ option_map raw_values (matched_of f (codes "paths")) → r ≡ None → AreForSessions cells keys paths (rows_of f) → ⊥
without_paths cells keys paths f r e none asked =
    let missing : None ≡ Some paths = sym (ap (option_map texts_in) none) ∙ (e ∙ (raw_values-rows f (codes "paths") ∙ asked.paths_are)) in
    cc

-- paths that don't come in pairs
pub without_pairs : (cells : ℕ) (keys : KeyOrder) (paths : List (List ℕ)) (f : Found) (r : Option (Bor (List (Bor (List ℕ))))) (found : Bor (List (Bor (List ℕ))))
    → option_map texts_in r ≡ option_map raw_values (matched_of f (codes "paths")) → r ≡ Some found → come_in_pairs (texts_in found) ≡ false
    → AreForSessions cells keys paths (rows_of f) → ⊥
without_pairs cells keys paths f r found e some alone asked =
    let same : Some (texts_in found) ≡ Some paths = sym (paths_found f r found e some) ∙ asked.paths_are in
    let both : false ≡ true = sym alone ∙ (ap come_in_pairs (same_Some _ _ same) ∙ asked.pairs) in
    cc

-- where the parse met `serve`, whatever is asked for is sessions
pub sessions_where_met : (asked : Asked) (met : Option (Text × List Row)) (rows : List Row)
    → option_map (λ subcommand. subcommand.0) met ≡ Some (codes "serve") → option_map (λ subcommand. subcommand.1) met ≡ Some rows → IsAskedBy asked met
    → (cells : ℕ) × ((keys : KeyOrder) × ((paths : List (List ℕ)) × AreForSessions cells keys paths rows))
sessions_where_met asked None rows name same by = absurd (cc)
sessions_where_met (Run command) (Some subcommand) rows name same by = absurd (no_command command (sym name ∙ by.0))
sessions_where_met (Serve cells keys paths) (Some subcommand) rows name same by =
    (cells, (keys, (map string_bytes paths.items, subst (AreForSessions cells keys (map string_bytes paths.items)) (same_Some _ _ same) by.1)))

-- where the parse met `check`, whatever is asked for is a check
pub check_where_met : (asked : Asked) (met : Option (Text × List Row)) (rows : List Row)
    → option_map (λ subcommand. subcommand.0) met ≡ Some (codes "check") → option_map (λ subcommand. subcommand.1) met ≡ Some rows → IsAskedBy asked met
    → (workers : ℕ) × ((keys : KeyOrder) × AreForCheck workers keys rows)
check_where_met asked None rows name same by = absurd (cc)
check_where_met (Run Reads) (Some subcommand) rows name same by = absurd (check_is_no_reads (sym name ∙ by.0))
check_where_met (Run (Edges keys)) (Some subcommand) rows name same by = absurd (check_is_no_edges (sym name ∙ by.0))
check_where_met (Run (Check workers keys)) (Some subcommand) rows name same by =
    (workers, (keys, subst (AreForCheck workers keys) (same_Some _ _ same) by.1))
check_where_met (Serve cells keys paths) (Some subcommand) rows name same by = absurd (check_is_no_serve (sym name ∙ by.0))
