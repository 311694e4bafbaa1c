-- Words that ask for nothing.
use Rattle.std.proofs.Common.{◌≡◌, ◌∙◌, ◌<◌, ℕ, List, [], ◌∷◌, codes, false, true, Some, None, refl, sym, ap, arith}
use Rattle.clap.specs.Words.{Row, Text, fault_of, first_of, all_of, subcommand_of}
use Rattle.clap.specs.declared.error.kind.ErrorKind.{ErrorKind}
use Rattle.clap.proofs.OnLiterals.{clap_on_literals}
use Rattle.std.proofs.lemmas.Option.{same_Some}
use Rattle.std.specs.Prelude.{Option, slice_index, unwrap_or, option_and_then}
use Rattle.hist_types.specs.declared.types.KeyOrder.{KeyOrder}
use Rattle.hist_types.specs.declared.types.KeyOrder.TheVariants.{Basic, Sequential}
use Rattle.command_line.specs.Lines.{program_app, word_of, cells_in, workers_in, keys_in, name_of_order, come_in_pairs, HasKeys, AreForCheck, AreForSessions, AskForNothing}
use Rattle.command_line.specs.declared.types.Asked.TheVariants.{Run, Serve}
use Rattle.command_line.specs.declared.types.Command.{Command}
use Rattle.command_line.specs.declared.types.Command.TheVariants.{Reads, Edges, Check}

-- words that the parse refuses
refused : (words : List (List ℕ)) (kind : ErrorKind) → fault_of program_app words ≡ kind ∷ [] → AskForNothing words
refused words kind fault (Run command) asks = let none : kind ∷ [] ≡ [] = sym fault ∙ asks.0 in cc
refused words kind fault (Serve cells keys paths) asks = let none : kind ∷ [] ≡ [] = sym fault ∙ asks.0 in cc

-- the first letter of a name
abbrev initial : Option (List ℕ) → ℕ
initial name = slice_index (unwrap_or name []) 0

differ : (a b : ℕ) → a ≡ b → b < a → ⊥
differ a b same less = absurd (omega arith)

-- `serve` is no command
pub no_command : (command : Command) → Some (codes "serve") ≡ Some (word_of command) → ⊥
no_command Reads e = differ 115 114 (ap initial e) (omega arith)
no_command (Edges keys) e = differ 115 101 (ap initial e) (omega arith)
no_command (Check workers keys) e = differ 115 99 (ap initial e) (omega arith)

-- `check` is none of the other subcommands
pub check_is_no_reads : Some (codes "check") ≡ Some (codes "reads") → ⊥
check_is_no_reads e = differ 114 99 (sym (ap initial e)) (omega arith)

pub check_is_no_edges : Some (codes "check") ≡ Some (codes "edges") → ⊥
check_is_no_edges e = differ 101 99 (sym (ap initial e)) (omega arith)

pub check_is_no_serve : Some (codes "check") ≡ Some (codes "serve") → ⊥
check_is_no_serve e = differ 115 99 (sym (ap initial e)) (omega arith)

-- words that name `serve` and nothing that it can do
no_sessions : (words : List (List ℕ)) (rows : List Row) → subcommand_of program_app words ≡ Some (codes "serve", rows)
    → ((cells : ℕ) (keys : KeyOrder) (paths : List (List ℕ)) → AreForSessions cells keys paths rows → ⊥) → AskForNothing words
no_sessions words rows met none (Run command) asks = no_command command (rw met at asks.1).0
no_sessions words rows met none (Serve cells keys paths) asks = none cells keys _ (rw met at asks.1).1

-- an order of keys that isn't one
no_keys : (keys : KeyOrder) (rows : List Row) → option_and_then keys_in (first_of (codes "keys") rows) ≡ None → HasKeys keys rows → ⊥
no_keys keys rows none asked = let some : None ≡ Some keys = sym none ∙ asked in cc

-- words that name `edges` and no order of keys, or `check` and nothing that it can do
no_edges : (words : List (List ℕ)) (rows : List Row) → subcommand_of program_app words ≡ Some (codes "edges", rows)
    → option_and_then keys_in (first_of (codes "keys") rows) ≡ None → AskForNothing words
no_edges words rows met none (Run Reads) asks = let same = ap initial (rw met at asks.1).0 in absurd (omega (arith, same))
no_edges words rows met none (Run (Edges keys)) asks = no_keys keys rows none (rw met at asks.1).1
no_edges words rows met none (Run (Check workers keys)) asks = let same = ap initial (rw met at asks.1).0 in absurd (omega (arith, same))
no_edges words rows met none (Serve cells keys paths) asks = let same = ap initial (rw met at asks.1).0 in absurd (omega (arith, same))

no_check : (words : List (List ℕ)) (rows : List Row) → subcommand_of program_app words ≡ Some (codes "check", rows)
    → ((workers : ℕ) (keys : KeyOrder) → AreForCheck workers keys rows → ⊥) → AskForNothing words
no_check words rows met none (Run Reads) asks = let same = ap initial (rw met at asks.1).0 in absurd (omega (arith, same))
no_check words rows met none (Run (Edges keys)) asks = let same = ap initial (rw met at asks.1).0 in absurd (omega (arith, same))
no_check words rows met none (Run (Check workers keys)) asks = none workers keys (rw met at asks.1).1
no_check words rows met none (Serve cells keys paths) asks = let same = ap initial (rw met at asks.1).0 in absurd (omega (arith, same))

-- a number of threads that isn't one
no_workers : (workers : ℕ) (keys : KeyOrder) (rows : List Row) → option_and_then workers_in (first_of (codes "workers") rows) ≡ None
    → AreForCheck workers keys rows → ⊥
no_workers workers keys rows none asked = let some : None ≡ Some workers = sym none ∙ asked.workers_are in cc

-- a number of cells that isn't one
no_cells : (cells : ℕ) (keys : KeyOrder) (paths : List (List ℕ)) (rows : List Row) → option_and_then cells_in (first_of (codes "cells") rows) ≡ None
    → AreForSessions cells keys paths rows → ⊥
no_cells cells keys paths rows none asked = let some : None ≡ Some cells = sym none ∙ asked.cells_are in cc

-- paths that aren't two by two
no_pairs : (cells : ℕ) (keys : KeyOrder) (paths given : List (List ℕ)) (rows : List Row) → all_of (codes "paths") rows ≡ Some given → come_in_pairs given ≡ false → AreForSessions cells keys paths rows → ⊥
no_pairs cells keys paths given rows found alone asked =
    let same : given ≡ paths = same_Some _ _ (sym found ∙ asked.paths_are) in
    let both : false ≡ true = sym alone ∙ (ap come_in_pairs same ∙ asked.pairs) in
    cc

-- what was found after the subcommand
abbrev rows_in : Option (Text × List Row) → List Row
rows_in None = []
rows_in (Some met) = met.1

pub zero_cells : (name : List ℕ) → AskForNothing (name ∷ codes "serve" ∷ codes "--cells=0" ∷ codes "in" ∷ codes "out" ∷ [])
unfolding clap_on_literals
zero_cells name = refused (name ∷ codes "serve" ∷ codes "--cells=0" ∷ codes "in" ∷ codes "out" ∷ []) _ refl

pub too_many_cells : (name : List ℕ) → AskForNothing (name ∷ codes "serve" ∷ codes "--cells=1048577" ∷ codes "in" ∷ codes "out" ∷ [])
unfolding clap_on_literals
too_many_cells name = refused (name ∷ codes "serve" ∷ codes "--cells=1048577" ∷ codes "in" ∷ codes "out" ∷ []) _ refl

pub signed_cells : (name : List ℕ) → AskForNothing (name ∷ codes "serve" ∷ codes "--cells=+4" ∷ codes "in" ∷ codes "out" ∷ [])
unfolding clap_on_literals
signed_cells name =
    let words : List (List ℕ) = name ∷ codes "serve" ∷ codes "--cells=+4" ∷ codes "in" ∷ codes "out" ∷ [] in
    let rows : List Row = rows_in (subcommand_of program_app words) in
    no_sessions words rows refl (λ cells keys paths. no_cells cells keys paths rows refl)

pub three_paths : (name : List ℕ) → AskForNothing (name ∷ codes "serve" ∷ codes "a" ∷ codes "b" ∷ codes "c" ∷ [])
unfolding clap_on_literals
three_paths name =
    let words : List (List ℕ) = name ∷ codes "serve" ∷ codes "a" ∷ codes "b" ∷ codes "c" ∷ [] in
    let rows : List Row = rows_in (subcommand_of program_app words) in
    no_sessions words rows refl (λ cells keys paths. no_pairs cells keys paths (codes "a" ∷ codes "b" ∷ codes "c" ∷ []) rows refl refl)

pub one_path : (name : List ℕ) → AskForNothing (name ∷ codes "serve" ∷ codes "in" ∷ [])
unfolding clap_on_literals
one_path name =
    let words : List (List ℕ) = name ∷ codes "serve" ∷ codes "in" ∷ [] in
    let rows : List Row = rows_in (subcommand_of program_app words) in
    no_sessions words rows refl (λ cells keys paths. no_pairs cells keys paths (codes "in" ∷ []) rows refl refl)

pub serve_other_keys : (name : List ℕ) → AskForNothing (name ∷ codes "serve" ∷ codes "--keys=other" ∷ codes "in" ∷ codes "out" ∷ [])
unfolding clap_on_literals
serve_other_keys name =
    let words : List (List ℕ) = name ∷ codes "serve" ∷ codes "--keys=other" ∷ codes "in" ∷ codes "out" ∷ [] in
    let rows : List Row = rows_in (subcommand_of program_app words) in
    no_sessions words rows refl (λ cells keys paths asked. no_keys keys rows refl asked.keys_are)

pub serve_no_keys : (name : List ℕ) → AskForNothing (name ∷ codes "serve" ∷ codes "in" ∷ codes "out" ∷ codes "--keys" ∷ [])
unfolding clap_on_literals
serve_no_keys name = refused (name ∷ codes "serve" ∷ codes "in" ∷ codes "out" ∷ codes "--keys" ∷ []) _ refl

pub edges_other_keys : (name : List ℕ) → AskForNothing (name ∷ codes "edges" ∷ codes "--keys" ∷ codes "other" ∷ [])
unfolding clap_on_literals
edges_other_keys name =
    let words : List (List ℕ) = name ∷ codes "edges" ∷ codes "--keys" ∷ codes "other" ∷ [] in
    let rows : List Row = rows_in (subcommand_of program_app words) in
    no_edges words rows refl refl

pub edges_no_keys : (name : List ℕ) → AskForNothing (name ∷ codes "edges" ∷ codes "--keys" ∷ [])
unfolding clap_on_literals
edges_no_keys name = refused (name ∷ codes "edges" ∷ codes "--keys" ∷ []) _ refl

pub check_other_keys : (name : List ℕ) → AskForNothing (name ∷ codes "check" ∷ codes "--keys" ∷ codes "other" ∷ [])
unfolding clap_on_literals
check_other_keys name =
    let words : List (List ℕ) = name ∷ codes "check" ∷ codes "--keys" ∷ codes "other" ∷ [] in
    let rows : List Row = rows_in (subcommand_of program_app words) in
    no_check words rows refl (λ workers keys asked. no_keys keys rows refl asked.keys_are)

pub check_no_keys : (name : List ℕ) → AskForNothing (name ∷ codes "check" ∷ codes "--keys" ∷ [])
unfolding clap_on_literals
check_no_keys name = refused (name ∷ codes "check" ∷ codes "--keys" ∷ []) _ refl

pub no_workers_at_all : (name : List ℕ) → AskForNothing (name ∷ codes "check" ∷ codes "--workers=0" ∷ [])
unfolding clap_on_literals
no_workers_at_all name = refused (name ∷ codes "check" ∷ codes "--workers=0" ∷ []) _ refl

pub too_many_workers : (name : List ℕ) → AskForNothing (name ∷ codes "check" ∷ codes "--workers=65" ∷ [])
unfolding clap_on_literals
too_many_workers name = refused (name ∷ codes "check" ∷ codes "--workers=65" ∷ []) _ refl

pub signed_workers : (name : List ℕ) → AskForNothing (name ∷ codes "check" ∷ codes "--workers=+4" ∷ [])
unfolding clap_on_literals
signed_workers name =
    let words : List (List ℕ) = name ∷ codes "check" ∷ codes "--workers=+4" ∷ [] in
    let rows : List Row = rows_in (subcommand_of program_app words) in
    no_check words rows refl (λ workers keys. no_workers workers keys rows refl)

pub workers_left_out : (name : List ℕ) → AskForNothing (name ∷ codes "check" ∷ codes "--workers" ∷ [])
unfolding clap_on_literals
workers_left_out name = refused (name ∷ codes "check" ∷ codes "--workers" ∷ []) _ refl

pub edges_with_workers : (name : List ℕ) → AskForNothing (name ∷ codes "edges" ∷ codes "--workers=2" ∷ [])
unfolding clap_on_literals
edges_with_workers name = refused (name ∷ codes "edges" ∷ codes "--workers=2" ∷ []) _ refl

pub reads_with_keys : (keys : KeyOrder) (name : List ℕ) → AskForNothing (name ∷ codes "reads" ∷ codes "--keys" ∷ name_of_order keys ∷ [])
unfolding clap_on_literals
reads_with_keys Basic name = refused (name ∷ codes "reads" ∷ codes "--keys" ∷ codes "basic" ∷ []) _ refl
reads_with_keys Sequential name = refused (name ∷ codes "reads" ∷ codes "--keys" ∷ codes "sequential" ∷ []) _ refl
