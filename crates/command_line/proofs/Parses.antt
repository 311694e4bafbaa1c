-- What the parse takes.
use Rattle.std.proofs.Common.{◌≡◌, ℕ, List, [], ◌∷◌, ◌++◌, refl, sym, subst, codes, true, ◌⊎◌, inl, inr}
use Rattle.std.specs.Prelude.{◌≢◌}
use Rattle.clap.specs.Words.{App, is_simple, is_simple_and_free, subcommand_rows_of, HasMatchesOf, HasKind, IsAmong, Kinds, fault_of, kind_of}
use Rattle.clap.specs.declared.error.Error.{Error}
use Rattle.clap.specs.declared.error.kind.ErrorKind.{ErrorKind}
use Rattle.clap.specs.declared.error.kind.ErrorKind.TheVariants.{OutOfMemory, DisplayHelp}
use Rattle.clap.specs.declared.parser.matches.ArgMatches.{ArgMatches}
use Rattle.clap.proofs.OnLiterals.{clap_on_literals}
use Rattle.hist_types.specs.declared.types.KeyOrder.{KeyOrder}
use Rattle.hist_types.specs.declared.types.KeyOrder.TheVariants.{Basic, Sequential}
use Rattle.command_line.specs.Lines.{word_of, name_of_order, program_app, IsAskedBy, AskToServe, AskFor, AskForHelp, MayAskForHelp}
use Rattle.command_line.specs.declared.types.Asked.{Asked}
use Rattle.command_line.specs.declared.types.Asked.TheVariants.{Run}
use Rattle.command_line.specs.declared.types.Command.{Command}
use Rattle.command_line.specs.declared.types.Command.TheVariants.{Reads, Edges, Check}

-- clap's definitions speak of the program's lines
program_is_simple : is_simple program_app ≡ true
unfolding clap_on_literals
program_is_simple = refl

program_is_free : is_simple_and_free program_app ≡ true
unfolding clap_on_literals
program_is_free = refl

-- a name and a command's word ask for the command, with basic keys
pub commands_are_asked :
    (name : List ℕ)
    → AskFor (Run Reads) (name ∷ codes "reads" ∷ [])
    × AskFor (Run (Edges Basic)) (name ∷ codes "edges" ∷ [])
    × AskFor (Run (Check 1 Basic)) (name ∷ codes "check" ∷ [])
unfolding clap_on_literals
commands_are_asked name = ((refl, (refl, tt)), (refl, (refl, refl)), (refl, (refl, record { workers_are = refl; keys_are = refl })))

-- `--keys` asks for keys of the order that it names
pub edges_with_keys : (keys : KeyOrder) (name : List ℕ) → AskFor (Run (Edges keys)) (name ∷ codes "edges" ∷ codes "--keys" ∷ name_of_order keys ∷ [])
unfolding clap_on_literals
edges_with_keys Basic name = (refl, (refl, refl))
edges_with_keys Sequential name = (refl, (refl, refl))

pub edges_with_keys_joined : (keys : KeyOrder) (name : List ℕ) → AskFor (Run (Edges keys)) (name ∷ codes "edges" ∷ (codes "--keys=" ++ name_of_order keys) ∷ [])
unfolding clap_on_literals
edges_with_keys_joined Basic name = (refl, (refl, refl))
edges_with_keys_joined Sequential name = (refl, (refl, refl))

pub check_with_keys : (keys : KeyOrder) (name : List ℕ) → AskFor (Run (Check 1 keys)) (name ∷ codes "check" ∷ codes "--keys" ∷ name_of_order keys ∷ [])
unfolding clap_on_literals
check_with_keys Basic name = (refl, (refl, record { workers_are = refl; keys_are = refl }))
check_with_keys Sequential name = (refl, (refl, record { workers_are = refl; keys_are = refl }))

pub check_with_keys_joined : (keys : KeyOrder) (name : List ℕ) → AskFor (Run (Check 1 keys)) (name ∷ codes "check" ∷ (codes "--keys=" ++ name_of_order keys) ∷ [])
unfolding clap_on_literals
check_with_keys_joined Basic name = (refl, (refl, record { workers_are = refl; keys_are = refl }))
check_with_keys_joined Sequential name = (refl, (refl, record { workers_are = refl; keys_are = refl }))

-- `--workers` asks for so many threads
pub check_with_workers :
    (name : List ℕ)
    → AskFor (Run (Check 2 Basic)) (name ∷ codes "check" ∷ codes "--workers" ∷ codes "2" ∷ [])
    × AskFor (Run (Check 64 Basic)) (name ∷ codes "check" ∷ codes "--workers=64" ∷ [])
    × AskFor (Run (Check 2 Sequential)) (name ∷ codes "check" ∷ codes "--keys" ∷ codes "sequential" ∷ codes "--workers" ∷ codes "2" ∷ [])
unfolding clap_on_literals
check_with_workers name = (
  (refl, (refl, record { workers_are = refl; keys_are = refl })),
  (refl, (refl, record { workers_are = refl; keys_are = refl })),
  (refl, (refl, record { workers_are = refl; keys_are = refl })),
)

-- a name, `serve` and two paths ask for a session, at a journal of so many cells as are asked for
pub sessions_are_asked :
    (name : List ℕ)
    → AskToServe 65536 Basic (codes "in" ∷ codes "out" ∷ []) (name ∷ codes "serve" ∷ codes "in" ∷ codes "out" ∷ [])
    × AskToServe 4 Basic (codes "in" ∷ codes "out" ∷ []) (name ∷ codes "serve" ∷ codes "--cells" ∷ codes "4" ∷ codes "in" ∷ codes "out" ∷ [])
    × AskToServe 1048576 Basic (codes "a" ∷ codes "b" ∷ codes "c" ∷ codes "d" ∷ []) (name ∷ codes "serve" ∷ codes "a" ∷ codes "b" ∷ codes "c" ∷ codes "d" ∷ codes "--cells=1048576" ∷ [])
unfolding clap_on_literals
sessions_are_asked name = (
  (refl, (refl, record { cells_are = refl; keys_are = refl; paths_are = refl; pairs = refl })),
  (refl, (refl, record { cells_are = refl; keys_are = refl; paths_are = refl; pairs = refl })),
  (refl, (refl, record { cells_are = refl; keys_are = refl; paths_are = refl; pairs = refl })),
)

-- and with keys of the order that is asked for
pub sessions_with_keys : (keys : KeyOrder) (name : List ℕ)
    → AskToServe 65536 keys (codes "in" ∷ codes "out" ∷ []) (name ∷ codes "serve" ∷ codes "--keys" ∷ name_of_order keys ∷ codes "in" ∷ codes "out" ∷ [])
unfolding clap_on_literals
sessions_with_keys Basic name = (refl, (refl, record { cells_are = refl; keys_are = refl; paths_are = refl; pairs = refl }))
sessions_with_keys Sequential name = (refl, (refl, record { cells_are = refl; keys_are = refl; paths_are = refl; pairs = refl }))

pub sessions_with_keys_after : (keys : KeyOrder) (name : List ℕ)
    → AskToServe 65536 keys (codes "in" ∷ codes "out" ∷ []) (name ∷ codes "serve" ∷ codes "in" ∷ codes "out" ∷ codes "--keys" ∷ name_of_order keys ∷ [])
unfolding clap_on_literals
sessions_with_keys_after Basic name = (refl, (refl, record { cells_are = refl; keys_are = refl; paths_are = refl; pairs = refl }))
sessions_with_keys_after Sequential name = (refl, (refl, record { cells_are = refl; keys_are = refl; paths_are = refl; pairs = refl }))

pub sessions_with_keys_joined : (keys : KeyOrder) (name : List ℕ)
    → AskToServe 4 keys (codes "in" ∷ codes "out" ∷ []) (name ∷ codes "serve" ∷ codes "--cells=4" ∷ (codes "--keys=" ++ name_of_order keys) ∷ codes "in" ∷ codes "out" ∷ [])
unfolding clap_on_literals
sessions_with_keys_joined Basic name = (refl, (refl, record { cells_are = refl; keys_are = refl; paths_are = refl; pairs = refl }))
sessions_with_keys_joined Sequential name = (refl, (refl, record { cells_are = refl; keys_are = refl; paths_are = refl; pairs = refl }))

-- a name and `--help` ask for help
pub help_is_asked : (name : List ℕ) → AskForHelp (name ∷ codes "--help" ∷ [])
unfolding clap_on_literals
help_is_asked name = refl

-- a name, a command's word and `--help` ask for help
pub help_with_a_command : (command : Command) (name : List ℕ) → AskForHelp (name ∷ word_of command ∷ codes "--help" ∷ [])
unfolding clap_on_literals
help_with_a_command Reads name = refl
help_with_a_command (Edges keys) name = refl
help_with_a_command (Check workers keys) name = refl

-- what the matches hold of a subcommand is what the words ask for
pub asked_in_matches :
    (asked : Asked) (app : App) (words : List (List ℕ)) (m : ArgMatches)
    → app ≡ program_app
    → HasMatchesOf app words m
    → (is_simple_and_free app ≡ true → fault_of app words ≡ [])
    → IsAskedBy asked (subcommand_rows_of m)
    → AskFor asked words
asked_in_matches asked app words m e matches no_fault by =
    let has : HasMatchesOf program_app words m = subst (λ (a : App). HasMatchesOf a words m) e matches in
    let faultless : is_simple_and_free program_app ≡ true → fault_of program_app words ≡ [] =
    subst (λ (a : App). is_simple_and_free a ≡ true → fault_of a words ≡ []) e no_fault in
    (faultless program_is_free, subst (IsAskedBy asked) (has program_is_simple).1 by)

-- and the other way round
pub matches_of_asked :
    (asked : Asked) (app : App) (words : List (List ℕ)) (m : ArgMatches)
    → app ≡ program_app
    → HasMatchesOf app words m
    → AskFor asked words
    → IsAskedBy asked (subcommand_rows_of m)
matches_of_asked asked app words m e matches asks =
    let has : HasMatchesOf program_app words m = subst (λ (a : App). HasMatchesOf a words m) e matches in
    subst (IsAskedBy asked) (sym (has program_is_simple).1) asks.1

-- words that ask for something fail only for want of memory
pub fails_for_memory :
    (asked : Asked) (app : App) (words : List (List ℕ)) (error : Error)
    → app ≡ program_app
    → (is_simple_and_free app ≡ true → HasKind (fault_of app words) error)
    → AskFor asked words
    → kind_of error ≡ OutOfMemory
fails_for_memory asked app words error e fails asks =
    let has : is_simple_and_free program_app ≡ true → HasKind (fault_of program_app words) error =
    subst (λ (a : App). is_simple_and_free a ≡ true → HasKind (fault_of a words) error) e fails in
    memory_alone _ asks.0 (has program_is_free)
  where
    memory_alone : (kinds : Kinds) → kinds ≡ [] → HasKind kinds error → kind_of error ≡ OutOfMemory
    memory_alone [] e (inl memory) = memory
    memory_alone [] e (inr among) = absurd among
    memory_alone (kind ∷ kinds) e has = absurd cc

-- words that ask for help fail by that request, or for want of memory
pub fails_by_request : (app : App) (words : List (List ℕ)) (error : Error) → app ≡ program_app
    → (is_simple_and_free app ≡ true → HasKind (fault_of app words) error) → AskForHelp words
    → (kind_of error ≡ OutOfMemory) ⊎ (kind_of error ≡ DisplayHelp)
fails_by_request app words error e fails asked =
    let has : is_simple_and_free program_app ≡ true → HasKind (fault_of program_app words) error =
    subst (λ (a : App). is_simple_and_free a ≡ true → HasKind (fault_of a words) error) e fails in
    by_kind (rw asked at (has program_is_free))
  where
    by_kind : HasKind (DisplayHelp ∷ []) error → (kind_of error ≡ OutOfMemory) ⊎ (kind_of error ≡ DisplayHelp)
    by_kind (inl memory) = inl memory
    by_kind (inr (inl help)) = inr help
    by_kind (inr (inr none)) = absurd none

-- words that ask for help have matches only where the parse finds no fault in them
pub no_matches_for_help : (app : App) (words : List (List ℕ)) → app ≡ program_app
    → (is_simple_and_free app ≡ true → fault_of app words ≡ []) → AskForHelp words → ⊥
no_matches_for_help app words e faultless asked =
    let none : is_simple_and_free program_app ≡ true → fault_of program_app words ≡ [] =
    subst (λ (a : App). is_simple_and_free a ≡ true → fault_of a words ≡ []) e faultless in
    both _ asked (none program_is_free)
  where
    both : (kinds : Kinds) → kinds ≡ DisplayHelp ∷ [] → kinds ≡ [] → ⊥
    both kinds e f = absurd cc

-- words that don't ask for help fail by no such request
pub fails_by_no_request : (app : App) (words : List (List ℕ)) (error : Error) → app ≡ program_app
    → (is_simple_and_free app ≡ true → HasKind (fault_of app words) error) → (MayAskForHelp words → ⊥) → kind_of error ≢ DisplayHelp
fails_by_no_request app words error e fails unasked help =
    let has : is_simple_and_free program_app ≡ true → HasKind (fault_of program_app words) error =
    subst (λ (a : App). is_simple_and_free a ≡ true → HasKind (fault_of a words) error) e fails in
    by_kind (has program_is_free)
  where
    both : (kind : ErrorKind) → kind ≡ OutOfMemory → kind ≡ DisplayHelp → ⊥
    both kind e f = absurd cc

    by_kind : HasKind (fault_of program_app words) error → ⊥
    by_kind (inl memory) = both _ memory help
    by_kind (inr among) = unasked (subst (λ kind. IsAmong kind (fault_of program_app words)) help among)
