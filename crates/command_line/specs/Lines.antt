-- The command lines that the program takes, and what every other one gets.
use Rattle.std.specs.Prelude.{◌≡◌, ◌==◌, ℕ, ◌/◌, ◌%◌, ◌^◌, List, [], ◌∷◌, ◌++◌, length, map, codes, Bool, true, false, not, ◌&&◌, nat_lt, nat_le, if◌then◌else◌, Option, Some, None, IfSome, option_map, option_and_then, string_bytes}
use Rattle.std.specs.Char.{is_ascii_digit}
use Rattle.std.specs.List.{before_first, list_all}
use Rattle.std.specs.Str.{bytes_eq}
use Rattle.std.specs.Str.Parse.{digits_value}
use Rattle.clap.specs.Lexer.{usize_max}
use Rattle.clap.specs.Words.{App, Row, Rule, Text, app_of, new_app, new_rule, with_rule, with_subcommand, subcommand_of, fault_of, first_of, all_of, IsAmong}
use Rattle.clap.specs.declared.builder.command.Command.{Command as AClapCommand}
use Rattle.clap.specs.declared.builder.command.Command.TheViews.{out-Command}
use Rattle.clap.specs.declared.builder.value_parser.ValueParser.TheVariants.{Unsigned}
use Rattle.hist_types.specs.declared.limits.TheConstants.{MAX_CELLS, MAX_WORKERS}
use Rattle.hist_types.specs.declared.types.KeyOrder.{KeyOrder}
use Rattle.hist_types.specs.declared.types.KeyOrder.TheVariants.{Basic, Sequential}
use Rattle.clap.specs.declared.error.kind.ErrorKind.TheVariants.{DisplayHelp}
use Rattle.command_line.specs.declared.types.Asked.{Asked}
use Rattle.command_line.specs.declared.types.Asked.TheVariants.{Run, Serve}
use Rattle.command_line.specs.declared.types.LineFault.{LineFault}
use Rattle.command_line.specs.declared.types.LineFault.TheVariants.{Usage, Memory}
use Rattle.command_line.specs.declared.words.TheConstants.{HELP, SEE_HELP, SEE_SERVE}
use Rattle.command_line.specs.declared.types.Command.{Command}
use Rattle.command_line.specs.declared.types.Command.TheVariants.{Reads, Edges, Check}

-- a command of which one of the subcommands has to be named
abbrev pub with_required : App → App
with_required a = record a { top = record a.top { subcommand_required = true } }

-- the subcommand of a command
abbrev pub word_of : Command → List ℕ
word_of Reads = codes "reads"
word_of (Edges keys) = codes "edges"
word_of (Check workers keys) = codes "check"

-- ---- keys

-- `--keys ORDER`, basic if it is not given
abbrev pub keys_rule : Rule
keys_rule =
    record (new_rule (codes "keys")) {
      long = Some (codes "keys");
      value_names = 1;
      defaults = codes "basic" ∷ [];
    }

-- the word for an order of keys
abbrev pub name_of_order : KeyOrder → List ℕ
name_of_order Basic = codes "basic"
name_of_order Sequential = codes "sequential"

-- the order of keys that this is the word for
abbrev pub keys_in : List ℕ → Option KeyOrder
keys_in text =
    if bytes_eq text (name_of_order Basic) then Some Basic
    else (if bytes_eq text (name_of_order Sequential) then Some Sequential else None)

-- what the parse found after a subcommand is the word for this order of keys
abbrev pub HasKeys : (keys : KeyOrder) → List Row → Type 0
HasKeys keys rows = option_and_then keys_in (first_of (codes "keys") rows) ≡ Some keys

-- ---- check

-- the number that digits write, if it is from 1 to this one
abbrev pub number_to : (most : ℕ) → List ℕ → Option ℕ
number_to most text =
    let n = digits_value 10 text in
    if list_all is_ascii_digit text && nat_lt 0 n && nat_le n most then Some n else None

-- `--workers N`, a number from 1 to 64, 1 if it is not given
abbrev pub workers_rule : Rule
workers_rule =
    record (new_rule (codes "workers")) {
      long = Some (codes "workers");
      value_names = 1;
      defaults = codes "1" ∷ [];
      parser = Some (Unsigned 1 MAX_WORKERS);
    }

-- the number of threads that digits write, if a history may have so many
abbrev pub workers_in : List ℕ → Option ℕ
workers_in text = number_to MAX_WORKERS text

-- what the parse found after `check` is a number of threads and the word for an order of keys
pub record AreForCheck (workers : ℕ) (keys : KeyOrder) (rows : List Row) : Type 0 where
  pub workers_are : option_and_then workers_in (first_of (codes "workers") rows) ≡ Some workers
  pub keys_are : HasKeys keys rows

-- ---- serve

-- `--cells N`, a number from 1 to the most cells that a row may have
abbrev pub cells_rule : Rule
cells_rule =
    record (new_rule (codes "cells")) {
      long = Some (codes "cells");
      value_names = 1;
      defaults = codes "65536" ∷ [];
      parser = Some (Unsigned 1 MAX_CELLS);
    }

-- two paths or more
abbrev pub paths_rule : Rule
paths_rule =
    record (new_rule (codes "paths")) {
      value_names = 1;
      range = Some (record { start_inclusive = 2; end_inclusive = usize_max });
      required = true;
    }

abbrev pub serve_app : App
serve_app =
    with_rule (with_rule (with_rule (new_app (codes "serve")) cells_rule) keys_rule) paths_rule

-- the number of cells that digits write, if a row may have so many
abbrev pub cells_in : List ℕ → Option ℕ
cells_in text = number_to MAX_CELLS text

-- the paths are two by two, and fewer than 2 ^ 32 pairs
abbrev pub come_in_pairs : List (List ℕ) → Bool
come_in_pairs paths =
    (length paths % 2 == 0) && nat_lt 0 (length paths) && nat_lt (length paths / 2) (2 ^ 32)

-- what the parse found after `serve` is a number of cells, the word for an order of keys, and these
-- paths in pairs
pub record AreForSessions (cells : ℕ) (keys : KeyOrder) (paths : List (List ℕ)) (rows : List Row)
    : Type 0 where
  pub cells_are : option_and_then cells_in (first_of (codes "cells") rows) ≡ Some cells
  pub keys_are : HasKeys keys rows
  pub paths_are : all_of (codes "paths") rows ≡ Some paths
  pub pairs : come_in_pairs paths ≡ true

-- it asks for a session for each of these pairs
abbrev pub AsksForSessions : Asked → List Row → Type 0
AsksForSessions (Serve cells keys paths) rows =
    AreForSessions cells keys (map string_bytes paths.items) rows
AsksForSessions (Run command) rows = ⊥

-- ---- lines

-- a subcommand of this name with `--keys`
abbrev pub app_with_keys : (name : List ℕ) → App
app_with_keys name = with_rule (new_app name) keys_rule

abbrev pub check_app : App
check_app = with_rule (with_rule (new_app (codes "check")) workers_rule) keys_rule

-- a subcommand of this shape, with no global argument
abbrev pub IsSubcommand : App → AClapCommand → Type 0
IsSubcommand app command =
    (app_of command ≡ app) × ((out-Command command).has_globals ≡ false)

-- a subcommand for each command, and one to serve
abbrev pub program_app : App
program_app =
    let jepcheck = with_required (new_app (codes "jepcheck")) in
    let reads = with_subcommand jepcheck (new_app (codes "reads")).top in
    let edges = with_subcommand reads (app_with_keys (codes "edges")).top in
    let check = with_subcommand edges check_app.top in
    with_subcommand check serve_app.top

-- the parse met this subcommand
abbrev pub IsMet : (name : List ℕ) → Option (Text × List Row) → Type 0
IsMet name met = option_map (λ subcommand. subcommand.0) met ≡ Some name

-- what the parse found after a command are its options
abbrev pub HasOptionsOf : Command → List Row → Type 0
HasOptionsOf Reads rows = Unit {0}
HasOptionsOf (Edges keys) rows = HasKeys keys rows
HasOptionsOf (Check workers keys) rows = AreForCheck workers keys rows

-- it asks for a check with these options
abbrev pub AsksForCheck : Command → List Row → Type 0
AsksForCheck Reads rows = ⊥
AsksForCheck (Edges keys) rows = ⊥
AsksForCheck (Check workers keys) rows = AreForCheck workers keys rows

-- what it met asks for this command
abbrev pub IsRun : Command → Option (Text × List Row) → Type 0
IsRun command met =
    IsMet (word_of command) met × IfSome met (λ subcommand. HasOptionsOf command subcommand.1)

-- what it met asks for a session for each pair of these paths
abbrev pub IsServe
    : (cells : ℕ) → (keys : KeyOrder) → (paths : List (List ℕ)) → Option (Text × List Row) → Type 0
IsServe cells keys paths met =
    IsMet (codes "serve") met
    × IfSome met (λ subcommand. AreForSessions cells keys paths subcommand.1)

-- what it met asks for this
abbrev pub IsAskedBy : Asked → Option (Text × List Row) → Type 0
IsAskedBy (Run command) met = IsRun command met
IsAskedBy (Serve cells keys paths) met = IsServe cells keys (map string_bytes paths.items) met

-- by the definitions of the library that parses the words nothing is at fault in them
abbrev pub AreFaultless : List (List ℕ) → Type 0
AreFaultless words = fault_of program_app words ≡ []

-- the words of a command line ask for a session for each pair of these paths
abbrev pub AskToServe
    : (cells : ℕ) → (keys : KeyOrder) → (paths : List (List ℕ)) → (words : List (List ℕ)) → Type 0
AskToServe cells keys paths words =
    AreFaultless words × IsServe cells keys paths (subcommand_of program_app words)

-- what the words of a command line ask for
abbrev pub AskFor : Asked → (words : List (List ℕ)) → Type 0
AskFor asked words = AreFaultless words × IsAskedBy asked (subcommand_of program_app words)

abbrev pub AskForNothing : List (List ℕ) → Type 0
AskForNothing words = (asked : Asked) → ¬ AskFor asked words

-- by the definitions of the library that parses the words they ask for help, alone
abbrev pub AskForHelp : List (List ℕ) → Type 0
AskForHelp words = fault_of program_app words ≡ DisplayHelp ∷ []

-- after the program's name, whatever that is, these words ask for help
abbrev pub GetHelp : List (List ℕ) → Type 0
GetHelp words = (name : List ℕ) → AskForHelp (name ∷ words)

-- a request for help is among what the words may be refused for
abbrev pub MayAskForHelp : List (List ℕ) → Type 0
MayAskForHelp words = IsAmong DisplayHelp (fault_of program_app words)

-- a text up to its first line feed
abbrev pub first_line : List ℕ → List ℕ
first_line text = before_first (λ b. b == 10) text

-- no line feed is in it
abbrev pub IsOneLine : List ℕ → Type 0
IsOneLine message = list_all (λ b. not (b == 10)) message ≡ true

-- the word after the program's name is `serve`
abbrev pub names_serve : (words : List (List ℕ)) → Bool
names_serve [] = false
names_serve (program ∷ []) = false
names_serve (program ∷ command ∷ rest) = bytes_eq command (codes "serve")

-- the last line of what is said of faulty words: how the command is used that they name, and where
-- help is
abbrev pub closing_line : (words : List (List ℕ)) → List ℕ
closing_line words = if names_serve words then SEE_SERVE.now else SEE_HELP.now

-- one line, and a closing line
pub record IsComplaint (closing : List ℕ) (text : List ℕ) : Type 0 where
  pub message : List ℕ
  pub one_line : IsOneLine message
  pub text_is : text ≡ message ++ (codes "\n" ++ closing)

-- what is said of a line that asks for help: the help
abbrev pub Helps : LineFault → Type 0
Helps (Usage text) = string_bytes text ≡ HELP.now
Helps Memory = Unit {0}

-- what is said of every other faulty line, with this closing line
abbrev pub SaysWhatIsWrong : (closing : List ℕ) → LineFault → Type 0
SaysWhatIsWrong closing (Usage text) = IsComplaint closing (string_bytes text)
SaysWhatIsWrong closing Memory = Unit {0}
