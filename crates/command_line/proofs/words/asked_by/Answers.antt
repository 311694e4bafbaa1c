use Rattle.std.proofs.Common.{◌≡◌, codes, Some, option_map, arith}
use Rattle.std.proofs.lemmas.Grind.{common_steps}
use Rattle.clap.specs.Words.{found_of, rows_of, subcommand_rows_of}
use Rattle.command_line.proofs.Found.{sessions_where_met, check_where_met}
use Rattle.command_line.proofs.words.asked_by.Goals as goal

pub returns-in-Some-serve-default-clause-asked : goal.returns-in-Some-serve-default-clause-asked
returns-in-Some-serve-default-clause-asked c = λ asked by.
    let name : option_map (λ subcommand. subcommand.0) (subcommand_rows_of c.args.matches.now) ≡ Some (codes "serve") = grind (arith, common_steps) in
    let rows : option_map (λ subcommand. subcommand.1) (subcommand_rows_of c.args.matches.now) ≡ Some (rows_of (found_of c.in-Some-serve-default.serve.now)) = grind (arith, common_steps) in
    let found = sessions_where_met asked (subcommand_rows_of c.args.matches.now) (rows_of (found_of c.in-Some-serve-default.serve.now)) name rows by in
    c.sessions_asked.ensures.asked found.0 found.1.0 found.1.1.0 found.1.1.1

pub returns-in_err-check_asked-in-Some-check-default-clause-asked : goal.returns-in_err-check_asked-in-Some-check-default-clause-asked
returns-in_err-check_asked-in-Some-check-default-clause-asked c = λ asked by.
    let name : option_map (λ subcommand. subcommand.0) (subcommand_rows_of c.args.matches.now) ≡ Some (codes "check") = grind (arith, common_steps) in
    let rows : option_map (λ subcommand. subcommand.1) (subcommand_rows_of c.args.matches.now) ≡ Some (rows_of (found_of c.in-Some-check-default.check.now)) = grind (arith, common_steps) in
    let found = check_where_met asked (subcommand_rows_of c.args.matches.now) (rows_of (found_of c.in-Some-check-default.check.now)) name rows by in
    absurd (c.in_err-check_asked-in-Some-check-default.ensures.asked found.0 found.1.0 found.1.1)
