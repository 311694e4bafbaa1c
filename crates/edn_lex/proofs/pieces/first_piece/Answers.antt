use Rattle.std.proofs.Common.{arith, ◌∙◌, sym}
use Rattle.std.proofs.lemmas.Bool.Decides.{nat_tests}
use Rattle.edn_lex.proofs.Fronts.{front-run, run_len-some}
use Rattle.edn_lex.proofs.pieces.first_piece.Goals as goal

pub run_piece-found-requires : goal.run_piece-found-requires
run_piece-found-requires c =
    run_len-some c.args.text.now c.requires.nonempty c.requires.unblank (grind (arith, nat_tests)) (grind (arith, nat_tests)) (λ e. omega arith) (λ e. omega arith)

pub returns-in_default-clause-front : goal.returns-in_default-clause-front
returns-in_default-clause-front c =
    front-run c.args.text.now (omega arith) (λ e. omega arith) (λ e. omega arith) ∙ sym c.run_piece-found.ensures.front
