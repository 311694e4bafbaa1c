use Rattle.std.proofs.Common.{arith, ◌∙◌, sym}
use Rattle.std.proofs.lemmas.Grind.{common_steps, get_or_after_one}
use Rattle.edn_lex.proofs.Fronts.{hash_front-run}
use Rattle.edn_lex.proofs.pieces.hash_piece.Goals as goal

pub returns-in-Some-eq35-clause-front : goal.returns-in-Some-eq35-clause-front
returns-in-Some-eq35-clause-front c =
    c.run_piece.ensures.front
    ∙ sym (hash_front-run c.args.text.now c.requires.nonempty c.requires.hash (grind (arith, common_steps, get_or_after_one)))
