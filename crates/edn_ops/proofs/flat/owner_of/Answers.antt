use Rattle.std.proofs.Common.{true, ◌≡◌, List, ℕ, sym, ◌∙◌, subst}
use Rattle.hist_types.specs.Tokens.{is_int}
use Rattle.edn_ops.proofs.FlatMaps.{process_says}
use Rattle.edn_ops.proofs.flat.owner_of.Goals as goal

pub process_of-requires : goal.process_of-requires
process_of-requires c = subst (λ (bytes : List ℕ). is_int bytes ≡ true) (sym c.bytes_of.ensures) (c.in-Some.ensures.within c.args.text.now c.requires).int

pub returns-in_ok-process-in-Some : goal.returns-in_ok-process-in-Some
returns-in_ok-process-in-Some c =
    process_says c.args.text.now c.bytes_of.result.now c.args.value c.in-Some.number c.in_ok-process-in-Some.process (c.in-Some.ensures.number c.args.text.now) c.bytes_of.ensures (sym c.in_ok-process-in-Some.was ∙ c.process_of.ensures)

pub returns-in-None : goal.returns-in-None
returns-in-None c = c.in-None.ensures.number c.args.text.now
