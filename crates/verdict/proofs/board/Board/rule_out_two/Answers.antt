use Rattle.std.proofs.Common.{subst}
use Rattle.hist_types.specs.Edges.{edges_at}
use Rattle.hist_types.specs.declared.types.Level.TheVariants.{Plain}
use Rattle.hist_types.specs.declared.types.Phenomenon.{Phenomenon}
use Rattle.hist_types.specs.declared.types.Phenomenon.TheVariants.{G0, G1c, GSingle, G2Item}
use Rattle.cycle_find.specs.Found.{NeedsMoreThan}
use Rattle.verdict.specs.Board.{known, IsKnown, IsStillSettled}
use Rattle.verdict.proofs.Knowing.{four, single_needs}
use Rattle.verdict.proofs.board.Board.rule_out_two.Goals as goal

pub returns-in-G0-clause-right : goal.returns-in-G0-clause-right
returns-in-G0-clause-right c = λ keys ts right more.
    four (λ phenomenon about. IsKnown keys phenomenon ts about) _
    (c.raise_needs.ensures.right keys G0 ts (right G0) (subst (λ (p : Phenomenon). NeedsMoreThan 2 p (edges_at keys Plain ts)) c.in-G0.is more)) (right G1c) (right GSingle) (right G2Item)

pub returns-in-G0-clause-still : goal.returns-in-G0-clause-still
returns-in-G0-clause-still c = four (λ phenomenon about. IsStillSettled (known c.args.self.now phenomenon) about) _ c.raise_needs.ensures.still (λ top s. s) (λ top s. s) (λ top s. s)

pub returns-in-G1c-clause-right : goal.returns-in-G1c-clause-right
returns-in-G1c-clause-right c = λ keys ts right more.
    four (λ phenomenon about. IsKnown keys phenomenon ts about) _ (right G0)
    (c.raise_needs-in-G1c.ensures.right keys G1c ts (right G1c) (subst (λ (p : Phenomenon). NeedsMoreThan 2 p (edges_at keys Plain ts)) c.in-G1c.is more)) (right GSingle) (right G2Item)

pub returns-in-G1c-clause-still : goal.returns-in-G1c-clause-still
returns-in-G1c-clause-still c = four (λ phenomenon about. IsStillSettled (known c.args.self.now phenomenon) about) _ (λ top s. s) c.raise_needs-in-G1c.ensures.still (λ top s. s) (λ top s. s)

pub returns-in-GSingle-clause-right : goal.returns-in-GSingle-clause-right
returns-in-GSingle-clause-right c = λ keys ts right more.
    four (λ phenomenon about. IsKnown keys phenomenon ts about) _ (right G0) (right G1c)
    (c.raise_needs-in-GSingle.ensures.right keys GSingle ts (right GSingle) (subst (λ (p : Phenomenon). NeedsMoreThan 2 p (edges_at keys Plain ts)) c.in-GSingle.is more)) (right G2Item)

pub returns-in-GSingle-clause-still : goal.returns-in-GSingle-clause-still
returns-in-GSingle-clause-still c = four (λ phenomenon about. IsStillSettled (known c.args.self.now phenomenon) about) _ (λ top s. s) (λ top s. s) c.raise_needs-in-GSingle.ensures.still (λ top s. s)

pub returns-in-G2Item-clause-right : goal.returns-in-G2Item-clause-right
returns-in-G2Item-clause-right c = λ keys ts right more.
    let item = subst (λ (p : Phenomenon). NeedsMoreThan 2 p (edges_at keys Plain ts)) c.in-G2Item.is more in
    four (λ phenomenon about. IsKnown keys phenomenon ts about) _ (right G0) (right G1c)
    (c.raise_needs-in-G2Item-2.ensures.right keys GSingle ts (right GSingle) (single_needs (edges_at keys Plain ts) item))
    (c.raise_needs-in-G2Item.ensures.right keys G2Item ts (right G2Item) item)

pub returns-in-G2Item-clause-still : goal.returns-in-G2Item-clause-still
returns-in-G2Item-clause-still c = four (λ phenomenon about. IsStillSettled (known c.args.self.now phenomenon) about) _ (λ top s. s) (λ top s. s) c.raise_needs-in-G2Item-2.ensures.still c.raise_needs-in-G2Item.ensures.still
