use Rattle.std.proofs.Common.{[], ◌∷◌, arith, inl, inr, refl, subst}
use Rattle.hist_types.proofs.Members.{Contains_from_in}
use Rattle.dep_edges.specs.Pieces.{IsOf, IsSeen, Sees}
use Rattle.dep_edges.specs.Tables.{version_at}
use Rattle.dep_edges.proofs.Lists.{all_in}
use Rattle.dep_edges.proofs.Ruled.{one_further}
use Rattle.dep_edges.proofs.pieces.whole.Goals as goal

pub loop-number-preserved : goal.loop-number-preserved
loop-number-preserved c =
    let h = c.args.history.now in
    let sees : Sees h c.loop-number.piece c.see.new.self c.loop-number.number = c.in_ok-see.ensures in
    let (of, seen) = c.loop-number.invariant in (
      λ place there. elim (sees.by place there) [
        | inl before ↦ of place before
        | inr here ↦ (c.loop-number.number, omega (arith, c.loop-number-test.true, c.versions-number-end.ensures.value), here)
      ],
      one_further (λ n. IsSeen h.txns c.see.new.self (version_at h.table n)) c.loop-number.number (λ n below. sees.kept (version_at h.table n) (seen n below)) sees.seen,
    )

pub returns : goal.returns
returns c =
    let h = c.args.history.now in
    let piece = c.loop-number.piece in
    let (of, seen) = c.loop-number.invariant in
    record {
      of = all_in (IsOf h) (piece ∷ []) (λ p i. elim i [ inl e ↦ subst (IsOf h) e of | inr none ↦ elim none [ ] ]);
      seen = λ n within. (piece, Contains_from_in piece (piece ∷ []) (inl refl), seen n (omega (arith, within, c.loop-number-test.false, c.versions-number-end.ensures.value)));
    }
