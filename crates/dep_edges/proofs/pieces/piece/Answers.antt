use Rattle.std.proofs.Common.{◌<◌, ℕ, ◌+◌, List, arith, inl, inr, sym, subst}
use Rattle.std.proofs.lemmas.Option.{slice_get_within, slice_get-get_or, get_or_from_slice_get}
use Rattle.dep_edges.specs.Pieces.{Piece, IsByKeys, IsOfKeys, IsSeen, Sees}
use Rattle.dep_edges.specs.Tables.{version_at}
use Rattle.dep_edges.proofs.Ruled.{one_further}
use Rattle.dep_edges.proofs.pieces.piece.Goals.{then-from-key+then-key-to+in_ok-see, else-from-key, else-from-key-via-then-from-key+else-key-to, else-from-key-via-else-from-key}
use Rattle.dep_edges.proofs.pieces.piece.Goals as goal

pub loop-number-preserved : goal.loop-number-preserved
loop-number-preserved c =
    let h = c.args.history.now in
    let keys : List ℕ = c.args.keys.now in
    let n = c.loop-number.number in
    let of_keys : ℕ → Type 0 = IsOfKeys keys c.args.from c.args.to in
    let sees_each : Piece → ℕ → Type 0 = λ piece m. of_keys m → IsSeen h.txns piece (version_at h.table m) in
    let keeps : Piece → Type 0 = λ piece. IsByKeys h keys c.args.from c.args.to piece × ((m : ℕ) → m < n + 1 → sees_each piece m) in
    let (by, seen) = c.loop-number.invariant in
    elim c.if-from-key.branch [
      | then-from-key+then-key-to+in_ok-see w ↦ (
          let sees : Sees h c.loop-number.piece w.see.new.self n = w.in_ok-see.ensures in
          let here : of_keys n = (_, slice_get-get_or keys n 0 c.loop-number-test.true, w.if-from-key.true, w.if-key-to.true) in
          subst keeps (sym w.piece-is) (
            λ place there. elim (sees.by place there) [
              | inl before ↦ by place before
              | inr new ↦ (n, here, new)
            ],
            one_further (sees_each w.see.new.self) n (λ m below of. sees.kept (version_at h.table m) (seen m below of)) (λ of. sees.seen),
          ))
      | else-from-key w ↦ subst keeps (sym w.piece-is) (
        by,
        one_further (sees_each c.loop-number.piece) n seen (λ (key, at, from, to). elim w.else-from-key.branch [
          | else-from-key-via-then-from-key+else-key-to w' ↦ absurd (omega (arith, w'.if-key-to.false, to, get_or_from_slice_get keys n key 0 at))
          | else-from-key-via-else-from-key w' ↦ absurd (omega (arith, w'.if-from-key.false, from, get_or_from_slice_get keys n key 0 at))
        ]),
      )
    ]

pub returns : goal.returns
returns c =
    let (by, seen) = c.loop-number.invariant in
    record {
      by = by;
      seen = λ n of. let (key, at, from, to) = of in seen n (omega (arith, slice_get_within c.args.keys.now n key at, c.loop-number-test.false)) of;
    }
