use Rattle.std.proofs.Common.{◌≡◌, ◌<◌, ◌∷◌, [], ◌++◌, ◌∙◌, List, length, ap, arith}
use Rattle.std.specs.Prelude.{Vec}
use Rattle.std.specs.Global.{Global}
use Rattle.hist_types.specs.declared.limits.TheConstants.{MAX_MICRO_OPS}
use Rattle.edn_ops.specs.declared.types.MopShape.{MopShape}
use Rattle.edn_ops.specs.Flat.{shape_of}
use Rattle.edn_ops.proofs.FlatMaps.{mop_ahead}
use Rattle.edn_ops.proofs.flat_mops.push_mop.Goals as goal
use Rattle.edn_ops.proofs.flat_mops.push_mop.Goals.{then-len-capacity+in_ok-reserve, else-len-capacity}

pub returns-clause-reads : goal.returns-clause-reads
returns-clause-reads c text offset gives =
    let found = c.in-Some in
    let shape = shape_of found.is_write found.key found.value in
    let room : length c.args.mops.now.items < MAX_MICRO_OPS = omega (arith, c.args.mops.now.ok.0, c.len.ensures, c.if-len-ge-MAX_MICRO_OPS.false) in
    let kept : c.if-len-capacity.mops.items ≡ c.args.mops.now.items =
    elim c.if-len-capacity.branch [
      | then-len-capacity+in_ok-reserve w ↦ ap (λ (v : Vec MopShape Global). v.items) w.mops-is ∙ w.reserve.ensures.items
      | else-len-capacity w ↦ ap (λ (v : Vec MopShape Global). v.items) w.mops-is
    ] in
    mop_ahead text offset c.args.mops.now.items shape found.end c.push_reserved.new.self.items (rw found.is at gives) room
    (c.push_reserved.ensures.items ∙ ap (λ (xs : List MopShape). xs ++ shape ∷ []) kept)
