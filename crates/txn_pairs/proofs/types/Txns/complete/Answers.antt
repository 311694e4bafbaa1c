use Rattle.std.proofs.Common.{◌≡◌, ◌<◌, Some, length, set, slice_get, refl, ◌∙◌, ap, subst, sym}
use Rattle.std.proofs.lemmas.Option.{slice_get_read}
use Rattle.txn_pairs.specs.Places.{completed_at}
use Rattle.txn_pairs.proofs.Places.{completed_at-set}
use Rattle.txn_pairs.proofs.types.Txns.complete.Goals as goal

pub returns : goal.returns
returns c =
    let ts = c.self.inside.list.items in
    let within : c.args.place < length ts = subst (λ us. c.args.place < length us) (sym c.self.view_is) c.requires.place in
    let there : slice_get ts c.args.place ≡ Some c.index_mut.result.now = slice_get_read ts (length ts) c.args.place c.index_mut.result.now refl within c.index_mut.ensures.value in
    ap (set ts c.args.place) c.complete.ensures
    ∙ sym (completed_at-set ts c.args.place c.args.index c.args.op c.index_mut.result.now there)
    ∙ ap (completed_at c.args.place c.args.index c.args.op) c.self.view_is
