use Rattle.std.proofs.Common.{◌<◌, ◌∙◌, ◌++◌, ◌∷◌, [], List, length, take, sym, ap, subst}
use Rattle.std.proofs.lemmas.List.{take_more}
use Rattle.std.proofs.lemmas.Option.{get_or_from_slice_get}
use Rattle.hist_types.specs.Atoms.{Atom}
use Rattle.key_versions.proofs.numbering.atoms_of.Goals as goal

pub loop-number-preserved : goal.loop-number-preserved
loop-number-preserved g c =
    let i = c.loop-number.number in
    let xs = c.args.index.now.items in
    let atom = c.atom.result in
    let below : i < length xs = subst (λ n. i < n) c.len-number-end.ensures c.loop-number-test.true in
    c.in_ok-push.ensures.items ∙ ap (λ (ys : List Atom). ys ++ atom ∷ []) c.loop-number.invariant
    ∙ sym (take_more xs i atom below ∙ ap (λ (a : Atom). take i xs ++ a ∷ []) (get_or_from_slice_get xs i atom atom c.atom.ensures.item))
