use Rattle.op_view.proofs.Spelled.{spelled_token, spelled_atom}
use Rattle.op_view.proofs.atom.Atom.of.Goals as goal

pub invariant_of-result : goal.invariant_of-result
invariant_of-result c =
    let h = c.requires in
    spelled_token h.1.0 c.args.text.now c.known_spelling.result h.1.1 (c.known_spelling.ensures h.1.0 h.0 (h.1.1, h.1.2))

pub returns : goal.returns
returns c atom h =
    spelled_atom h.0 c.args.text.now c.known_spelling.result atom h.1 (c.known_spelling.ensures h.0 atom (h.1, h.2)) h
