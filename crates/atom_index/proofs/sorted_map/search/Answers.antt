use Rattle.std.proofs.Common.{rules, of_calls}
use Rattle.std.proofs.lemmas.Fn.{always_returns_same}
use Rattle.atom_index.proofs.Sorted.{searched}
use Rattle.atom_index.proofs.sorted_map.search.Goals as goal

pub returns-clause-found : goal.returns-clause-found
returns-clause-found g c =
    let facts = c.binary_search_by.ensures in
    let position = facts.position (λ e. g.K.Ord.cmp e.0 c.args.key.now) (always_returns_same _ _ _ (λ a r f k. search (rules, of_calls))) in
    (searched g.K.Ord.cmp c.args.entries.now c.args.key.now c.binary_search_by.result c.requires.rise facts.bound position).0

pub returns-clause-absent : goal.returns-clause-absent
returns-clause-absent g c =
    let facts = c.binary_search_by.ensures in
    let position = facts.position (λ e. g.K.Ord.cmp e.0 c.args.key.now) (always_returns_same _ _ _ (λ a r f k. search (rules, of_calls))) in
    (searched g.K.Ord.cmp c.args.entries.now c.args.key.now c.binary_search_by.result c.requires.rise facts.bound position).1
