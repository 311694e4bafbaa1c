use Rattle.std.proofs.Common.{◌≡◌, ◌∙◌, ℕ, List, Some, None, sym, ap, cond, subst}
use Rattle.indexmap.specs.IndexMap.{IndexMap, get}
use Rattle.atom_index.specs.Lookups.{map_in, AddsNumber}
use Rattle.atom_index.proofs.LeftOut.{without_place}
use Rattle.atom_index.proofs.NumberMaps.{in_neither, hashed_adds, ordered_adds}
use Rattle.atom_index.proofs.number_map.NumberMap.insert_ordered.Goals as goal

pub insert-requires : goal.insert-requires
insert-requires g c =
    let eq = g.K.PartialEq.eq in
    let s = c.self.inside in
    let new : get eq (map_in s.hashed s.ordered) c.args.key ≡ None =
    ap (λ (m : IndexMap _ ℕ _). get eq m c.args.key) c.self.view_is ∙ sym c.get.ensures ∙ without_place c.get.result (sym c.if-is_some.ensures) in
    (in_neither eq s.hashed s.ordered c.args.key new).1

pub returns-in-Err-clause-adds : goal.returns-in-Err-clause-adds
returns-in-Err-clause-adds g c =
    let eq = g.K.PartialEq.eq in
    let s = c.self.inside in
    let updates = rw c.unwrap.ensures at c.insert-in-Err.ensures.updates in
    subst (λ (m : IndexMap _ ℕ _). AddsNumber eq m (map_in c.insert-in-Err.new.self c.insert.new.self) c.args.key c.args.number) c.self.view_is
    (subst (λ (es : List (_ × ℕ)). AddsNumber eq (map_in s.hashed s.ordered) (map_in c.insert-in-Err.new.self es) c.args.key c.args.number) (sym c.in-Err.ensures.err)
    (hashed_adds eq s.hashed c.insert-in-Err.new.self s.ordered c.args.key c.args.number
    (λ q. updates.0 q ∙ ap (λ (p : _ × ℕ). cond (eq p.0 q) (Some p.1) (get eq s.hashed q)) c.in-Err.ensures.value_returned)))

pub returns-in_default-clause-adds : goal.returns-in_default-clause-adds
returns-in_default-clause-adds g c =
    let eq = g.K.PartialEq.eq in
    let s = c.self.inside in
    let new : get eq (map_in s.hashed s.ordered) c.args.key ≡ None =
    ap (λ (m : IndexMap _ ℕ _). get eq m c.args.key) c.self.view_is ∙ sym c.get.ensures ∙ without_place c.get.result (sym c.if-is_some.ensures) in
    subst (λ (m : IndexMap _ ℕ _). AddsNumber eq m (map_in s.hashed c.insert.new.self) c.args.key c.args.number) c.self.view_is
    (ordered_adds eq g.met.K.Eq.laws s.hashed s.ordered c.insert.new.self c.args.key c.args.number (in_neither eq s.hashed s.ordered c.args.key new).0 c.in_default.ensures.ok)
