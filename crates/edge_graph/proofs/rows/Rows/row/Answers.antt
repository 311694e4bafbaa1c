use Rattle.std.proofs.Common.{◌≡◌, ◌∙◌, ℕ, List, length, get_or, ap, arith}
use Rattle.std.specs.Prelude.{slice_range}
use Rattle.std.proofs.lemmas.List.{get_or_default}
use Rattle.edge_graph.specs.FlatRows.{row_at, led_to}
use Rattle.edge_graph.specs.declared.types.Dependencies.{Dependencies}
use Rattle.edge_graph.proofs.Parts.{IsRead, vertices, of_txn, of_version, of_nothing}
use Rattle.edge_graph.proofs.rows.Rows.row.Goals as goal
use Rattle.edge_graph.proofs.rows.Rows.row.Goals.{After-index, After-index-2, then-vertex-self, else-vertex-self+then-followed, else-vertex-self+else-followed}

pub overflow_add-part : goal.overflow_add-part
overflow_add-part c =
    let a = c.self.inside in
    let f = c.followed.inside in
    omega (arith, c.requires, c.self.invariant.count, a.bounds.ok.0, vertices f.dependencies a.txns a.versions a.bounds.items a.items.items c.args.self.now c.args.vertex c.self.invariant c.self.view_is)

pub overflow_add-first-then-followed : goal.overflow_add-first-then-followed
overflow_add-first-then-followed c =
    let a = c.self.inside in
    let f = c.followed.inside in
    omega (arith, c.requires, c.self.invariant.count, a.bounds.ok.0, vertices f.dependencies a.txns a.versions a.bounds.items a.items.items c.args.self.now c.args.vertex c.self.invariant c.self.view_is)

pub index-requires : goal.index-requires
index-requires c =
    let a = c.self.inside in
    let f = c.followed.inside in
    let (first, last, leave) = c.followed.invariant in
    let p = c.if-vertex-self.first in
    let read : IsRead f.dependencies a.bounds.items a.items.items c.args.self.now c.args.vertex p.0 p.1 =
    elim c.if-vertex-self.branch [
      | then-vertex-self w ↦ of_txn f.dependencies a.txns a.versions a.bounds.items a.items.items c.args.self.now c.args.vertex c.self.invariant c.self.view_is p f.first f.last first last w.if-vertex-self.true w.first-is
      | else-vertex-self+then-followed w ↦ of_version f.dependencies a.txns a.versions a.bounds.items a.items.items c.args.self.now c.args.vertex c.self.invariant c.self.view_is p f.from_versions leave w.if-followed.true w.if-vertex-self.false c.requires w.first-is
      | else-vertex-self+else-followed w ↦ of_nothing f.dependencies a.txns a.versions a.bounds.items a.items.items c.args.self.now c.args.vertex c.self.invariant c.self.view_is p f.from_versions leave w.if-followed.false w.if-vertex-self.false c.requires w.first-is
    ] in
    omega (arith, read.order, read.within, a.bounds.ok.0)

read : (c : After-index) → IsRead c.followed.inside.dependencies c.self.inside.bounds.items c.self.inside.items.items c.args.self.now c.args.vertex c.if-vertex-self.first.0 c.if-vertex-self.first.1
read c =
    let a = c.self.inside in
    let f = c.followed.inside in
    let (first, last, leave) = c.followed.invariant in
    let p = c.if-vertex-self.first in
    elim c.if-vertex-self.branch [
      | then-vertex-self w ↦ of_txn f.dependencies a.txns a.versions a.bounds.items a.items.items c.args.self.now c.args.vertex c.self.invariant c.self.view_is p f.first f.last first last w.if-vertex-self.true w.first-is
      | else-vertex-self+then-followed w ↦ of_version f.dependencies a.txns a.versions a.bounds.items a.items.items c.args.self.now c.args.vertex c.self.invariant c.self.view_is p f.from_versions leave w.if-followed.true w.if-vertex-self.false c.requires w.first-is
      | else-vertex-self+else-followed w ↦ of_nothing f.dependencies a.txns a.versions a.bounds.items a.items.items c.args.self.now c.args.vertex c.self.invariant c.self.view_is p f.from_versions leave w.if-followed.false w.if-vertex-self.false c.requires w.first-is
    ]

-- where the part of the list begins, and where it ends
begin : (c : After-index-2) → c.index.result.now ≡ get_or c.self.inside.bounds.items c.if-vertex-self.first.0 0
begin c =
    let is = read c.before.before in
    c.index.ensures ∙ get_or_default c.self.inside.bounds.items c.if-vertex-self.first.0 c.index.result.now 0 (omega (arith, is.order, is.within))

end' : (c : After-index-2) → c.index-2.result.now ≡ get_or c.self.inside.bounds.items c.if-vertex-self.first.1 0
end' c = c.index-2.ensures ∙ get_or_default c.self.inside.bounds.items c.if-vertex-self.first.1 c.index-2.result.now 0 (read c.before.before).within

pub index-requires-2 : goal.index-requires-2
index-requires-2 c = omega (arith, (read (goal.at.index-requires-2 c).After-index).within, c.self.inside.bounds.ok.0)

pub between-requires-clause-rising : goal.between-requires-clause-rising
between-requires-clause-rising c =
    let at = (goal.at.between-requires-clause-rising c).After-index-2 in
    omega (arith, (read at.before.before).rise, begin at, end' at)

pub between-requires-clause-within : goal.between-requires-clause-within
between-requires-clause-within c =
    let at = (goal.at.between-requires-clause-within c).After-index-2 in
    omega (arith, (read at.before.before).inside, end' at, ap length c.deref.ensures.value)

pub returns : goal.returns
returns c =
    let at = (goal.at.returns c).After-index-2 in
    let items = c.self.inside.items.items in
    let bounds = c.self.inside.bounds.items in
    c.between.ensures
    ∙ ap (λ (xs : List ℕ). slice_range xs c.index.result.now c.index-2.result.now) c.deref.ensures.value
    ∙ ap (λ i. slice_range items i c.index-2.result.now) (begin at)
    ∙ ap (slice_range items (get_or bounds c.if-vertex-self.first.0 0)) (end' at)
    ∙ (read at.before.before).led ∙ ap (λ (d : Dependencies). led_to d (row_at c.args.self.now c.args.vertex)) c.followed.view_is
