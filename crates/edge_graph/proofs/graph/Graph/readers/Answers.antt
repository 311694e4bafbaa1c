use Rattle.std.proofs.Common.{◌≡◌, ◌↔◌, ◌<◌, ◌≤◌, ◌+◌, ◌-◌, ℕ, List, length, inl, inr, Contains, ap, subst, arith}
use Rattle.std.proofs.lemmas.Bool.{cases_lt}
use Rattle.hist_types.specs.Transactions.{Transaction}
use Rattle.hist_types.specs.declared.types.Level.TheVariants.{Plain}
use Rattle.dep_edges.specs.Tables.{version_at}
use Rattle.edge_graph.specs.Kinds.{kinds_of}
use Rattle.edge_graph.specs.Made.{parts_of}
use Rattle.edge_graph.specs.Parts.{Parts}
use Rattle.edge_graph.specs.Vertices.{IsArc}
use Rattle.edge_graph.specs.declared.types.Dependencies.TheVariants.{Rw}
use Rattle.edge_graph.proofs.Readers.{readers_lead}
use Rattle.edge_graph.proofs.Txns.{version_there}
use Rattle.edge_graph.proofs.graph.Graph.readers.Goals as goal

pub returns-clause-readers : goal.returns-clause-readers
returns-clause-readers c =
    let a = c.self.inside in
    let h = a.history.now in
    let vertex = c.args.vertex in
    let txns : length h.txns ≡ length c.args.self.now.txns = ap (λ (g : Parts). length g.txns) c.self.view_is in
    let versions : length h.table.versions ≡ length c.args.self.now.versions = ap (λ (g : Parts). length g.versions) c.self.view_is in
    let count : length c.txns.result.now ≡ length h.txns = ap (λ (ts : List Transaction). length ts) c.txns.ensures.value in
    let number = vertex - length c.txns.result.now in
    let behind : length c.args.self.now.txns ≤ vertex = elim (cases_lt vertex (length c.args.self.now.txns)) [ inl place ↦ absurd (c.requires.version place) | inr above ↦ above ] in
    let here : number < length h.table.versions = omega (arith, c.requires.vertex, count, txns, versions, behind) in
    let same : length h.txns + number ≡ vertex = omega (arith, count, txns, behind) in
    let g : Parts = parts_of h a.order.now in
    let lead = readers_lead g number (version_at h.table number) (version_there h.table number here) c.readers.result.now c.readers.ensures.value in
    subst (λ (g : Parts). (place : ℕ) → Contains c.readers.result.now place ↔ IsArc g (kinds_of Rw Plain) place vertex) c.self.view_is
    (subst (λ v. (place : ℕ) → Contains c.readers.result.now place ↔ IsArc g (kinds_of Rw Plain) place v) same lead)
