-- The dependency edges that leave a transaction, found from what it reads and installs itself.
--
-- A version that it installs leads by wr to those that read it, and by ww to those that install a
-- version after it; a version that it reads leads by rw to those that install a version after it.
use Rattle.std.specs.Prelude.{◌≡◌, ◌↔◌, ℕ, List, [], ◌∷◌, ◌++◌, ◌==◌, if◌then◌else◌, flat_map, Contains}
use Rattle.hist_types.specs.Edges.{Label, ww, wr, rw, Edge, dependency_edges}
use Rattle.hist_types.specs.Lists.{NoneTwice}
use Rattle.hist_types.specs.Versions.{process_pairs}
use Rattle.hist_types.specs.Transactions.{Transaction, Version, has_version, is_node, installed_by, is_known_to_read}
use Rattle.hist_types.specs.declared.types.KeyOrder.{KeyOrder}
use Rattle.key_versions.specs.Histories.{read_by, installs_behind}

-- ---- what is promised

-- exactly the dependency edges of the history that leave the transaction, none of them twice
pub record AreEdgesFrom (keys : KeyOrder) (ts : List Transaction) (t : Transaction) (es : List Edge)
    : Type 0 where
  pub exactly :
      (e : Edge)
      → Contains es e ↔ (Contains (dependency_edges keys ts) e × (e.from ≡ t.invocation))
  pub once : NoneTwice es

-- these, after what was there before
abbrev pub AddsEdgesFrom : KeyOrder → List Transaction → Transaction → (before after : List Edge)
    → Type 0
AddsEdgesFrom keys ts t before after =
    (es : List Edge) × (after ≡ before ++ es) × AreEdgesFrom keys ts t es

-- ---- how they are found

-- an edge from the transaction of this index, unless it leads back to it, and where it leads to a
-- node
abbrev pub edge_to : ℕ → Transaction → Label → List Edge
edge_to from u label =
    if from == u.invocation
    then []
    else record { from = from; to = u.invocation; label = label } ∷ []

abbrev pub node_edge : List Transaction → ℕ → Transaction → Label → List Edge
node_edge ts from u label = if is_node ts u then edge_to from u label else []

-- to each node that reads the version
abbrev pub reader_edges : List Transaction → ℕ → Version → List Edge
reader_edges ts from v =
    flat_map
    (λ (u : Transaction). if is_known_to_read u v then node_edge ts from u (wr v) else []) ts

-- to each node that installs a version after this one, labelled by that version
abbrev pub later_edges : KeyOrder → List Transaction → ℕ → (Version → Label) → Version → List Edge
later_edges keys ts from label v =
    flat_map
    (λ (u : Transaction).
    flat_map (λ w. node_edge ts from u (label w)) (installs_behind (process_pairs keys ts) u v)) ts

-- out of a version that the transaction installs, and out of one that it reads
abbrev pub written_edges : KeyOrder → List Transaction → ℕ → Version → List Edge
written_edges keys ts from v = reader_edges ts from v ++ later_edges keys ts from (ww v) v

abbrev pub read_edges : KeyOrder → List Transaction → ℕ → Version → List Edge
read_edges keys ts from v = later_edges keys ts from (rw v) v

-- each version once
abbrev pub each_once : List Version → List Version
each_once [] = []
each_once (v ∷ vs) = if has_version vs v then each_once vs else v ∷ each_once vs

abbrev pub edges_out : KeyOrder → List Transaction → Transaction → List Edge
edges_out keys ts t =
    flat_map (written_edges keys ts t.invocation) (installed_by t)
    ++ flat_map (read_edges keys ts t.invocation) (each_once (read_by t))

abbrev pub leaving : KeyOrder → List Transaction → Transaction → List Edge
leaving keys ts t = if is_node ts t then edges_out keys ts t else []

-- more edges after those that were there
abbrev pub Begins : (before after : List Edge) → Type 0
Begins before after = (es : List Edge) × (after ≡ before ++ es)
