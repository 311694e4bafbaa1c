-- The transactions that read a version are those that lead to its vertex.
use Rattle.std.proofs.Common.{◌≡◌, ◌↔◌, ◌∙◌, ◌+◌, ℕ, List, length, true, Some, Contains, refl, sym, ap, subst, arith}
use Rattle.std.specs.Prelude.{slice_get}
use Rattle.std.proofs.lemmas.Option.{same_Some, slice_get_within}
use Rattle.hist_types.specs.Transactions.{Version, is_known_to_read}
use Rattle.hist_types.specs.declared.types.Level.TheVariants.{Plain}
use Rattle.hist_types.proofs.Members.{In, in_from_Contains, Contains_from_in}
use Rattle.key_versions.specs.Histories.{readers_of}
use Rattle.dep_edges.specs.Tables.{txn_at}
use Rattle.edge_graph.specs.Kinds.{kinds_of}
use Rattle.edge_graph.specs.Parts.{Parts}
use Rattle.edge_graph.specs.Vertices.{Vertex, txn, version, IsVertex, LeadsTo, IsArc}
use Rattle.edge_graph.specs.declared.types.Dependencies.TheVariants.{Rw}
use Rattle.edge_graph.specs.declared.types.Kinds.{Kinds}
use Rattle.edge_graph.proofs.Txns.{txn_there, txn_of, reader_at, at_reader}

module _ (g : Parts) (number : ℕ) (v : Version) (there : slice_get g.versions number ≡ Some v) where
  read_to_it : (kinds : Kinds) (place : ℕ) (x y : Vertex) → IsVertex g place x → IsVertex g (length g.txns + number) y → LeadsTo g kinds x y → In place (readers_of g.txns v)
  read_to_it kinds place (txn t) (version w) at (n, same, found) (allowed, read) =
      let one : n ≡ number = omega (arith, same) in
      let two : w ≡ v = same_Some w v (sym found ∙ ap (slice_get g.versions) one ∙ there) in
      at_reader g.txns v place (slice_get_within g.txns place t at)
      (subst (λ z. is_known_to_read (txn_at g.txns place) z ≡ true) two (subst (λ z. is_known_to_read z w ≡ true) (sym (txn_of g.txns place t at)) read))
  read_to_it kinds place x (txn u) at found leads = absurd (omega (arith, slice_get_within g.txns (length g.txns + number) u found))
  read_to_it kinds place (version z) (version w) at found leads = absurd leads

  pub readers_lead : (places : List ℕ) → places ≡ readers_of g.txns v → (place : ℕ) → Contains places place ↔ IsArc g (kinds_of Rw Plain) place (length g.txns + number)
  readers_lead places are place = (
    λ c.
        let (h, read) = reader_at g.txns v place (subst (In place) are (in_from_Contains place places c)) in
        (txn (txn_at g.txns place), version v, txn_there g.txns place h, (number, refl, there), (refl, read)),
    λ arc. Contains_from_in place places (subst (In place) (sym are) (read_to_it (kinds_of Rw Plain) place arc.0 arc.1 arc.2 arc.3 arc.4)),
  )
