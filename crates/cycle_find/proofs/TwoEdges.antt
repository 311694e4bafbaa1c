-- Where all edges are dependency edges, each joins two different transactions, and a closed walk has two of them at least.
use Rattle.std.proofs.Common.{◌≡◌, ◌∙◌, ◌≤◌, List, [], ◌∷◌, length, not, inl, inr, refl, sym, ap, arith}
use Rattle.std.specs.List.{AllByRecursion}
use Rattle.std.proofs.lemmas.Bool.{cases_lt}
use Rattle.hist_types.specs.Edges.{Edge, dependency_edges, dependency_labels}
use Rattle.hist_types.specs.Phenomena.{Leads, Shows}
use Rattle.hist_types.specs.Transactions.{Transaction, nodes}
use Rattle.hist_types.specs.Versions.{version_pairs}
use Rattle.hist_types.specs.Witness.{dependencies_in}
use Rattle.hist_types.specs.declared.types.KeyOrder.{KeyOrder}
use Rattle.hist_types.specs.declared.types.Phenomenon.{Phenomenon}
use Rattle.hist_types.proofs.Members.{In, in_from_Contains}
use Rattle.history_laws.proofs.Fewest.{few_by_one}
use Rattle.history_laws.proofs.ThinningPaths.{ends_of}
use Rattle.history_laws.proofs.ThinningWalks.{count_yes, within_in}
use Rattle.history_laws.proofs.ThinningWitnesses.{is_dependency, dependency_edge}

-- no edge leads from a transaction to itself
pub no_loop : (keys : KeyOrder) (ts : List Transaction) (e : Edge) → In e (dependency_edges keys ts) → e.to ≡ e.from → ⊥
no_loop keys ts e i same =
    let (t, u, label, ends) = ends_of (nodes ts) (dependency_labels (version_pairs keys ts)) e i in
    ends.other (ap (λ (d : Edge). d.from) (sym ends.is) ∙ sym same ∙ ap (λ (d : Edge). d.to) ends.is)

module _ (keys : KeyOrder) (ts : List Transaction) (es : List Edge) (depend : (e : Edge) → In e es → In e (dependency_edges keys ts)) where
  pub all_counted : (walk : List Edge) → AllByRecursion (λ (d : Edge). In d es) walk → dependencies_in walk ≡ length walk
  all_counted [] within = refl
  all_counted (e ∷ walk) within =
      omega (arith, all_counted walk within.1, count_yes is_dependency e walk (ap not (dependency_edge keys ts e (depend e within.0))))

  no_way : (e : Edge) (rest : List Edge) → In e es → Leads e.to rest e.from → length rest ≤ 0 → ⊥
  no_way e [] i leads few = no_loop keys ts e (depend e i) leads
  no_way e (f ∷ rest) i leads few = omega (arith, few)

  pub two_at_least : (phenomenon : Phenomenon) (walk : List Edge) → Shows phenomenon es walk → 2 ≤ dependencies_in walk
  two_at_least phenomenon walk is = elim (cases_lt 1 (dependencies_in walk)) [
    | inl more ↦ more
    | inr few ↦
        let (e, among, needs, rest, back, fewer) = (few_by_one phenomenon es 0).0 (walk, is, few) in
        absurd (no_way e rest (in_from_Contains e es among) back.leads (omega (arith, fewer, all_counted rest (within_in es rest back.within))))
  ]
