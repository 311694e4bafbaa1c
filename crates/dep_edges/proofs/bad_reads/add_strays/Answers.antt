use Rattle.std.proofs.Common.{[], ◌∷◌, ◌++◌, ◌∙◌, ap, if◌then◌else◌, List, map, flat_map}
use Rattle.std.proofs.lemmas.List.{take_all}
use Rattle.hist_types.specs.Phenomena.{is_stray}
use Rattle.hist_types.specs.Transactions.{Version}
use Rattle.key_versions.specs.Histories.{read_by}
use Rattle.dep_edges.specs.Tables.{txn_at, version_at}
use Rattle.dep_edges.proofs.Adding.{by_numbers}
use Rattle.dep_edges.proofs.bad_reads.add_strays.Goals as goal

pub returns : goal.returns
returns c =
    let h = c.args.history.now in
    let ns = c.reads-number-items.result.now in
    let told : Version → List Version = λ v. if is_stray h.txns v then v ∷ [] else [] in
    let front : List Version = map (version_at h.table) c.args.strays.now.items in
    c.loop-number.invariant
    ∙ ap (λ ms. front ++ flat_map (λ n. told (version_at h.table n)) ms) (take_all c.loop-number.number-index ns c.loop-number-test.false)
    ∙ ap (λ vs. front ++ vs) (by_numbers told h.table ns (read_by (txn_at h.txns c.args.place)) c.reads-number-items.ensures.value)
