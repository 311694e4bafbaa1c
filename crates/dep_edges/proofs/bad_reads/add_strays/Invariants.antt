-- Those so far are of the reads so far.
use Rattle.std.proofs.Common.{if◌then◌else◌, ◌∷◌, ◌≡◌, ◌++◌, [], flat_map, take, map}
use Rattle.hist_types.specs.Phenomena.{is_stray}
use Rattle.dep_edges.specs.Tables.{version_at}
use Rattle.dep_edges.proofs.bad_reads.add_strays.Given as goal

abbrev pub invariant-loop-number : goal.invariant-loop-number
invariant-loop-number l =
    let v = version_at l.history.table in
    map v l.strays.items
    ≡ map v l.initial.strays.items
    ++ flat_map (λ number. if is_stray l.history.txns (v number) then v number ∷ [] else []) (take l.number-index l.number-items)
