use Rattle.std.proofs.Common.{◌≡◌, ◌∙◌, ◌<◌, length, map, get_or, sym, ap, subst, arith, All, take}
use Rattle.std.proofs.lemmas.List.{take_all, length-map}
use Rattle.hist_types.specs.Transactions.{is_ok}
use Rattle.dep_edges.specs.Pieces.{IsOf, with_marks, with_all_marks}
use Rattle.dep_edges.specs.Tables.{IsPlace}
use Rattle.dep_edges.proofs.Marks.{nodes_marked, marks_more, places_of, length_all_marks, length_with_marks, written_back}
use Rattle.dep_edges.proofs.nodes.nodes.Goals as goal

pub mark_all-requires : goal.mark_all-requires
mark_all-requires c =
    let h = c.args.history.now in
    let piece = c.piece-item.result in
    let count : length h.txns ≡ length c.deref_mut.result.now =
    sym
    (ap length c.deref_mut.ensures.value
    ∙ ap length c.loop-piece.invariant
    ∙ length_all_marks (map is_ok h.txns) (take c.loop-piece.piece-index c.args.pieces.now)
    ∙ length-map h.txns is_ok) in
    let of : IsOf h piece = subst (IsOf h) (sym c.piece-item.is) (c.requires.pieces.of c.loop-piece.piece-index piece c.loop-piece-test.true) in
    let places : All (IsPlace h.txns) c.writers.result.now = subst (All (IsPlace h.txns)) (sym c.writers.ensures) (places_of h piece of) in
    λ k d below. subst (λ n. get_or c.writers.result.now k d < n) count (places k d below)

pub loop-piece-preserved : goal.loop-piece-preserved
loop-piece-preserved c =
    let h = c.args.history.now in
    let piece = c.piece-item.result in
    let same : c.mark_all.new.nodes ≡ with_marks c.loop-piece.nodes.items piece.writers =
    c.mark_all.ensures ∙ ap (λ ms. with_marks ms c.writers.result.now) c.deref_mut.ensures.value ∙ ap (with_marks c.loop-piece.nodes.items) c.writers.ensures in
    let len : length c.mark_all.new.nodes ≡ c.loop-piece.nodes.len = omega (arith, ap length same, length_with_marks c.loop-piece.nodes.items piece.writers, c.loop-piece.nodes.ok) in
    written_back c.mark_all.new.nodes c.loop-piece.nodes.items c.loop-piece.nodes.len len
    ∙ same
    ∙ ap (λ ms. with_marks ms piece.writers) c.loop-piece.invariant
    ∙ sym (marks_more (map is_ok h.txns) c.args.pieces.now c.loop-piece.piece-index piece c.loop-piece-test.true c.piece-item.is)

pub returns : goal.returns
returns c =
    let h = c.args.history.now in
    c.loop-piece.invariant
    ∙ ap (with_all_marks (map is_ok h.txns)) (take_all c.loop-piece.piece-index c.args.pieces.now c.loop-piece-test.false)
    ∙ nodes_marked h c.args.pieces.now c.txns.ensures.kept c.requires.versions c.requires.pieces
