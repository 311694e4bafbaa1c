use Rattle.std.proofs.Common.{◌∙◌, ap, sym, subst}
use Rattle.history_laws.specs.Times.{AreInvokedInOrder}
use Rattle.history_laws.proofs.ThinningTimes.{invoked_in_order}
use Rattle.dep_edges.specs.Histories.{History}
use Rattle.edge_graph.proofs.orders.places_of.Goals as goal

pub places-requires : goal.places-requires
places-requires c =
    let (events, kept, of) = c.history.ensures.kept in
    subst AreInvokedInOrder (sym (c.txns.ensures.value ∙ ap (λ (h : History). h.txns) c.history.ensures.history ∙ of)) (invoked_in_order events)
