use Rattle.history_laws.proofs.OrderEdges.{process_edges-realtime}
use Rattle.history_laws.proofs.process_order_in_realtime.Goals as goal

pub returns : goal.returns
returns c = process_edges-realtime
