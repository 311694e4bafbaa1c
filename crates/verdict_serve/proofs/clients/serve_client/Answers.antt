use Rattle.verdict_serve.proofs.Serving.{came_to}
use Rattle.verdict_serve.proofs.clients.serve_client.Goals as goal

pub returns : goal.returns
returns g c =
    let e = c.session.ensures in
    record {
      new = c.session.new.seat;
      source = c.session.new.source;
      sink = c.session.new.sink;
      same = e.seat;
      came_to = came_to g.S.Source g.T.Sink c.session.result _ _ _ _ _ _ e.ended e.device e.memory_seat e.memory_source e.memory_sink;
    }
