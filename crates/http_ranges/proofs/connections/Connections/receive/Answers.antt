use Rattle.http_ranges.proofs.PassingLemmas.{response-taken}
use Rattle.http_ranges.proofs.connections.Connections.receive.Goals as goal

pub returns : goal.returns
returns g c =
    response-taken c.args.asked c.args.size (g.W.Wires.heard c.args.self.now.wires c.args.wire) (g.W.Wires.heard c.receive_head.new.self.wires c.args.wire)
    (g.W.Wires.heard c.receive_body.new.self.wires c.args.wire) c.args.self.now.incoming c.receive_head.new.self.incoming c.receive_body.new.self.incoming
    c.args.into.now.items c.receive_body.new.into.items c.in_ok-given.given c.in_ok-given.ensures c.in_ok-receive_body.ensures
