use Rattle.http_ranges.proofs.PassingLemmas.{head-taken, interim-taken}
use Rattle.http_ranges.proofs.receiving.take_head.Goals as goal

pub returns-in-Given : goal.returns-in-Given
returns-in-Given g c =
    let (before, passed) = c.loop.invariant in
    head-taken c.args.asked c.args.size before (g.W.Wires.heard c.args.wires.now c.args.wire) (g.W.Wires.heard c.loop.wires c.args.wire)
    (g.W.Wires.heard c.next_head.new.wires c.args.wire) c.args.incoming.now c.loop.incoming c.next_head.new.incoming c.in_ok-next_head.field-0
    c.in-Given.given passed c.in_ok-next_head.ensures c.in-Given.is

pub loop-preserved : goal.loop-preserved
loop-preserved g c =
    let (before, passed) = c.loop.invariant in
    interim-taken c.args.asked c.args.size before (g.W.Wires.heard c.args.wires.now c.args.wire) (g.W.Wires.heard c.loop.wires c.args.wire)
    (g.W.Wires.heard c.next_head.new.wires c.args.wire) c.args.incoming.now c.loop.incoming c.next_head.new.incoming c.in_ok-next_head.field-0
    passed c.in_ok-next_head.ensures
