use Rattle.osm_gate.proofs.OneRequest.{last-feed, last-return}
use Rattle.osm_gate.proofs.gate.ends_in_break.Goals as goal

pub returns-then-last-eq13 : goal.returns-then-last-eq13
returns-then-last-eq13 c =
    let (some, found) = c.in-Some.ensures.item.3 in
    last-return c.args.bytes.now c.in-Some.last.now some (found 0) c.if-last-eq13.true

pub returns-else-last-eq13 : goal.returns-else-last-eq13
returns-else-last-eq13 c =
    let (some, found) = c.in-Some.ensures.item.3 in
    last-feed c.args.bytes.now c.in-Some.last.now some (found 0) c.if-last-eq13.false
