use Rattle.std.proofs.Common.{◌≡◌, ◌+◌, ◌-◌, ℕ, List, arith, length, subst, sym, take}
use Rattle.std.proofs.lemmas.List.{length-take}
use Rattle.http_ranges.specs.internal.Passing.{TakesBody}
use Rattle.http_ranges.proofs.PassingLemmas.{body-more}
use Rattle.http_ranges.proofs.receiving.take_body.Goals as goal

pub loop-left-preserved : goal.loop-left-preserved
loop-left-preserved g c =
    let n = c.in_ok-left.field-0 in
    let heard = g.W.Wires.heard c.args.wires.now c.args.wire in
    let heard' = g.W.Wires.heard c.loop-left.wires c.args.wire in
    let heard'' = g.W.Wires.heard c.await_some.new.wires c.args.wire in
    let long : length (take n c.await_some.new.incoming) ≡ n = omega (arith, length-take n c.await_some.new.incoming, c.in_ok-left.ensures.count.2) in
    let same : (c.args.len - c.loop-left.left) + n ≡ c.args.len - (c.loop-left.left - n) =
    omega (arith, c.loop-left.invariant.few, c.in_ok-left.ensures.count.1) in
    let more = body-more (c.args.len - c.loop-left.left) n heard heard' heard'' c.args.incoming.now c.loop-left.incoming c.await_some.new.incoming
    c.args.into.now.items c.loop-left.into.items c.take_some.new.into.items c.loop-left.invariant.taken c.in_ok-await_some.ensures.passes long c.in_ok-left.ensures.appended in
    let there = subst (λ (t : List ℕ). TakesBody ((c.args.len - c.loop-left.left) + n) heard c.args.incoming.now heard'' t c.args.into.now.items c.take_some.new.into.items) (sym c.in_ok-left.ensures.taken) more in
    record {
      taken = subst (λ (k : ℕ). TakesBody k heard c.args.incoming.now heard'' c.take_some.new.incoming c.args.into.now.items c.take_some.new.into.items) same there;
      few = omega (arith, c.loop-left.invariant.few);
    }
