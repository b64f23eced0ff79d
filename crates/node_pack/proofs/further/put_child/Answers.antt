use Rattle.std.proofs.Common.{arith, sym}
use Rattle.node_pack.proofs.PlaceMaps.{known_stays}
use Rattle.node_pack.proofs.BesideLemmas.{earlier_near, put_more}
use Rattle.node_pack.proofs.further.put_child.Goals as goal

pub returns-clause-keeps : goal.returns-clause-keeps
returns-clause-keeps g c = known_stays c.args.places.now c.insert.new.self c.args.child.now c.in-Some.place c.in_ok-insert.ensures.updates

pub returns-clause-put : goal.returns-clause-put
returns-clause-put g c = λ place_of put earlier.
    let is = sym c.in-Some.ensures in
    let near = earlier_near c.args.number _ c.in-Some.place is in
    put_more c.args.places.now c.insert.new.self c.args.child.now c.in-Some.place c.in_ok-insert.ensures.updates place_of put (record {
      is = earlier c.args.child.now.0 c.in-Some.place is (λ known. let absent = c.if-contains_key.false in let there = c.contains_key.ensures in Prim.cc);
      near = omega (arith, near);
      short = omega arith;
    })
