use Rattle.std.proofs.Common.{map, sym, ap}
use Rattle.tree_node.specs.internal.Pairs.{lent_of, pair_of}
use Rattle.tree_node.proofs.RecorderLemmas.{parts_distinct, parts_given, to_come, one_more, none_more}
use Rattle.tree_node.proofs.recorder.Recorder.used_parts.Goals as goal

pub with_digest-requires : goal.with_digest-requires
with_digest-requires c =
    let there = to_come c.args.self.now.given (map pair_of c.loop-key.used.items) _ c.next.new.self c.in-Some.key.now c.in-Some.given.now
    c.into_iter-key-iterator.ensures.into_iter_gives.4 c.loop-key.invariant c.in-Some.ensures.steps in
    let held = c.args.self.now.own c.in-Some.key.now c.in-Some.given.now.bytes.now there in
    sym (c.args.self.now.stock.now.own c.in-Some.key.now c.in-Some.given.now.bytes.now held)

pub loop-key-preserved : goal.loop-key-preserved
loop-key-preserved c =
    one_more c.loop-key.used.items c.push.new.self.items c.with_digest.result (lent_of (c.in-Some.key.now, c.in-Some.given.now)) _ _ _
    c.in_ok-push.ensures.items c.with_digest.ensures (ap (map lent_of) c.in-Some.ensures.steps) c.loop-key.invariant

pub returns : goal.returns
returns c =
    let all = none_more c.loop-key.used.items _ _ (ap (map lent_of) c.in-None.ensures.steps.0) c.loop-key.invariant in
    let unique = c.into_iter-key-iterator.ensures.into_iter_gives.4 in
    record {
      once = parts_distinct c.args.self.now.given unique c.loop-key.used.items all;
      used = parts_given c.args.self.now.given unique c.loop-key.used.items all;
    }
