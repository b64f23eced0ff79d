use Rattle.std.proofs.Common.{rules, ◌≡◌, ◌<◌, ◌+◌, ℕ, arith, drop, get_or, length, take, subst, ◌∙◌}
use Rattle.std.specs.Io.KnownBytes.{Appends}
use Rattle.node_pack.specs.Packs.{table}
use Rattle.tree_node.specs.Trees.{no_node}
use Rattle.pack_assembly.specs.internal.Order.{digests_of}
use Rattle.pack_assembly.proofs.TableLemmas.{among_next, table_begun, table_more}
use Rattle.pack_assembly.proofs.WriteLemmas.{front_of_whole}
use Rattle.pack_assembly.proofs.table.write_table.Goals as goal

pub returns-in_err-write_next_place-clause-begun : goal.returns-in_err-write_next_place-clause-begun
returns-in_err-write_next_place-clause-begun g c = λ true place_of nodes among few.
    let so_far = c.loop.invariant.2 true place_of nodes among few in
    let low : c.loop.counter < length nodes = omega (arith, few, c.loop-test.true) in
    table_begun place_of nodes c.loop.counter c.args.count no_node (g.W.Write.contents c.args.writer.now) (g.W.Write.contents c.loop.writer) (g.W.Write.contents c.write_next_place.new.writer)
    c.loop-test.true few so_far.0
    (c.write_next_place.ensures.begun true place_of (get_or nodes c.loop.counter no_node) (drop (c.loop.counter + 1) nodes)
    (among_next place_of (g.L.NodeLevels.unmeasured c.loop.levels c.args.row.tree c.args.row.level) c.loop.at nodes c.loop.counter no_node low so_far.1))

pub loop-preserved : goal.loop-preserved
loop-preserved g c = (
  c.in_ok-write_next_place.ensures.nodes ∙ c.loop.invariant.0,
  c.in_ok-write_next_place.ensures.unread ∙ c.loop.invariant.1,
  λ true place_of nodes among few.
      let so_far = c.loop.invariant.2 true place_of nodes among few in
      let low : c.loop.counter < length nodes = omega (arith, few, c.loop-test.true) in
      let next = among_next place_of (g.L.NodeLevels.unmeasured c.loop.levels c.args.row.tree c.args.row.level) c.loop.at nodes c.loop.counter no_node low so_far.1 in
      let node = get_or nodes c.loop.counter no_node in
      let others = drop (c.loop.counter + 1) nodes in (
        table_more place_of nodes c.loop.counter no_node low (g.W.Write.contents c.args.writer.now) (g.W.Write.contents c.loop.writer) (g.W.Write.contents c.write_next_place.new.writer)
            so_far.0 (c.in_ok-write_next_place.ensures.whole true place_of node others next),
        c.in_ok-write_next_place.ensures.past true place_of node others next,
      ),
)

pub returns-clause-begun : goal.returns-clause-begun
returns-clause-begun g c = λ true place_of nodes among few.
    let so_far = c.loop.invariant.2 true place_of nodes among few in
    let end = c.loop.auto.counter-end in
    let all : c.loop.counter ≡ c.args.count = omega (arith, c.loop-test.false, end) in
    front_of_whole (g.W.Write.contents c.args.writer.now) (g.W.Write.contents c.loop.writer) (table place_of (digests_of (take c.args.count nodes)))
    (subst (λ (n : ℕ). Appends (g.W.Write.contents c.args.writer.now) (g.W.Write.contents c.loop.writer) (table place_of (digests_of (take n nodes)))) all so_far.0)

pub returns-in_err-write_next_place-clause-device : goal.returns-in_err-write_next_place-clause-device
returns-in_err-write_next_place-clause-device g c = λ true refuses place_of nodes among few told.
    let so_far = c.loop.invariant.2 true place_of nodes among few in
    let low : c.loop.counter < length nodes = omega (arith, few, c.loop-test.true) in
    c.in_err-write_next_place.ensures.device true refuses place_of (get_or nodes c.loop.counter no_node) (drop (c.loop.counter + 1) nodes)
    (among_next place_of (g.L.NodeLevels.unmeasured c.loop.levels c.args.row.tree c.args.row.level) c.loop.at nodes c.loop.counter no_node low so_far.1) (search rules)
