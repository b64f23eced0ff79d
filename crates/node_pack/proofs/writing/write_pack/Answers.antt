use Rattle.std.proofs.Common.{rules, subst, sym, ◌≡◌}
use Rattle.tree_node.specs.Shelves.{IsClashFree}
use Rattle.node_pack.specs.internal.Gathering.{IsWhole}
use Rattle.node_pack.proofs.WholeLemmas.{all_measured, all_short}
use Rattle.node_pack.proofs.WrittenLemmas.{packed_begun, packed_refused, packed_untouched, packed_written, not_writers}
use Rattle.node_pack.proofs.writing.write_pack.Goals as goal

pub write_nodes-requires-clause-measured : goal.write_nodes-requires-clause-measured
write_nodes-requires-clause-measured g c =
    let held = g.S.Shelf.holds c.gather.new.shelf in
    let whole = subst (IsWhole held c.args.root.now.0) (sym c.as_slice.ensures.value) c.in_ok-nodes.ensures.whole in
    all_measured held c.args.root.now.0 c.as_slice.result.now whole

pub write_nodes-requires-clause-short : goal.write_nodes-requires-clause-short
write_nodes-requires-clause-short g c =
    let held = g.S.Shelf.holds c.gather.new.shelf in
    let whole = subst (IsWhole held c.args.root.now.0) (sym c.as_slice.ensures.value) c.in_ok-nodes.ensures.whole in
    all_short held c.args.root.now.0 c.as_slice.result.now whole

pub write_nodes-requires-clause-apart : goal.write_nodes-requires-clause-apart
write_nodes-requires-clause-apart g c =
    let held = g.S.Shelf.holds c.gather.new.shelf in
    let whole = subst (IsWhole held c.args.root.now.0) (sym c.as_slice.ensures.value) c.in_ok-nodes.ensures.whole in
    whole.apart

pub returns-clause-written : goal.returns-clause-written
returns-clause-written g c =
    let held = g.S.Shelf.holds c.gather.new.shelf in
    let whole = subst (IsWhole held c.args.root.now.0) (sym c.as_slice.ensures.value) c.in_ok-nodes.ensures.whole in
    let free : IsClashFree held = search (rules, g.met.S.Shelf) in
    packed_written held free c.args.root.now.0 c.as_slice.result.now whole (g.W.Write.contents c.args.writer.now) (g.W.Write.contents c.write_nodes.new.writer)
    (c.write_nodes.new.writer ≡ c.args.writer.now) c.write_nodes.result c.write_nodes.ensures.written c.write_nodes.ensures.len

pub returns-clause-refused : goal.returns-clause-refused
returns-clause-refused g c =
    let held = g.S.Shelf.holds c.gather.new.shelf in
    let whole = subst (IsWhole held c.args.root.now.0) (sym c.as_slice.ensures.value) c.in_ok-nodes.ensures.whole in
    let free : IsClashFree held = search (rules, g.met.S.Shelf) in
    packed_refused held free c.args.root.now.0 c.as_slice.result.now whole (g.W.Write.contents c.args.writer.now) (g.W.Write.contents c.write_nodes.new.writer)
    (c.write_nodes.new.writer ≡ c.args.writer.now) c.write_nodes.result c.write_nodes.ensures.refused

pub returns-clause-begun : goal.returns-clause-begun
returns-clause-begun g c =
    let held = g.S.Shelf.holds c.gather.new.shelf in
    let whole = subst (IsWhole held c.args.root.now.0) (sym c.as_slice.ensures.value) c.in_ok-nodes.ensures.whole in
    let free : IsClashFree held = search (rules, g.met.S.Shelf) in
    packed_begun held free c.args.root.now.0 c.as_slice.result.now whole (g.W.Write.contents c.args.writer.now) (g.W.Write.contents c.write_nodes.new.writer)
    (c.write_nodes.new.writer ≡ c.args.writer.now) c.write_nodes.result c.write_nodes.ensures.refused

pub returns-clause-untouched : goal.returns-clause-untouched
returns-clause-untouched g c =
    let held = g.S.Shelf.holds c.gather.new.shelf in
    let whole = subst (IsWhole held c.args.root.now.0) (sym c.as_slice.ensures.value) c.in_ok-nodes.ensures.whole in
    let free : IsClashFree held = search (rules, g.met.S.Shelf) in
    packed_untouched held free c.args.root.now.0 c.as_slice.result.now whole (g.W.Write.contents c.args.writer.now) (g.W.Write.contents c.write_nodes.new.writer)
    (c.write_nodes.new.writer ≡ c.args.writer.now) c.write_nodes.result c.write_nodes.ensures.refused

pub returns-in_err-nodes-clause-begun : goal.returns-in_err-nodes-clause-begun
returns-in_err-nodes-clause-begun g c = λ told.
    not_writers (g.S.Shelf.holds c.gather.new.shelf) c.args.root.now.0 c.from_residual.result c.in_err-nodes.field-0.0 c.from_residual.ensures.1 c.in_err-nodes.ensures.refused told
