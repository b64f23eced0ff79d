use Rattle.std.proofs.Common.{FitsSigned, get_or, pos, rules, to_z-of_z, w64}
use Rattle.std.proofs.lemmas.List.{get_or_default}
use Rattle.ref_sets.proofs.shared.Adding.{adds_more}
use Rattle.ref_sets.specs.Adding.{Adds}
use Rattle.ql_plain.specs.internal.Linked.{IsLinkToNode}
use Rattle.ql_plain.proofs.links.add_links_to_nodes.Goals as goal

pub loop-id-preserved : goal.loop-id-preserved
loop-id-preserved c =
    let id = get_or c.args.nodes.now c.loop-id.id-index (pos 0) in
    let small : FitsSigned w64 id = search rules in
    let added : Adds c.loop-id.links.items c.add_link.new.links.items (IsLinkToNode c.args.set.now c.args.parent id) = simp (to_z-of_z small) at c.in_ok-add_link.ensures in
    adds_more c.args.nodes.now (IsLinkToNode c.args.set.now c.args.parent) c.loop-id.id-index id c.loop-id-test.true (get_or_default c.args.nodes.now c.loop-id.id-index (pos 0) id c.loop-id-test.true) c.loop-id.invariant added
