use Rattle.std.proofs.Common.{sym, ◌∙◌}
use Rattle.ref_sets.proofs.shared.Results.{on_ok_as}
use Rattle.ql_plain.proofs.Linking.{node_links, relation_links, way_links}
use Rattle.ql_plain.proofs.links.add_links.Goals as goal

pub returns-in-Node : goal.returns-in-Node
returns-in-Node c = node_links c.args.set.now c.args.object.now (sym c.body.ensures.value ∙ c.in-Node.is)

pub returns-in-Way : goal.returns-in-Way
returns-in-Way c =
    on_ok_as _ (way_links c.args.set.now c.args.object.now _ c.reference-parent.ensures.value c.in-Way.nodes _ (sym c.body.ensures.value ∙ c.in-Way.is) c.as_slice.ensures) c.add_links_to_nodes.ensures

pub returns-in-Rel : goal.returns-in-Rel
returns-in-Rel c =
    on_ok_as _ (relation_links c.args.set.now c.args.object.now _ c.reference-parent.ensures.value c.in-Rel.members _ (sym c.body.ensures.value ∙ c.in-Rel.is) c.as_slice-in-Rel.ensures) c.add_links_to_members.ensures
