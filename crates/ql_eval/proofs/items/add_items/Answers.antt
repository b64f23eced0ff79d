use Rattle.std.proofs.Common.{sym, ◌∙◌}
use Rattle.ql_eval.proofs.BodyItems.{node_items, relation_items, way_items}
use Rattle.ref_sets.proofs.shared.Results.{on_ok_as}
use Rattle.ql_eval.proofs.items.add_items.Goals as goal

pub returns-in-Node : goal.returns-in-Node
returns-in-Node c = node_items c.args.object.now.body (sym c.body.ensures.value ∙ c.in-Node.is)

pub returns-in-Way : goal.returns-in-Way
returns-in-Way c = on_ok_as _ (way_items c.args.object.now.body c.in-Way.nodes _ (sym c.body.ensures.value ∙ c.in-Way.is) c.as_slice.ensures) c.add_nodes.ensures

pub returns-in-Rel : goal.returns-in-Rel
returns-in-Rel c = on_ok_as _ (relation_items c.args.object.now.body c.in-Rel.members _ (sym c.body.ensures.value ∙ c.in-Rel.is) c.as_slice-in-Rel.ensures) c.add_members.ensures
