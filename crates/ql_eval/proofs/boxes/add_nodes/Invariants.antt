use Rattle.std.proofs.Common.{take}
use Rattle.tree_node.specs.NodeRefs.{binding_of, bindings_of}
use Rattle.tree_node.specs.declared.tree.Tree.TheVariants.{Cells}
use Rattle.ref_sets.specs.Adding.{Adds, From}
use Rattle.ql_eval.specs.Forms.{HaveForm}
use Rattle.ql_eval.specs.internal.Entries.{Places, PlacesIn}
use Rattle.ql_eval.proofs.boxes.add_nodes.Given as goal

abbrev pub invariant-loop-item : goal.invariant-loop-item
invariant-loop-item l = record {
  added : Adds l.fn.names.items l.names.items (From (take l.item-index l.found) (λ item. PlacesIn l.area (binding_of item)));
  read : Adds l.fn.cells.items l.cells.items (From (take l.item-index l.found) (λ item. Places (binding_of item)));
  formed : HaveForm Cells (bindings_of (take l.item-index l.found));
}
