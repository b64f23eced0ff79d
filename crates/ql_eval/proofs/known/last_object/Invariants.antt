use Rattle.std.proofs.Common.{take}
use Rattle.tree_node.specs.NodeRefs.{bindings_of}
use Rattle.tree_node.specs.declared.tree.Tree.TheVariants.{Objects}
use Rattle.ql_eval.specs.Forms.{HaveForm}
use Rattle.ql_eval.specs.internal.Entries.{IsPutBy}
use Rattle.ql_eval.proofs.known.last_object.Given as goal

abbrev pub invariant-loop-item : goal.invariant-loop-item
invariant-loop-item l = record {
  put : IsPutBy (bindings_of (take l.item-index l.found)) l.last;
  formed : HaveForm Objects (bindings_of (take l.item-index l.found));
}
