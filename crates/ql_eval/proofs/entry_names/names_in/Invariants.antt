use Rattle.std.proofs.Common.{take}
use Rattle.std.specs.List.{Contains}
use Rattle.std.specs.Prelude.{◌↔◌}
use Rattle.osm_model.specs.declared.reference.Ref.{Ref}
use Rattle.tree_node.specs.NodeRefs.{bindings_of}
use Rattle.ql_eval.specs.Forms.{HaveForm, Names}
use Rattle.ql_eval.specs.internal.Entries.{IsSaid}
use Rattle.ql_eval.proofs.entry_names.names_in.Given as goal

abbrev pub invariant-loop-item : goal.invariant-loop-item
invariant-loop-item l = record {
  named : (r : Ref) → Contains l.names.items r ↔ IsSaid (Names l.tree) (bindings_of (take l.item-index l.found)) r;
  formed : HaveForm l.tree (bindings_of (take l.item-index l.found));
}
