use Rattle.std.proofs.Common.{◌≡◌, Ok, Some, IfOk, Result, List, ℕ, sym, subst, ◌∙◌, arith}
use Rattle.tree_node.specs.NodeRefs.{node_read}
use Rattle.tree_node.specs.Nodes.{Spells}
use Rattle.tree_node.specs.declared.fault.NodeFault.{NodeFault}
use Rattle.tree_node.specs.declared.node.NodeRef.{NodeRef}
use Rattle.tree_node.proofs.shared.NodeLaws.{node_again}
use Rattle.tree_node.proofs.recorded_node.RecordedNode.with_read.Goals as goal

-- an option has one value
same_node : (a b : NodeRef) → Some a ≡ Some b → a ≡ b
same_node a b e = Prim.cc

-- what was read is spelled
spelled : (bytes : List ℕ) (read : Result NodeRef NodeFault) (node : NodeRef) → read ≡ Ok node → IfOk read (λ found. Spells bytes (node_read found)) → Spells bytes (node_read node)
spelled bytes read node is found = subst (λ (r : Result NodeRef NodeFault). IfOk r (λ found. Spells bytes (node_read found))) is found

pub invariant_of-result : goal.invariant_of-result
invariant_of-result c = record {
  own = λ node is. (
    (λ i. omega (arith, c.type_inv.bytes i)),
    node_again c.args.bytes.now (node_read node)
        (subst (λ (n : NodeRef). Spells c.args.bytes.now (node_read n)) (sym c.again.ensures ∙ same_node c.again.result node is)
        (spelled c.args.bytes.now c.args.read.now c.in-Ok.node c.in-Ok.is c.requires.found)),
  );
}
