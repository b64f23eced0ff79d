-- What reading the bytes of a node that was fetched gives.
use Rattle.std.proofs.Common.{ℕ, List, Result}
use Rattle.tree_node.specs.Fetches.{ReadsAs}
use Rattle.tree_node.specs.NodeRefs.{node_read}
use Rattle.tree_node.specs.Nodes.{AreBytes}
use Rattle.tree_node.specs.internal.Reading.{Gives, node_at}
use Rattle.tree_node.specs.declared.fault.NodeFault.{NodeFault}
use Rattle.tree_node.specs.declared.node.NodeRef.{NodeRef}
use Rattle.tree_node.proofs.NodeFaults.{refused_is, fault_refused}
use Rattle.tree_node.proofs.shared.NodeLaws.{is_found, is_only}

-- what going through the bytes from the left gives is what reading them gives
pub reads_as : (bytes : List ℕ) (read : Result NodeRef NodeFault) → AreBytes bytes → Gives node_read read (node_at bytes) → ReadsAs bytes read
reads_as bytes read fits given = record {
  found = is_found bytes read fits given;
  only = λ node spells. is_only bytes node read spells given;
  refused = refused_is bytes read fits given;
  fault = λ fault is. fault_refused bytes fault read fits is given;
}
