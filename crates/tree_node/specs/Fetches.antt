-- A node that a shelf gave, as it was read from its bytes.
-- Source: this project's form of nodes, docs/FORMATS.md.
use Rattle.std.specs.Prelude.{◌≡◌, ℕ, List, Result, Err, IfErr, IfOk, IsOkAnd}
use Rattle.tree_node.specs.Digests.{digest}
use Rattle.tree_node.specs.Faults.{IsFault}
use Rattle.tree_node.specs.NodeRefs.{node_read}
use Rattle.tree_node.specs.Nodes.{Node, Spells}
use Rattle.tree_node.specs.Outcomes.{ShelfUse}
use Rattle.tree_node.specs.Shelves.{GrownBy}
use Rattle.tree_node.specs.declared.fault.NodeFault.{NodeFault}
use Rattle.tree_node.specs.declared.fetched.Fetched.{Fetched}
use Rattle.tree_node.specs.declared.node.NodeRef.{NodeRef}

-- what reading these bytes gives: the one node that they spell, or the first thing that is at fault
pub record ReadsAs (bytes : List ℕ) (read : Result NodeRef NodeFault) : Type 0 where
  pub found : IfOk read (λ node. Spells bytes (node_read node))
  pub only : (node : Node) → Spells bytes node → IsOkAnd read (λ found. node_read found ≡ node)
  pub refused : IfErr read (λ fault. IsFault bytes fault)
  pub fault : (fault : NodeFault) → IsFault bytes fault → read ≡ Err fault

-- The shelf gave this node, which has this digest: it holds the bytes, the used nodes grow by just these, and what was read
-- is what reading them gives.
pub record GivesNode (shelf : ShelfUse) (key : List ℕ) (node : Fetched) : Type 0 where
  pub is_held : shelf.held node.bytes.now
  pub has_digest : digest node.bytes.now ≡ key
  pub grown : GrownBy shelf.before shelf.after node.bytes.now
  pub reads : ReadsAs node.bytes.now node.read
