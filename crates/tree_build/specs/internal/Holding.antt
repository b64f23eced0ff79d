-- Nodes of a tree that a shelf holds.
use Rattle.std.specs.Prelude.{◌≡◌, ℕ, ◌<◌, ◌≤◌, List, [], length, Bool, IsTrue}
use Rattle.tree_node.specs.Digests.{digest}
use Rattle.tree_node.specs.Nodes.{Binding, IsNode, IsTree, Node, spelling}
use Rattle.tree_node.specs.Trees.{Two, HasTree, IsNodeOf, greatest_of, level_at, levels, top_of}
use Rattle.tree_build.specs.internal.Edits.{IsOldNode}
use Rattle.tree_build.specs.internal.Seeking.{IsSought}
use Rattle.tree_build.specs.internal.Weaving.{IsIn}
use Rattle.tree_build.specs.declared.old_node.OldNode.{OldNode}

-- the set holds this node, whose digest this is
pub record IsHeld (held : List ℕ → Type 0) (key : List ℕ) (node : Node) : Type 0 where
  pub is : IsNode node
  pub holds : held (spelling node)
  pub digest_is : key ≡ digest (spelling node)

-- the set holds the tree of these entries, whose top has this digest
pub record IsHeldTree (held : List ℕ → Type 0) (top : List ℕ) (tree : ℕ) (entries : List Binding) : Type 0 where
  pub is_tree : IsTree tree
  pub has : HasTree entries
  pub is_top : top ≡ digest (top_of (levels Two tree entries))
  pub holds : (bytes : List ℕ) → IsNodeOf (levels Two tree entries) bytes → held bytes

-- the set holds that tree, which has the level
pub record IsHeldLevel (held : List ℕ → Type 0) (top : List ℕ) (tree level : ℕ) (entries : List Binding) : Type 0 where
  pub is : IsHeldTree held top tree entries
  pub within : level < length (levels Two tree entries)

-- the node of the level that is sought, with those before and after it
pub record IsSoughtNode (tree : List (List Node)) (level : ℕ) (wanted : List ℕ) (above : Bool) (node : Node) (last : Bool) : Type 0 where
  pub front : List Node
  pub back : List Node
  pub sought : IsSought greatest_of wanted above (level_at tree level) front node back
  pub is_last : (IsTrue last → back ≡ []) × (back ≡ [] → IsTrue last)

-- the node is sought at this level or one above it
pub record IsOnWay (tree : List (List Node)) (level : ℕ) (wanted : List ℕ) (above : Bool) (bytes : List ℕ) : Type 0 where
  pub at : ℕ
  pub over : level ≤ at
  pub within : at < length tree
  pub node : Node
  pub last : Bool
  pub sought : IsSoughtNode tree at wanted above node last
  pub spelled : bytes ≡ spelling node

-- it is on the way to a node of the level that was opened
pub record IsOnWayTo (tree : List (List Node)) (level : ℕ) (olds : List OldNode) (bytes : List ℕ) : Type 0 where
  pub wanted : List ℕ
  pub above : Bool
  pub on_way : IsOnWay tree level wanted above bytes
  pub node : Node
  pub last : Bool
  pub sought : IsSoughtNode tree level wanted above node last
  pub old : OldNode
  pub opened : IsIn old olds
  pub stands : IsOldNode old node
