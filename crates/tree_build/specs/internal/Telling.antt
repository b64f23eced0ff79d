-- What a level of the new tree has gained and lost.
use Rattle.std.specs.Prelude.{◌≡◌, ℕ, List, ◌++◌, map}
use Rattle.tree_node.specs.Digests.{digest}
use Rattle.tree_node.specs.Nodes.{Link, Node, spelling}
use Rattle.tree_build.specs.Changing.{Change}
use Rattle.tree_build.specs.internal.Differing.{Differ}

-- the digest of a node's bytes
abbrev pub node_digest : Node → List ℕ
node_digest node = digest (spelling node)

-- the nodes that are new were added, and the digests of those that are old no more to those that are gone
pub record HasTold (olds news : List Node) (added later gone lost_later : List (List ℕ)) : Type 0 where
  pub lost : List Node
  pub gained : List Node
  pub changes : List (Change Link)
  pub parent_changes : Differ olds news lost gained changes
  pub added_are : later ≡ added ++ map spelling gained
  pub gone_are : lost_later ≡ gone ++ map node_digest lost
