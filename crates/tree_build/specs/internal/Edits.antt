-- What stands for the nodes of a level while it changes.
use Rattle.std.specs.Prelude.{◌≡◌, List, [], ◌∷◌, ◌++◌, ⊤}
use Rattle.std.specs.List.{AllByRecursion}
use Rattle.tree_node.specs.Digests.{digest}
use Rattle.tree_node.specs.Nodes.{IsNode, Node, spelling}
use Rattle.tree_node.specs.Trees.{entry_count, greatest_of}
use Rattle.tree_build.specs.declared.old_node.OldNode.{OldNode}
use Rattle.tree_build.specs.declared.piece.NewPiece.{NewPiece}

-- it stands for this node of the old tree
pub record IsOldNode (old : OldNode) (node : Node) : Type 0 where
  pub digest_is : old.digest.0 ≡ digest (spelling node)
  pub bytes : old.bytes.now ≡ spelling node
  pub greatest : old.greatest.now ≡ greatest_of node

-- it stands for this node of the new tree
pub record IsNewNode (new : NewPiece) (node : Node) : Type 0 where
  pub bytes : new.node.bytes.items ≡ spelling node
  pub greatest : new.greatest.now ≡ greatest_of node
  pub number : new.number ≡ entry_count node

-- each of the first stands for that of the second in its place
abbrev pub Each : {X Y : Type 0} → (X → Y → Type 0) → List X → List Y → Type 0
Each Stands [] [] = ⊤
Each Stands [] (y ∷ ys) = ⊥
Each Stands (x ∷ xs) [] = ⊥
Each Stands (x ∷ xs) (y ∷ ys) = Stands x y × Each Stands xs ys

-- they stand for these nodes of the old tree and of the new one
pub record StandForNodes (olds : List OldNode) (news : List NewPiece) (old new : List Node) : Type 0 where
  pub olds_stand : Each IsOldNode olds old
  pub news_stand : Each IsNewNode news new
  pub old_are : AllByRecursion IsNode old
  pub new_are : AllByRecursion IsNode new

-- to what was made, these nodes have come
pub record HaveCome (old new : List NewPiece) (nodes : List Node) : Type 0 where
  pub more : List NewPiece
  pub whole : new ≡ old ++ more
  pub stand : Each IsNewNode more nodes
