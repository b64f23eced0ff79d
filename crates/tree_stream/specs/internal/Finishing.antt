-- How far the closing of a tree's levels has come.
use Rattle.std.specs.Prelude.{◌≡◌, ℕ, suc, ◌+◌, ◌<◌, ◌≤◌, ◌^◌, List, [], ◌∷◌, length, map, Option, Some, None}
use Rattle.tree_node.specs.Digests.{digest}
use Rattle.tree_node.specs.Nodes.{Binding, Node, spelling, greatests_of}
use Rattle.tree_node.specs.Trees.{Shape, last_key, level_at, levels, link_to, top_of}
use Rattle.tree_node.specs.declared.digest.Digest.{Digest}
use Rattle.tree_stream.specs.declared.finish.Top.{Top}
use Rattle.tree_stream.specs.declared.level.OpenLevel.{OpenLevel}
use Rattle.tree_stream.specs.internal.Opening.{AreOpen}
use Rattle.tree_build.specs.internal.Building.{AreWithin}

-- The digest is that of the only node; none, where there isn't exactly one.
abbrev pub IsTopOver : Option Digest → List Node → Type 0
IsTopOver None nodes = length nodes ≡ 1 → ⊥
IsTopOver (Some key) nodes = (node : Node) × (nodes ≡ node ∷ []) × (key.0 ≡ digest (spelling node))

-- The levels of the tree up to this one are written, and those over it have come as far as that.
pub record IsWhole (shape : Shape) (tree : ℕ) (entries : List Binding) (at : ℕ) (last : List ℕ) (opens : List OpenLevel) (given : ℕ → List (List ℕ)) : Type 0 where
  pub within_tree : at < length (levels shape tree entries)
  pub levels_are : AreOpen shape tree at (level_at (levels shape tree entries) at) opens given
  pub below : (level : ℕ) → level ≤ at → given level ≡ map spelling (level_at (levels shape tree entries) level)
  pub most : ℕ
  pub up : at + most ≡ 30
  pub few : length (level_at (levels shape tree entries) at) ≤ 2 ^ most
  pub within : AreWithin (map link_to (level_at (levels shape tree entries) at))
  pub ends : last_key (greatests_of (map link_to (level_at (levels shape tree entries) at))) ≡ last

-- All levels of the tree are written, and no other node, and this is the top.
pub record IsFinished (shape : Shape) (tree : ℕ) (entries : List Binding) (given : ℕ → List (List ℕ)) (top : Top) : Type 0 where
  pub written : (level : ℕ) → given level ≡ map spelling (level_at (levels shape tree entries) level)
  pub level : top.level + 1 ≡ length (levels shape tree entries)
  pub digest_is : top.digest.0 ≡ digest (top_of (levels shape tree entries))
