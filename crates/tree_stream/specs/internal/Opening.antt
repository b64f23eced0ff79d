-- How far the levels of a tree have come.
use Rattle.std.specs.Prelude.{◌≡◌, ℕ, suc, ◌+◌, ◌<◌, ◌≤◌, ◌^◌, List, [], ◌∷◌, ◌++◌, length, map}
use Rattle.tree_node.specs.Nodes.{Link, Node, spelling, greatests_of}
use Rattle.tree_node.specs.Trees.{Shape, last_key, link_to}
use Rattle.tree_stream.specs.declared.level.OpenLevel.{OpenLevel}
use Rattle.tree_stream.specs.internal.Cutting.{done_above, links_left}
use Rattle.tree_stream.specs.internal.Holding.{HoldsAt}
use Rattle.tree_build.specs.internal.Building.{AreWithin}

-- The levels over these nodes, which are of level `at`, have come just as far as the nodes let them: what is pending is
-- held, what is done was written, and a level is there exactly where an item came.
pub record AreOpen (shape : Shape) (tree at : ℕ) (nodes : List Node) (levels : List OpenLevel) (given : ℕ → List (List ℕ)) : Type 0 where
  pub pending : (up : ℕ) → HoldsAt levels (at + up) (links_left shape (done_above shape tree at nodes up))
  pub written : (up : ℕ) → given (at + suc up) ≡ map spelling (done_above shape tree at nodes (suc up))
  pub there : (up : ℕ) → at + up < length levels → 1 ≤ length (done_above shape tree at nodes up)
  pub past : (up : ℕ) → length levels ≤ at + up → done_above shape tree at nodes up ≡ []

-- So few nodes of this level are done that no node is ever above level 30.
pub record AreFew (at : ℕ) (nodes : List Node) : Type 0 where
  pub most : ℕ
  pub up : at + most ≡ 30
  pub below : length nodes < 2 ^ most

-- The item stands for this node, which comes after those that are done at its level.
pub record CanAdd (shape : Shape) (tree at : ℕ) (nodes : List Node) (node : Node) (link : Link) (levels : List OpenLevel) (given : ℕ → List (List ℕ)) : Type 0 where
  pub stands : link ≡ link_to node
  pub levels_are : AreOpen shape tree at nodes levels given
  pub few : AreFew at nodes
  pub within : AreWithin (map link_to (nodes ++ node ∷ []))
  pub reach : at ≤ length levels

-- All nodes of this level are written, two or more, and the levels over them have come as far as that. The greatest key
-- below the last one is that of the list.
pub record CanClose (shape : Shape) (tree at : ℕ) (nodes : List Node) (last : List ℕ) (levels : List OpenLevel) (given : ℕ → List (List ℕ)) : Type 0 where
  pub levels_are : AreOpen shape tree at nodes levels given
  pub most : ℕ
  pub up : at + most ≡ 30
  pub few : length nodes ≤ 2 ^ most
  pub many : 2 ≤ length nodes
  pub within : AreWithin (map link_to nodes)
  pub ends : last_key (greatests_of (map link_to nodes)) ≡ last
