-- The levels of the four trees, as they are read.
-- Source: this project.
use Rattle.std.specs.Prelude.{ℕ, List}
use Rattle.tree_node.specs.declared.tree.Tree.{Tree}
use Rattle.tree_node.specs.declared.tree.Tree.TheVariants.{Objects, Tags, Cells, Backs}
use Rattle.level_files.specs.Levels.{LevelNodes, level_in}
use Rattle.level_files.specs.declared.stored_levels.StoredLevels.{StoredLevels}

-- the levels of a tree
abbrev pub levels_of_tree : {S : Type 0} → StoredLevels S → Tree → List LevelNodes
levels_of_tree stored Objects = stored.objects.items
levels_of_tree stored Tags = stored.tags.items
levels_of_tree stored Cells = stored.cells.items
levels_of_tree stored Backs = stored.backs.items

-- a level of a tree; one without nodes where the tree hasn't got it
abbrev pub level_of_tree : {S : Type 0} → StoredLevels S → Tree → ℕ → LevelNodes
level_of_tree stored tree level = level_in (levels_of_tree stored tree) level
