-- What a stream has taken.
-- Source: this project's trees, docs/FORMATS.md.
use Rattle.std.specs.Prelude.{◌≡◌, ℕ, List, [], ◌∷◌, length, map, ⊤}
use Rattle.tree_build.specs.Shapes.{shape_of}
use Rattle.tree_node.specs.NodeRefs.{number_of}
use Rattle.tree_node.specs.Nodes.{Binding, keys_of, spelling}
use Rattle.tree_node.specs.Order.{IsBelow}
use Rattle.tree_node.specs.Trees.{HasTree, Shape, last_key}
use Rattle.tree_stream.specs.declared.stream.TreeStream.{TreeStream}
use Rattle.tree_stream.specs.internal.Cutting.{entries_left, leaves_done}
use Rattle.tree_stream.specs.internal.Holding.{HoldsEntries}
use Rattle.tree_stream.specs.internal.Opening.{AreOpen}

-- The stream, which makes a tree of this shape and number, has taken just these entries, one after the other: they have a
-- tree, and of that the writer was given the nodes that they complete.
pub record HasTaken {W : Type 0} (given : W → ℕ → List (List ℕ)) (stream : TreeStream W) (shape : Shape) (tree : ℕ) (entries : List Binding) : Type 0 where
  pub have_tree : HasTree entries
  pub shape_is : shape_of stream.shape ≡ shape
  pub tree_is : number_of stream.tree ≡ tree
  pub count : stream.count ≡ length entries
  pub last : stream.last.items ≡ last_key (keys_of entries)
  pub leaf : HoldsEntries stream.leaf (entries_left shape entries)
  pub leaves : given stream.writer 0 ≡ map spelling (leaves_done shape tree entries)
  pub levels : AreOpen shape tree 0 (leaves_done shape tree entries) stream.levels.items (given stream.writer)

-- the stream has taken just some entries: no call on it was refused for memory or by its writer
abbrev pub IsSound : {W : Type 0} → (W → ℕ → List (List ℕ)) → TreeStream W → Type 0
IsSound given stream = (shape : Shape) × (tree : ℕ) × (entries : List Binding) × HasTaken given stream shape tree entries

-- the key is above those of the entries, which rise: above the last one, where there is one
abbrev pub IsNextKey : List Binding → List ℕ → Type 0
IsNextKey [] key = ⊤
IsNextKey (entry ∷ entries) key = IsBelow (last_key (keys_of (entry ∷ entries))) key
