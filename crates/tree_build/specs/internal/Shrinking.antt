-- Coming down to the top of a tree that lost levels.
use Rattle.std.specs.Prelude.{◌≡◌, ◌≢◌, ℕ, zero, suc, ◌+◌, ◌-◌, ◌<◌, ◌≤◌, List, [], ◌∷◌, ◌++◌, ◌⊎◌, length, map, Option, None, Some, ◌==◌, if◌then◌else◌, slice_index_or}
use Rattle.tree_node.specs.Nodes.{Binding, Link, Node, spelling}
use Rattle.tree_node.specs.Trees.{Two, levels, links_in, no_node}
use Rattle.tree_node.specs.declared.digest.Digest.{Digest}
use Rattle.tree_build.specs.Changing.{Change}
use Rattle.tree_build.specs.Rebuilding.{IsOldTree, changed_entries}
use Rattle.tree_build.specs.internal.Telling.{node_digest}
use Rattle.tree_build.specs.internal.Towers.{tower}
use Rattle.tree_build.specs.internal.TreeEdits.{AreEdits}
use Rattle.tree_build.specs.declared.step.LevelEdit.{LevelEdit}

-- the digest of the node's only child, where it has one child
abbrev pub IsOnlyChild : Node → Option Digest → Type 0
IsOnlyChild node None = length (links_in node) ≢ 1
IsOnlyChild node (Some digest) = (link : Link) × (links_in node ≡ link ∷ []) × (digest.0 ≡ link.child)

-- the nodes of a level whose edit has no new ones
abbrev pub stayed : List Node → LevelEdit → List Node
stayed nodes edit = if length edit.news.items == 0 then nodes else []

-- the same of a level of these, of which the first has this number
abbrev pub stayed_at : (ℕ → List Node) → ℕ → List LevelEdit → ℕ → List Node
stayed_at new first [] level = []
stayed_at new first (edit ∷ edits) zero = stayed (new first) edit
stayed_at new first (edit ∷ edits) (suc level) = stayed_at new (suc first) edits level

-- those of so many levels, from this one down
abbrev pub passed : (ℕ → List Node) → ℕ → ℕ → List Node
passed stays last zero = []
passed stays last (suc steps) = passed stays last steps ++ stays (last - steps)

-- The new tree's top is at this level: the last one, or one to which levels with one node lead down from it. The
-- nodes that were passed and aren't new are gone.
pub record HasShrunk (new : ℕ → List Node) (edits : List LevelEdit) (gone later : List (List ℕ)) (top : List ℕ) (level : ℕ) : Type 0 where
  pub steps : ℕ
  pub at : level + steps + 1 ≡ length edits
  pub one : (n : ℕ) → n ≤ steps → length (new (level + n)) ≡ 1
  pub first : (level ≡ 0) ⊎ (2 ≤ length (new (level - 1)))
  pub top_is : top ≡ node_digest (slice_index_or (new level) 0 no_node)
  pub gone_are : later ≡ gone ++ map node_digest (passed (stayed_at new 0 edits) (length edits - 1) steps)

-- The set holds an old tree, and these edits change its levels up to one with one new node, which has this digest.
pub record CanShrink (held : List ℕ → Type 0) (tree : ℕ) (top : List ℕ) (changes : List (Change Binding)) (entries : List Binding) (edits : List LevelEdit) (digest : List ℕ) : Type 0 where
  pub is : IsOldTree held top changes tree entries
  pub are : AreEdits (levels Two tree entries) (tower Two tree (changed_entries entries changes)) 0 edits
  pub high : length edits ≤ length (levels Two tree entries)
  pub one : length (tower Two tree (changed_entries entries changes) (length edits - 1)) ≡ 1
  pub digest_is : digest ≡ node_digest (slice_index_or (tower Two tree (changed_entries entries changes) (length edits - 1)) 0 no_node)

-- the one node of a level from this one on, whose edit has no new ones
pub record IsReadBy (new : ℕ → List Node) (edits : List LevelEdit) (level : ℕ) (bytes : List ℕ) : Type 0 where
  pub at : ℕ
  pub low : level ≤ at
  pub high : at < length edits
  pub edit : LevelEdit
  pub edit_is : edit ≡ slice_index_or edits at edit
  pub none_new : edit.news.items ≡ []
  pub spelled : bytes ≡ spelling (slice_index_or (new at) 0 no_node)
