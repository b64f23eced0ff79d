-- What the finding of the new tree's top leaves to be told.
use Rattle.std.specs.Prelude.{◌≡◌, ℕ, suc, ◌-◌, ◌<◌, ◌≤◌, List, [], ◌∷◌, ◌++◌, ◌⊎◌, ◌↔◌, length, map, Option, None, IfSome, ⊤}
use Rattle.std.specs.List.{AllByRecursion}
use Rattle.tree_node.specs.Digests.{digest}
use Rattle.tree_node.specs.Nodes.{AreRisingFrom, Binding, IsNode, Node, level_of, spelling}
use Rattle.tree_node.specs.Trees.{Two, greatest_of, level_at, levels, top_of}
use Rattle.tree_node.specs.declared.digest.Digest.{Digest}
use Rattle.tree_build.specs.Changing.{Change}
use Rattle.tree_build.specs.Rebuilding.{IsOldTree, changed_entries}
use Rattle.tree_build.specs.internal.Telling.{node_digest}
use Rattle.tree_build.specs.internal.Towers.{tower}
use Rattle.tree_build.specs.internal.TreeEdits.{AreEdits, HaveOpened}
use Rattle.tree_build.specs.internal.Weaving.{IsIn}
use Rattle.tree_build.specs.declared.piece.NewPiece.{NewPiece}
use Rattle.tree_build.specs.declared.step.LevelEdit.{LevelEdit}

-- no two of them are equal
abbrev pub AreOnce : List Node → Type 0
AreOnce [] = ⊤
AreOnce (node ∷ nodes) = (¬ IsIn node nodes) × AreOnce nodes

-- the old and the new level share the node, and the edit has it not
abbrev pub IsKept : (old : List (List Node)) (new : ℕ → List Node) (first : ℕ) (edits : List LevelEdit) → AreEdits old new first edits → ℕ → Node → Type 0
IsKept old new first [] are level node = ⊥
IsKept old new first (edit ∷ edits) are level node = ((level ≡ first) × IsIn node are.0.kept) ⊎ IsKept old new (suc first) edits are.1 level node

-- the edit of the level opened the node
abbrev pub IsOpened : (old : List (List Node)) (new : ℕ → List Node) (first : ℕ) (edits : List LevelEdit) → AreEdits old new first edits → ℕ → Node → Type 0
IsOpened old new first [] are level node = ⊥
IsOpened old new first (edit ∷ edits) are level node = ((level ≡ first) × IsIn node are.0.opened) ⊎ IsOpened old new (suc first) edits are.1 level node

-- The edit of the first level has one new node more; all else is as it was.
abbrev pub HaveGained : NewPiece → List LevelEdit → List LevelEdit → Type 0
HaveGained piece [] later = ⊥
HaveGained piece (edit ∷ edits) [] = ⊥
HaveGained piece (edit ∷ edits) (after ∷ others) =
    (after.olds.items ≡ edit.olds.items) × (after.news.items ≡ edit.news.items ++ piece ∷ []) × (others ≡ edits)

-- the node is of a level from this one on, which the one tree has and the other hasn't
pub record IsGrown (old new : List (List Node)) (from : ℕ) (node : Node) : Type 0 where
  pub level : ℕ
  pub above : from ≤ level
  pub is : IsIn node (level_at new level)
  pub not_old : ¬ IsIn node (level_at old level)

-- the node is of a level above the top's, and no edit has it
pub record IsPassed (old : List (List Node)) (new : ℕ → List Node) (edits : List LevelEdit) (are : AreEdits old new 0 edits) (top : ℕ) (node : Node) : Type 0 where
  pub level : ℕ
  pub above : top < level
  pub kept : IsKept old new 0 edits are level node

-- The new tree's top is found, at this level of the edits: up to it these are the levels of the new tree, and the
-- levels above have none, but that those above all edits are the old ones or have come. The nodes that the edits
-- don't tell of were told.
pub record IsFound (old new : List (List Node)) (edits : List LevelEdit) (added later gone lost_later : List (List ℕ)) (top : List ℕ) (level : ℕ) : Type 0 where
  pub levels : ℕ → List Node
  pub are : AreEdits old levels 0 edits
  pub within : length edits ≤ length old
  pub nodes : (l : ℕ) → l < length edits → AllByRecursion IsNode (levels l)
  pub rise : (l : ℕ) → AreRisingFrom None (map greatest_of (levels l))
  pub level_is : (l : ℕ) (node : Node) → IsIn node (levels l) → level_of node ≡ l
  pub low : (l : ℕ) → l ≤ level → l < length edits → levels l ≡ level_at new l
  pub high : (l : ℕ) → level < l → l < length edits → level_at new l ≡ []
  pub stays : (l : ℕ) (node : Node) → length edits ≤ l → IsIn node (level_at old l) → IsIn node (level_at new l)
  pub grown : List Node
  pub grown_are : later ≡ added ++ map spelling grown
  pub grown_in : (node : Node) → IsIn node grown ↔ IsGrown old new (length edits) node
  pub grown_once : AreOnce grown
  pub passed : List Node
  pub passed_are : lost_later ≡ gone ++ map node_digest passed
  pub passed_in : (node : Node) → IsIn node passed ↔ IsPassed old levels edits are level node
  pub passed_once : AreOnce passed
  pub top_is : top ≡ digest (top_of new)

-- The set holds an old tree, and these edits change its levels: all of them, where no digest of the top is given.
pub record CanFindTop (held : List ℕ → Type 0) (top : List ℕ) (changes : List (Change Binding)) (tree : ℕ) (entries : List Binding) (given : Option Digest) (edits : List LevelEdit) : Type 0 where
  pub is : IsOldTree held top changes tree entries
  pub are : AreEdits (levels Two tree entries) (tower Two tree (changed_entries entries changes)) 0 edits
  pub opened : HaveOpened edits
  pub some : 1 ≤ length edits
  pub high : length edits ≤ length (levels Two tree entries)
  pub whole : given ≡ None → length edits ≡ length (levels Two tree entries)

-- where a digest is given, it is that of the old top, and the last of the levels is as it was
abbrev pub TopStays : List ℕ → List (Change Binding) → ℕ → List Binding → Option Digest → List LevelEdit → Type 0
TopStays top changes tree entries given edits =
    IfSome given (λ (d : Digest). (d.0 ≡ top) × (level_at (levels Two tree entries) (length edits - 1) ≡ tower Two tree (changed_entries entries changes) (length edits - 1)))

-- the bytes are a node of the old tree that the new one hasn't
pub record IsGoneNode (old new : List (List Node)) (bytes : List ℕ) : Type 0 where
  pub level : ℕ
  pub node : Node
  pub is : IsIn node (level_at old level)
  pub not_new : ¬ IsIn node (level_at new level)
  pub spelled : bytes ≡ spelling node

-- the bytes are a node that is gone, or the top of the new tree, which is lower than the old one
abbrev pub IsTopRead : List (List Node) → List (List Node) → List ℕ → Type 0
IsTopRead old new bytes = IsGoneNode old new bytes ⊎ ((length new < length old) × (bytes ≡ top_of new))
