-- What one step of a rebuild does: it changes one level of a tree.
use Rattle.std.specs.Prelude.{◌≡◌, ℕ, ◌≤◌, List, [], ◌∷◌, ◌++◌, length, map, Bool, true, false, Option, None, Some, ◌⊎◌, ◌≢◌, if◌then◌else◌, ⊤}
use Rattle.std.specs.List.{AllByRecursion, flat_map}
use Rattle.std.specs.Borrow.{Bor}
use Rattle.tree_node.specs.declared.limits.TheConstants.{ENTRY_LIMIT}
use Rattle.tree_node.specs.NodeRefs.{number_of}
use Rattle.tree_node.specs.Nodes.{AreRisingFrom, Binding, Node}
use Rattle.tree_node.specs.Order.{IsBelow}
use Rattle.tree_node.specs.Trees.{Two, ends_by, greatest_of, last_key, level_at, levels, pieces, pieces_from}
use Rattle.tree_build.specs.Changing.{Change, changed}
use Rattle.tree_build.specs.internal.Cutting.{ArePieces, done_by, pending_after}
use Rattle.tree_build.specs.internal.Edits.{Each, HaveCome, IsNewNode, IsOldNode}
use Rattle.tree_build.specs.internal.Holding.{IsHeldLevel}
use Rattle.tree_build.specs.internal.RisingChanges.{AreOwnAndRising}
use Rattle.tree_build.specs.internal.Seeking.{IsSought}
use Rattle.tree_build.specs.internal.Weaving.{IsIn, Woven}
use Rattle.tree_build.specs.declared.old_node.OldNode.{OldNode}
use Rattle.tree_build.specs.declared.level_item.ItemChange.{ItemChange}
use Rattle.tree_build.specs.declared.piece.NewPiece.{NewPiece}
use Rattle.tree_build.specs.declared.step.LevelEdit.{LevelEdit}
use Rattle.tree_build.specs.declared.step.OldLevel.{OldLevel}

-- the nodes are the pieces of their items, each with an item or more
pub record HavePieces {X : Type 0} (ends : ℕ → X → Bool) (items : Node → List X) (nodes : List Node) : Type 0 where
  pub are : ArePieces ends (map items nodes)
  pub some : AllByRecursion (λ (n : Node). 1 ≤ length (items n)) nodes

-- the nodes are a level over their items; one node alone may be the leaf without entries
pub record IsLevel {X : Type 0} (key : X → List ℕ) (ends : ℕ → X → Bool) (items : Node → List X) (over : List X → Node) (nodes : List Node) : Type 0 where
  pub made : AllByRecursion (λ (n : Node). over (items n) ≡ n) nodes
  pub rising : AreRisingFrom None (map key (flat_map items nodes))
  pub greatest : AllByRecursion (λ (n : Node). greatest_of n ≡ last_key (map key (items n))) nodes
  pub nodes_rise : AreRisingFrom None (map greatest_of nodes)
  pub cut : (length nodes ≡ 1) ⊎ HavePieces ends items nodes
  pub few : length nodes ≤ ENTRY_LIMIT

-- the level can be changed so
pub record CanStep {X : Type 0} (key : X → List ℕ) (ends : ℕ → X → Bool) (items : Node → List X) (over : List X → Node) (Fit : List X → Type 0) (nodes : List Node) (changes : List (Change X)) : Type 0 where
  pub level : IsLevel key ends items over nodes
  pub some : 1 ≤ length changes
  pub own : AreOwnAndRising key changes
  pub fit : Fit (changed key (flat_map items nodes) changes)

-- the nodes of the level
abbrev pub nodes_at : OldLevel → List Binding → List Node
nodes_at place entries = level_at (levels Two (number_of place.tree) entries) place.level

-- the set holds a tree with the level, which can be changed so
pub record CanChange {X : Type 0} (held : List ℕ → Type 0) (place : OldLevel) (key : X → List ℕ) (marked : X → Bool) (items : Node → List X) (over : ℕ → ℕ → List X → Node) (Fit : List X → Type 0)
    (entries : List Binding) (changes : List (Change X)) : Type 0 where
  pub level : IsHeldLevel held place.top.0 (number_of place.tree) place.level entries
  pub can : CanStep key (ends_by Two marked) items (over (number_of place.tree) place.level) Fit (nodes_at place entries) changes

-- the nodes of the changed level
abbrev pub changed_nodes : {X : Type 0} → OldLevel → (X → List ℕ) → (X → Bool) → (Node → List X) → (ℕ → ℕ → List X → Node) → List Binding → List (Change X) → List Node
changed_nodes place key marked items over entries changes =
    map (over (number_of place.tree) place.level) (pieces (ends_by Two marked) (changed key (flat_map items (nodes_at place entries)) changes))

-- the old level and the new one share some nodes, and the edit has the others of each
pub record IsEdit (old new : List Node) (edit : LevelEdit) : Type 0 where
  pub kept : List Node
  pub opened : List Node
  pub came : List Node
  pub was : Woven kept opened old
  pub is : Woven kept came new
  pub olds_stand : Each IsOldNode edit.olds.items opened
  pub news_stand : Each IsNewNode edit.news.items came

-- what is sought next: with something pending the node after the last one that was opened, else that of the next change
abbrev pub IsWanted : {T : Type 0} → List OldNode → List T → List (ItemChange T) → Option (Bor (List ℕ) × Bool) → Type 0
IsWanted olds pending rest None = ((pending ≡ []) × (rest ≡ [])) ⊎ ((pending ≢ []) × (olds ≡ []))
IsWanted {T} olds pending rest (Some wanted) =
    ((pending ≡ []) × (change : ItemChange T) × (others : List (ItemChange T)) × (rest ≡ change ∷ others) × (wanted.0.now ≡ change.key.now) × (wanted.1 ≡ false))
    ⊎ ((pending ≢ []) × (before : List OldNode) × (last : OldNode) × (olds ≡ before ++ last ∷ []) × (wanted.0.now ≡ last.greatest.now) × (wanted.1 ≡ true))

-- the first of the changes, where there is one, is above the key
abbrev pub FirstIsAbove : {T : Type 0} → List ℕ → List (ItemChange T) → Type 0
FirstIsAbove key [] = ⊤
FirstIsAbove key (change ∷ changes) = IsBelow key change.key.now

-- the cutting of these items has gone on from what was pending, and has come to the list's end where they are the last
pub record HaveGoneOn {X : Type 0} (ends : ℕ → X → Bool) (over : List X → Node) (is_last : Bool) (pending : List X) (news : List NewPiece) (items next : List X) (later : List NewPiece) : Type 0 where
  pub come : HaveCome news later (map over (done_by ends pending items ++ (if is_last then pieces_from ends (pending_after ends pending items) [] else [])))
  pub pending_is : next ≡ (if is_last then [] else pending_after ends pending items)

-- the node is sought for the key
pub record IsSoughtFor (nodes : List Node) (key : List ℕ) (node : Node) : Type 0 where
  pub front : List Node
  pub back : List Node
  pub sought : IsSought greatest_of key false nodes front node back

-- why a node was opened: it is sought for one of the keys, or it is gone
abbrev pub IsReason : List Node → List Node → List (List ℕ) → Node → Type 0
IsReason nodes new keys node = ((key : List ℕ) × IsIn key keys × IsSoughtFor nodes key node) ⊎ (¬ IsIn node new)

-- the old node was opened for a reason
pub record IsOpenedFor (nodes new : List Node) (keys : List (List ℕ)) (old : OldNode) : Type 0 where
  pub node : Node
  pub among : IsIn node nodes
  pub stands : IsOldNode old node
  pub reason : IsReason nodes new keys node

-- the node that is sought for the key was opened
pub record IsCovered (nodes : List Node) (olds : List OldNode) (key : List ℕ) : Type 0 where
  pub old : OldNode
  pub opened : IsIn old olds
  pub node : Node
  pub stands : IsOldNode old node
  pub sought : IsSoughtFor nodes key node

-- Each old node was opened for a reason, and those that are sought for these keys were opened.
pub record HaveReasons (nodes new : List Node) (keys covered : List (List ℕ)) (olds : List OldNode) : Type 0 where
  pub reasons : AllByRecursion (IsOpenedFor nodes new keys) olds
  pub covers : AllByRecursion (IsCovered nodes olds) covered

abbrev pub keys_changed : {X : Type 0} → List (Change X) → List (List ℕ)
keys_changed {X} changes = map (λ (c : Change X). c.key) changes
