-- What rebuilding a tree of the second shape gives.
use Rattle.std.specs.Prelude.{◌≡◌, ℕ, ◌≤◌, List, [], ◌∷◌, ◌⊎◌, ◌↔◌, length, map, None, ⊤}
use Rattle.std.specs.Option.{option_map}
use Rattle.tree_node.specs.Digests.{digest}
use Rattle.tree_node.specs.Nodes.{Binding, Node, IsTree, AreRisingFrom}
use Rattle.tree_node.specs.Shelves.{IsClashFree}
use Rattle.tree_node.specs.Trees.{Two, HasTree, IsNodeOf, levels, top_of}
use Rattle.tree_node.specs.declared.digest.Digest.{Digest}
use Rattle.tree_build.specs.Changing.{Change, changed}
use Rattle.tree_build.specs.declared.change.EntryChange.{EntryChange}
use Rattle.tree_node.specs.declared.new_node.NewNode.{NewNode}
use Rattle.tree_build.specs.declared.rebuilt.Rebuilt.{Rebuilt}

-- the change that it is
abbrev pub change_of : EntryChange → Change Binding
change_of change = record { key = change.key.items; put = option_map (λ value. record { key = change.key.items; value = value.items }) change.value }

abbrev pub changes_of : List EntryChange → List (Change Binding)
changes_of changes = map change_of changes

abbrev pub keys_of_changes : List (Change Binding) → List (List ℕ)
keys_of_changes changes = map (λ (c : Change Binding). c.key) changes

-- the entries after the changes
abbrev pub changed_entries : List Binding → List (Change Binding) → List Binding
changed_entries entries changes = changed (λ (e : Binding). e.key) entries changes

-- The set holds the tree of these entries, whose top has this digest, and the changed entries have a tree too.
pub record IsOldTree (held : List ℕ → Type 0) (top : List ℕ) (changes : List (Change Binding)) (tree : ℕ) (entries : List Binding) : Type 0 where
  pub is_tree : IsTree tree
  pub has : HasTree entries
  pub is_top : top ≡ digest (top_of (levels Two tree entries))
  pub holds : (bytes : List ℕ) → IsNodeOf (levels Two tree entries) bytes → held bytes
  pub rising : AreRisingFrom None (keys_of_changes changes)
  pub changed_has : HasTree (changed_entries entries changes)

-- there is such a tree
pub record HoldsOldTree (held : List ℕ → Type 0) (top : List ℕ) (changes : List (Change Binding)) : Type 0 where
  pub tree : ℕ
  pub entries : List Binding
  pub is : IsOldTree held top changes tree entries

-- the bytes are one of these
abbrev pub IsAmong : List (List ℕ) → List ℕ → Type 0
IsAmong [] bytes = ⊥
IsAmong (node ∷ nodes) bytes = (bytes ≡ node) ⊎ IsAmong nodes bytes

-- no two of them are equal
abbrev pub AreDifferent : List (List ℕ) → Type 0
AreDifferent [] = ⊤
AreDifferent (node ∷ nodes) = (¬ IsAmong nodes node) × AreDifferent nodes

abbrev pub nodes_of : List NewNode → List (List ℕ)
nodes_of nodes = map (λ (node : NewNode). node.bytes.items) nodes

abbrev pub digests_of : List Digest → List (List ℕ)
digests_of digests = map (λ (d : Digest). d.0) digests

-- What was rebuilt: the new tree's top; the nodes that it has and the old one hasn't, each once; the digests of the old
-- tree's nodes that the new one hasn't, each once.
pub record IsRebuilt (old new : List (List Node)) (rebuilt : Rebuilt) : Type 0 where
  pub top : rebuilt.top.0 ≡ digest (top_of new)
  pub added : (bytes : List ℕ) → IsAmong (nodes_of rebuilt.added.items) bytes ↔ (IsNodeOf new bytes × ¬ IsNodeOf old bytes)
  pub added_once : AreDifferent (nodes_of rebuilt.added.items)
  pub gone : (key : List ℕ) → IsAmong (digests_of rebuilt.gone.items) key ↔ ((bytes : List ℕ) × IsNodeOf old bytes × ¬ IsNodeOf new bytes × (key ≡ digest bytes))
  pub gone_once : AreDifferent (digests_of rebuilt.gone.items)

-- no two different nodes of both trees have one digest
abbrev pub AreClashFree : List (List Node) → List (List Node) → Type 0
AreClashFree old new = IsClashFree (λ bytes. IsNodeOf old bytes ⊎ IsNodeOf new bytes)

-- the set has gained at most so many nodes
abbrev pub GrownByAtMost : ℕ → (List ℕ → Type 0) → (List ℕ → Type 0) → Type 0
GrownByAtMost most old new = (nodes : List (List ℕ)) × (length nodes ≤ most) × ((bytes : List ℕ) → new bytes → old bytes ⊎ IsAmong nodes bytes)
