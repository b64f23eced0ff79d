-- What a node is, and the one spelling of each node as bytes. The numbers of a node are written with the greatest byte
-- first.
-- Source: this project's form of nodes, docs/FORMATS.md.
use Rattle.std.specs.Prelude.{◌≡◌, ℕ, ◌<◌, ◌≤◌, ◌^◌, List, [], ◌∷◌, ◌++◌, length, map, slice_index, Option, Some, None, IfSome, ⊤}
use Rattle.std.specs.Int.{w16, w32, w64, to_be_bytes}
use Rattle.std.specs.List.{flat_map, AllByRecursion}
use Rattle.tree_node.specs.declared.limits.TheConstants.{ITEM_LIMIT, LEVEL_LIMIT, NUMBER_LIMIT}
use Rattle.tree_node.specs.Order.{IsBelow}

-- each number is a byte
abbrev pub AreBytes : List ℕ → Type 0
AreBytes bytes = (i : ℕ) → slice_index bytes i < 256

-- an entry of a leaf
pub record Binding : Type 0 where
  pub key : List ℕ
  pub value : List ℕ

-- an item of an inner node: the greatest key below, the number of entries below, the child's digest
pub record Link : Type 0 where
  pub greatest : List ℕ
  pub number : ℕ
  pub child : List ℕ

-- a leaf of a tree with this number, or an inner node of it at this level
pub data Node : Type 0 where
  Leaf : (tree : ℕ) (entries : List Binding) → Node
  Inner : (tree level : ℕ) (links : List Link) → Node

-- ---- spelling

-- an entry: the length of its key in two bytes, the key, the length of its value in four bytes, the value
abbrev pub entry : Binding → List ℕ
entry e = to_be_bytes w16 (length e.key) ++ (e.key ++ (to_be_bytes w32 (length e.value) ++ e.value))

-- an item of an inner node: the length of its key in two bytes, the key, the number in eight bytes, the digest
abbrev pub link : Link → List ℕ
link c = to_be_bytes w16 (length c.greatest) ++ (c.greatest ++ (to_be_bytes w64 c.number ++ c.child))

-- a node: the number of its tree, its level, the number of its items in two bytes, the items
abbrev pub spelling : Node → List ℕ
spelling (Leaf tree entries) = (tree ∷ 0 ∷ to_be_bytes w16 (length entries)) ++ flat_map entry entries
spelling (Inner tree level links) = (tree ∷ level ∷ to_be_bytes w16 (length links)) ++ flat_map link links

-- ---- what has a spelling

-- each key is above the one before it, and the first above low, where there is one
abbrev pub AreRisingFrom : Option (List ℕ) → List (List ℕ) → Type 0
AreRisingFrom low [] = ⊤
AreRisingFrom low (key ∷ keys) = IfSome low (λ l. IsBelow l key) × AreRisingFrom (Some key) keys

-- key and value of an entry fit the widths of their lengths
pub record FitsEntry (e : Binding) : Type 0 where
  pub key : length e.key < 2 ^ 16
  pub value : length e.value < 2 ^ 32

-- key and digest of an item of an inner node have their lengths, and its number is from 1 to the limit
pub record FitsLink (c : Link) : Type 0 where
  pub greatest : length c.greatest < 2 ^ 16
  pub some : 1 ≤ c.number
  pub number : c.number ≤ NUMBER_LIMIT
  pub child : length c.child ≡ 32

-- one of the four trees
abbrev pub IsTree : ℕ → Type 0
IsTree tree = (1 ≤ tree) × (tree ≤ 4)

-- the keys of entries, in order
abbrev pub keys_of : List Binding → List (List ℕ)
keys_of entries = map (λ (e : Binding). e.key) entries

-- the greatest keys of the items of an inner node, in order
abbrev pub greatests_of : List Link → List (List ℕ)
greatests_of links = map (λ (c : Link). c.greatest) links

-- the node has a spelling
abbrev pub IsNode : Node → Type 0
IsNode (Leaf tree entries) = IsTree tree × (length entries ≤ ITEM_LIMIT) × AllByRecursion FitsEntry entries × AreRisingFrom None (keys_of entries)
IsNode (Inner tree level links) =
    IsTree tree × (1 ≤ level) × (level ≤ LEVEL_LIMIT) × (1 ≤ length links) × (length links ≤ ITEM_LIMIT)
    × AllByRecursion FitsLink links × AreRisingFrom None (greatests_of links)

-- these bytes are this node
abbrev pub Spells : List ℕ → Node → Type 0
Spells bytes n = IsNode n × (bytes ≡ spelling n)

-- ---- what a node says

-- the number of its tree
abbrev pub tree_of : Node → ℕ
tree_of (Leaf tree entries) = tree
tree_of (Inner tree level links) = tree

-- its level
abbrev pub level_of : Node → ℕ
level_of (Leaf tree entries) = 0
level_of (Inner tree level links) = level
