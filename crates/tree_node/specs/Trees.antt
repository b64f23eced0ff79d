-- The tree of a list of entries: its levels of nodes, the leaves first, up to the one node at the top. The list is cut
-- into pieces, a leaf each; the nodes of a level are cut into pieces, a node of the next level each.
-- Source: this project's trees, docs/FORMATS.md.
use Rattle.std.specs.Prelude.{◌≡◌, ℕ, zero, suc, ◌+◌, ◌-◌, ◌<◌, ◌≤◌, List, [], ◌∷◌, ◌++◌, length, map, take, drop, sum_by, Option, Some, None, Bool, nat_lt, ◌==◌, ◌&&◌, ◌||◌, slice_index, slice_index_or, if◌then◌else◌}
use Rattle.std.specs.List.{AllByRecursion, flat_map}
use Rattle.tree_node.specs.declared.limits.TheConstants.{ENTRY_LIMIT, ITEM_LIMIT, KEY_LIMIT, VALUE_LIMIT}
use Rattle.tree_node.specs.Digests.{digest}
use Rattle.tree_node.specs.Nodes.{Binding, Link, Node, Leaf, Inner, spelling, AreRisingFrom, keys_of}

-- ---- pieces

-- The pieces of what is in hand and what follows, where `ends n x` says whether a piece ends after x as its n-th item.
-- The last piece ends with the list.
abbrev pub pieces_from : {X : Type 0} → (ℕ → X → Bool) → List X → List X → List (List X)
pieces_from ends [] [] = []
pieces_from ends (y ∷ ys) [] = (y ∷ ys) ∷ []
pieces_from ends piece (x ∷ xs) =
    if ends (length piece + 1) x then (piece ++ x ∷ []) ∷ pieces_from ends [] xs
    else pieces_from ends (piece ++ x ∷ []) xs

-- the pieces of a list
abbrev pub pieces : {X : Type 0} → (ℕ → X → Bool) → List X → List (List X)
pieces ends xs = pieces_from ends [] xs

-- how lists are cut
pub data Shape : Type 0 where
  One : Shape
  Two : Shape

-- A piece ends after its 64th item; in the second shape also after a marked item that is at least its second.
abbrev pub ends_by : {X : Type 0} → Shape → (X → Bool) → ℕ → X → Bool
ends_by One is_marked n x = n == ITEM_LIMIT
ends_by Two is_marked n x = n == ITEM_LIMIT || (nat_lt 1 n && is_marked x)

-- an entry is marked where the first byte of its key's digest is below 8
abbrev pub is_marked_entry : Binding → Bool
is_marked_entry entry = nat_lt (slice_index (digest entry.key) 0) 8

-- an item of an inner node is marked where the first byte of its child's digest is below 8
abbrev pub is_marked_link : Link → Bool
is_marked_link link = nat_lt (slice_index link.child 0) 8

-- ---- what an item of an inner node says of the node below it

-- the last of some keys
abbrev pub last_key : List (List ℕ) → List ℕ
last_key [] = []
last_key (key ∷ []) = key
last_key (key ∷ next ∷ keys) = last_key (next ∷ keys)

-- the greatest key below a node: its last one
abbrev pub greatest_of : Node → List ℕ
greatest_of (Leaf tree entries) = last_key (map (λ (e : Binding). e.key) entries)
greatest_of (Inner tree level links) = last_key (map (λ (l : Link). l.greatest) links)

-- the number of entries below a node: those of a leaf, and of an inner node what its items state, together
abbrev pub entry_count : Node → ℕ
entry_count (Leaf tree entries) = length entries
entry_count (Inner tree level links) = sum_by (λ (l : Link). l.number) links

-- the item of an inner node that stands for a node
abbrev pub link_to : Node → Link
link_to node = record { greatest = greatest_of node; number = entry_count node; child = digest (spelling node) }

-- ---- levels

-- the pieces of a list, or one piece without items where there are none
abbrev pub one_at_least : {X : Type 0} → List (List X) → List (List X)
one_at_least [] = [] ∷ []
one_at_least (piece ∷ others) = piece ∷ others

-- the leaves over the entries; the empty list has one leaf, without entries
abbrev pub leaves : Shape → ℕ → List Binding → List Node
leaves shape tree entries = map (Leaf tree) (one_at_least (pieces (ends_by shape is_marked_entry) entries))

-- the level over these nodes
abbrev pub level_over : Shape → ℕ → ℕ → List Node → List Node
level_over shape tree level nodes = map (Inner tree level) (pieces (ends_by shape is_marked_link) (map link_to nodes))

-- The levels over these nodes, of which the first has this number, until one node is left. Each level has fewer nodes
-- than the one below it, so as many steps as there are nodes are enough.
unfoldable pub levels_over : (steps : ℕ) → Shape → ℕ → ℕ → List Node → List (List Node)
levels_over zero shape tree level nodes = []
levels_over (suc steps) shape tree level nodes =
    if nat_lt (length nodes) 2 then []
    else level_over shape tree level nodes ∷ levels_over steps shape tree (level + 1) (level_over shape tree level nodes)

-- the tree of the entries: its levels, the leaves first
unfoldable pub levels : Shape → ℕ → List Binding → List (List Node)
levels shape tree entries =
    leaves shape tree entries ∷ levels_over (length (leaves shape tree entries)) shape tree 1 (leaves shape tree entries)

-- ---- the nodes of a tree, by their levels and their places there

-- what stands where there is no node
abbrev pub no_node : Node
no_node = Leaf 0 []

-- the nodes of a level
abbrev pub level_at : List (List Node) → ℕ → List Node
level_at tree level = slice_index_or tree level []

-- the node at a place of a level
abbrev pub node_in : List (List Node) → ℕ → ℕ → Node
node_in tree level place = slice_index_or (level_at tree level) place no_node

-- these bytes are the node at this place of this level
abbrev pub Stands : List (List Node) → ℕ → ℕ → List ℕ → Type 0
Stands tree level place bytes =
    (level < length tree) × (place < length (level_at tree level)) × (bytes ≡ spelling (node_in tree level place))

-- these bytes are a node of the tree
abbrev pub IsNodeOf : List (List Node) → List ℕ → Type 0
IsNodeOf tree bytes = (level place : ℕ) × Stands tree level place bytes

-- the bytes of the top: of the first node of the last level
abbrev pub top_of : List (List Node) → List ℕ
top_of tree = spelling (node_in tree (length tree - 1) 0)

-- the greatest key of the node before a place of a level, where there is one
abbrev pub left_at : List Node → ℕ → Option (List ℕ)
left_at nodes zero = None
left_at nodes (suc place) = Some (greatest_of (slice_index_or nodes place no_node))

-- ---- the entries below the nodes of a tree

-- the items of an inner node; a leaf has none
abbrev pub links_in : Node → List Link
links_in (Leaf tree entries) = []
links_in (Inner tree level links) = links

-- the entries of a leaf; an inner node has none
abbrev pub entries_in : Node → List Binding
entries_in (Leaf tree entries) = entries
entries_in (Inner tree level links) = []

-- the number of items of a node
abbrev pub item_count : Node → ℕ
item_count (Leaf tree entries) = length entries
item_count (Inner tree level links) = length links

-- For each of these nodes the entries below it, where `parts` are the entries below each node of the level under them:
-- a node takes as many parts as it has items, after those of the nodes before it.
abbrev pub below_each : List Node → List (List Binding) → List (List Binding)
below_each [] parts = []
below_each (node ∷ nodes) parts =
    flat_map (λ (part : List Binding). part) (take (length (links_in node)) parts) ∷ below_each nodes (drop (length (links_in node)) parts)

-- for each node of a level the entries below it
unfoldable pub entries_at : List (List Node) → ℕ → List (List Binding)
entries_at tree zero = map entries_in (level_at tree 0)
entries_at tree (suc level) = below_each (level_at tree (suc level)) (entries_at tree level)

-- the entries below the node at a place of a level
abbrev pub entries_below : List (List Node) → ℕ → ℕ → List Binding
entries_below tree level place = slice_index_or (entries_at tree level) place []

-- ---- lists that have a tree

-- the key and the value of an entry are within the limits
pub record FitsTree (entry : Binding) : Type 0 where
  pub key : length entry.key ≤ KEY_LIMIT
  pub value : length entry.value ≤ VALUE_LIMIT

-- the entries have a tree: their keys strictly rise, keys and values are within the limits, and there are few enough
pub record HasTree (entries : List Binding) : Type 0 where
  pub rising : AreRisingFrom None (keys_of entries)
  pub fit : AllByRecursion FitsTree entries
  pub few : length entries ≤ ENTRY_LIMIT
