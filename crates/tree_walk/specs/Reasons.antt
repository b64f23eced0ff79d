-- Why a walk was refused, over any nodes whatever: which node it wanted, and what is wrong with what the shelf gave.
-- Source: this project's trees, docs/FORMATS.md.
use Rattle.std.specs.Prelude.{◌≡◌, ℕ, suc, List, [], ◌∷◌, Option, None, ⊤}
use Rattle.std.specs.List.{Contains}
use Rattle.tree_node.specs.Digests.{digest}
use Rattle.tree_node.specs.Faults.{IsFault}
use Rattle.tree_node.specs.Nodes.{Leaf, Inner, IsNode, Link, Node, keys_of, greatests_of, level_of, spelling, tree_of}
use Rattle.tree_node.specs.Shelves.{HasNone}
use Rattle.tree_node.specs.Trees.{entry_count, greatest_of, links_in}
use Rattle.tree_walk.specs.Ranges.{IsAboveLeft}
use Rattle.tree_walk.specs.Spans.{children_placed}
use Rattle.tree_walk.specs.declared.fault.WalkFault.{WalkFault}
use Rattle.tree_walk.specs.declared.fault.WalkFault.TheVariants as faults

-- ---- a node as its parent states it

-- the keys of a node: of its entries, or the greatest ones below its children
abbrev pub node_keys : Node → List (List ℕ)
node_keys (Leaf tree entries) = keys_of entries
node_keys (Inner tree level links) = greatests_of links

-- the first of the keys is above the left bound
abbrev pub StartAbove : Option (List ℕ) → List (List ℕ) → Type 0
StartAbove left [] = ⊤
StartAbove left (key ∷ keys) = IsAboveLeft left key

-- the node is as its parent states: its keys are above its left bound, the last is the stated one, and it has as many
-- entries below it
abbrev pub Agrees : Option (List ℕ) × Link → Node → Type 0
Agrees spot node = StartAbove spot.0 (node_keys node) × ((greatest_of node ≡ spot.1.greatest) × (entry_count node ≡ spot.1.number))

-- ---- what a walk wants

-- A node that a walk wants: the top of the tree, which has this digest, or a child at this level, with its left bound
-- and what its parent states of it.
pub data Wanted : Type 0 where
  Top : (top : List ℕ) → Wanted
  Child : (level : ℕ) (left : Option (List ℕ)) (link : Link) → Wanted

-- the digest of what is wanted
abbrev pub digest_wanted : Wanted → List ℕ
digest_wanted (Top top) = top
digest_wanted (Child level left link) = link.child

-- its left bound, where it has one
abbrev pub left_wanted : Wanted → Option (List ℕ)
left_wanted (Top top) = None
left_wanted (Child level left link) = left

-- the node is of the tree, and a child is of the level below its parent's
abbrev pub IsOfKind : ℕ → Wanted → Node → Type 0
IsOfKind tree (Top top) node = tree_of node ≡ tree
IsOfKind tree (Child level left link) node = (tree_of node ≡ tree) × (level_of node ≡ level)

-- a child is as its parent states
abbrev pub IsAsStated : Wanted → Node → Type 0
IsAsStated (Top top) node = ⊤
IsAsStated (Child level left link) node = Agrees (left, link) node

-- the shelf gave these bytes for it
abbrev pub IsGiven : (List ℕ → Type 0) → Wanted → List ℕ → Type 0
IsGiven used wanted bytes = used bytes × (digest bytes ≡ digest_wanted wanted)

-- the shelf gave this node for it
abbrev pub IsRead : (List ℕ → Type 0) → Wanted → Node → Type 0
IsRead used wanted node = IsNode node × IsGiven used wanted (spelling node)

-- the shelf gave this node for it, and it is what was wanted
pub record IsAccepted (used : List ℕ → Type 0) (tree : ℕ) (wanted : Wanted) (node : Node) : Type 0 where
  pub read : IsRead used wanted node
  pub kind : IsOfKind tree wanted node
  pub stated : IsAsStated wanted node

-- A walk from this top came to want this: the top itself, or a child that a node states which was wanted and accepted.
pub data IsWanted (used : List ℕ → Type 0) (tree : ℕ) (top : List ℕ) : Wanted → Type 0 where
  FromTop : IsWanted used tree top (Top top)
  FromParent : (wanted : Wanted) (parent : Node) (level : ℕ) (left : Option (List ℕ)) (link : Link)
      → IsWanted used tree top wanted → IsAccepted used tree wanted parent → level_of parent ≡ suc level → Contains (children_placed (left_wanted wanted) (links_in parent)) (left, link)
      → IsWanted used tree top (Child level left link)

-- ---- what is wrong with it

-- V1: no held node has the digest; V2: what was given isn't of a node's form, by that fault; V3: it is a node of
-- another tree or level; V4: it isn't as its parent states. Memory says nothing of the nodes.
abbrev pub IsReason : ℕ → (held used : List ℕ → Type 0) → Wanted → WalkFault → Type 0
IsReason tree held used wanted faults.Missing = HasNone held (digest_wanted wanted)
IsReason tree held used wanted (faults.Malformed fault) = (bytes : List ℕ) × IsGiven used wanted bytes × IsFault bytes fault
IsReason tree held used wanted faults.WrongTreeOrLevel = (node : Node) × IsRead used wanted node × ¬ IsOfKind tree wanted node
IsReason tree held used wanted faults.Disagrees = (node : Node) × IsRead used wanted node × IsOfKind tree wanted node × ¬ IsAsStated wanted node
IsReason tree held used wanted faults.Memory = ⊤

-- so it is of something that a walk from this top came to want
pub record HasReason (tree : ℕ) (top : List ℕ) (held used : List ℕ → Type 0) (fault : WalkFault) : Type 0 where
  pub wanted : Wanted
  pub is_wanted : IsWanted used tree top wanted
  pub reason : IsReason tree held used wanted fault
