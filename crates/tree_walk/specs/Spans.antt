-- The spans of the nodes of a tree: each node of a level beside its left bound, which is the greatest key of the node
-- before it, and the spans of a node's children within its own.
-- Source: this project's trees, docs/FORMATS.md.
use Rattle.std.specs.Prelude.{ℕ, List, [], ◌∷◌, Option, Some}
use Rattle.std.specs.List.{AllByRecursion, flat_map}
use Rattle.tree_node.specs.Nodes.{Link, Node}
use Rattle.tree_node.specs.Trees.{greatest_of, links_in}
use Rattle.tree_walk.specs.Ranges.{IsCovered, Meets, Range}

-- ---- lists whose items have a left bound each

-- each item beside the key of the item before it, and the first beside the left bound of all
abbrev pub placed : {X : Type 0} → (X → List ℕ) → Option (List ℕ) → List X → List (Option (List ℕ) × X)
placed key left [] = []
placed key left (x ∷ xs) = (left, x) ∷ placed key (Some (key x)) xs

-- the greatest key below a child, as its parent states it
abbrev pub greatest_stated : Link → List ℕ
greatest_stated link = link.greatest

-- the children of an inner node, each with its left bound
abbrev pub children_placed : Option (List ℕ) → List Link → List (Option (List ℕ) × Link)
children_placed left links = placed greatest_stated left links

-- the child, as its parent states it, meets the range
abbrev pub IsMetChild : Range → Option (List ℕ) × Link → Type 0
IsMetChild range spot = Meets range spot.0 spot.1.greatest

-- the children of these nodes, each with its left bound
abbrev pub children_of_all : List (Option (List ℕ) × Node) → List (Option (List ℕ) × Link)
children_of_all spots = flat_map (λ (spot : Option (List ℕ) × Node). children_placed spot.0 (links_in spot.1)) spots

-- the child meets the range only where this span does, and is covered where it is
abbrev pub IsWithin : Range → Option (List ℕ) → List ℕ → Option (List ℕ) × Link → Type 0
IsWithin range left greatest child =
    (IsMetChild range child → Meets range left greatest) × (IsCovered range left greatest → IsCovered range child.0 child.1.greatest)

-- this is so of each of the node's children
abbrev pub HasChildrenWithin : Range → Option (List ℕ) × Node → Type 0
HasChildrenWithin range parent = AllByRecursion (IsWithin range parent.0 (greatest_of parent.1)) (children_placed parent.0 (links_in parent.1))
