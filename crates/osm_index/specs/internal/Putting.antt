-- How trees are put into a stock.
-- Source: this project.
use Rattle.std.specs.Prelude.{◌≡◌, ℕ, ◌≤◌, List, [], ◌∷◌, length, ◌⊎◌, Option, Some, None, Result, Ok, Err, ⊤}
use Rattle.osm_model.specs.Elements.{Element}
use Rattle.tree_node.specs.Digests.{digest}
use Rattle.tree_node.specs.NodeRefs.{number_of}
use Rattle.tree_node.specs.Nodes.{Binding, Node}
use Rattle.tree_node.specs.Outcomes.{GrownByAll}
use Rattle.tree_node.specs.Outcomes as outcomes
use Rattle.tree_node.specs.Trees.{IsNodeOf, Shape, levels, top_of}
use Rattle.tree_node.specs.declared.digest.Digest.{Digest}
use Rattle.tree_node.specs.declared.limits.TheConstants.{ENTRY_LIMIT}
use Rattle.tree_node.specs.declared.tree.Tree.{Tree}
use Rattle.osm_keys.specs.Entries.{AreEntriesOf}
use Rattle.osm_keys.specs.Grains.{Whole}
use Rattle.osm_keys.specs.Manifests.{top_among}
use Rattle.osm_keys.specs.Publications.{HasTooMany, IsPublicationOf, Publication, top_in, tree_in}
use Rattle.osm_keys.specs.declared.edition.Edition.{Edition}
use Rattle.osm_index.specs.declared.fault.IndexFault.{IndexFault}
use Rattle.osm_index.specs.declared.fault.IndexFault.TheVariants as faults

-- the nodes of the tree were put, or two nodes clash
abbrev pub Ended : (List ℕ → Type 0) → (List ℕ → Type 0) → List (List Node) → Option Digest → Type 0
Ended old new built None = outcomes.Clash (λ bytes. old bytes ⊎ IsNodeOf built bytes) (IsNodeOf built)
Ended old new built (Some top) = (top.0 ≡ digest (top_of built)) × GrownByAll old new (IsNodeOf built)

-- a tree of the objects was put into a stock, or two nodes clash
pub record HasPut (objects : List Element) (tree : Tree) (shape : Shape) (old new : List ℕ → Type 0) (top : Option Digest) : Type 0 where
  pub entries : List Binding
  pub are : AreEntriesOf Whole objects tree entries
  pub few : length entries ≤ ENTRY_LIMIT
  pub only : (bytes : List ℕ) → new bytes → old bytes ⊎ IsNodeOf (levels shape (number_of tree) entries) bytes
  pub ended : Ended old new (levels shape (number_of tree) entries) top

-- a refusal of a tree: there are too many entries, or memory ran out
abbrev pub RefusesTrees : List Element → IndexFault → Type 0
RefusesTrees objects faults.Clash = ⊥
RefusesTrees objects faults.TooMany = HasTooMany objects
RefusesTrees objects faults.Memory = ⊤

abbrev pub EndsTree : List Element → Tree → Shape → (List ℕ → Type 0) → (List ℕ → Type 0) → Result (Option Digest) IndexFault → Type 0
EndsTree objects tree shape old new (Ok top) = HasPut objects tree shape old new top
EndsTree objects tree shape old new (Err fault) = RefusesTrees objects fault

-- the bytes are a node of one of the trees
abbrev pub IsTreeNode : Publication → List ℕ → Type 0
IsTreeNode p bytes = (tree : Tree) × IsNodeOf (tree_in p tree) bytes

-- all four trees were put, or two of their nodes clash
abbrev pub EndedAll : Publication → (List ℕ → Type 0) → Option (List Digest) → Type 0
EndedAll p held None = outcomes.Clash (IsTreeNode p) (IsTreeNode p)
EndedAll p held (Some tops) = ((tree : Tree) → top_among tops tree ≡ top_in p tree) × GrownByAll (λ _. ⊥) held (IsTreeNode p)

abbrev pub EndsTrees : List Element → Edition → (List ℕ → Type 0) → Result (Option (List Digest)) IndexFault → Type 0
EndsTrees objects edition held (Ok tops) = (p : Publication) × IsPublicationOf objects edition p × EndedAll p held tops
EndsTrees objects edition held (Err fault) = RefusesTrees objects fault

-- all four digests, where all are there
abbrev pub AreAllFour : Option Digest → Option Digest → Option Digest → Option Digest → Option (List Digest) → Type 0
AreAllFour objects tags cells backs None = (objects ≡ None) ⊎ (tags ≡ None) ⊎ (cells ≡ None) ⊎ (backs ≡ None)
AreAllFour objects tags cells backs (Some tops) =
    (a b c d : Digest) × (objects ≡ Some a) × (tags ≡ Some b) × (cells ≡ Some c) × (backs ≡ Some d) × (tops ≡ a ∷ b ∷ c ∷ d ∷ [])
