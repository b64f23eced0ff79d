-- Trees of a publication that a set of nodes holds, and what is read from them.
-- Source: this project.
use Rattle.std.specs.List.{Contains}
use Rattle.std.specs.Prelude.{◌≡◌, ◌↔◌, ℕ, All, List, map}
use Rattle.osm_model.specs.Elements.{Element, reference}
use Rattle.osm_model.specs.Limits.{IsElement}
use Rattle.osm_model.specs.Sets.{IsObjectSet}
use Rattle.osm_model.specs.declared.reference.Ref.{Ref}
use Rattle.tree_node.specs.Nodes.{Binding}
use Rattle.tree_node.specs.Trees.{IsNodeOf}
use Rattle.tree_node.specs.declared.tree.Tree.{Tree}
use Rattle.osm_keys.specs.Entries.{object_entry}
use Rattle.osm_keys.specs.Grains.{Whole}
use Rattle.osm_keys.specs.Publications.{IsPublication, Publication, top_in, tree_in}

-- this is a publication, the top of its tree has this digest, and the set holds the tree's nodes
pub record HoldsTree (p : Publication) (tree : Tree) (top : List ℕ) (held : List ℕ → Type 0) : Type 0 where
  pub published : IsPublication p
  pub is_top : top ≡ top_in p tree
  pub nodes : (bytes : List ℕ) → IsNodeOf (tree_in p tree) bytes → held bytes

-- these are the objects of the set that have one of these names, as a set
pub record AreNamed (objects : List Element) (names : List Ref) (found : List Element) : Type 0 where
  pub set : IsObjectSet found
  pub members : (o : Element) → Contains found o ↔ (Contains objects o × Contains names (reference o))

-- these are the entries of these objects in the object tree, in their order
pub record AreObjectEntries (objects : List Element) (entries : List Binding) : Type 0 where
  pub elements : All IsElement objects
  pub entries_are : entries ≡ map (object_entry Whole) objects
