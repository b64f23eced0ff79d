-- The keys of entries are bytes.
use Rattle.std.proofs.Common.{List, refl}
use Rattle.std.specs.List.{AllByRecursion}
use Rattle.light_index.proofs.shared.OneLightPublication.{lists_have_trees}
use Rattle.light_index.specs.LightPublications.{IsLightPublication, LightPublication, light_top_in}
use Rattle.osm_keys.proofs.shared.EntriesFit.{all_from}
use Rattle.osm_keys.proofs.shared.EntryBytes.{entry_fits}
use Rattle.osm_keys.proofs.shared.OneObject.{is_element}
use Rattle.osm_keys.specs.Grains.{Lines}
use Rattle.tree_node.specs.NodeRefs.{number_of}
use Rattle.tree_node.specs.Nodes.{AreBytes, Binding}
use Rattle.tree_node.specs.Trees.{Two}
use Rattle.tree_node.specs.declared.tree.Tree.{Tree}
use Rattle.tree_walk.specs.Walks.{IsTopOf}

module _ (p : LightPublication) (is : IsLightPublication p) (tree : Tree) where
  pub keys_are_bytes : AllByRecursion (λ (entry : Binding). AreBytes entry.key) (p.entries tree)
  keys_are_bytes =
      all_from (λ (entry : Binding). AreBytes entry.key) (p.entries tree)
      (λ b h. let of = ((is.lists tree).members b).0 h in (entry_fits Lines of.0 tree b (is_element p.objects of.0 is.set of.1) of.2).key)

  pub is_top : IsTopOf Two (number_of tree) (p.entries tree) (light_top_in p tree)
  is_top = record { has = lists_have_trees p is tree; bytes = keys_are_bytes; is_top = refl }
