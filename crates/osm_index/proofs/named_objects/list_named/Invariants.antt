use Rattle.std.proofs.Common.{◌≡◌, List, take}
use Rattle.std.specs.List.{filter_map}
use Rattle.osm_model.specs.Sets.{object_at}
use Rattle.tree_build.specs.StrangeShelves.{HasNoTwin}
use Rattle.tree_node.specs.Shelves.{Stays}
use Rattle.tree_node.specs.declared.tree.Tree.TheVariants.{Objects}
use Rattle.osm_index.specs.Applying.{names_of}
use Rattle.osm_keys.specs.Publications.{Publication}
use Rattle.osm_index.specs.internal.HeldTrees.{HoldsTree}
use Rattle.osm_index.proofs.named_objects.list_named.Given as goal

abbrev pub invariant-loop-change : goal.invariant-loop-change
invariant-loop-change g l = record {
  stays : Stays g.S.Shelf.is_fixed (g.S.Shelf.holds l.fn.shelf) (g.S.Shelf.holds l.shelf);
  grows : (bytes : List _) → g.S.Shelf.used l.fn.shelf bytes → g.S.Shelf.used l.shelf bytes;
  -- the objects so far
  found : (p : Publication) → HoldsTree p Objects l.top.0 (HasNoTwin (g.S.Shelf.used l.shelf)) → l.objects.items ≡ filter_map (object_at p.objects) (names_of (take l.change-index l.changes));
}
