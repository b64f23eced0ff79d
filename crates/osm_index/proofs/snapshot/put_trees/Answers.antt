use Rattle.osm_index.proofs.PutLemmas.{all_put}
use Rattle.osm_index.proofs.snapshot.put_trees.Goals as goal

pub returns : goal.returns
returns g c =
    all_put c.args.set.now c.args.edition c.requires.set _ _ _ _ _ c.in_ok-objects.objects c.in_ok-tags.tags c.in_ok-cells.cells c.in_ok-backs.backs c.requires.empty
    (rw c.shape_of-shape.ensures at c.in_ok-objects.ensures) (rw c.shape_of-shape.ensures at c.in_ok-tags.ensures) (rw c.shape_of-shape.ensures at c.in_ok-cells.ensures) (rw c.shape_of-shape.ensures at c.in_ok-backs.ensures)
    c.all_four.result c.all_four.ensures
