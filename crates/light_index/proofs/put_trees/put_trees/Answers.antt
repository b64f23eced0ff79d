use Rattle.light_index.proofs.LightPutLemmas.{all_put}
use Rattle.light_index.proofs.put_trees.put_trees.Goals as goal

pub returns : goal.returns
returns c = λ sequence fits.
    all_put c.args.set.now sequence fits c.requires.set _ _ _ _ _ c.in_ok-objects.objects c.in_ok-tags.tags c.in_ok-cells.cells c.in_ok-backs.backs c.requires.empty
    c.in_ok-objects.ensures c.in_ok-tags.ensures c.in_ok-cells.ensures c.in_ok-backs.ensures
    c.all_four.result c.all_four.ensures
