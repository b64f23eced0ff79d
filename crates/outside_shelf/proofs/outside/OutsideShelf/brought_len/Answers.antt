use Rattle.outside_shelf.specs.Shelves.{total_brought}
use Rattle.outside_shelf.proofs.BroughtLemmas.{all_counted}
use Rattle.outside_shelf.proofs.outside.OutsideShelf.brought_len.Goals as goal

pub returns : goal.returns
returns g c =
    all_counted c.loop-part.total (total_brought c.args.self.now) c.loop-part.part-iterator c.in-None.ensures.steps.0 c.loop-part.invariant.fits c.loop-part.invariant.counted
