use Rattle.tree_build.specs.StrangeShelves.{HasNoTwin}
use Rattle.tree_walk.specs.Ranges.{range_of}
use Rattle.tree_walk.specs.Walks.{IsEntryIn}
use Rattle.osm_keys.specs.Publications.{shape_in, tree_in}
use Rattle.osm_index.proofs.HeldTreeLemmas.{alone_ends, count_all, counted_held, counted_of, held_top, in_all_keys, refused_in}
use Rattle.osm_index.proofs.held_tree.entry_count.Goals as goal

pub returns-in-Ok-clause-number : goal.returns-in-Ok-clause-number
returns-in-Ok-clause-number g c = λ p holds.
    let used = g.S.Shelf.used c.count.new.shelf in
    let range = range_of c.all_keys.result in
    let so = c.in-Ok.ensures.answer (shape_in p) (p.entries c.args.tree) (held_top p c.args.tree c.args.top.now.0 (HasNoTwin used) holds) in
    let ends = alone_ends used (counted_held p c.args.tree c.args.top.now.0 (HasNoTwin used) holds range) so in
    count_all (IsEntryIn range) (p.entries c.args.tree) c.in-Ok.number (in_all_keys range c.all_keys.ensures.range) ends.0

pub returns-in-Err-clause-told : goal.returns-in-Err-clause-told
returns-in-Err-clause-told g c = λ p holds.
    let used = g.S.Shelf.used c.count.new.shelf in
    let range = range_of c.all_keys.result in
    let so = c.in-Err.ensures.answer (shape_in p) (p.entries c.args.tree) (held_top p c.args.tree c.args.top.now.0 (HasNoTwin used) holds) in
    refused_in (tree_in p c.args.tree) (g.S.Shelf.holds c.count.new.shelf) c.fault_of.result c.in-Err.fault c.fault_of.ensures (counted_of p c.args.tree range)
    (alone_ends used (counted_held p c.args.tree c.args.top.now.0 (HasNoTwin used) holds range) so)
