use Rattle.tree_build.specs.StrangeShelves.{HasNoTwin}
use Rattle.tree_walk.specs.Ranges.{range_of}
use Rattle.osm_keys.specs.Publications.{shape_in, tree_in}
use Rattle.osm_index.proofs.HeldTreeLemmas.{alone_ends, held_top, met_held, met_of, refused_in}
use Rattle.osm_index.proofs.held_tree.entries_in.Goals as goal

pub returns-in-Ok-clause-found : goal.returns-in-Ok-clause-found
returns-in-Ok-clause-found g c = λ p holds.
    let used = g.S.Shelf.used c.range.new.shelf in
    let so = c.in-Ok.ensures.answer (shape_in p) (p.entries c.args.tree) (held_top p c.args.tree c.args.top.now.0 (HasNoTwin used) holds) in
    (alone_ends used (met_held p c.args.tree c.args.top.now.0 (HasNoTwin used) holds (range_of c.args.keys.now)) so).0

pub returns-in-Err-clause-told : goal.returns-in-Err-clause-told
returns-in-Err-clause-told g c = λ p holds.
    let used = g.S.Shelf.used c.range.new.shelf in
    let so = c.in-Err.ensures.answer (shape_in p) (p.entries c.args.tree) (held_top p c.args.tree c.args.top.now.0 (HasNoTwin used) holds) in
    refused_in (tree_in p c.args.tree) (g.S.Shelf.holds c.range.new.shelf) c.fault_of.result c.in-Err.fault c.fault_of.ensures (met_of p c.args.tree (range_of c.args.keys.now))
    (alone_ends used (met_held p c.args.tree c.args.top.now.0 (HasNoTwin used) holds (range_of c.args.keys.now)) so)
