use Rattle.node_pack.specs.Packs.{place_in}
use Rattle.pack_assembly.specs.internal.Order.{all_kepts, nodes_in}
use Rattle.pack_assembly.proofs.CountLemmas.{has_lower, nodes_few}
use Rattle.pack_assembly.proofs.FaultLemmas.{none_there}
use Rattle.pack_assembly.proofs.ReadyLemmas.{above_of, lower_nodes}
use Rattle.pack_assembly.proofs.pack.write_row.Goals as goal

pub returns-clause-whole : goal.returns-clause-whole
returns-clause-whole g c = λ true p ready among.
    c.write_level.ensures.whole true (place_in (all_kepts p)) (nodes_in p c.args.row) (lower_nodes p c.args.row.tree c.args.row.level) (ready.nodes_are c.args.row.tree c.args.row.level)
    (above_of p (g.L.NodeLevels.nodes c.args.levels.now) c.args.rows.now ready c.args.row c.in-Some.below among c.in-Some.ensures.at)

pub returns-clause-begun : goal.returns-clause-begun
returns-clause-begun g c = λ true p ready among.
    c.write_level.ensures.begun true (place_in (all_kepts p)) (nodes_in p c.args.row) (lower_nodes p c.args.row.tree c.args.row.level) (ready.nodes_are c.args.row.tree c.args.row.level)
    (above_of p (g.L.NodeLevels.nodes c.args.levels.now) c.args.rows.now ready c.args.row c.in-Some.below among c.in-Some.ensures.at)

pub returns-clause-device : goal.returns-clause-device
returns-clause-device g c = λ true refuses p ready among.
    c.write_level.ensures.device true refuses (place_in (all_kepts p)) (nodes_in p c.args.row) (lower_nodes p c.args.row.tree c.args.row.level) (ready.nodes_are c.args.row.tree c.args.row.level)
    (above_of p (g.L.NodeLevels.nodes c.args.levels.now) c.args.rows.now ready c.args.row c.in-Some.below among c.in-Some.ensures.at) (nodes_few p ready.is c.args.row)

pub returns-in_default-clause-device : goal.returns-in_default-clause-device
returns-in_default-clause-device g c = λ true refuses p ready among told.
    let (at, has) = has_lower p (g.L.NodeLevels.nodes c.args.levels.now) c.args.rows.now ready c.args.row among in
    absurd (none_there c.below_row.result c.in_default.is (c.below_row.ensures.there at has))
