use Rattle.std.proofs.Common.{◌≡◌, ◌≢◌, ℕ, List, [], arith}
use Rattle.tree_node.specs.Nodes.{Link}
use Rattle.tree_stream.specs.internal.Holding.{HoldsAt}
use Rattle.tree_stream.proofs.HoldLemmas.{held_at, held_set, held_set_other}
use Rattle.tree_stream.proofs.OkLemmas.{on_ok}
use Rattle.tree_stream.proofs.levels.write_at.Goals as goal

pub write-requires : goal.write-requires
write-requires g c =
    let (links, held, few, within) = c.requires.held in
    (links, held_at c.args.levels.now.items c.args.at c.index_mut-level.result.now links c.requires.there.0 c.index_mut-level.ensures.value held, few, within)

pub returns-clause-states : goal.returns-clause-states
returns-clause-states g c = λ links held.
    c.write.ensures.states links (held_at c.args.levels.now.items c.args.at c.index_mut-level.result.now links c.requires.there.0 c.index_mut-level.ensures.value held)

pub returns-clause-put : goal.returns-clause-put
returns-clause-put g c = λ links held.
    c.write.ensures.put links (held_at c.args.levels.now.items c.args.at c.index_mut-level.result.now links c.requires.there.0 c.index_mut-level.ensures.value held)

pub returns-clause-left : goal.returns-clause-left
returns-clause-left g c = on_ok c.write.result (λ left. held_set c.args.levels.now.items c.args.at c.write.new.self [] c.requires.there.0 left) c.write.ensures.left

pub returns-clause-others : goal.returns-clause-others
returns-clause-others g c = on_ok c.write.result (λ left place links ne held. held_set_other c.args.levels.now.items c.args.at c.write.new.self place links ne held) c.write.ensures.left
