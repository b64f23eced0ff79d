use Rattle.std.proofs.Common.{◌≡◌, ◌≢◌, ℕ, List, ◌++◌, ◌∷◌, [], length, arith, ap, ◌∙◌, length-append}
use Rattle.tree_node.specs.NodeRefs.{link_of}
use Rattle.tree_node.specs.Nodes.{Link}
use Rattle.tree_stream.specs.internal.Holding.{HoldsAt, HoldsLinks}
use Rattle.tree_stream.proofs.HoldLemmas.{held_at, held_set, held_set_other}
use Rattle.tree_stream.proofs.levels.push_in.Goals as goal

pub returns-clause-number : goal.returns-clause-number
returns-clause-number c = λ links held.
    let pushed = c.in_ok-push.ensures links (held_at c.args.levels.now.items c.args.at c.index_mut-level.result.now links c.requires c.index_mut-level.ensures.value held) in
    c.len.ensures (links ++ link_of c.args.child.now ∷ []) pushed ∙ length-append links (link_of c.args.child.now ∷ [])

pub returns-clause-here : goal.returns-clause-here
returns-clause-here c = λ links held.
    let pushed = c.in_ok-push.ensures links (held_at c.args.levels.now.items c.args.at c.index_mut-level.result.now links c.requires c.index_mut-level.ensures.value held) in
    held_set c.args.levels.now.items c.args.at c.push.new.self (links ++ link_of c.args.child.now ∷ []) c.requires pushed

pub returns-clause-others : goal.returns-clause-others
returns-clause-others c = λ place links ne held. held_set_other c.args.levels.now.items c.args.at c.push.new.self place links ne held
