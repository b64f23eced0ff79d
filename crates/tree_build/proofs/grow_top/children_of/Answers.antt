use Rattle.std.proofs.Common.{◌+◌, ◌∷◌, [], List, drop, ap, subst, ◌∙◌}
use Rattle.std.proofs.lemmas.List.{map-append}
use Rattle.tree_node.specs.NodeRefs.{link_of, links_of}
use Rattle.tree_build.specs.declared.piece.NewPiece.{NewPiece}
use Rattle.tree_build.proofs.GrowLemmas.{AreLinked, linked_done, linked_next, none_left}
use Rattle.tree_build.proofs.PendingLemmas.{next_item}
use Rattle.tree_build.proofs.grow_top.children_of.Goals as goal

pub returns : goal.returns
returns c = λ known stand.
    linked_done _ known (subst (λ (xs : List NewPiece). AreLinked (links_of c.loop-node.children.items) xs known) (none_left c.args.nodes.now c.loop-node.node-index c.loop-node-test.false) (c.loop-node.invariant known stand))

pub loop-node-preserved : goal.loop-node-preserved
loop-node-preserved c = λ known stand.
    let next = next_item c.args.nodes.now c.loop-node.node-index c.node-item.result c.loop-node-test.true c.node-item.is in
    linked_next (links_of c.loop-node.children.items) (links_of c.push.new.self.items) c.node-item.result (drop (c.loop-node.node-index + 1) c.args.nodes.now) known
    (subst (λ (rest : List NewPiece). AreLinked (links_of c.loop-node.children.items) rest known) next (c.loop-node.invariant known stand)) (link_of c.child.result) c.child.ensures
    (ap links_of c.in_ok-push.ensures.items ∙ map-append link_of c.loop-node.children.items (c.child.result ∷ []))
