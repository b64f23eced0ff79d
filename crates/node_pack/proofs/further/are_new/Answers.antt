use Rattle.std.proofs.Common.{List, refl, subst, sym, ◌∙◌}
use Rattle.std.proofs.lemmas.Bool.{false≢true}
use Rattle.std.proofs.lemmas.List.{take_all}
use Rattle.tree_node.specs.declared.new_node.NewNode.{NewNode}
use Rattle.node_pack.specs.Additions.{AreNew, bytes_of, earlier_place}
use Rattle.node_pack.proofs.BesideLemmas.{new_more, not_new}
use Rattle.node_pack.proofs.LayoutLemmas.{is_none}
use Rattle.node_pack.proofs.further.are_new.Goals as goal

pub returns-then-is_some : goal.returns-then-is_some
returns-then-is_some g c =
    let old = earlier_place c.args.number c.args.known.now in
    let not = not_new old c.args.nodes.now c.loop-node.node-index c.node-item.result c.loop-node-test.true c.node-item.is c.earlier.result c.earlier.ensures (sym c.is_some.ensures ∙ c.if-is_some.true) in
    (λ hit. absurd (false≢true hit), λ new. absurd (not new))

pub loop-node-preserved : goal.loop-node-preserved
loop-node-preserved g c =
    let old = earlier_place c.args.number c.args.known.now in
    new_more old c.args.nodes.now c.loop-node.node-index c.node-item.result c.loop-node-test.true c.node-item.is c.earlier.result c.earlier.ensures
    (is_none c.earlier.result (sym c.is_some.ensures ∙ c.if-is_some.false)) c.loop-node.invariant

pub returns : goal.returns
returns g c =
    let old = earlier_place c.args.number c.args.known.now in
    let nodes = c.args.nodes.now in
    (λ hit. subst (λ (l : List NewNode). AreNew old (bytes_of l)) (take_all c.loop-node.node-index nodes c.loop-node-test.false) c.loop-node.invariant, λ new. refl)
