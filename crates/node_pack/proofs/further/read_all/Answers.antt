use Rattle.std.proofs.Common.{◌+◌, [], List, ap, refl, subst, sym, take, ◌∙◌}
use Rattle.tree_node.specs.declared.new_node.NewNode.{NewNode}
use Rattle.node_pack.specs.Reached.{IsUnfit}
use Rattle.node_pack.specs.declared.gathered.Gathered.{Gathered}
use Rattle.node_pack.specs.declared.write_fault.WriteFault.TheVariants as faults
use Rattle.node_pack.specs.Additions.{bytes_of}
use Rattle.node_pack.specs.internal.Laying.{AreFit, IsReadFault}
use Rattle.node_pack.proofs.BesideLemmas.{all_read, one_read, unread}
use Rattle.node_pack.proofs.WrittenLemmas.{told_is}
use Rattle.node_pack.proofs.further.read_all.Goals as goal

pub loop-node-init : goal.loop-node-init
loop-node-init c = subst (λ (read : List Gathered). AreFit [] read) (sym c.new-read.ensures.items) (record { same = refl; fit = tt })

pub loop-node-preserved : goal.loop-node-preserved
loop-node-preserved c =
    let new = c.in_ok-new.ensures in
    subst (λ (read : List Gathered). AreFit (bytes_of (take (c.loop-node.node-index + 1) c.args.nodes.now)) read) (sym c.in_ok-push.ensures.items)
    (one_read c.args.nodes.now c.loop-node.node-index c.node-item.result c.loop-node.read.items c.in_ok-new.new c.loop-node-test.true c.loop-node.invariant
    (new.bytes ∙ ap (λ (n : NewNode). n.bytes.items) c.node-item.is) (record { measured = new.measured; children = new.children; short = new.short }))

pub returns-clause-read : goal.returns-clause-read
returns-clause-read c = all_read c.args.nodes.now c.loop-node.node-index c.loop-node.read.items c.loop-node-test.false c.loop-node.invariant

pub returns-in_err-new-clause-refused : goal.returns-in_err-new-clause-refused
returns-in_err-new-clause-refused c =
    let fault = c.in_err-new.field-0.0 in
    told_is c.from_residual.result fault (IsReadFault (bytes_of c.args.nodes.now)) c.from_residual.ensures.1
    (unread c.args.nodes.now c.loop-node.node-index c.node-item.result fault c.loop-node-test.true (subst (λ (n : NewNode). IsUnfit n.bytes.items fault) c.node-item.is c.in_err-new.ensures.refused))

pub returns-in_err-push-clause-refused : goal.returns-in_err-push-clause-refused
returns-in_err-push-clause-refused c =
    told_is c.from_residual-in_err-push.result faults.Memory (IsReadFault (bytes_of c.args.nodes.now)) c.from_residual-in_err-push.ensures.1
    (unread c.args.nodes.now c.loop-node.node-index c.node-item.result faults.Memory c.loop-node-test.true tt)
