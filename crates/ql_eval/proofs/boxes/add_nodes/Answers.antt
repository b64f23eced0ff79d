use Rattle.ql_eval.proofs.boxes.add_nodes.Goals as goal
use Rattle.tree_node.specs.NodeRefs.{binding_of, bindings_of}
use Rattle.tree_node.specs.declared.tree.Tree.TheVariants.{Cells}
use Rattle.std.proofs.Common.{subst}
use Rattle.std.proofs.lemmas.List.{take_all}
use Rattle.ref_sets.proofs.shared.Adding.{adds_all}
use Rattle.tree_node.specs.declared.item.Item.{Item}
use Rattle.ql_eval.specs.Forms.{HaveForm}
use Rattle.ql_eval.specs.internal.Entries.{AreMisread, Places, PlacesIn}
use Rattle.ql_eval.proofs.BoxLemmas.{nodes_added, nodes_read}
use Rattle.ql_eval.proofs.EachLemmas.{adds_next}
use Rattle.ql_eval.proofs.NameLemmas.{form_more, misread_one}
use Rattle.ql_eval.proofs.StepLemmas.{refused_as}
use Rattle.std.proofs.Common.{List}

pub returns-in_err-add_node-clause-refused : goal.returns-in_err-add_node-clause-refused
returns-in_err-add_node-clause-refused c =
    refused_as (AreMisread Cells (bindings_of c.args.found.now)) c.from_residual-in_err-add_node.result _ c.from_residual-in_err-add_node.ensures.1
    (misread_one Cells c.args.found.now c.loop-item.item-index _ _ c.loop-item-test.true c.in_err-add_node.ensures.refused)

pub loop-item-preserved : goal.loop-item-preserved
loop-item-preserved c = record {
  added = adds_next c.args.found.now (λ item. PlacesIn c.args.area.now (binding_of item)) c.loop-item.item-index _ c.loop-item-test.true c.loop-item.invariant.added c.in_ok-add_node.ensures.added;
  read = adds_next c.args.found.now (λ item. Places (binding_of item)) c.loop-item.item-index _ c.loop-item-test.true c.loop-item.invariant.read c.in_ok-add_node.ensures.read;
  formed = form_more Cells c.args.found.now c.loop-item.item-index _ c.loop-item-test.true c.loop-item.invariant.formed c.in_ok-add_node.ensures.formed;
}

pub returns-clause-added : goal.returns-clause-added
returns-clause-added c = nodes_added c.args.area.now c.args.found.now _ _ (adds_all c.args.found.now (λ item. PlacesIn c.args.area.now (binding_of item)) c.loop-item.item-index c.loop-item-test.false c.loop-item.invariant.added)

pub returns-clause-read : goal.returns-clause-read
returns-clause-read c = nodes_read c.args.found.now _ _ (adds_all c.args.found.now (λ item. Places (binding_of item)) c.loop-item.item-index c.loop-item-test.false c.loop-item.invariant.read)

pub returns-clause-formed : goal.returns-clause-formed
returns-clause-formed c = subst (λ (all : List Item). HaveForm Cells (bindings_of all)) (take_all _ _ c.loop-item-test.false) c.loop-item.invariant.formed
