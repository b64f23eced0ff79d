use Rattle.std.proofs.Common.{List, subst}
use Rattle.std.proofs.lemmas.List.{take_all}
use Rattle.tree_node.specs.NodeRefs.{bindings_of}
use Rattle.tree_node.specs.declared.item.Item.{Item}
use Rattle.tree_node.specs.declared.tree.Tree.TheVariants.{Objects}
use Rattle.ql_eval.specs.Forms.{HaveForm}
use Rattle.ql_eval.specs.internal.Entries.{AreMisread, IsPutBy}
use Rattle.ql_eval.proofs.NameLemmas.{form_more, misread_one, put_last}
use Rattle.ql_eval.proofs.ObjectLemmas.{object_form}
use Rattle.ql_eval.proofs.StepLemmas.{refused_as}
use Rattle.ql_eval.proofs.known.last_object.Goals as goal

pub returns-in_err-object_in-clause-refused : goal.returns-in_err-object_in-clause-refused
returns-in_err-object_in-clause-refused c =
    refused_as (AreMisread Objects (bindings_of c.args.found.now)) c.from_residual.result _ c.from_residual.ensures.1
    (misread_one Objects c.args.found.now c.loop-item.item-index _ _ c.loop-item-test.true c.in_err-object_in.ensures.refused)

pub loop-item-preserved : goal.loop-item-preserved
loop-item-preserved c = record {
  put = put_last c.args.found.now c.loop-item.item-index _ _ c.loop-item-test.true c.in_ok-object_in.ensures.put;
  formed = form_more Objects c.args.found.now c.loop-item.item-index _ c.loop-item-test.true c.loop-item.invariant.formed (object_form _ _ c.in_ok-object_in.ensures.put);
}

pub returns-clause-put : goal.returns-clause-put
returns-clause-put c = subst (λ (all : List Item). IsPutBy (bindings_of all) c.loop-item.last) (take_all _ _ c.loop-item-test.false) c.loop-item.invariant.put

pub returns-clause-formed : goal.returns-clause-formed
returns-clause-formed c = subst (λ (all : List Item). HaveForm Objects (bindings_of all)) (take_all _ _ c.loop-item-test.false) c.loop-item.invariant.formed
