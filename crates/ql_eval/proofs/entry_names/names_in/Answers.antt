use Rattle.std.proofs.Common.{◌↔◌, List, ◌+◌, take, sym, subst}
use Rattle.std.specs.List.{Contains}
use Rattle.std.proofs.lemmas.List.{take_all}
use Rattle.osm_model.specs.declared.reference.Ref.{Ref}
use Rattle.tree_node.specs.NodeRefs.{bindings_of}
use Rattle.tree_node.specs.declared.item.Item.{Item}
use Rattle.ql_eval.specs.Forms.{HaveForm, Names}
use Rattle.ql_eval.specs.internal.Entries.{AreMisread, IsSaid}
use Rattle.ql_eval.proofs.NameLemmas.{form_more, misread_one, one_named, said_more, set_of_said}
use Rattle.ql_eval.proofs.StepLemmas.{refused_as}
use Rattle.ql_eval.proofs.entry_names.names_in.Goals as goal

pub returns-in_err-name-clause-refused : goal.returns-in_err-name-clause-refused
returns-in_err-name-clause-refused c =
    refused_as (AreMisread c.args.tree (bindings_of c.args.found.now)) c.from_residual.result _ c.from_residual.ensures.1
    (misread_one c.args.tree c.args.found.now c.loop-item.item-index _ _ c.loop-item-test.true c.in_err-name.ensures.refused)

pub loop-item-preserved : goal.loop-item-preserved
loop-item-preserved c = record {
  named = subst (λ (names : List Ref). (r : Ref) → Contains names r ↔ IsSaid (Names c.args.tree) (bindings_of (take (c.loop-item.item-index + 1) c.args.found.now)) r) (sym c.in_ok-push.ensures.items)
      (said_more (Names c.args.tree) c.loop-item.names.items c.args.found.now c.loop-item.item-index _ c.loop-item-test.true c.loop-item.invariant.named c.in_ok-name.name c.in_ok-name.ensures.fits c.in_ok-name.ensures.named
      (λ r fits says. one_named c.args.tree _ r c.in_ok-name.name fits c.in_ok-name.ensures.fits says c.in_ok-name.ensures.named));
  formed = form_more c.args.tree c.args.found.now c.loop-item.item-index _ c.loop-item-test.true c.loop-item.invariant.formed (c.in_ok-name.name, c.in_ok-name.ensures.fits, c.in_ok-name.ensures.named);
}

pub returns-clause-read : goal.returns-clause-read
returns-clause-read c =
    set_of_said (Names c.args.tree) c.loop-item.names.items c.from_refs.result (take c.loop-item.item-index c.args.found.now) c.args.found.now (take_all _ _ c.loop-item-test.false) c.loop-item.invariant.named c.from_refs.ensures

pub returns-clause-formed : goal.returns-clause-formed
returns-clause-formed c = subst (λ (all : List Item). HaveForm c.args.tree (bindings_of all)) (take_all _ _ c.loop-item-test.false) c.loop-item.invariant.formed
