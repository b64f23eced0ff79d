use Rattle.std.proofs.Common.{◌≡◌, [], List, length, sym, ap, subst, ◌∙◌, arith}
use Rattle.std.specs.Vec.Iter.{into_iter_items}
use Rattle.tree_build.specs.Rebuilding.{digests_of, nodes_of}
use Rattle.tree_build.specs.declared.step.LevelEdit.{LevelEdit}
use Rattle.tree_build.proofs.TellAllLemmas.{AreTelling, tellings_done, tellings_next, tellings_start}
use Rattle.tree_build.proofs.TreeEdits.{edit_stands, empty_list}
use Rattle.tree_build.proofs.finish.push_tree_diff.Goals as goal

pub loop-edit-init : goal.loop-edit-init
loop-edit-init c =
    let items = c.into_iter-edit-iterator.ensures.into_iter_gives.0 in
    record {
      count = c.into_iter-edit-iterator.ensures.into_iter_gives.1 ∙ c.args.edits.ok.0 ∙ ap length (sym items);
      level_is = omega (arith, ap length items);
      so_far = λ old new are nodes. subst (λ (es : List LevelEdit). AreTelling old new c.args.top_level c.args.edits.items are 0 es (nodes_of c.args.added.now.items) (nodes_of c.args.added.now.items) (digests_of c.args.gone.now.items) (digests_of c.args.gone.now.items)) (sym items)
          (tellings_start old new c.args.top_level c.args.edits.items are _ _);
    }

pub loop-edit-preserved : goal.loop-edit-preserved
loop-edit-preserved c =
    let steps = c.in-Some.ensures.steps in
    record {
      count = omega (arith, c.loop-edit.invariant.count, steps.1, ap length steps.0);
      level_is = omega (arith, c.loop-edit.invariant.level_is, ap length steps.0);
      so_far = λ old new are nodes.
          let so = subst (λ (es : List LevelEdit). AreTelling old new c.args.top_level c.args.edits.items are c.loop-edit.level es (nodes_of c.args.added.now.items) (nodes_of c.loop-edit.added.items) (digests_of c.args.gone.now.items) (digests_of c.loop-edit.gone.items)) steps.0
          (c.loop-edit.invariant.so_far old new are nodes) in
          let here = nodes c.loop-edit.level (omega (arith, c.loop-edit.invariant.level_is, ap length steps.0)) in
          tellings_next old new c.args.top_level c.args.edits.items are c.loop-edit.level _ _ _ _ _ _ _ _ so (λ is.
          c.in_ok-push_edit_diff.ensures is.opened is.came (edit_stands _ _ _ is here.0 here.1));
    }

pub returns : goal.returns
returns c = λ old new are nodes.
    let end : into_iter_items c.loop-edit.edit-iterator ≡ [] = empty_list (into_iter_items c.loop-edit.edit-iterator) (sym c.loop-edit.invariant.count ∙ c.in-None.ensures.steps.0) in
    let so = subst (λ (es : List LevelEdit). AreTelling old new c.args.top_level c.args.edits.items are c.loop-edit.level es (nodes_of c.args.added.now.items) (nodes_of c.loop-edit.added.items) (digests_of c.args.gone.now.items) (digests_of c.loop-edit.gone.items)) end
    (c.loop-edit.invariant.so_far old new are nodes) in
    tellings_done old new c.args.top_level c.args.edits.items are c.loop-edit.level _ _ _ _ so
