use Rattle.std.proofs.Common.{inl, inr, refl}
use Rattle.tree_node.specs.declared.tree.Tree.TheVariants.{Backs, Cells, Objects, Tags}
use Rattle.pack_compact.proofs.OutcomeLemmas.{err_ends, ends_as}
use Rattle.pack_compact.proofs.ReadLemmas.{held_still}
use Rattle.pack_compact.proofs.TopLemmas.{after_cells, after_none, after_objects, after_tags, all_trees, begin_tree, end_tree}
use Rattle.pack_compact.specs.internal.Copying.{IsFailure}
use Rattle.pack_compact.proofs.copy.copy_trees.Goals as goal

pub returns-in_err-copy_tree-clause-copied : goal.returns-in_err-copy_tree-clause-copied
returns-in_err-copy_tree-clause-copied g c = λ p known published tops under held has.
    elim (c.in_err-copy_tree.ensures.copied p known (after_none p) published refl (tops Objects) under held (begin_tree p c.args.builder.now (after_none p) Objects refl has)) [ inl why ↦ inl (err_ends c.from_residual.result _ _ (IsFailure known) c.from_residual.ensures.1 why) | inr twin ↦ inr twin ]

pub returns-in_err-copy_tree-2-clause-copied : goal.returns-in_err-copy_tree-2-clause-copied
returns-in_err-copy_tree-2-clause-copied g c = λ p known published tops under held has.
    elim (c.in_ok-copy_tree.ensures.copied p known (after_none p) published refl (tops Objects) under held (begin_tree p c.args.builder.now (after_none p) Objects refl has)) [
      | inl done1 ↦
          elim (c.in_err-copy_tree-2.ensures.copied p known (after_objects p) published refl (tops Tags) under (held_still (g.F.ReadAt.reads c.args.files.now) (g.F.ReadAt.reads c.copy_tree.new.files) known c.copy_tree.ensures.stays held) (begin_tree p c.copy_tree.new.builder (after_objects p) Tags refl (end_tree p c.copy_tree.new.builder (after_none p) Objects done1))) [ inl why ↦ inl (err_ends c.from_residual-in_err-copy_tree-2.result _ _ (IsFailure known) c.from_residual-in_err-copy_tree-2.ensures.1 why) | inr twin ↦ inr twin ]
      | inr twin ↦ inr twin
    ]

pub returns-in_err-copy_tree-3-clause-copied : goal.returns-in_err-copy_tree-3-clause-copied
returns-in_err-copy_tree-3-clause-copied g c = λ p known published tops under held has.
    elim (c.in_ok-copy_tree.ensures.copied p known (after_none p) published refl (tops Objects) under held (begin_tree p c.args.builder.now (after_none p) Objects refl has)) [
      | inl done1 ↦
          elim (c.in_ok-copy_tree-2.ensures.copied p known (after_objects p) published refl (tops Tags) under (held_still (g.F.ReadAt.reads c.args.files.now) (g.F.ReadAt.reads c.copy_tree.new.files) known c.copy_tree.ensures.stays held) (begin_tree p c.copy_tree.new.builder (after_objects p) Tags refl (end_tree p c.copy_tree.new.builder (after_none p) Objects done1))) [
            | inl done2 ↦
                elim (c.in_err-copy_tree-3.ensures.copied p known (after_tags p) published refl (tops Cells) under (held_still (g.F.ReadAt.reads c.copy_tree.new.files) (g.F.ReadAt.reads c.copy_tree-2.new.files) known c.copy_tree-2.ensures.stays (held_still (g.F.ReadAt.reads c.args.files.now) (g.F.ReadAt.reads c.copy_tree.new.files) known c.copy_tree.ensures.stays held)) (begin_tree p c.copy_tree-2.new.builder (after_tags p) Cells refl (end_tree p c.copy_tree-2.new.builder (after_objects p) Tags done2))) [ inl why ↦ inl (err_ends c.from_residual-in_err-copy_tree-3.result _ _ (IsFailure known) c.from_residual-in_err-copy_tree-3.ensures.1 why) | inr twin ↦ inr twin ]
            | inr twin ↦ inr twin
          ]
      | inr twin ↦ inr twin
    ]

pub returns-clause-copied : goal.returns-clause-copied
returns-clause-copied g c = λ p known published tops under held has.
    elim (c.in_ok-copy_tree.ensures.copied p known (after_none p) published refl (tops Objects) under held (begin_tree p c.args.builder.now (after_none p) Objects refl has)) [
      | inl done1 ↦
          elim (c.in_ok-copy_tree-2.ensures.copied p known (after_objects p) published refl (tops Tags) under (held_still (g.F.ReadAt.reads c.args.files.now) (g.F.ReadAt.reads c.copy_tree.new.files) known c.copy_tree.ensures.stays held) (begin_tree p c.copy_tree.new.builder (after_objects p) Tags refl (end_tree p c.copy_tree.new.builder (after_none p) Objects done1))) [
            | inl done2 ↦
                elim (c.in_ok-copy_tree-3.ensures.copied p known (after_tags p) published refl (tops Cells) under (held_still (g.F.ReadAt.reads c.copy_tree.new.files) (g.F.ReadAt.reads c.copy_tree-2.new.files) known c.copy_tree-2.ensures.stays (held_still (g.F.ReadAt.reads c.args.files.now) (g.F.ReadAt.reads c.copy_tree.new.files) known c.copy_tree.ensures.stays held)) (begin_tree p c.copy_tree-2.new.builder (after_tags p) Cells refl (end_tree p c.copy_tree-2.new.builder (after_objects p) Tags done2))) [
                  | inl done3 ↦
                      elim (c.copy_tree-4.ensures.copied p known (after_cells p) published refl (tops Backs) under (held_still (g.F.ReadAt.reads c.copy_tree-2.new.files) (g.F.ReadAt.reads c.copy_tree-3.new.files) known c.copy_tree-3.ensures.stays (held_still (g.F.ReadAt.reads c.copy_tree.new.files) (g.F.ReadAt.reads c.copy_tree-2.new.files) known c.copy_tree-2.ensures.stays (held_still (g.F.ReadAt.reads c.args.files.now) (g.F.ReadAt.reads c.copy_tree.new.files) known c.copy_tree.ensures.stays held))) (begin_tree p c.copy_tree-3.new.builder (after_cells p) Backs refl (end_tree p c.copy_tree-3.new.builder (after_tags p) Cells done3))) [
                        | inl ends ↦ inl (ends_as c.copy_tree-4.result _ _ (IsFailure known) (λ u done. all_trees p c.copy_tree-4.new.builder (end_tree p c.copy_tree-4.new.builder (after_cells p) Backs done)) ends)
                        | inr twin ↦ inr twin
                      ]
                  | inr twin ↦ inr twin
                ]
            | inr twin ↦ inr twin
          ]
      | inr twin ↦ inr twin
    ]
