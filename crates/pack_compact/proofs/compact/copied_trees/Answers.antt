use Rattle.std.proofs.Common.{◌∙◌, [], inl, inr, ap, subst}
use Rattle.level_files.specs.Built.{HasEntries}
use Rattle.osm_keys.specs.Publications.{shape_in, shape_of}
use Rattle.tree_node.specs.Trees.{Shape}
use Rattle.pack_compact.proofs.OutcomeLemmas.{err_ends}
use Rattle.pack_compact.specs.internal.Copying.{IsFailure}
use Rattle.pack_compact.proofs.compact.copied_trees.Goals as goal

pub returns-in_err-copy_trees-clause-copied : goal.returns-in_err-copy_trees-clause-copied
returns-in_err-copy_trees-clause-copied g c = λ p known published edition tops under held.
    let none = subst (λ (shape : Shape). HasEntries c.new-builder.result shape (λ tree. [])) (c.shape_of.ensures ∙ ap shape_of edition) c.new-builder.ensures in
    elim (c.in_err-copy_trees.ensures.copied p known published tops under held none) [
      | inl why ↦ inl (err_ends c.from_residual.result _ _ (IsFailure known) c.from_residual.ensures.1 why)
      | inr twin ↦ inr twin
    ]

pub returns-clause-copied : goal.returns-clause-copied
returns-clause-copied g c = λ p known published edition tops under held.
    let none = subst (λ (shape : Shape). HasEntries c.new-builder.result shape (λ tree. [])) (c.shape_of.ensures ∙ ap shape_of edition) c.new-builder.ensures in
    elim (c.in_ok-copy_trees.ensures.copied p known published tops under held none) [
      | inl has ↦
          inl (record {
            tops = c.in_ok-finish.ensures.tops (shape_in p) p.entries has;
            heights = c.in_ok-finish.ensures.heights (shape_in p) p.entries has;
            levels = c.in_ok-finish.ensures.nodes (shape_in p) p.entries has;
          })
      | inr twin ↦ inr twin
    ]
