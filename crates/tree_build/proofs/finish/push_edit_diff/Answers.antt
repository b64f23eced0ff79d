use Rattle.std.proofs.Common.{List, inl, sym, subst, arith}
use Rattle.tree_build.specs.declared.old_node.OldNode.{OldNode}
use Rattle.tree_build.specs.internal.Edits.{StandForNodes}
use Rattle.tree_build.proofs.finish.push_edit_diff.Goals as goal

pub returns-then-level-top_level : goal.returns-then-level-top_level
returns-then-level-top_level c = λ opened came stand.
    inl (omega arith, c.in_ok-push_level_diff.ensures opened came (subst (λ (os : List OldNode). StandForNodes os c.args.edit.news.items opened came) (sym c.as_slice.ensures.value) stand))
