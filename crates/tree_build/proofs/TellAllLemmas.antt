-- Telling of a tree's levels one by one.
use Rattle.std.proofs.Common.{◌≡◌, ℕ, suc, ◌+◌, List, [], ◌∷◌, refl, subst, arith}
use Rattle.tree_node.specs.Nodes.{Node}
use Rattle.tree_node.specs.Trees.{level_at}
use Rattle.tree_build.specs.internal.Steps.{IsEdit}
use Rattle.tree_build.specs.internal.TreeEdits.{AreEdits}
use Rattle.tree_build.specs.internal.TreeTelling.{HaveTold, IsTold}
use Rattle.tree_build.specs.declared.step.LevelEdit.{LevelEdit}

-- what is told of the rest makes up what is told of all
pub record AreTelling (old : List (List Node)) (new : ℕ → List Node) (top : ℕ) (all : List LevelEdit) (are : AreEdits old new 0 all)
    (level : ℕ) (rest : List LevelEdit) (added now gone gone_now : List (List ℕ)) : Type 0 where
  pub rest_are : AreEdits old new level rest
  pub then : (later lost_later : List (List ℕ)) → HaveTold old new top level rest rest_are now later gone_now lost_later → HaveTold old new top 0 all are added later gone lost_later

module _ (old : List (List Node)) (new : ℕ → List Node) (top : ℕ) (all : List LevelEdit) (are : AreEdits old new 0 all) where
  pub tellings_start : (added gone : List (List ℕ)) → AreTelling old new top all are 0 all added added gone gone
  tellings_start added gone = record { rest_are = are; then = λ later lost_later h. h }

  pub tellings_next : (level : ℕ) (edit : LevelEdit) (rest : List LevelEdit) (added now after gone gone_now gone_after : List (List ℕ))
      → AreTelling old new top all are level (edit ∷ rest) added now gone gone_now
      → ((is : IsEdit (level_at old level) (new level) edit) → IsTold top level is.opened is.came now after gone_now gone_after)
      → AreTelling old new top all are (level + 1) rest added after gone gone_after
  tellings_next level edit rest added now after gone gone_now gone_after so told =
      let step : suc level ≡ level + 1 = omega arith in
      subst (λ n. AreTelling old new top all are n rest added after gone gone_after) step record {
        rest_are = so.rest_are.1;
        then = λ later lost_later h. so.then later lost_later (after, gone_after, told so.rest_are.0, h);
      }

  pub tellings_done : (level : ℕ) (added now gone gone_now : List (List ℕ)) → AreTelling old new top all are level [] added now gone gone_now
      → HaveTold old new top 0 all are added now gone gone_now
  tellings_done level added now gone gone_now so = so.then now gone_now (refl, refl)
