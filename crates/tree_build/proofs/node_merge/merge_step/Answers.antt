use Rattle.std.proofs.Common.{subst}
use Rattle.tree_build.specs.declared.node_merge.Counterpart.TheVariants.{Missing, Changed, Same}
use Rattle.tree_build.specs.internal.Differing.{IsCounterpart}
use Rattle.tree_build.proofs.DifferLemmas.{adds_changed, adds_missing, adds_same}
use Rattle.tree_build.proofs.StepLoops.{rest_is}
use Rattle.tree_build.proofs.node_merge.merge_step.Goals as goal

pub returns-in-Missing-clause-goes_on : goal.returns-in-Missing-clause-goes_on
returns-in-Missing-clause-goes_on c = λ nodes node stand stands are is.
    adds_missing c.args.olds.now c.args.new.now _ nodes node stand stands are is c.count_below-at.ensures.below (subst (λ os. IsCounterpart os c.args.new.now Missing) (rest_is c.args.olds.now c.count_below-at.result) c.in-Missing.ensures)

pub returns-in-Changed-clause-goes_on : goal.returns-in-Changed-clause-goes_on
returns-in-Changed-clause-goes_on c = λ nodes node stand stands are is.
    adds_changed c.args.olds.now c.args.new.now _ nodes node stand stands are is c.count_below-at.ensures.below (subst (λ os. IsCounterpart os c.args.new.now Changed) (rest_is c.args.olds.now c.count_below-at.result) c.in-Changed.ensures)

pub returns-in-Same-clause-goes_on : goal.returns-in-Same-clause-goes_on
returns-in-Same-clause-goes_on c = λ nodes node stand stands are is.
    adds_same c.args.olds.now c.args.new.now _ nodes node stand stands are is c.count_below-at.ensures.below (subst (λ os. IsCounterpart os c.args.new.now Same) (rest_is c.args.olds.now c.count_below-at.result) c.in-Same.ensures)
