use Rattle.std.proofs.Common.{[], arith}
use Rattle.tree_node.specs.declared.child.Child.{Child}
use Rattle.tree_build.proofs.FitLemmas.{greatest_fits}
use Rattle.tree_build.proofs.LengthLemmas.{children_more}
use Rattle.tree_build.proofs.inner.inner_len.Goals as goal

pub loop-child-preserved : goal.loop-child-preserved
loop-child-preserved c =
    let none : Child = record { greatest = record { ref_ptr = (0, 0); now = [] }; number = 0; digest = record { 0 = [] } } in
    let more = children_more c.args.children.now c.loop-child.child-index none c.loop-child-test.true in
    record {
      few = omega (arith, c.loop-child.invariant.few, greatest_fits c.args.children.now c.requires.within);
      exact = omega (arith, c.loop-child.invariant.exact, more);
    }
