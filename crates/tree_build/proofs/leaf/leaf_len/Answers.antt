use Rattle.std.proofs.Common.{[], arith}
use Rattle.tree_node.specs.declared.item.Item.{Item}
use Rattle.tree_build.proofs.FitLemmas.{key_fits, value_fits}
use Rattle.tree_build.proofs.LengthLemmas.{entries_more}
use Rattle.tree_build.proofs.leaf.leaf_len.Goals as goal

pub overflow_add-len-in-loop-entry-2 : goal.overflow_add-len-in-loop-entry-2
overflow_add-len-in-loop-entry-2 c = omega (arith, c.loop-entry.invariant.few, key_fits c.args.entries.now c.requires.fit, value_fits c.args.entries.now c.requires.fit)

pub overflow_add-len-in-loop-entry-3 : goal.overflow_add-len-in-loop-entry-3
overflow_add-len-in-loop-entry-3 c = omega (arith, c.loop-entry.invariant.few, key_fits c.args.entries.now c.requires.fit, value_fits c.args.entries.now c.requires.fit)

pub loop-entry-preserved : goal.loop-entry-preserved
loop-entry-preserved c =
    let none : Item = record { key = record { ref_ptr = (0, 0); now = [] }; value = record { ref_ptr = (0, 0); now = [] } } in
    let more = entries_more c.args.entries.now c.loop-entry.entry-index none c.loop-entry-test.true in
    record {
      few = omega (arith, c.loop-entry.invariant.few, key_fits c.args.entries.now c.requires.fit, value_fits c.args.entries.now c.requires.fit);
      exact = omega (arith, c.loop-entry.invariant.exact, more);
    }
