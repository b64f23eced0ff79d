use Rattle.std.proofs.Common.{◌+◌, ◌-◌, sym, arith}
use Rattle.ref_sets.proofs.Seeking.{after_here, around_here, before_next}
use Rattle.ref_sets.proofs.search.rise.Goals as goal

pub returns-in-Equal : goal.returns-in-Equal
returns-in-Equal c = around_here c.args.refs.now c.args.name c.requires.rising (c.loop-step.low + (c.loop-step.step - 1)) (omega arith) (sym c.in-Equal.ensures)

pub returns-in-Greater : goal.returns-in-Greater
returns-in-Greater c = record {
  ordered = omega arith;
  within = omega arith;
  before = c.loop-step.invariant.before;
  after = after_here c.args.refs.now c.args.name c.requires.rising (c.loop-step.low + (c.loop-step.step - 1)) (omega arith) (sym c.in-Greater.ensures);
}

pub loop-step-preserved : goal.loop-step-preserved
loop-step-preserved c = record {
  before = before_next c.args.refs.now c.args.name c.requires.rising (c.loop-step.low + (c.loop-step.step - 1)) (omega arith) (sym c.in-Less.ensures);
  within = omega arith;
  goes = omega (arith, c.saturating_mul-step.ensures);
}
