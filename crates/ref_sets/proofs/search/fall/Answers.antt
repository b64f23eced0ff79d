use Rattle.std.proofs.Common.{◌-◌, sym, arith}
use Rattle.ref_sets.proofs.Seeking.{after_here, around_here, before_next}
use Rattle.ref_sets.proofs.search.fall.Goals as goal

pub returns-in-Less : goal.returns-in-Less
returns-in-Less c = record {
  ordered = omega arith;
  within = c.loop-step.invariant.within;
  before = before_next c.args.refs.now c.args.name c.requires.rising (c.loop-step.high - c.loop-step.step) (omega arith) (sym c.in-Less.ensures);
  after = c.loop-step.invariant.after;
}

pub returns-in-Equal : goal.returns-in-Equal
returns-in-Equal c = around_here c.args.refs.now c.args.name c.requires.rising (c.loop-step.high - c.loop-step.step) (omega arith) (sym c.in-Equal.ensures)

pub loop-step-preserved : goal.loop-step-preserved
loop-step-preserved c = record {
  after = after_here c.args.refs.now c.args.name c.requires.rising (c.loop-step.high - c.loop-step.step) (omega arith) (sym c.in-Greater.ensures);
  within = omega arith;
  goes = omega (arith, c.saturating_mul-step.ensures);
}
