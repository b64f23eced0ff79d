use Rattle.std.proofs.Common.{◌+◌, ◌-◌, ◌/◌, sym, arith}
use Rattle.ref_sets.proofs.Seeking.{after_here, at_here, before_next, none_between, sought_at}
use Rattle.ref_sets.proofs.search.narrow.Goals as goal

pub loop-low-preserved-in-Less : goal.loop-low-preserved-in-Less
loop-low-preserved-in-Less c = record {
  ordered = omega arith;
  within = c.loop-low.invariant.within;
  before = before_next c.args.refs.now c.args.name c.requires.rising (c.loop-low.low + (c.loop-low.high - c.loop-low.low) / 2) (omega arith) (sym c.in-Less.ensures);
  after = c.loop-low.invariant.after;
}

pub returns-in-Equal : goal.returns-in-Equal
returns-in-Equal c =
    let middle = c.loop-low.low + (c.loop-low.high - c.loop-low.low) / 2 in
    sought_at c.args.refs.now c.args.name middle (at_here c.args.refs.now c.args.name c.requires.rising middle (omega arith) (sym c.in-Equal.ensures))

pub loop-low-preserved : goal.loop-low-preserved
loop-low-preserved c = record {
  ordered = omega arith;
  within = omega arith;
  before = c.loop-low.invariant.before;
  after = after_here c.args.refs.now c.args.name c.requires.rising (c.loop-low.low + (c.loop-low.high - c.loop-low.low) / 2) (omega arith) (sym c.in-Greater.ensures);
}

pub returns : goal.returns
returns c = none_between c.args.refs.now c.args.name c.loop-low.low c.loop-low.high c.loop-low-test.false c.loop-low.invariant
