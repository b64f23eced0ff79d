use Rattle.std.proofs.Common.{sym, arith}
use Rattle.ref_sets.proofs.Seeking.{after_here, at_here, before_next, sought_at}
use Rattle.ref_sets.proofs.search.seek.Goals as goal

pub rise-low-requires-clause-before : goal.rise-low-requires-clause-before
rise-low-requires-clause-before c = before_next c.args.refs.now c.args.name c.requires.rising c.args.at (omega arith) (sym c.in-Less.ensures)

pub fall-low-requires-in-Greater-clause-after : goal.fall-low-requires-in-Greater-clause-after
fall-low-requires-in-Greater-clause-after c = after_here c.args.refs.now c.args.name c.requires.rising c.args.at (omega arith) (sym c.in-Greater.ensures)

pub returns-in-Equal : goal.returns-in-Equal
returns-in-Equal c =
    sought_at c.args.refs.now c.args.name c.args.at (at_here c.args.refs.now c.args.name c.requires.rising c.args.at (omega arith) (sym c.in-Equal.ensures))
