use Rattle.std.proofs.Common.{ap, refl}
use Rattle.ql_syntax.specs.StatementViews.{filter_of}
use Rattle.ql_syntax.specs.internal.FilterReaders.{other_filter}
use Rattle.ql_syntax.proofs.FilterLemmas.{follows_out}
use Rattle.ql_syntax.proofs.GatherLemmas.{gather_next, gather_done, gather_stop, mapped, one_such}
use Rattle.ql_syntax.proofs.RoundLemmas.{Start}
use Rattle.ql_syntax.proofs.RuleLemmas.{read_of}
use Rattle.ql_syntax.proofs.StatementLengths.{a_filter_shorter}
use Rattle.ql_syntax.proofs.selection.read_filters.Goals as goal

pub loop-other-init : goal.loop-other-init
loop-other-init c = rw c.new-filters.ensures.items Start

pub returns-in_err-other : goal.returns-in_err-other
returns-in_err-other c = gather_stop c.loop-other.invariant c.in_err-other.ensures c.from_residual.ensures.1

pub loop-other-smaller : goal.loop-other-smaller
loop-other-smaller c = (a_filter_shorter c.args.kind).below _ _ _ (one_such (ap other_filter c.in-Some.is)) (read_of c.in_ok-other.ensures)

pub loop-other-preserved : goal.loop-other-preserved
loop-other-preserved c = gather_next c.loop-other.invariant c.in_ok-other.ensures (mapped filter_of _ _ c.in_ok-filters-in-Some.ensures) (ap other_filter c.in-Some.is)

pub returns-in_err-filters-in-Some : goal.returns-in_err-filters-in-Some
returns-in_err-filters-in-Some c = let h = c.from_residual-in_err-filters-in-Some.ensures in follows_out h.1

pub returns-in-None : goal.returns-in-None
returns-in-None c = gather_done c.loop-other.invariant c.in_ok-other.ensures (ap other_filter c.in-None.is) refl refl
