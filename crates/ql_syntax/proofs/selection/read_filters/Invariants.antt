use Rattle.std.proofs.Common.{[], length}
use Rattle.ql_syntax.specs.StatementViews.{filters_of}
use Rattle.ql_syntax.specs.Rules.{gather_round}
use Rattle.ql_syntax.specs.Selections.{a_filter}
use Rattle.ql_syntax.proofs.RoundLemmas.{Reaches}
use Rattle.ql_syntax.proofs.selection.read_filters.Given as goal

abbrev pub invariant-loop-other : goal.invariant-loop-other
invariant-loop-other l = Reaches (gather_round (a_filter l.fn.kind)) [] l.fn.text (filters_of l.filters.items) l.place

abbrev pub decreases-loop-other : goal.decreases-loop-other
decreases-loop-other l = length l.place
