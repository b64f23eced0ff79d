use Rattle.std.proofs.Common.{[], length}
use Rattle.ql_syntax.specs.internal.StatementReaders.{trees_of}
use Rattle.ql_syntax.specs.Rules.{gather_round}
use Rattle.ql_syntax.specs.StatementRules.{top_statement}
use Rattle.ql_syntax.proofs.RoundLemmas.{Reaches}
use Rattle.ql_syntax.proofs.parser.read_statements.Given as goal

abbrev pub invariant-loop-other : goal.invariant-loop-other
invariant-loop-other l = Reaches (gather_round top_statement) [] l.fn.text (trees_of l.statements.items) l.place

abbrev pub decreases-loop-other : goal.decreases-loop-other
decreases-loop-other l = length l.place
