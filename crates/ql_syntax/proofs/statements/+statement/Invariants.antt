use Rattle.std.proofs.Common.{length, ◌+◌, ◌*◌}
use Rattle.ql_syntax.specs.Rules.{gather_round}
use Rattle.ql_syntax.specs.StatementRules.{part, statement}
use Rattle.ql_syntax.specs.internal.StatementReaders.{trees_of}
use Rattle.ql_syntax.specs.declared.level.Level.TheVariants as levels
use Rattle.ql_syntax.proofs.RoundLemmas.{Reaches}
use Rattle.ql_syntax.proofs.statements.+statement.Given as goal

-- by how many `(` may be opened, and then by who calls whom
abbrev pub decreases-read_statement : goal.decreases-read_statement
decreases-read_statement l = 8 * l.depth

abbrev pub decreases-read_part : goal.decreases-read_part
decreases-read_part l = 8 * l.depth + 1

abbrev pub decreases-read_difference : goal.decreases-read_difference
decreases-read_difference l = 8 * l.depth + 1

abbrev pub decreases-read_parts : goal.decreases-read_parts
decreases-read_parts l = 8 * l.depth + 2

abbrev pub decreases-read_union : goal.decreases-read_union
decreases-read_union l = 8 * l.depth + 3

abbrev pub decreases-read_block : goal.decreases-read_block
decreases-read_block l = 8 * l.depth + 4

abbrev pub invariant-read_parts-loop-other : goal.invariant-read_parts-loop-other
invariant-read_parts-loop-other l = Reaches (gather_round (part (statement levels.Inner l.fn.depth))) (trees_of l.fn.first.items) l.fn.text (trees_of l.parts.items) l.place

abbrev pub decreases-read_parts-loop-other : goal.decreases-read_parts-loop-other
decreases-read_parts-loop-other l = length l.place
