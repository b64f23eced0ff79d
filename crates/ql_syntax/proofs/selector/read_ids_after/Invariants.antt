use Rattle.std.proofs.Common.{length}
use Rattle.ql_syntax.specs.Rules.{gather_round}
use Rattle.ql_syntax.specs.Selectors.{id_after}
use Rattle.ql_syntax.proofs.RoundLemmas.{Reaches}
use Rattle.ql_syntax.proofs.selector.read_ids_after.Given as goal

abbrev pub invariant-loop-ids : goal.invariant-loop-ids
invariant-loop-ids l = Reaches (gather_round id_after) l.fn.first.items l.fn.text l.ids.items l.place

abbrev pub decreases-loop-ids : goal.decreases-loop-ids
decreases-loop-ids l = length l.place
