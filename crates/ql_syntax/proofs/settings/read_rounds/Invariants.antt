use Rattle.std.proofs.Common.{None, length}
use Rattle.ql_syntax.specs.Settings.{setting_round}
use Rattle.ql_syntax.proofs.RoundLemmas.{Reaches}
use Rattle.ql_syntax.proofs.settings.read_rounds.Given as goal

abbrev pub invariant-loop-round : goal.invariant-loop-round
invariant-loop-round l = Reaches setting_round None l.fn.text l.asked l.place

abbrev pub decreases-loop-round : goal.decreases-loop-round
decreases-loop-round l = length l.place
