use Rattle.std.proofs.Common.{false, length, None}
use Rattle.ql_syntax.specs.Outs.{out_round}
use Rattle.ql_syntax.proofs.RoundLemmas.{Reaches}
use Rattle.ql_syntax.proofs.out_options.read_out_options.Given as goal

abbrev pub invariant-loop-round : goal.invariant-loop-round
invariant-loop-round l = Reaches out_round (record { mode = None; ordered = false; limit = None }) l.fn.text l.options l.place

abbrev pub decreases-loop-round : goal.decreases-loop-round
decreases-loop-round l = length l.place
