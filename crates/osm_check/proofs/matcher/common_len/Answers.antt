use Rattle.std.proofs.Common.{ℕ, ◌+◌, List, drop, sym, ap, ◌∙◌, arith}
use Rattle.std.proofs.Math.ListN.{drop_of_length-le}
use Rattle.osm_check.specs.Matching.{common}
use Rattle.osm_check.proofs.Fronts.{common_nil}
use Rattle.osm_check.proofs.matcher.common_len.Goals as goal

pub returns-else-len-second-clause-common : goal.returns-else-len-second-clause-common
returns-else-len-second-clause-common c =
    sym (c.loop-len.invariant.front ∙ ap (λ (r : List ℕ). c.loop-len.len + common (drop c.loop-len.len c.args.first.now) r) (drop_of_length-le c.args.second.now c.if-len-second.false) ∙ ap (λ k. c.loop-len.len + k) (common_nil (drop c.loop-len.len c.args.first.now)) ∙ omega arith)
