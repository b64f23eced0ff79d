use Rattle.std.proofs.Common.{◌≡◌}
use Rattle.osm_model.proofs.Leading.{leading}
use Rattle.osm_model.proofs.decimal_order.compare_fractions.Given as goal

abbrev pub invariant-loop-place : goal.invariant-loop-place
invariant-loop-place l = leading l.first l.place ≡ leading l.second l.place
