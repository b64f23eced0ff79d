use Rattle.std.proofs.Common.{length, drop, ◌-◌, ◌≡◌, ◌+◌, ◌≤◌}
use Rattle.osm_check.specs.Matching.{common}
use Rattle.osm_check.proofs.matcher.common_len.Given as goal

abbrev pub invariant-loop-len : goal.invariant-loop-len
invariant-loop-len l = record {
  first : l.len ≤ length l.first;
  second : l.len ≤ length l.second;
  front : common l.first l.second ≡ l.len + common (drop l.len l.first) (drop l.len l.second);
}

abbrev pub decreases-loop-len : goal.decreases-loop-len
decreases-loop-len l = length l.first - l.len
