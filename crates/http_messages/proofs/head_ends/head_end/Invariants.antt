-- No head ends before this place.
use Rattle.std.proofs.Common.{◌-◌, ◌≤◌, length}
use Rattle.http_messages.proofs.shared.HeadEndLemmas.{Passed}
use Rattle.http_messages.proofs.head_ends.head_end.Given as goal

abbrev pub invariant-loop-len : goal.invariant-loop-len
invariant-loop-len l = record { within : l.at ≤ length l.bytes; passed : Passed l.at l.bytes }

abbrev pub decreases-loop-len : goal.decreases-loop-len
decreases-loop-len l = length l.bytes - l.at
