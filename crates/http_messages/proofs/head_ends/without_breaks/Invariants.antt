use Rattle.std.proofs.Common.{◌≡◌, length}
use Rattle.http_messages.specs.HeadEnds.{skip_breaks}
use Rattle.http_messages.proofs.head_ends.without_breaks.Given as goal

abbrev pub invariant-loop-rest : goal.invariant-loop-rest
invariant-loop-rest l = skip_breaks l.rest ≡ skip_breaks l.bytes

abbrev pub decreases-loop-rest : goal.decreases-loop-rest
decreases-loop-rest l = length l.rest
