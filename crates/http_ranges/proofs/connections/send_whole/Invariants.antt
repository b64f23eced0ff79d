-- So many bytes aren't sent yet.
use Rattle.std.proofs.Common.{length, ◌-◌}
use Rattle.http_ranges.proofs.connections.send_whole.Given as goal

abbrev pub decreases-loop-done : goal.decreases-loop-done
decreases-loop-done g l = length l.bytes - l.done
