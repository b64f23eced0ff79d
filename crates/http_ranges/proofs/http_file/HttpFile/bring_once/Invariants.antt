-- So many spans aren't asked for yet.
use Rattle.std.proofs.Common.{length}
use Rattle.http_ranges.proofs.http_file.HttpFile.bring_once.Given as goal

abbrev pub decreases-loop-rest : goal.decreases-loop-rest
decreases-loop-rest g l = length l.rest
