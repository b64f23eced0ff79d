use Rattle.std.proofs.Common.{sym}
use Rattle.osm_gate.proofs.NoMemory.{no_memory-is}
use Rattle.osm_gate.proofs.serving.no_memory_response.Goals as goal

pub returns : goal.returns
returns c = sym no_memory-is
